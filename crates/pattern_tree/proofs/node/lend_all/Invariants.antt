use Rattle.std.proofs.Common.{◌≡◌, ◌++◌, map, take}
use Rattle.alg_model.specs.VarSet.{list_set}
use Rattle.pattern_tree.proofs.node.lend_all.Given as goal

abbrev pub invariant-loop-pattern : goal.invariant-loop-pattern
invariant-loop-pattern l =
    (l.vars ≡ list_set (map (λ p. p.now) l.into.items))
    × (map (λ p. p.now) l.into.items ≡ map (λ p. p.now) l.initial.into.items ++ take l.pattern-index l.patterns)
