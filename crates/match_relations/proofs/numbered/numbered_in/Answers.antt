use Rattle.std.proofs.Common.{sym, ◌∙◌}
use Rattle.match_relations.proofs.NumberLaws.{number_here, number_next}
use Rattle.match_relations.proofs.numbered.numbered_in.Goals as goal

pub returns-then-pattern-number : goal.returns-then-pattern-number
returns-then-pattern-number c = sym (number_here c.args.number c.args.patterns.now c.loop-i.i c.get-pattern.result.now c.get-pattern.ensures c.if-pattern-number.true) ∙ c.loop-i.invariant

pub loop-i-preserved : goal.loop-i-preserved
loop-i-preserved c = number_next c.args.number c.args.patterns.now c.loop-i.i c.get-pattern.result.now c.get-pattern.ensures c.if-pattern-number.false ∙ c.loop-i.invariant
