-- Each triple of the greatest consistent family of a simple tree takes part in a maximal partial solution: its node is
-- solved, then the nodes above, and then all that can be added.
use Rattle.std.proofs.Common.{◌≡◌, ◌↔◌, ℕ, suc, ◌<◌, Bool, List, length, Contains, arith}
use Rattle.alg_model.specs.declared.pattern.TriplePat.{TriplePat}
use Rattle.alg_model.specs.Row.{Row, binding, Extends}
use Rattle.alg_model.specs.Pattern.{Algebra, triple_vars}
use Rattle.alg_model.specs.Eval.{Interpretation}
use Rattle.alg_model.specs.Limits.{PatternKeepsLimits}
use Rattle.alg_model.specs.Solution.{BindsJust, TellsValues}
use Rattle.alg_model.specs.WellDesigned.{IsWellDesigned}
use Rattle.alg_model.proofs.BasicPatterns.{looks_makes}
use Rattle.alg_model.proofs.Joins.{agrees}
use Rattle.pattern_tree.specs.Consistent.{IsGreatestConsistent}
use Rattle.pattern_tree.specs.Solution.{Family, IsPartialSolution}
use Rattle.pattern_tree.specs.Standing.{StandsAt, itself}
use Rattle.pattern_tree.specs.Tree.{TreeNode, tree_of}
use Rattle.alg_model.proofs.Lists.{Contains-flat_map}
use Rattle.pattern_tree.proofs.Choices.{list_vars}
use Rattle.pattern_tree.proofs.Connected.{tree-connected, node_low}
use Rattle.pattern_tree.proofs.Numbered.{numbered_tree}
use Rattle.pattern_tree.proofs.Pruning.{pruning-between}
use Rattle.pattern_tree.proofs.Unions.{Extends-trans}
use Rattle.multiway_join.proofs.FlatLaws.{tree_below, tree_root, tree_parents}
use Rattle.pruning_laws.specs.Matches.{AreMatches}
use Rattle.minimality_laws.specs.SimpleTree.{AreForests, SharesOne}
use Rattle.minimality_laws.specs.TakesPart.{TakesPart}
use Rattle.minimality_laws.proofs.Covering.{try_all, tried_is_maximal}
use Rattle.minimality_laws.proofs.NodeRows.{node_row}
use Rattle.minimality_laws.proofs.Rising.{rise}

module _ {V X : Type 0} (interpretation : Interpretation V X) (tells : TellsValues interpretation) (n : ℕ) (pattern : Algebra) (well : IsWellDesigned pattern) (keeps : PatternKeepsLimits n pattern)
    (whole left : Family X) (greatest : IsGreatestConsistent interpretation (tree_of pattern) whole left) where
  abbrev tree : List TreeNode
  tree = tree_of pattern

  -- pruning keeps the partial solutions
  pub same_solved : (set : ℕ → Bool) (row : Row V) → IsPartialSolution interpretation n tree left set row ↔ IsPartialSolution interpretation n tree whole set row
  same_solved set row = pruning-between interpretation n tree whole left left (numbered_tree n pattern keeps) greatest (λ k p t stands at. at) greatest.within set row

  module _ (forests : AreForests tree) (share : SharesOne tree) (matches : AreMatches interpretation tree whole) where
    pub each_takes_part : (k : ℕ) (part : TriplePat) (triple : X) → StandsAt tree k part → Contains (left part) triple → TakesPart interpretation n tree whole part triple
    each_takes_part k part triple stands among =
        let few = tree_below n pattern keeps.vars_below in
        let root = tree_root pattern in
        let parents = tree_parents pattern in
        let left_matches : AreMatches interpretation tree left = λ k p t s at. matches k p t s (greatest.within k p t s at) in
        let own = node_row interpretation n tree left k stands.node stands.stands greatest.consistent left_matches few (forests k stands.node stands.stands) part triple stands.among among in
        let risen = rise interpretation tells n tree few root parents (tree-connected pattern well) forests share left greatest.consistent left_matches (suc k) k (omega arith) stands.node stands.stands own.row own.solves
        (record { node = k; pattern = part; triple = triple; stands = stands; among = among; within = itself }) in
        let some : 0 < length tree = (let low = node_low tree k stands.node stands.stands in omega (arith, low)) in
        let tried = try_all interpretation tells n left tree few root parents some risen.set risen.whole risen.solved in
        let over = Extends-trans tried.whole risen.whole own.row tried.over risen.over in
        record {
          set = tried.set;
          row = tried.whole;
          node = k;
          partial = (same_solved tried.set tried.whole).0 tried.tried.solved;
          maximal = λ other partial. tried_is_maximal interpretation tells n left tree few root parents tried.set tried.whole tried.tried other (partial.0, (same_solved partial.0 other).1 partial.1);
          stands = stands;
          held = tried.more k risen.held;
          among = greatest.within k part triple stands among;
          makes = (looks_makes interpretation tells n part triple).along own.row tried.whole (same_there own.row tried.whole own.solves.binds over) own.makes;
        } where
          same_there : (row longer : Row V) → BindsJust row (list_vars stands.node.patterns) → Extends longer row → (v : ℕ) → Contains (triple_vars part) v → binding row v ≡ binding longer v
          same_there row longer binds over v at = agrees (list_vars stands.node.patterns) row longer binds over v (Contains-flat_map triple_vars stands.node.patterns part v stands.among at)
