-- The tree of an accepted pattern is accepted.
use Rattle.std.proofs.Common.{◌⊎◌, List, Any, Contains}
use Rattle.std.proofs.lemmas.List.Elements.{All-contains}
use Rattle.alg_model.specs.declared.pattern.TriplePat.{TriplePat}
use Rattle.alg_model.specs.Pattern.{Algebra, IsVar, triple_patterns}
use Rattle.pattern_tree.specs.Tree.{tree_of}
use Rattle.pattern_tree.proofs.Standing.{stands-listed}
use Rattle.well_designed.specs.Refusals.{IsAccepted, HasThreeVariables}
use Rattle.match_relations.specs.AcceptedTrees.{IsAcceptedTree}

-- an item that is in a list and has P is some item with P
some_item : {X : Type 0} (P : X → Type 0) (xs : List X) (x : X) → Contains xs x → P x → Any P xs
some_item P xs x (k, low, at) is = (k, x, low, at, is)

pub accepted_tree : (pattern : Algebra) → IsAccepted pattern → IsAcceptedTree (tree_of pattern)
accepted_tree pattern is = record {
  no_three_places = λ k p stands. All-contains (λ (triple : TriplePat). ¬ HasThreeVariables triple) (triple_patterns pattern) p is.no_three_places (stands-listed pattern k p stands);
  no_cross_place = λ k j p other v stands also predicate node.
      is.no_cross_place v (some_item (λ (triple : TriplePat). IsVar triple.predicate v) (triple_patterns pattern) p (stands-listed pattern k p stands) predicate)
      (some_item (λ (triple : TriplePat). IsVar triple.subject v ⊎ IsVar triple.object v) (triple_patterns pattern) other (stands-listed pattern j other also) node);
}
