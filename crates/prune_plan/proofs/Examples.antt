-- Worked examples.
use Rattle.std.proofs.Common.{◌≡◌, ℕ, [], ◌∷◌, List, Some, None, codes, refl, inr}
use Rattle.alg_model.specs.declared.pattern.Place.TheVariants as places
use Rattle.alg_model.specs.declared.pattern.TriplePat.{TriplePat}
use Rattle.bm_term.proofs.Elements.{Contains-head}
use Rattle.join_graph.specs.declared.steps.Step.TheVariants.{Pattern, Variable}
use Rattle.pattern_tree.specs.Standing.{StandsAt}
use Rattle.pattern_tree.specs.Tree.{TreeNode}
use Rattle.pruning_laws.specs.TreePasses.{Triple, Value}
use Rattle.prune_plan.specs.Accepted.{HasNoCrossPlace}
use Rattle.prune_plan.specs.steps.Members.{agrees_by}
use Rattle.prune_plan.specs.steps.Nodes.{HasPlace, IsParent}

-- ?0 <p> ?1 OPTIONAL { ?1 ?2 ?2 }
abbrev outer : TriplePat
outer = record { subject = places.Var (record { 0 = 0 }); predicate = places.Term (codes "<p>"); object = places.Var (record { 0 = 1 }); number = 1 }

abbrev crossing : TriplePat
crossing = record { subject = places.Var (record { 0 = 1 }); predicate = places.Var (record { 0 = 2 }); object = places.Var (record { 0 = 2 }); number = 2 }

abbrev tree : List TreeNode
tree = record { parent = None; patterns = outer ∷ [] } ∷ record { parent = Some 0; patterns = crossing ∷ [] } ∷ []

crossing_stands : StandsAt tree 1 crossing
crossing_stands = record { node = record { parent = Some 0; patterns = crossing ∷ [] }; stands = refl; among = Contains-head crossing [] }

-- ?2 stands at a predicate place and at an object place
tree_is_not_accepted : ¬ HasNoCrossPlace tree
tree_is_not_accepted accepted = accepted 1 1 crossing crossing 2 crossing_stands crossing_stands refl (inr refl)

-- the second triple pattern of the text stands in node 1, whose parent is node 0
crossing_place : HasPlace tree 1 1
crossing_place = (crossing, crossing_stands, refl)

child_of_root : IsParent tree 1 0
child_of_root = (record { parent = Some 0; patterns = crossing ∷ [] }, refl, refl)

-- where a pair gives a variable its first number, the pair (4, 7) agrees with the value 4 alone
first_number : (x : ℕ) → agrees_by (λ i pair v y. pair.0 ≡ y) (Pattern 0) (Triple (4, 7)) (Variable 2) (Value x) → 4 ≡ x
first_number x agrees = agrees
