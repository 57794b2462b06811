-- Worked examples, by computation: the edges of triple patterns, and the pairs of a removal.
use Rattle.std.proofs.Common.{◌≡◌, [], ◌∷◌, codes, refl}
use Rattle.alg_model.specs.declared.pattern.Place.TheVariants as places
use Rattle.alg_model.specs.declared.pattern.TriplePat.{TriplePat}
use Rattle.join_graph.specs.declared.steps.Step.TheVariants.{Pattern, Variable}
use Rattle.node_plans.specs.Placed.{edges_of}
use Rattle.pruning_laws.specs.Plans.{pairs_by}

-- ?0 ?1 ?2, the second triple pattern of a text, and ?2 <p> ?0, the third
abbrev with_predicate : TriplePat
with_predicate = record { subject = places.Var (record { 0 = 0 }); predicate = places.Var (record { 0 = 1 }); object = places.Var (record { 0 = 2 }); number = 2 }

abbrev back : TriplePat
back = record { subject = places.Var (record { 0 = 2 }); predicate = places.Term (codes "<p>"); object = places.Var (record { 0 = 0 }); number = 3 }

-- they share two variables, so they are no forest, and passes over them take all edges
edges_of_two : edges_of (with_predicate ∷ back ∷ [])
    ≡ (Pattern 1, Variable 0) ∷ (Pattern 1, Variable 1) ∷ (Pattern 1, Variable 2) ∷ (Pattern 2, Variable 2) ∷ (Pattern 2, Variable 0) ∷ []
edges_of_two = refl

-- ?2 <p> ?0 alone, at place 2: the places before it have no variables, and make no pair when they are removed
pairs_of_one : pairs_by (0 ∷ 0 ∷ 5 ∷ []) (Pattern 0 ∷ Pattern 1 ∷ Variable 0 ∷ Pattern 2 ∷ Variable 2 ∷ []) ≡ (Variable 0, Pattern 2) ∷ (Pattern 2, Variable 2) ∷ []
pairs_of_one = refl
