-- Worked examples, by computation: the pairs of an order of removal, and the scene of a pattern.
use Rattle.std.proofs.Common.{◌≡◌, ℕ, [], ◌∷◌, codes, refl}
use Rattle.alg_model.specs.declared.pattern.Place.TheVariants as places
use Rattle.alg_model.specs.declared.pattern.TriplePat.{TriplePat}
use Rattle.alg_model.specs.Eval.{as_terms}
use Rattle.alg_model.specs.Pattern.{Algebra, Bgp, LeftJoin}
use Rattle.join_graph.specs.declared.steps.Step.TheVariants.{Pattern, Variable}
use Rattle.pruning_laws.specs.Passes.{pairs_of}
use Rattle.pruning_laws.specs.Scene.{parent_in}
use Rattle.pruning_laws.specs.SceneOf.{nodes_in, scene_of}
use Rattle.pruning_laws.specs.Shown.{entry_of}
use Rattle.pruning_laws.specs.TreePasses.{are_near}

-- two triple patterns that share variable 1: ?0 p ?1 and ?1 q ?2. Each member makes a pair with the one neighbour that is
-- left, and the last makes none
pairs_of_chain : pairs_of (are_near (3 ∷ 6 ∷ [])) (Variable 0 ∷ Pattern 0 ∷ Variable 1 ∷ Pattern 1 ∷ Variable 2 ∷ [])
    ≡ (Variable 0, Pattern 0) ∷ (Pattern 0, Variable 1) ∷ (Variable 1, Pattern 1) ∷ (Pattern 1, Variable 2) ∷ []
pairs_of_chain = refl

abbrev triple : ℕ → ℕ → ℕ → TriplePat
triple v w number = record { subject = places.Var (record { 0 = v }); predicate = places.Term (codes "<p>"); object = places.Var (record { 0 = w }); number = number }

-- a OPTIONAL {b OPTIONAL {c}}: the third triple pattern of the text has place 2, and stands in node 2, below node 1
abbrev chain : Algebra
chain = LeftJoin (Bgp (triple 0 1 1 ∷ [])) (LeftJoin (Bgp (triple 1 2 2 ∷ [])) (Bgp (triple 2 3 3 ∷ [])))

place_of_third : entry_of (triple 2 3 3) ≡ 2
place_of_third = refl

nodes_of_chain : nodes_in chain ≡ 0 ∷ 1 ∷ 2 ∷ []
nodes_of_chain = refl

parent_of_last : parent_in (scene_of (λ p. as_terms) chain) 2 ≡ 1
parent_of_last = refl
