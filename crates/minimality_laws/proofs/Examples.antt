-- Worked examples: the sets of a node's variables, and a child that shares two variables with its parent.
use Rattle.std.proofs.Common.{◌≡◌, ℕ, List, [], ◌∷◌, Option, Some, None, codes, refl, arith}
use Rattle.bm_term.proofs.Elements.{Contains-head, Contains-tail}
use Rattle.alg_model.specs.declared.pattern.Place.TheVariants as places
use Rattle.alg_model.specs.declared.pattern.TriplePat.{TriplePat}
use Rattle.pattern_tree.specs.Standing.{OccursAt}
use Rattle.pattern_tree.specs.Tree.{TreeNode}
use Rattle.minimality_laws.specs.SimpleTree.{sets_of, SharesOne}

-- ?v <p> ?w, as the triple pattern with a number
abbrev triple : ℕ → ℕ → ℕ → TriplePat
triple v w number = record { subject = places.Var (record { 0 = v }); predicate = places.Term (codes "<p>"); object = places.Var (record { 0 = w }); number = number }

abbrev node : Option ℕ → List TriplePat → TreeNode
node parent patterns = record { parent = parent; patterns = patterns }

-- ?0 <p> ?1 . ?1 <p> ?2 has the sets {0, 1} and {1, 2}
sets_of_chain : sets_of (node None (triple 0 1 1 ∷ triple 1 2 2 ∷ [])) ≡ 3 ∷ 6 ∷ []
sets_of_chain = refl

-- ?0 <p> ?1 OPTIONAL { ?1 <p> ?0 }: the child shares both variables with its parent
abbrev pair : List TreeNode
pair = node None (triple 0 1 1 ∷ []) ∷ node (Some 0) (triple 1 0 2 ∷ []) ∷ []

two_are_shared : ¬ SharesOne pair
two_are_shared one =
    let zero_here : OccursAt pair 1 0 = record { node = node (Some 0) (triple 1 0 2 ∷ []); stands = refl; among = Contains-tail 1 (0 ∷ []) 0 (Contains-head 0 []) } in
    let zero_above : OccursAt pair 0 0 = record { node = node None (triple 0 1 1 ∷ []); stands = refl; among = Contains-head 0 (1 ∷ []) } in
    let one_here : OccursAt pair 1 1 = record { node = node (Some 0) (triple 1 0 2 ∷ []); stands = refl; among = Contains-head 1 (0 ∷ []) } in
    let one_above : OccursAt pair 0 1 = record { node = node None (triple 0 1 1 ∷ []); stands = refl; among = Contains-tail 0 (1 ∷ []) 1 (Contains-head 1 []) } in
    let same = one 1 0 0 1 (node (Some 0) (triple 1 0 2 ∷ [])) refl refl zero_here zero_above one_here one_above in
    omega (arith, same)
