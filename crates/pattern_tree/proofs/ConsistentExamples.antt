-- Worked examples: nodes within a subtree, a value that a variable takes, a family that is its own greatest consistent
-- one, and one that is not consistent.
use Rattle.std.proofs.Common.{◌≡◌, ℕ, inl, inr, List, [], ◌∷◌, Some, None, Contains, codes, get_or, refl, sym, ◌∙◌, ap, subst, arith, lit<}
use Rattle.std.specs.Prelude.{slice_get}
use Rattle.bm_term.specs.declared.triple.Triple.{Triple}
use Rattle.bm_term.proofs.Elements.{Contains-head, Contains-single}
use Rattle.alg_model.specs.declared.pattern.Place.TheVariants as places
use Rattle.alg_model.specs.declared.pattern.TriplePat.{TriplePat}
use Rattle.alg_model.specs.Pattern.{Bgp, LeftJoin}
use Rattle.alg_model.specs.Eval.{as_terms}
use Rattle.pattern_tree.specs.Consistent.{TakesValue, IsConsistent, IsGreatestConsistent}
use Rattle.pattern_tree.specs.Solution.{Family, all_matches}
use Rattle.pattern_tree.specs.Standing.{StandsAt, IsWithin, itself, below}
use Rattle.pattern_tree.specs.Tree.{TreeNode, tree_of}
use Rattle.pattern_tree.proofs.Standing.{stands-listed}

abbrev triple : ℕ → List ℕ → ℕ → ℕ → TriplePat
triple v name w number = record { subject = places.Var (record { 0 = v }); predicate = places.Term name; object = places.Var (record { 0 = w }); number = number }

-- ?0 <p> ?1, and ?1 <q> ?2
abbrev a : TriplePat
a = triple 0 (codes "<p>") 1 1

abbrev b : TriplePat
b = triple 1 (codes "<q>") 2 2

-- a OPTIONAL {b}: both nodes are within the tree of the root, and the root is not below its child
abbrev nodes : List TreeNode
nodes = tree_of (LeftJoin (Bgp (a ∷ [])) (Bgp (b ∷ [])))

child_within : IsWithin nodes 0 1
child_within = below (record { parent = Some 0; patterns = b ∷ [] }) refl refl itself

root_not_within : IsWithin nodes 1 0 → ⊥
root_not_within within = no_way 0 within refl where
  no_way : (k : ℕ) → IsWithin nodes 1 k → k ≡ 0 → ⊥
  no_way k itself is = cc
  no_way k (below {parent = parent} node stands has rest) is =
      let root : record { parent = None; patterns = a ∷ [] } ≡ node = (let first : slice_get nodes 0 ≡ Some node = subst (λ k. slice_get nodes k ≡ Some node) is stands in cc) in
      let none : None ≡ Some parent = ap (λ node. node.parent) root ∙ has in
      cc

-- ---- one triple pattern

abbrev fact : List ℕ → List ℕ → List ℕ → Triple
fact subject predicate object = record { subject = subject; predicate = predicate; object = object }

abbrev first : Triple
first = fact (codes "<a>") (codes "<p>") (codes "<b>")

abbrev second : Triple
second = fact (codes "<a>") (codes "<p>") (codes "<c>")

abbrev third : Triple
third = fact (codes "<b>") (codes "<q>") (codes "<d>")

-- in the first triple ?1 of a has the object for its value
takes_object : TakesValue as_terms a first 1 (codes "<b>")
takes_object = inr (inr (refl, refl))

-- the matches of a alone are consistent, so they are the greatest consistent family of theirs
abbrev alone : List TreeNode
alone = tree_of (Bgp (a ∷ []))

is_a : (k : ℕ) (pattern : TriplePat) → StandsAt alone k pattern → a ≡ pattern
is_a k pattern stands = Contains-single a pattern (stands-listed (Bgp (a ∷ [])) k pattern stands)

alone_consistent : (family : Family Triple) → IsConsistent as_terms alone family
alone_consistent family = record {
  values = λ k above pattern other triple var value stands stands' within at takes has.
      let same = sym (is_a k pattern stands) ∙ is_a above other stands' in
      (triple, subst (λ p. Contains (family p) triple) same at, subst (λ p. TakesValue as_terms p triple var value) same takes);
  emptied = λ k above pattern other stands stands' within empty.
      let same = sym (is_a above other stands') ∙ is_a k pattern stands in
      subst (λ p. family p ≡ []) same empty;
}

alone_greatest : (whole : Family Triple) → IsGreatestConsistent as_terms alone whole whole
alone_greatest whole = record {
  within = λ k pattern triple stands at. at;
  consistent = alone_consistent whole;
  greatest = λ other part consistent. part;
}

-- ---- two triple patterns of one node

-- over the three triples ?1 of a takes <c>, which is the subject of no match of b: the matches are not consistent
abbrev facts : List Triple
facts = first ∷ second ∷ third ∷ []

matches_of_b : all_matches as_terms 3 facts b ≡ third ∷ []
matches_of_b = refl

not_consistent : IsConsistent as_terms (tree_of (Bgp (a ∷ b ∷ []))) (all_matches as_terms 3 facts) → ⊥
not_consistent consistent =
    let at_a : StandsAt (tree_of (Bgp (a ∷ b ∷ []))) 0 a = record { node = record { parent = None; patterns = a ∷ b ∷ [] }; stands = refl; among = Contains-head a (b ∷ []) } in
    let at_b : StandsAt (tree_of (Bgp (a ∷ b ∷ []))) 0 b = record { node = record { parent = None; patterns = a ∷ b ∷ [] }; stands = refl; among = (1, lit< tt, refl) } in
    let found = consistent.values 0 0 a b second 1 (codes "<c>") at_a at_b itself (1, lit< tt, refl) (inr (inr (refl, refl))) (0, lit< tt, refl) in
    lacks (subst (λ t. TakesValue as_terms b t 1 (codes "<c>")) (sym (Contains-single third found.0 found.1)) found.2) where
      lacks : TakesValue as_terms b third 1 (codes "<c>") → ⊥
      lacks (inl at) = let e : 99 ≡ 98 = ap (λ list. get_or list 1 0) at.1 in omega (arith, e)
      lacks (inr (inl at)) = at.0
      lacks (inr (inr at)) = let e : 2 ≡ 1 = at.0 in omega (arith, e)
