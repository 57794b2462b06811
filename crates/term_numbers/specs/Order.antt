-- The orders of texts and of numbered triples, by which the lists of a numbering ascend.
use Rattle.std.specs.Prelude.{ℕ, List}
use Rattle.std.specs.declared.cmp.Ordering.{Ordering}
use Rattle.std.specs.Ordering.{nat_cmp, ordering_then}
use Rattle.std.specs.Cmp.Lexicographic.{slice_cmp}

-- texts by their bytes
abbrev pub text_cmp : List ℕ → List ℕ → Ordering
text_cmp x y = slice_cmp nat_cmp x y

-- the numbers of a triple: of its subject, its predicate and its object
abbrev pub Numbered : Type 0
Numbered = ℕ × ℕ × ℕ

-- numbered triples by subject, then predicate, then object
abbrev pub number_cmp : Numbered → Numbered → Ordering
number_cmp t u = ordering_then (ordering_then (nat_cmp t.0 u.0) (nat_cmp t.1 u.1)) (nat_cmp t.2 u.2)
