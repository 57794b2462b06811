-- The four families of slices: numbered triples, cut by one of their numbers. This is the project's own.
use Rattle.std.specs.Prelude.{ℕ, ◌+◌, ◌==◌, List, [], ◌∷◌, ◌++◌, map, filter}
use Rattle.std.specs.List.{range_with_len}
use Rattle.std.specs.Ordering.{nat_cmp, ordering_then}
use Rattle.std.specs.declared.cmp.Ordering.{Ordering}
use Rattle.bm_term.specs.SetOf.{set_of}
use Rattle.term_numbers.specs.Order.{Numbered}
use Rattle.index_file.specs.declared.family.Family.{Family}
use Rattle.index_file.specs.declared.family.Family.TheVariants.{So, Os, Ps, Po}

-- the slice of a triple: by its predicate, by its object, or by its subject
abbrev pub slice_number : Family → Numbered → ℕ
slice_number So t = t.1
slice_number Os t = t.1
slice_number Ps t = t.2
slice_number Po t = t.0

-- its row and its column there
abbrev pub pair_of : Family → Numbered → ℕ × ℕ
pair_of So t = (t.0, t.2)
pair_of Os t = (t.2, t.0)
pair_of Ps t = (t.1, t.0)
pair_of Po t = (t.1, t.2)

-- and the triple at a row and a column of slice n
abbrev pub triple_at : Family → ℕ → ℕ × ℕ → Numbered
triple_at So n p = (p.0, n, p.1)
triple_at Os n p = (p.1, n, p.0)
triple_at Ps n p = (p.1, p.0, n)
triple_at Po n p = (n, p.0, p.1)

-- pairs by row, and then by column
abbrev pub pair_cmp : ℕ × ℕ → ℕ × ℕ → Ordering
pair_cmp p q = ordering_then (nat_cmp p.0 q.0) (nat_cmp p.1 q.1)

-- the pairs of slice n, in order
abbrev pub pairs_in : Family → ℕ → List Numbered → List (ℕ × ℕ)
pairs_in f n ts = set_of pair_cmp (map (pair_of f) (filter (λ t. slice_number f t == n) ts))

-- the pairs of each of so many slices, from slice n on
abbrev pub slices_of : Family → ℕ → ℕ → List Numbered → List (List (ℕ × ℕ))
slices_of f n count ts = map (λ i. pairs_in f i ts) (range_with_len n count)

-- the triples of slices, from slice n on
abbrev pub triples_from : Family → ℕ → List (List (ℕ × ℕ)) → List Numbered
triples_from f n [] = []
triples_from f n (ps ∷ pss) = map (triple_at f n) ps ++ triples_from f (n + 1) pss
