-- Carries proofs only: triples by numbers in place of places.
use Rattle.std.specs.Prelude.{ℕ, ◌<◌, List, slice_index}
use Rattle.term_numbers.specs.Order.{Numbered}

-- the places of a triple are below those that have numbers
abbrev pub PlacesAreBelow : ℕ → ℕ → Numbered → Type 0
PlacesAreBelow nodes predicates t = (t.0 < nodes) × (t.1 < predicates) × (t.2 < nodes)

-- a triple by the numbers of its places
abbrev pub renumbered : List ℕ → List ℕ → Numbered → Numbered
renumbered nodes predicates t = (slice_index nodes t.0, slice_index predicates t.1, slice_index nodes t.2)
