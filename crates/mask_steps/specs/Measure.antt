-- How many numbers the masks of the relations have: a measure of what can be left.
use Rattle.std.specs.Prelude.{◌≡◌, ℕ, ◌+◌, ◌≤◌, length, sum_by}
use Rattle.row_lanes.specs.Words.{numbers_in}
use Rattle.mask_pool.specs.Region.{Region, words_of}
use Rattle.pattern_rel.specs.Left.{Relation}
use Rattle.tree_relations.specs.declared.prepared.Prepared.{Prepared}
use Rattle.tree_relations.specs.Readings.{lists_left}

-- how many numbers the two masks of a relation have
abbrev pub relation_bits : Region → Relation → ℕ
relation_bits pool rel = length (numbers_in (words_of pool rel.first)) + length (numbers_in (words_of pool rel.second))

-- and those of all relations
abbrev pub mask_bits : Prepared → ℕ
mask_bits p = sum_by (λ e. relation_bits p.pool e.rel) p.entries

-- the masks have no more numbers than before, and where they have as many, all pairs are left that were
pub record Narrows (old new : Prepared) : Type 0 where
  pub fewer : mask_bits new ≤ mask_bits old
  pub same : mask_bits new ≡ mask_bits old → (i : ℕ) → lists_left new i ≡ lists_left old i
