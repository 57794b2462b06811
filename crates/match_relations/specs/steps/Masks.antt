-- Carries proofs only: the masks of relations.
use Rattle.std.specs.Prelude.{ℕ, ◌+◌, ◌<◌, ◌≤◌, ◌^◌, min, max, List, [], ◌∷◌, All, AllPairs, Option, Some, None}
use Rattle.std.specs.List.{flat_map}
use Rattle.cube_slices.specs.Lines.{Line}
use Rattle.index_file.specs.declared.counts.IndexCounts.{IndexCounts}
use Rattle.mask_pool.specs.Mask.{Stretch, words_for, DoNotOverlap}
use Rattle.mask_pool.specs.Region.{Region, words_of}
use Rattle.pattern_rel.specs.Folds.{IsUsable}
use Rattle.pattern_rel.specs.Shapes.{lines_of_shape}
use Rattle.row_lanes.specs.Words.{Has}
use Rattle.tree_relations.specs.declared.prepared.Entry.{Entry}
use Rattle.tree_relations.specs.declared.prepared.PlaceKind.{PlaceKind}
use Rattle.tree_relations.specs.declared.prepared.PlaceKind.TheVariants.{Subject, Object, Predicate}
use Rattle.tree_relations.specs.declared.prepared.SidePlace.{SidePlace}
use Rattle.match_relations.specs.declared.borrowed.Borrowed.{Borrowed}

-- the counts are those of an index within the limit
pub record AreFew (c : IndexCounts) : Type 0 where
  pub subjects : c.shared + c.subjects ≤ 2 ^ 23
  pub objects : c.shared + c.objects ≤ 2 ^ 23
  pub predicates : c.predicates ≤ 2 ^ 23

-- how many numbers a place of a kind has
abbrev pub kind_count : IndexCounts → PlaceKind → ℕ
kind_count c Subject = c.shared + c.subjects
kind_count c Object = c.shared + c.objects
kind_count c Predicate = c.predicates

-- how many bits the mask of a side has, and a working mask
abbrev pub side_bits : IndexCounts → Option SidePlace → ℕ
side_bits c None = min c.predicates 1
side_bits c (Some place) = kind_count c place.kind

abbrev pub widest : IndexCounts → ℕ
widest c = max (c.shared + c.subjects) (max (c.shared + c.objects) c.predicates)

-- how many words the masks of relations take
abbrev pub entry_words : IndexCounts → Borrowed → ℕ
entry_words c b = words_for (side_bits c b.first) + words_for (side_bits c b.second)

abbrev pub words_in : IndexCounts → List Borrowed → ℕ
words_in c [] = 0
words_in c (b ∷ bs) = entry_words c b + words_in c bs

-- an entry without its masks, of which it says how many bits they have
pub record Bare : Type 0 where
  pub lines : List Line
  pub first : Option SidePlace
  pub second : Option SidePlace
  pub first_bits : ℕ
  pub second_bits : ℕ

abbrev pub bare : Entry → Bare
bare e = record { lines = e.rel.lines; first = e.first; second = e.second; first_bits = e.rel.first.bits; second_bits = e.rel.second.bits }

abbrev pub bare_of : IndexCounts → Borrowed → Bare
bare_of c b = record { lines = lines_of_shape b.shape; first = b.first; second = b.second; first_bits = side_bits c b.first; second_bits = side_bits c b.second }

-- the masks of entries
abbrev pub masks_in : List Entry → List Stretch
masks_in es = flat_map (λ e. e.rel.first ∷ e.rel.second ∷ []) es

-- the mask has all numbers below its bits
abbrev pub IsFull : Region → Stretch → Type 0
IsFull pool m = (n : ℕ) → n < m.bits → Has (words_of pool m) n

-- the masks are usable and full, and no two overlap
pub record AreMasks (pool : Region) (masks : List Stretch) : Type 0 where
  pub usable : All (IsUsable pool) masks
  pub full : All (IsFull pool) masks
  pub apart : AllPairs DoNotOverlap masks
