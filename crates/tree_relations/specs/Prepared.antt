-- What is prepared for pruning and joining: a relation for each pattern, the masks in one pool, and the counts of the index.
use Rattle.std.specs.Prelude.{◌≡◌, ℕ, ◌+◌, ◌<◌, ◌≤◌, ◌^◌, max, List, [], ◌∷◌, ◌++◌, length, All, AllPairs, Contains, Option, Some, None}
use Rattle.std.specs.List.{flat_map}
use Rattle.mask_pool.specs.Mask.{Stretch, DoNotOverlap}
use Rattle.cube_slices.specs.Lines.{pairs_of}
use Rattle.pattern_rel.specs.declared.side.Side.{Side}
use Rattle.pattern_rel.specs.declared.side.Side.TheVariants.{First, Second}
use Rattle.tree_relations.specs.declared.prepared.PlaceKind.{PlaceKind}
use Rattle.tree_relations.specs.declared.prepared.PlaceKind.TheVariants.{Subject, Object, Predicate}
use Rattle.tree_relations.specs.declared.prepared.SidePlace.{SidePlace}
use Rattle.tree_relations.specs.declared.prepared.Entry.{Entry}
use Rattle.tree_relations.specs.declared.prepared.Prepared.{Prepared}
use Rattle.pattern_rel.specs.Left.{IsAtSide}
use Rattle.pattern_rel.specs.Folds.{IsUsable}

-- how many numbers a place of this kind can have: the shared terms count among the subjects and among the objects
abbrev pub count_of : Prepared → PlaceKind → ℕ
count_of p Subject = p.shared + p.subjects
count_of p Object = p.shared + p.objects
count_of p Predicate = p.predicates

-- how many bits a working mask has: as many as the places of some kind have numbers
abbrev pub work_bits : Prepared → ℕ
work_bits p = max (count_of p Subject) (max (count_of p Object) (count_of p Predicate))

-- the numbers at a side are below the count of its place, and its variable has a working mask that is not the last one
abbrev pub FitsPlace : Prepared → Side → Entry → Option SidePlace → Type 0
FitsPlace p side e None = Unit {0}
FitsPlace p side e (Some place) =
    ((n : ℕ) → IsAtSide side (pairs_of e.rel.lines) n → n < count_of p place.kind) × (place.var.0 + 1 < length p.work)

-- where one variable stands on both sides, each pair has one number twice, and it is shared
abbrev pub MeetsItself : Prepared → Entry → Option SidePlace → Option SidePlace → Type 0
MeetsItself p e None second = Unit {0}
MeetsItself p e (Some a) None = Unit {0}
MeetsItself p e (Some a) (Some b) = a.var ≡ b.var → (n c : ℕ) → Contains (pairs_of e.rel.lines) (n, c) → (n ≡ c) × (n < p.shared)

-- the entry of a pattern fits what is prepared with it
pub record FitsEntry (p : Prepared) (e : Entry) : Type 0 where
  pub first : FitsPlace p First e e.first
  pub second : FitsPlace p Second e e.second
  pub itself : MeetsItself p e e.first e.second
  pub few : length (pairs_of e.rel.lines) ≤ 2 ^ 23
  pub first_room : e.rel.first.bits ≤ work_bits p
  pub second_room : e.rel.second.bits ≤ work_bits p

-- all masks: the working masks, and those of the relations
abbrev pub masks_of : Prepared → List Stretch
masks_of p = p.work ++ flat_map (λ e. e.rel.first ∷ e.rel.second ∷ []) p.entries

-- what is prepared fits together: the numbers of the relations are within the counts, the masks have room for them, and
-- no two masks overlap
pub record FitsTogether (p : Prepared) : Type 0 where
  pub counts : p.shared + p.subjects + p.objects + p.predicates < 2 ^ 30
  pub work : All (λ m. m.bits ≡ work_bits p) p.work
  pub entries : All (FitsEntry p) p.entries
  pub usable : All (IsUsable p.pool) (masks_of p)
  pub apart : AllPairs DoNotOverlap (masks_of p)
