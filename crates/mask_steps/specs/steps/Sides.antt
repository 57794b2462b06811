-- Carries proofs only: the side at which a step takes a variable.
use Rattle.std.specs.Prelude.{◌≡◌, ℕ, Option}
use Rattle.pattern_rel.specs.declared.side.Side.{Side}
use Rattle.pattern_rel.specs.declared.side.Side.TheVariants.{First, Second}
use Rattle.tree_relations.specs.declared.prepared.PlaceKind.{PlaceKind}
use Rattle.tree_relations.specs.declared.prepared.SidePlace.{SidePlace}
use Rattle.tree_relations.specs.declared.prepared.Entry.{Entry}
use Rattle.tree_relations.specs.Fits.{IsSide}

-- the variable at a side of an entry
abbrev pub place_on : Side → Entry → Option SidePlace
place_on First e = e.first
place_on Second e = e.second

-- the variable stands at this side, at a place of this kind, and at the second side only where not at the first
pub record IsTaken (e : Entry) (var : ℕ) (side : Side) (kind : PlaceKind) : Type 0 where
  pub there : IsSide (place_on side e) kind var
  pub first : side ≡ Second → (other : PlaceKind) → IsSide e.first other var → ⊥
