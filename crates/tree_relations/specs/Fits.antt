-- When what is prepared fits a tree: each triple pattern has its entry, whose sides are its variable places.
use Rattle.std.specs.Prelude.{◌≡◌, ◌↔◌, ◌⊎◌, ℕ, List, Option, Some, None, slice_get}
use Rattle.alg_model.specs.declared.pattern.TriplePat.{TriplePat}
use Rattle.alg_model.specs.declared.pattern.Place.{Place}
use Rattle.alg_model.specs.Pattern.{IsVar}
use Rattle.pattern_tree.specs.Standing.{StandsAt}
use Rattle.pattern_tree.specs.Tree.{TreeNode}
use Rattle.pruning_laws.specs.Shown.{entry_of}
use Rattle.tree_relations.specs.declared.prepared.PlaceKind.{PlaceKind}
use Rattle.tree_relations.specs.declared.prepared.PlaceKind.TheVariants.{Subject, Object, Predicate}
use Rattle.tree_relations.specs.declared.prepared.SidePlace.{SidePlace}
use Rattle.tree_relations.specs.declared.prepared.Entry.{Entry}
use Rattle.tree_relations.specs.declared.prepared.Prepared.{Prepared}
use Rattle.tree_relations.specs.Prepared.{FitsTogether}

-- the place of a triple pattern that has this kind
abbrev pub place_at : PlaceKind → TriplePat → Place
place_at Subject pattern = pattern.subject
place_at Object pattern = pattern.object
place_at Predicate pattern = pattern.predicate

-- the variable stands at a side, at a place of this kind
abbrev pub IsSide : Option SidePlace → PlaceKind → ℕ → Type 0
IsSide None kind var = ⊥
IsSide (Some place) kind var = (place.kind ≡ kind) × (place.var.0 ≡ var)

-- the sides of the entry are the variable places of the triple pattern
abbrev pub IsEntryOf : TriplePat → Entry → Type 0
IsEntryOf pattern e = (kind : PlaceKind) (var : ℕ) → IsVar (place_at kind pattern) var ↔ (IsSide e.first kind var ⊎ IsSide e.second kind var)

-- the entry of a triple pattern: it stands at its place in the text
pub record IsEntryAt (p : Prepared) (pattern : TriplePat) (e : Entry) : Type 0 where
  pub at : slice_get p.entries (entry_of pattern) ≡ Some e
  pub sides : IsEntryOf pattern e

-- what is prepared fits the tree
pub record FitsTree (tree : List TreeNode) (p : Prepared) : Type 0 where
  pub together : FitsTogether p
  pub entries : (k : ℕ) (pattern : TriplePat) → StandsAt tree k pattern → (e : Entry) × IsEntryAt p pattern e
