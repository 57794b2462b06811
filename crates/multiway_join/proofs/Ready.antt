-- A triple pattern that can be joined has a relation that can be walked.
use Rattle.std.proofs.Common.{◌≡◌, ℕ, ◌<◌, ◌++◌, inl, inr, [], ◌∷◌, Contains, Option, Some, None, refl, subst}
use Rattle.std.specs.Prelude.{slice_get}
use Rattle.std.specs.List.{flat_map}
use Rattle.std.proofs.lemmas.List.Elements.{All-contains, Contains-get_or, Contains-append_left, Contains-append_right}
use Rattle.std.proofs.lemmas.Option.{slice_get_within, get_or_from_slice_get}
use Rattle.alg_model.proofs.Lists.{Contains-flat_map}
use Rattle.alg_model.specs.declared.pattern.Place.{Place}
use Rattle.alg_model.specs.declared.pattern.Place.TheVariants as places
use Rattle.alg_model.specs.declared.pattern.TriplePat.{TriplePat}
use Rattle.alg_model.specs.Pattern.{IsVar, place_vars, triple_vars}
use Rattle.bm_term.proofs.Elements.{Contains-head, Contains-tail}
use Rattle.cube_slices.specs.Lines.{pairs_of}
use Rattle.mask_pool.specs.Mask.{Stretch}
use Rattle.mask_pool.specs.Region.{words_of}
use Rattle.pattern_rel.specs.declared.side.Side.TheVariants.{First, Second}
use Rattle.pattern_rel.specs.Folds.{IsUsable}
use Rattle.pattern_rel.specs.Left.{pairs_left, is_left}
use Rattle.pattern_rel.proofs.PairLaws.{Contains-filter}
use Rattle.pruning_laws.specs.Shown.{entry_of}
use Rattle.tree_relations.specs.declared.prepared.Entry.{Entry}
use Rattle.tree_relations.specs.declared.prepared.PlaceKind.{PlaceKind}
use Rattle.tree_relations.specs.declared.prepared.PlaceKind.TheVariants.{Subject, Object, Predicate}
use Rattle.tree_relations.specs.declared.prepared.Prepared.{Prepared}
use Rattle.tree_relations.specs.declared.prepared.SidePlace.{SidePlace}
use Rattle.tree_relations.specs.Fits.{place_at, IsSide, IsEntryOf}
use Rattle.tree_relations.specs.Prepared.{FitsTogether, FitsEntry, FitsPlace, masks_of}
use Rattle.multiway_join.specs.steps.Binding.{HasCell, HasNumber, CanJoin, IsReady}

-- a variable at a place is one of the triple pattern's
pub var_at_place : (place : Place) (var : ℕ) → IsVar place var → Contains (place_vars place) var
var_at_place (places.Var v) var is = subst (λ (k : ℕ). Contains (v.0 ∷ []) k) is (Contains-head v.0 [])
var_at_place (places.Term text) var is = absurd is

pub var_of_triple : (kind : PlaceKind) (pattern : TriplePat) (var : ℕ) → IsVar (place_at kind pattern) var → Contains (triple_vars pattern) var
var_of_triple Subject pattern var is =
    let s = place_vars pattern.subject in
    let p = place_vars pattern.predicate in
    Contains-append_left (s ++ p) (place_vars pattern.object) var (Contains-append_left s p var (var_at_place pattern.subject var is))
var_of_triple Predicate pattern var is =
    let s = place_vars pattern.subject in
    let p = place_vars pattern.predicate in
    Contains-append_left (s ++ p) (place_vars pattern.object) var (Contains-append_right s p var (var_at_place pattern.predicate var is))
var_of_triple Object pattern var is = Contains-append_right (place_vars pattern.subject ++ place_vars pattern.predicate) (place_vars pattern.object) var (var_at_place pattern.object var is)

module _ (p : Prepared) (fits : FitsTogether p) (i : ℕ) (e : Entry) (at : slice_get p.entries i ≡ Some e) where
  there : Contains p.entries e
  there = subst (Contains p.entries) (get_or_from_slice_get p.entries i e e at) (Contains-get_or p.entries i e (slice_get_within p.entries i e at))

  usable : (m : Stretch) → Contains (e.rel.first ∷ e.rel.second ∷ []) m → IsUsable p.pool m
  usable m own = All-contains (IsUsable p.pool) (masks_of p) m fits.usable (Contains-append_right p.work (flat_map (λ (e : Entry). e.rel.first ∷ e.rel.second ∷ []) p.entries) m (Contains-flat_map (λ (e : Entry). e.rel.first ∷ e.rel.second ∷ []) p.entries e m there own))

  pub first_usable : IsUsable p.pool e.rel.first
  first_usable = usable e.rel.first (Contains-head e.rel.first (e.rel.second ∷ []))

  pub second_usable : IsUsable p.pool e.rel.second
  second_usable = usable e.rel.second (Contains-tail e.rel.first (e.rel.second ∷ []) e.rel.second (Contains-head e.rel.second []))

  pub fits_at : FitsEntry p e
  fits_at = All-contains (FitsEntry p) p.entries e fits.entries there

-- the numbers of a pair are those of their places
first_number : (p : Prepared) (e : Entry) (side : Option SidePlace) → FitsPlace p First e side → (pair : ℕ × ℕ) → Contains (pairs_of e.rel.lines) pair → HasNumber p side pair.0
first_number p e None fits pair at = tt
first_number p e (Some place) fits pair at = fits.0 pair.0 (pair.1, at)

second_number : (p : Prepared) (e : Entry) (side : Option SidePlace) → FitsPlace p Second e side → (pair : ℕ × ℕ) → Contains (pairs_of e.rel.lines) pair → HasNumber p side pair.1
second_number p e None fits pair at = tt
second_number p e (Some place) fits pair at = fits.0 pair.1 (pair.0, at)

pub left_of_lines : (p : Prepared) (e : Entry) (pair : ℕ × ℕ) → Contains (pairs_left p.pool e.rel) pair → Contains (pairs_of e.rel.lines) pair
left_of_lines p e pair at = ((Contains-filter (is_left (words_of p.pool e.rel.first) (words_of p.pool e.rel.second)) (pairs_of e.rel.lines) pair).0 at).0

side_cell : (width : ℕ) (side : Option SidePlace) → ((kind : PlaceKind) (var : ℕ) → IsSide side kind var → var < width) → HasCell width side
side_cell width None below = tt
side_cell width (Some place) below = below place.kind place.var.0 (refl, refl)

pub is_ready : (p : Prepared) (width : ℕ) (pattern : TriplePat) (e : Entry) → FitsTogether p → CanJoin p width pattern → slice_get p.entries (entry_of pattern) ≡ Some e → IsReady p width e
is_ready p width pattern e fits can at =
    let same : can.entry ≡ e = (let a = can.at.at in cc) in
    let sides : IsEntryOf pattern e = subst (IsEntryOf pattern) same can.at.sides in
    let own = fits_at p fits (entry_of pattern) e at in
    record {
      firsts = first_usable p fits (entry_of pattern) e at;
      seconds = second_usable p fits (entry_of pattern) e at;
      first_cell = side_cell width e.first (λ kind var is. can.below var (var_of_triple kind pattern var ((sides kind var).1 (inl is))));
      second_cell = side_cell width e.second (λ kind var is. can.below var (var_of_triple kind pattern var ((sides kind var).1 (inr is))));
      numbers = λ pair left.
          (let among = left_of_lines p e pair left in (first_number p e e.first own.first pair among, second_number p e e.second own.second pair among));
    }
