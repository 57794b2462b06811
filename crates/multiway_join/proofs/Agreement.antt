-- The pairs that have what a row asks for are all that can agree with it.
use Rattle.std.proofs.Common.{◌≡◌, ◌≢◌, ℕ, ◌+◌, ◌&&◌, inl, inr, Bool, true, false, List, [], ◌∷◌, get_or, set, filter, Contains, Option, Some, None, refl, sym, ◌∙◌, ap, subst, eq-eqb}
use Rattle.std.specs.Prelude.{◌==◌}
use Rattle.std.specs.List.{filter_map}
use Rattle.std.proofs.lemmas.Bool.{cases_Bool}
use Rattle.std.proofs.lemmas.List.{get_or-set_other}
use Rattle.pattern_rel.proofs.PairLaws.{Contains-filter}
use Rattle.tree_relations.specs.declared.prepared.Entry.{Entry}
use Rattle.tree_relations.specs.declared.prepared.Prepared.{Prepared}
use Rattle.tree_relations.specs.declared.prepared.SidePlace.{SidePlace}
use Rattle.tree_relations.specs.Readings.{value_of}
use Rattle.multiway_join.specs.declared.binding.Asked.{Asked}
use Rattle.multiway_join.specs.declared.binding.Asked.TheVariants.{Anything, This, Nothing}
use Rattle.multiway_join.specs.steps.Binding.{put_cell, bind_side, bind_next, bind_pair}
use Rattle.multiway_join.specs.steps.Cursor.{AsksFor, HasAsked, is_asked_for}

-- what does not pass gives nothing
pub filter_map-filter : {X Y : Type 0} (f : X → Option Y) (test : X → Bool) (xs : List X) → ((x : X) → test x ≡ false → f x ≡ None) → filter_map f (filter test xs) ≡ filter_map f xs
filter_map-filter f test [] none = refl
filter_map-filter f test (x ∷ xs) none = elim (cases_Bool (test x)) as (λ _. filter_map f (filter test (x ∷ xs)) ≡ filter_map f (x ∷ xs)) [
  | inl passes ↦ rw passes (let rest = filter_map-filter f test xs none in rw rest refl)
  | inr fails ↦ rw (fails, none x fails) (filter_map-filter f test xs none)
]

-- another cell is in the way: the variable is bound, and not to this
abbrev pub IsBlocked : ℕ → ℕ → List ℕ → Type 0
IsBlocked w other row = ((get_or row w 0 == 0) ≡ false) × ((get_or row w 0 == other) ≡ false)

pub blocked : (w other : ℕ) (row : List ℕ) → put_cell w other row ≡ None → IsBlocked w other row
blocked w other row none = elim (cases_Bool (get_or row w 0 == 0)) as (λ _. IsBlocked w other row) [
  | inl free ↦ absurd (let is : Some (set row w other) ≡ None = rw free at none in cc)
  | inr bound ↦ elim (cases_Bool (get_or row w 0 == other)) as (λ _. IsBlocked w other row) [
    | inl same ↦ absurd (let is : Some row ≡ None = rw (bound, same) at none in cc)
    | inr differs ↦ (bound, differs)
  ]
]

none_put : (w other : ℕ) (row : List ℕ) → IsBlocked w other row → put_cell w other row ≡ None
none_put w other row is = rw (is.0, is.1) refl

-- what is bound stays bound
pub kept_cell : (v w cell : ℕ) (row longer : List ℕ) → (get_or row w 0 == 0) ≡ false → put_cell v cell row ≡ Some longer → get_or longer w 0 ≡ get_or row w 0
kept_cell v w cell row longer bound put = elim (cases_Bool (get_or row v 0 == 0)) as (λ _. get_or longer w 0 ≡ get_or row w 0) [
  | inl free ↦
      let is : Some (set row v cell) ≡ Some longer = rw free at put in
      let apart : w ≢ v = λ same. (let empty : (get_or row w 0 == 0) ≡ true = ap (λ i. get_or row i 0 == 0) same ∙ free in cc) in
      let longer_is : set row v cell ≡ longer = cc in
      ap (λ (o : List ℕ). get_or o w 0) (sym longer_is) ∙ get_or-set_other row v w cell 0 apart
  | inr taken ↦ elim (cases_Bool (get_or row v 0 == cell)) as (λ _. get_or longer w 0 ≡ get_or row w 0) [
    | inl same ↦ (let is : Some row ≡ Some longer = rw (taken, same) at put in let longer_is : row ≡ longer = cc in ap (λ (o : List ℕ). get_or o w 0) (sym longer_is))
    | inr differs ↦ absurd (let is : None ≡ Some longer = rw (taken, differs) at put in cc)
  ]
]

-- a cell that another is in the way of is so in a longer row too
still_none : (v w cell other : ℕ) (row longer : List ℕ) → put_cell w other row ≡ None → put_cell v cell row ≡ Some longer → put_cell w other longer ≡ None
still_none v w cell other row longer none put =
    let is = blocked w other row none in
    let same = kept_cell v w cell row longer is.0 put in
    none_put w other longer (ap (λ c. c == 0) same ∙ is.0, ap (λ c. c == other) same ∙ is.1)

module _ (prepared : Prepared) where
  side_still_none : (first second : Option SidePlace) (n c : ℕ) (row longer : List ℕ) → bind_side prepared second c row ≡ None → bind_side prepared first n row ≡ Some longer → bind_side prepared second c longer ≡ None
  side_still_none None None n c row longer none put = absurd (cc)
  side_still_none (Some a) None n c row longer none put = absurd (cc)
  side_still_none None (Some b) n c row longer none put = (let is : row ≡ longer = cc in subst (λ (row : List ℕ). bind_side prepared (Some b) c row ≡ None) is none)
  side_still_none (Some a) (Some b) n c row longer none put = still_none a.var.0 b.var.0 (value_of prepared a.kind n + 1) (value_of prepared b.kind c + 1) row longer none put

  -- a number that is not asked for does not agree
  not_asked : (side : Option SidePlace) (row : List ℕ) (asked : Asked) → AsksFor prepared side row asked → (n : ℕ) → is_asked_for asked n ≡ false → bind_side prepared side n row ≡ None
  not_asked side row Anything asks n is = absurd (cc)
  not_asked side row (This m) asks n is = asks n (λ same. (let e = eq-eqb m n (sym same) in cc))
  not_asked side row Nothing asks n is = asks n

  module _ (e : Entry) (row : List ℕ) where
    first_none : (pair : ℕ × ℕ) → bind_side prepared e.first pair.0 row ≡ None → bind_pair prepared e row pair ≡ None
    first_none pair none = ap (bind_next prepared e.second pair.1) none

    second_none : (pair : ℕ × ℕ) → bind_side prepared e.second pair.1 row ≡ None → bind_pair prepared e row pair ≡ None
    second_none pair none = either (bind_side prepared e.first pair.0 row) refl
      where
        either : (o : Option (List ℕ)) → bind_side prepared e.first pair.0 row ≡ o → bind_next prepared e.second pair.1 o ≡ None
        either None is = refl
        either (Some longer) is = side_still_none e.first e.second pair.0 pair.1 row longer none is

    -- of the pairs with what is asked for, the same continue the row as of all
    pub asked_all : (all pairs : List (ℕ × ℕ)) (first second : Asked) → AsksFor prepared e.first row first → AsksFor prepared e.second row second → HasAsked all first second pairs →
        filter_map (bind_pair prepared e row) pairs ≡ filter_map (bind_pair prepared e row) all
    asked_all all pairs first second one two has =
        ap (filter_map (bind_pair prepared e row)) has
        ∙ filter_map-filter (bind_pair prepared e row) (λ p. is_asked_for first p.0 && is_asked_for second p.1) all (λ pair fails. elim (cases_Bool (is_asked_for first pair.0)) as (λ _. bind_pair prepared e row pair ≡ None) [
          | inl passes ↦ second_none pair (not_asked e.second row second two pair.1 (let rest : is_asked_for second pair.1 ≡ false = rw passes at fails in rest))
          | inr is ↦ first_none pair (not_asked e.first row first one pair.0 is)
        ])

-- what has what is asked for is one of all
pub asked_left : (all pairs : List (ℕ × ℕ)) (first second : Asked) → HasAsked all first second pairs → (pair : ℕ × ℕ) → Contains pairs pair → Contains all pair
asked_left all pairs first second has pair at =
    ((Contains-filter (λ p. is_asked_for first p.0 && is_asked_for second p.1) all pair).0 (subst (λ (ps : List (ℕ × ℕ)). Contains ps pair) has at)).0
