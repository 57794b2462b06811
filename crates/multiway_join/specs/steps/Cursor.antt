-- Carries proofs only: which pairs a cursor has still to give, and what a row asks of them.
use Rattle.std.specs.Prelude.{◌≡◌, ◌≢◌, ℕ, ◌==◌, ◌&&◌, Bool, true, false, filter, List, [], ◌∷◌, Option, Some, None}
use Rattle.pattern_rel.specs.declared.bound.Bound.{Bound}
use Rattle.tree_relations.specs.declared.prepared.PlaceKind.{PlaceKind}
use Rattle.tree_relations.specs.declared.prepared.Prepared.{Prepared}
use Rattle.tree_relations.specs.declared.prepared.SidePlace.{SidePlace}
use Rattle.tree_relations.specs.Readings.{value_of}
use Rattle.multiway_join.specs.declared.binding.Asked.{Asked}
use Rattle.multiway_join.specs.declared.binding.Asked.TheVariants.{Anything, This, Nothing}
use Rattle.multiway_join.specs.declared.cursor.Agreeing.{Agreeing}
use Rattle.multiway_join.specs.declared.cursor.Agreeing.TheVariants as agreeing
use Rattle.multiway_join.specs.steps.Binding.{bind_side}

-- the only number of this kind that has the value, or none has it
abbrev pub IsNumberOf : Prepared → PlaceKind → ℕ → Option ℕ → Type 0
IsNumberOf prepared kind value None = (n : ℕ) → value_of prepared kind n ≢ value
IsNumberOf prepared kind value (Some m) = (n : ℕ) → value_of prepared kind n ≡ value → n ≡ m

-- the row agrees with no number at the side but with those that are asked for
abbrev pub AsksFor : Prepared → Option SidePlace → List ℕ → Asked → Type 0
AsksFor prepared side row Anything = Unit {0}
AsksFor prepared side row (This m) = (n : ℕ) → n ≢ m → bind_side prepared side n row ≡ None
AsksFor prepared side row Nothing = (n : ℕ) → bind_side prepared side n row ≡ None

-- whether a number is one that is asked for
abbrev pub is_asked_for : Asked → ℕ → Bool
is_asked_for Anything n = true
is_asked_for (This m) n = m == n
is_asked_for Nothing n = false

-- the pairs that have what is asked for at both sides
abbrev pub HasAsked : List (ℕ × ℕ) → Asked → Asked → List (ℕ × ℕ) → Type 0
HasAsked all first second pairs = pairs ≡ filter (λ p. is_asked_for first p.0 && is_asked_for second p.1) all

-- a second number that is asked for
abbrev pub at_second : ℕ → Bound
at_second c = record { first = None; second = Some c }

-- the pairs that are still to come
abbrev pub coming : Agreeing → List (ℕ × ℕ)
coming agreeing.Nobody = []
coming (agreeing.One n c) = (n, c) ∷ []
coming (agreeing.All pairs) = pairs
coming (agreeing.Row pairs) = pairs
coming (agreeing.Column pairs) = pairs
