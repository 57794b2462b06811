-- Carries proofs only: what members hold where their items are pairs of relations and their values are in working masks, and the
-- steps that passes take on them.
use Rattle.std.specs.Prelude.{◌≡◌, ◌⊎◌, ◌<◌, ℕ, Bool, List, Option, Some, Contains, filter, slice_get}
use Rattle.join_graph.specs.declared.steps.Step.TheVariants.{Pattern, Variable}
use Rattle.join_graph.specs.Members.{Member}
use Rattle.pruning_laws.specs.TreePasses.{Item, Triple, Value, holding}
use Rattle.tree_relations.specs.declared.prepared.PlaceKind.{PlaceKind}
use Rattle.tree_relations.specs.declared.prepared.Prepared.{Prepared}
use Rattle.tree_relations.specs.Readings.{lists_left}
use Rattle.mask_steps.specs.Held.{HasValue, GivesAt, IsVarAt}

-- the pairs that are left of each relation
abbrev pub is_left_of : Prepared → ℕ → ℕ × ℕ → Type 0
is_left_of p i pair = Contains (lists_left p i) pair

-- what members hold: triple patterns the pairs that are left, variables the values in their working masks
abbrev pub held_by : Prepared → List (Option PlaceKind) → Member → Item ℕ (ℕ × ℕ) → Type 0
held_by p kinds = holding (is_left_of p) (HasValue p kinds)

-- a pair agrees with the values that it gives
abbrev pub agrees_by : (ℕ → ℕ × ℕ → ℕ → ℕ → Type 0) → Member → Item ℕ (ℕ × ℕ) → Member → Item ℕ (ℕ × ℕ) → Type 0
agrees_by gives (Pattern i) (Triple t) (Variable v) (Value x) = gives i t v x
agrees_by gives (Variable v) (Value x) (Pattern i) (Triple t) = gives i t v x
agrees_by gives (Pattern i) (Triple t) (Variable v) (Triple s) = ⊥
agrees_by gives (Pattern i) (Value x) (Variable v) j = ⊥
agrees_by gives (Pattern i) a (Pattern j) b = ⊥
agrees_by gives (Variable v) (Value x) (Pattern i) (Value y) = ⊥
agrees_by gives (Variable v) (Triple t) (Pattern i) b = ⊥
agrees_by gives (Variable v) a (Variable w) b = ⊥

abbrev pub agrees_in : Prepared → Member → Item ℕ (ℕ × ℕ) → Member → Item ℕ (ℕ × ℕ) → Type 0
agrees_in p = agrees_by (GivesAt p)

-- one is a triple pattern, and the other a variable at a side of its relation
abbrev pub AreSides : Prepared → Member → Member → Type 0
AreSides p (Pattern i) (Variable v) = IsVarAt p i v × (v < 64)
AreSides p (Variable v) (Pattern i) = IsVarAt p i v × (v < 64)
AreSides p (Pattern i) (Pattern j) = ⊥
AreSides p (Variable v) (Variable w) = ⊥

-- each list is what a test leaves of the other, in its order
abbrev pub AreInOrder : Prepared → Prepared → Type 0
AreInOrder old new = (i : ℕ) → (test : ℕ × ℕ → Bool) × (lists_left new i ≡ filter test (lists_left old i))

-- the member stands in one of the first i pairs
abbrev pub StandsBefore : List (Member × Member) → ℕ → Member → Type 0
StandsBefore pairs i m = (k : ℕ) × (k < i) × ((n : Member) × ((slice_get pairs k ≡ Some (m, n)) ⊎ (slice_get pairs k ≡ Some (n, m))))

-- what it holds after the passes over the pairs from the i-th on is looked at: it is a triple pattern, or stands in an earlier pair
abbrev pub IsWanted : List (Member × Member) → ℕ → Member → Type 0
IsWanted pairs i (Pattern p) = Unit {0}
IsWanted pairs i (Variable v) = StandsBefore pairs i (Variable v)
