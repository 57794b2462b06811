-- Sets, each given by what holds of its members, and how many members they have.
use Rattle.std.specs.Prelude.{◌≡◌, ◌≢◌, ℕ}
use Rattle.std.proofs.Common.{zero, suc}

-- any two members are the same
abbrev pub HasAtMostOne : {X : Type 0} → (X → Type 0) → Type 0
HasAtMostOne {X} set = (x y : X) → set x → set y → x ≡ y

-- at least two members: some two that are not the same
pub record HasTwo {X : Type 0} (set : X → Type 0) : Type 0 where
  pub first : X
  pub second : X
  pub first_in : set first
  pub second_in : set second
  pub apart : first ≢ second

-- two sets have a member in common
abbrev pub Meets : {X : Type 0} → (X → Type 0) → (X → Type 0) → Type 0
Meets {X} set other = (x : X) × set x × other x

-- the set without one of its members
abbrev pub without : {X : Type 0} → (X → Type 0) → X → X → Type 0
without set gone x = set x × (x ≢ gone)

-- a set has no member, or it has one and without it the set has one fewer
unfoldable pub HasSize : {X : Type 0} → (X → Type 0) → ℕ → Type 0
HasSize {X} set zero = (x : X) → ¬ set x
HasSize {X} set (suc n) = (x : X) × set x × HasSize (without set x) n
