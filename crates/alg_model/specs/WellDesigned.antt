-- Well-designed patterns: Pérez, Arenas and Gutierrez. That the first OPTIONAL that fails is told, with its least
-- variable, is this project's.
use Rattle.std.specs.Prelude.{◌≡◌, ◌<◌, ◌≤◌, ◌+◌, ℕ, List, [], ◌∷◌, ◌++◌, All, Contains, slice_get, Some}
use Rattle.alg_model.specs.Pattern.{Algebra, Bgp, Join, LeftJoin, vars_of}

-- an OPTIONAL: the two sides of its LeftJoin, and the variables that occur outside of it, as often as they do
pub record OptionalPart : Type 0 where
  pub left : Algebra
  pub right : Algebra
  pub outside : List ℕ

-- the OPTIONALs of a part, in the order of the text, where these variables occur outside of the part: what occurs on
-- the one side of a Join or of a LeftJoin is outside of the other side
abbrev pub optionals_beside : List ℕ → Algebra → List OptionalPart
optionals_beside outside (Bgp list) = []
optionals_beside outside (Join left right) =
    optionals_beside (outside ++ vars_of right) left ++ optionals_beside (outside ++ vars_of left) right
optionals_beside outside (LeftJoin left right) =
    optionals_beside (outside ++ vars_of right) left
    ++ record { left = left; right = right; outside = outside } ∷ optionals_beside (outside ++ vars_of left) right

-- the OPTIONALs of a pattern, in the order of its text
abbrev pub optionals_of : Algebra → List OptionalPart
optionals_of pattern = optionals_beside [] pattern

-- each variable that occurs in its right side and outside of the OPTIONAL occurs in its left side
abbrev pub IsFine : OptionalPart → Type 0
IsFine part = (var : ℕ) → Contains (vars_of part.right) var → Contains part.outside var → Contains (vars_of part.left) var

-- a pattern is well designed where each of its OPTIONALs is fine
abbrev pub IsWellDesigned : Algebra → Type 0
IsWellDesigned pattern = All IsFine (optionals_of pattern)

-- the variable occurs in the right side of an OPTIONAL and outside of it, and not in its left side
pub record Offends (part : OptionalPart) (var : ℕ) : Type 0 where
  pub inside : Contains (vars_of part.right) var
  pub outside : Contains part.outside var
  pub not_left : ¬ Contains (vars_of part.left) var

-- the first of these OPTIONALs that fails stands at this place, and this is the least variable that offends there
pub record IsFirstOffender (parts : List OptionalPart) (place var : ℕ) : Type 0 where
  pub part : OptionalPart
  pub stands : slice_get parts place ≡ Some part
  pub offends : Offends part var
  pub least : (other : ℕ) → Offends part other → var ≤ other
  pub first : (before : ℕ) (earlier : OptionalPart) → before < place → slice_get parts before ≡ Some earlier → IsFine earlier

-- the first OPTIONAL of the text that fails has this number from 1, and this is the least variable that offends there
abbrev pub IsOffender : Algebra → ℕ → ℕ → Type 0
IsOffender pattern number var = (place : ℕ) × (number ≡ place + 1) × IsFirstOffender (optionals_of pattern) place var
