-- Texts as lists of characters: their fronts and rests, runs, and the longest text of a rule with which a text begins.
use Rattle.std.specs.Prelude.{◌≡◌, ◌≢◌, ℕ, ◌<◌, Bool, IsTrue, List, [], ◌++◌, length}
use Rattle.std.specs.List.{list_all}

-- one character or more, all of which pass
abbrev pub IsRun : (ℕ → Bool) → List ℕ → Type 0
IsRun p cs = (0 < length cs) × IsTrue (list_all p cs)

-- the text begins with this front
abbrev pub HasFront : List ℕ → List ℕ → Type 0
HasFront text front = (rest : List ℕ) × (text ≡ front ++ rest)

-- the text ends with the rest
abbrev pub HasRest : List ℕ → List ℕ → Type 0
HasRest text rest = (front : List ℕ) × (text ≡ front ++ rest)

-- of all texts of a rule that the whole begins with, this is the longest; the rest follows it
pub record IsLongest (Rule : List ℕ → Type 0) (text rest : List ℕ) : Type 0 where
  pub is : Rule text
  pub longest : (more after : List ℕ) → rest ≡ more ++ after → Rule (text ++ more) → more ≡ []

-- the rest follows the longest text of the rule that the whole begins with
pub record FollowsLongest (Rule : List ℕ → Type 0) (whole rest : List ℕ) : Type 0 where
  pub text : List ℕ
  pub first : IsLongest Rule text rest
  pub split : whole ≡ text ++ rest

-- the whole begins with no text of the rule
abbrev pub BeginsWithNone : (List ℕ → Type 0) → List ℕ → Type 0
BeginsWithNone Rule whole = (text rest : List ℕ) → Rule text → whole ≢ text ++ rest

-- the text is one of the rule, whatever it stands for
abbrev pub IsOf : {V : Type 0} → (List ℕ → V → Type 0) → List ℕ → Type 0
IsOf {V} R text = (value : V) × R text value

-- the text begins with one of the rule, which stands for the value, and the rest follows it
abbrev pub BeginsWith : {V : Type 0} → (List ℕ → V → Type 0) → List ℕ → V → List ℕ → Type 0
BeginsWith R text value rest = (front : List ℕ) × R front value × (text ≡ front ++ rest)
