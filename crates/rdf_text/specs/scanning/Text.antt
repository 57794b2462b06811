-- Carries proofs only: walking a text from its front, as its list of characters.
use Rattle.std.specs.Prelude.{ℕ, ◌-◌, Bool, ◌==◌, if◌then◌else◌, Option, Some, None, option_and_then, List, [], ◌∷◌, length, take}

infixl 10 ◌>>=◌
abbrev pub ◌>>=◌ : {A B : Type 0} → Option A → (A → Option B) → Option B
o >>= f = option_and_then f o

-- the first character and what follows it
abbrev pub uncons : List ℕ → Option (ℕ × List ℕ)
uncons [] = None
uncons (c ∷ cs) = Some (c, cs)

-- what follows the first character
abbrev pub after_first : List ℕ → List ℕ
after_first [] = []
after_first (c ∷ cs) = cs

-- what follows this character, where the text begins with it
abbrev pub after_char : ℕ → List ℕ → Option (List ℕ)
after_char d [] = None
after_char d (c ∷ cs) = if c == d then Some cs else None

-- what follows the longest run of characters that pass
unfoldable pub after_run : (ℕ → Bool) → List ℕ → List ℕ
after_run p [] = []
after_run p (c ∷ cs) = if p c then after_run p cs else c ∷ cs

-- the same, where the run has a character at least
abbrev pub after_some : (ℕ → Bool) → List ℕ → Option (List ℕ)
after_some p [] = None
after_some p (c ∷ cs) = if p c then Some (after_run p cs) else None

-- what is before the rest of a text
abbrev pub before : List ℕ → List ℕ → List ℕ
before text rest = take (length text - length rest) text

-- the value, where nothing is left of the text
abbrev pub at_end : {A : Type 0} → List ℕ → A → Option A
at_end rest value = if length rest == 0 then Some value else None
