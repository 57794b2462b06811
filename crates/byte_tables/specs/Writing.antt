-- What a call that appends leaves of a list.
use Rattle.std.specs.Prelude.{◌≡◌, ℕ, List, length, take}

-- the list begins with the front
abbrev pub BeginsWith : List ℕ → List ℕ → Type 0
BeginsWith xs front = take (length front) xs ≡ front
