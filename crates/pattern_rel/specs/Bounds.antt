-- Which pair is asked for: numbers that it must have, and a pair that it must come after.
use Rattle.std.specs.Prelude.{ℕ, ◌==◌, ◌&&◌, List, map, filter, Option, Some, None, Bool, true, if◌then◌else◌, nat_lt}
use Rattle.pattern_rel.specs.declared.bound.Bound.{Bound}
use Rattle.pattern_rel.specs.declared.bound.Pair.{Pair}

-- the number is the one that is asked for, if one is
abbrev pub is_asked : Option ℕ → ℕ → Bool
is_asked None n = true
is_asked (Some m) n = m == n

-- the pair agrees with what is bound
abbrev pub agrees : Bound → ℕ × ℕ → Bool
agrees bound p = is_asked bound.first p.0 && is_asked bound.second p.1

-- the pair comes after another: by its first number, and by the second where these are equal
abbrev pub comes_after : ℕ × ℕ → ℕ × ℕ → Bool
comes_after a p = if a.0 == p.0 then nat_lt a.1 p.1 else nat_lt a.0 p.0

abbrev pub is_after : Option Pair → ℕ × ℕ → Bool
is_after None p = true
is_after (Some a) p = comes_after (a.first, a.second) p

-- the pair agrees with what is bound and comes after the last one
abbrev pub is_wanted : Bound → Option Pair → ℕ × ℕ → Bool
is_wanted bound after p = agrees bound p && is_after after p

-- the two numbers as a pair
abbrev pub as_pair : ℕ × ℕ → Pair
as_pair p = record { first = p.0; second = p.1 }

-- the second numbers of the pairs with the first number n
abbrev pub seconds_beside : ℕ → List (ℕ × ℕ) → List ℕ
seconds_beside n ps = map (λ p. p.1) (filter (λ p. n == p.0) ps)
