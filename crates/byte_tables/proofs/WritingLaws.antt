-- Laws of what appending leaves in front.
use Rattle.std.proofs.Common.{◌≡◌, ℕ, ◌≤◌, List, ◌++◌, length, take, refl, sym, ap, ◌∙◌, arith}
use Rattle.std.proofs.lemmas.List.{length-take, take_at, take-take, take_all}
use Rattle.byte_tables.specs.Writing.{BeginsWith}

-- a list begins with itself
pub BeginsWith-same : (xs : List ℕ) → BeginsWith xs xs
BeginsWith-same xs = take_all (length xs) xs (omega arith)

pub BeginsWith-equal : (xs ys : List ℕ) → ys ≡ xs → BeginsWith ys xs
BeginsWith-equal xs ys same = rw same (BeginsWith-same xs)

-- what is appended leaves the front
pub BeginsWith-appended : (xs ys zs : List ℕ) → ys ≡ xs ++ zs → BeginsWith ys xs
BeginsWith-appended xs ys zs more = rw more (take_at xs zs (length xs) refl)

-- the front of a front is a front
pub BeginsWith-then : (xs ys zs : List ℕ) → BeginsWith ys xs → BeginsWith zs ys → BeginsWith zs xs
BeginsWith-then xs ys zs first second =
    let up : length xs ≤ length ys = omega (arith, ap length first, length-take (length xs) ys) in
    sym (take-take (length xs) (length ys) zs up) ∙ ap (take (length xs)) second ∙ first

pub ruleset fronts = (BeginsWith-same, BeginsWith-equal, BeginsWith-appended, BeginsWith-then)
