-- Laws of the place that a walk has come to.
use Rattle.std.proofs.Common.{ℕ, ◌≤◌, List, arith}
use Rattle.cube_slices.specs.Lines.{Line}
use Rattle.cube_slices.proofs.SeekLaws.{IsPassed-start, IsPassed-later}
use Rattle.pattern_rel.specs.steps.Places.{KnowsPlace}

-- the first place
pub KnowsPlace-start : (n : ℕ) (ls : List Line) → KnowsPlace n 0 ls
KnowsPlace-start n ls = record { within = omega arith; passed = IsPassed-start n ls }

-- a place for a number is one for each later number
pub KnowsPlace-later : (n m place : ℕ) (ls : List Line) → n ≤ m → KnowsPlace n place ls → KnowsPlace m place ls
KnowsPlace-later n m place ls up known = record { within = known.within; passed = IsPassed-later n m place ls up known.passed }

pub ruleset places = (KnowsPlace-start, KnowsPlace-later)
