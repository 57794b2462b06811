-- Carries proofs only: what a walk over the pairs left has found.
use Rattle.std.specs.Prelude.{◌≡◌, ℕ, ◌*◌, ◌<◌, ◌≤◌, List, length, Some}
use Rattle.row_lanes.specs.Words.{Has}
use Rattle.cube_slices.specs.Lines.{Line}
use Rattle.pattern_rel.specs.declared.walk.Opened.{Opened}
use Rattle.pattern_rel.specs.Shapes.{row_of}
use Rattle.pattern_rel.specs.steps.Sets.{IsNextBoth, NoneBetween, partner_numbers}
use Rattle.pattern_rel.specs.steps.Places.{KnowsPlace}

-- the first pair left from a first number on, with what stands beside its first number, and the place of that row
pub record IsOpened (from : ℕ) (firsts seconds : List ℕ) (ls slice : List Line) (o : Opened) : Type 0 where
  pub up : from ≤ o.first
  pub none : NoneBetween from o.first firsts seconds ls
  pub has : Has firsts o.first
  pub row : partner_numbers o.partners ≡ row_of o.first ls
  pub second : IsNextBoth 0 seconds (row_of o.first ls) (Some o.second)
  pub known : KnowsPlace o.first o.place slice
  pub second_within : o.second < 64 * length seconds
  pub within : o.first < 64 * length firsts
