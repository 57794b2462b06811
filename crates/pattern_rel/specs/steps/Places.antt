-- Carries proofs only: the place among a slice's lines that a walk has come to.
use Rattle.std.specs.Prelude.{ℕ, ◌≤◌, List, [], length}
use Rattle.cube_slices.specs.Lines.{Line, IsPassed}
use Rattle.pattern_rel.specs.declared.shape.Shape.{Shape}
use Rattle.pattern_rel.specs.declared.shape.Shape.TheVariants.{Nothing, Ground, OneRow, Column, Pairs, Diagonal}

-- the lines of the slice that a shape walks, if it walks one
abbrev pub walked : Shape → List Line
walked Nothing = []
walked Ground = []
walked (OneRow row) = []
walked (Column slice column) = slice
walked (Pairs rows columns) = rows
walked (Diagonal slice shared) = slice

-- each row from n on is found from the place on
pub record KnowsPlace (n place : ℕ) (ls : List Line) : Type 0 where
  pub within : place ≤ length ls
  pub passed : IsPassed n place ls
