-- A world in memory that counts no failure: what it holds, and whether it still tells it.
use Rattle.std.specs.Prelude.{ℕ, Bool, true, List, Option, None, Some, if◌then◌else◌}
use Rattle.std.specs.FinMap.{insert}
use Rattle.bm_world.specs.Meanings.{Meanings, nothing_yet}

pub record QuietState : Type 0 where
  pub meanings : Meanings
  pub tells : Bool

-- what it tells
abbrev pub told_by : QuietState → Option Meanings
told_by state = if state.tells then Some state.meanings else None

-- before anything has happened
abbrev pub quiet_at_first : QuietState
quiet_at_first = record { meanings = nothing_yet; tells = true }

-- this file among the others
abbrev pub with_quiet_file : QuietState → List ℕ → List ℕ → QuietState
with_quiet_file state name bytes =
    record state { meanings = record state.meanings { files = insert state.meanings.files name bytes } }
