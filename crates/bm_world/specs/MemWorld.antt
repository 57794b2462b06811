-- A world in memory as clauses see it, and how its calls end.
use Rattle.std.specs.Prelude.{◌≡◌, ℕ, ◌+◌, ◌-◌, ◌^◌, ◌==◌, if◌then◌else◌, min, Bool, true, false, List, Option, None, Some, Result, Ok, Err}
use Rattle.std.specs.FinMap.{insert}
use Rattle.bm_world.specs.declared.world.Failed.{Failed}
use Rattle.bm_world.specs.declared.world.Faults.{Faults}
use Rattle.bm_world.specs.Meanings.{Meanings}
use Rattle.bm_world.specs.Schedule.{Schedule}

pub record MemState : Type 0 where
  pub meanings : Meanings
  pub faults : Faults
  -- the calls that are to fail
  pub schedule : Schedule
  -- how many bytes a call takes at most, where that is limited
  pub piece : Option ℕ

-- how many of so many bytes one call takes
abbrev pub taken_of : Option ℕ → ℕ → ℕ
taken_of None bytes = bytes
taken_of (Some piece) bytes = min piece bytes

-- this file among the others
abbrev pub with_file : MemState → List ℕ → List ℕ → MemState
with_file state name bytes =
    record state { meanings = record state.meanings { files = insert state.meanings.files name bytes } }

-- one more failure, as far as a u64 counts
abbrev pub raised : ℕ → ℕ
raised count = if count == 2 ^ 64 - 1 then count else count + 1

-- How a call ends, by whether it is scheduled to fail, and whether its case is a failure.
-- A scheduled failure and want of memory raise the count, and nothing else does.
abbrev pub Ends : {T : Type 0} → Bool → Bool → Result T Failed → ℕ → ℕ → Type 0
Ends true failure (Ok _) before now = ⊥
Ends true failure (Err _) before now = now ≡ raised before
Ends false true (Ok _) before now = ⊥
Ends false true (Err _) before now = now ≡ before
Ends false false (Ok _) before now = now ≡ before
Ends false false (Err _) before now = now ≡ raised before
