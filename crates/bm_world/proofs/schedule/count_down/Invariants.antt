use Rattle.std.proofs.Common.{◌≡◌, ◌++◌, take, drop}
use Rattle.bm_world.specs.Schedule.{after_call}
use Rattle.bm_world.proofs.schedule.count_down.Given as goal

abbrev pub invariant-loop-entry : goal.invariant-loop-entry
invariant-loop-entry l = l.entries ≡ after_call l.call (take l.entry-index l.fn.entries) ++ drop l.entry-index l.fn.entries
