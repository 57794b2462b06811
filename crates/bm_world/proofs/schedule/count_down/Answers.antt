use Rattle.std.proofs.Common.{rules}
use Rattle.std.proofs.lemmas.List.Edits.{map_over_more}
use Rattle.bm_world.specs.Schedule.{count_call}
use Rattle.bm_world.proofs.schedule.count_down.Goals as goal

pub loop-entry-preserved : goal.loop-entry-preserved
loop-entry-preserved c = search (rules, map_over_more (count_call c.args.call))
