use Rattle.run_rows.proofs.ByteLaws.{runs_behind}
use Rattle.run_rows.proofs.iter.split_first_run.Goals as goal

pub returns-clause-left : goal.returns-clause-left
returns-clause-left c =
    runs_behind _ c.in_ok-run.run' _ _ c.in_ok-run.ensures.spelled c.in_ok-run.ensures.first c.requires
