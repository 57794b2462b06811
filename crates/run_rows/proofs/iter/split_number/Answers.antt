use Rattle.run_rows.proofs.ByteLaws.{runs_behind}
use Rattle.run_rows.proofs.iter.split_number.Goals as goal

pub returns-clause-left_runs : goal.returns-clause-left_runs
returns-clause-left_runs c =
    runs_behind _ c.in_ok-run.run' _ _ c.in_ok-run.ensures.spelled c.in_ok-run.ensures.first c.requires.runs
