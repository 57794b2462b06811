use Rattle.std.proofs.Common.{◌∙◌, ap}
use Rattle.run_rows.specs.Runs.{runs_of}
use Rattle.run_rows.proofs.EncodingLaws.{runs_of_numbers}
use Rattle.run_rows.proofs.row.RowRef.runs.Goals as goal

pub returns-clause-runs : goal.returns-clause-runs
returns-clause-runs c =
    c.over.ensures ∙ runs_of_numbers c.self.inside.form c.self.inside.bytes.now c.self.invariant ∙ ap runs_of c.self.view_is
