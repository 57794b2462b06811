use Rattle.report_laws.proofs.Lengths.{lengths_by_place}
use Rattle.report_laws.proofs.OneReport.{one_report}
use Rattle.report_laws.proofs.Reports.{is_report}
use Rattle.report_laws.proofs.laws.report_law.Goals as goal

pub returns-clause-report : goal.returns-clause-report
returns-clause-report c = λ graph numbering n pattern p pruned triple ordered simple before after rows best numbers shows tells left shape were are order flat chosen.
    is_report graph numbering n pattern p pruned triple numbers shows tells left ordered simple before after rows best shape were are order flat chosen

pub returns-clause-lengths : goal.returns-clause-lengths
returns-clause-lengths c = λ n pattern lists lengths keeps long each. lengths_by_place n pattern lists lengths keeps long each

pub returns-clause-one : goal.returns-clause-one
returns-clause-one c = λ n pattern graph simple simple' before before' after after' listed listed' kept kept' keeps a b.
    one_report n pattern graph simple simple' before before' after after' listed listed' kept kept' keeps a b
