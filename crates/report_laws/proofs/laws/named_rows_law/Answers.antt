use Rattle.report_laws.proofs.NamedConsistent.{greatest_named}
use Rattle.report_laws.proofs.NamedTree.{flat_rows_named, best_rows_named}
use Rattle.report_laws.proofs.laws.named_rows_law.Goals as goal

pub returns-clause-flat : goal.returns-clause-flat
returns-clause-flat g c = λ names interpretation value triple n tree family counts ordered tells tells' naming apart order.
    flat_rows_named names interpretation value triple n tree family counts ordered tells tells' naming apart order

pub returns-clause-best : goal.returns-clause-best
returns-clause-best g c = λ names interpretation value triple n tree family counts ordered best tells tells' naming apart order are.
    best_rows_named names interpretation value triple n tree family counts ordered tells tells' naming apart order best are

pub returns-clause-left : goal.returns-clause-left
returns-clause-left g c = λ names interpretation value triple tree family left tells naming apart is.
    greatest_named names interpretation value triple naming tells tree family apart left is
