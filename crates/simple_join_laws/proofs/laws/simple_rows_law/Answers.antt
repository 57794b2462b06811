use Rattle.simple_join_laws.proofs.SimpleRows.{exactly_maximal, each_row_once, rows_are_best}
use Rattle.simple_join_laws.proofs.laws.simple_rows_law.Goals as goal

pub returns-clause-exactly : goal.returns-clause-exactly
returns-clause-exactly g c = λ interpretation n counts pattern ordered whole left tells well keeps forests share matches greatest order row.
    exactly_maximal interpretation n counts pattern ordered whole left tells well keeps forests share matches greatest order row

pub returns-clause-once : goal.returns-clause-once
returns-clause-once g c = λ interpretation n counts pattern ordered whole left tells well keeps forests share matches greatest order each.
    each_row_once interpretation n counts pattern ordered whole left tells well keeps forests share matches greatest order each

pub returns-clause-best : goal.returns-clause-best
returns-clause-best g c = λ interpretation n counts pattern ordered whole left tells well keeps forests share matches greatest order each.
    rows_are_best interpretation n counts pattern ordered whole left tells well keeps forests share matches greatest order each
