use Rattle.null_best.proofs.Better.{law-exactly}
use Rattle.null_best.proofs.laws.best_rows_law.Goals as goal

pub returns-clause-exactly : goal.returns-clause-exactly
returns-clause-exactly g c = λ interpretation n tree family rows best. law-exactly interpretation n tree family rows best

pub returns-clause-once : goal.returns-clause-once
returns-clause-once g c = λ rows best are. are.once
