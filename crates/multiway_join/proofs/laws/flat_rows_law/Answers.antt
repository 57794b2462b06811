use Rattle.multiway_join.proofs.FlatLaws.{each_is_partial, each_maximal_comes}
use Rattle.multiway_join.proofs.laws.flat_rows_law.Goals as goal

pub returns-clause-sound : goal.returns-clause-sound
returns-clause-sound g c = λ interpretation n family counts pattern ordered tells few order row at.
    each_is_partial interpretation tells n family counts pattern ordered few order row at

pub returns-clause-complete : goal.returns-clause-complete
returns-clause-complete g c = λ interpretation n family counts pattern ordered tells few well order row is.
    each_maximal_comes interpretation tells n family counts pattern ordered few order well row is
