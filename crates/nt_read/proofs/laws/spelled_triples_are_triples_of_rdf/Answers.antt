use Rattle.nt_read.proofs.LineLaws.{spelled_is_rdf}
use Rattle.nt_read.proofs.laws.spelled_triples_are_triples_of_rdf.Goals as goal

pub returns : goal.returns
returns c = spelled_is_rdf
