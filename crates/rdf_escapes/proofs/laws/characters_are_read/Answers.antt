use Rattle.rdf_escapes.proofs.CharacterLaws.{iri_piece-over, string_piece-over}
use Rattle.rdf_escapes.proofs.laws.characters_are_read.Goals as goal

pub returns-clause-iri : goal.returns-clause-iri
returns-clause-iri c = iri_piece-over

pub returns-clause-string : goal.returns-clause-string
returns-clause-string c = string_piece-over
