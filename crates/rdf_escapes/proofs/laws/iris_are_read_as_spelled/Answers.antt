use Rattle.rdf_escapes.proofs.SpellingLaws.{iri_ref-sound, iri_ref-again}
use Rattle.rdf_escapes.proofs.laws.iris_are_read_as_spelled.Goals as goal

pub returns-clause-found : goal.returns-clause-found
returns-clause-found c = iri_ref-sound

pub returns-clause-only : goal.returns-clause-only
returns-clause-only c = iri_ref-again
