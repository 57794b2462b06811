use Rattle.rdf_escapes.proofs.SpellingLaws.{string-sound, string-again}
use Rattle.rdf_escapes.proofs.laws.strings_are_read_as_spelled.Goals as goal

pub returns-clause-found : goal.returns-clause-found
returns-clause-found c = string-sound

pub returns-clause-only : goal.returns-clause-only
returns-clause-only c = string-again
