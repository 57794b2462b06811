use Rattle.rdf_escapes.proofs.Members.{iri_values-irichars, string_values-characters}
use Rattle.rdf_escapes.proofs.laws.values_are_characters.Goals as goal

pub returns-clause-iri : goal.returns-clause-iri
returns-clause-iri c = iri_values-irichars

pub returns-clause-string : goal.returns-clause-string
returns-clause-string c = string_values-characters
