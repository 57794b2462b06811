use Rattle.rdf_escapes.proofs.SpellingLaws.{iri_ref-one}
use Rattle.rdf_escapes.proofs.laws.a_text_spells_one_iri.Goals as goal

pub returns : goal.returns
returns c = iri_ref-one
