use Rattle.rdf_escapes.proofs.SpellingLaws.{string-one}
use Rattle.rdf_escapes.proofs.laws.a_text_spells_one_form.Goals as goal

pub returns : goal.returns
returns c = string-one
