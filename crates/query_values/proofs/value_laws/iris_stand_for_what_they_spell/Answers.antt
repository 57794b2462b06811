use Rattle.query_values.proofs.SpelledValues.{iri_of-spells, iri_of-irichars}
use Rattle.std.proofs.Common.{subst}
use Rattle.query_values.specs.Iris.{SpellsIri}
use Rattle.query_values.proofs.SpelledTokens.{SpellsIri-is, iri_of-spelled}
use Rattle.query_values.proofs.value_laws.iris_stand_for_what_they_spell.Goals as goal

pub returns-clause-spells : goal.returns-clause-spells
returns-clause-spells c = iri_of-spells

pub returns-clause-characters : goal.returns-clause-characters
returns-clause-characters c = iri_of-irichars

pub returns-clause-rule : goal.returns-clause-rule
returns-clause-rule c = λ token spelled kind value. (SpellsIri-is token value, λ e. subst (SpellsIri token) e (iri_of-spelled token spelled kind))
