use Rattle.query_values.proofs.SpelledValues.{typed_is_term, number_is_term, boolean_is_term}
use Rattle.query_values.proofs.TokenLaws.{lexical_characters, tag_of-lower, rdf_type-irichars}
use Rattle.query_values.proofs.value_laws.literals_are_terms.Goals as goal

pub returns-clause-plain : goal.returns-clause-plain
returns-clause-plain c = lexical_characters

pub returns-clause-tagged : goal.returns-clause-tagged
returns-clause-tagged c = λ string tag spelled kind. (lexical_characters string, tag_of-lower tag spelled kind)

pub returns-clause-typed : goal.returns-clause-typed
returns-clause-typed c = typed_is_term

pub returns-clause-number : goal.returns-clause-number
returns-clause-number c = number_is_term

pub returns-clause-boolean : goal.returns-clause-boolean
returns-clause-boolean c = boolean_is_term

pub returns-clause-word : goal.returns-clause-word
returns-clause-word c = rdf_type-irichars
