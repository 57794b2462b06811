use Rattle.query_values.proofs.SpelledValues.{lexical_of-spells}
use Rattle.query_values.proofs.TokenLaws.{lexical_characters}
use Rattle.std.proofs.Common.{subst}
use Rattle.query_values.specs.Literals.{SpellsLexical}
use Rattle.query_values.proofs.SpelledTokens.{SpellsLexical-is, lexical_of-spelled}
use Rattle.query_values.proofs.value_laws.strings_stand_for_what_they_spell.Goals as goal

pub returns-clause-spells : goal.returns-clause-spells
returns-clause-spells c = lexical_of-spells

pub returns-clause-characters : goal.returns-clause-characters
returns-clause-characters c = lexical_characters

pub returns-clause-rule : goal.returns-clause-rule
returns-clause-rule c = λ token spelled kind value. (SpellsLexical-is token value, λ e. subst (SpellsLexical token) e (lexical_of-spelled token spelled kind))
