use Rattle.query_values.proofs.SpelledValues.{tag_of-spells}
use Rattle.query_values.proofs.TokenLaws.{tag_of-lower}
use Rattle.std.proofs.Common.{subst}
use Rattle.query_values.specs.Literals.{SpellsTag}
use Rattle.query_values.proofs.SpelledTokens.{SpellsTag-is, tag_of-spelled}
use Rattle.query_values.proofs.value_laws.tags_stand_for_themselves_in_lower_case.Goals as goal

pub returns-clause-spells : goal.returns-clause-spells
returns-clause-spells c = tag_of-spells

pub returns-clause-lower : goal.returns-clause-lower
returns-clause-lower c = tag_of-lower

pub returns-clause-rule : goal.returns-clause-rule
returns-clause-rule c = λ token spelled kind value. (SpellsTag-is token value, λ e. subst (SpellsTag token) e (tag_of-spelled token spelled kind))
