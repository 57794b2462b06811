use Rattle.query_values.proofs.SpelledValues.{name_of-spells}
use Rattle.std.proofs.Common.{subst}
use Rattle.query_values.specs.Variables.{SpellsVariable}
use Rattle.query_values.proofs.SpelledTokens.{SpellsVariable-is, name_of-spelled}
use Rattle.query_values.proofs.value_laws.variables_are_named_after_their_mark.Goals as goal

pub returns-clause-spells : goal.returns-clause-spells
returns-clause-spells c = name_of-spells

pub returns-clause-rule : goal.returns-clause-rule
returns-clause-rule c = λ token spelled kind value. (SpellsVariable-is token value, λ e. subst (SpellsVariable token) e (name_of-spelled token spelled kind))
