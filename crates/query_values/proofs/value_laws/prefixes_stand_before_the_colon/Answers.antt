use Rattle.query_values.proofs.SpelledValues.{prefix_of-spells}
use Rattle.std.proofs.Common.{subst}
use Rattle.query_values.specs.Iris.{SpellsPrefix}
use Rattle.query_values.proofs.SpelledTokens.{SpellsPrefix-is, prefix_of-spelled}
use Rattle.query_values.proofs.value_laws.prefixes_stand_before_the_colon.Goals as goal

pub returns-clause-spells : goal.returns-clause-spells
returns-clause-spells c = prefix_of-spells

pub returns-clause-rule : goal.returns-clause-rule
returns-clause-rule c = λ token spelled kind value. (SpellsPrefix-is token value, λ e. subst (SpellsPrefix token) e (prefix_of-spelled token spelled kind))
