use Rattle.std.proofs.Common.{sym}
use Rattle.query_values.proofs.SpelledTokens.{SpellsNumber-is, SpellsBoolean-is}
use Rattle.query_values.proofs.value_laws.numbers_and_truth_values_are_typed.Goals as goal

pub returns-clause-number : goal.returns-clause-number
returns-clause-number c = λ token literal s. sym (SpellsNumber-is token literal s)

pub returns-clause-boolean : goal.returns-clause-boolean
returns-clause-boolean c = λ token literal s. sym (SpellsBoolean-is token literal s)
