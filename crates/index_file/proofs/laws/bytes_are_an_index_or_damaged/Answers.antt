use Rattle.index_file.proofs.DecidedLawsOfParts.{index_or_first_failing, index_has_none_failing, first_failing_is_one}
use Rattle.index_file.proofs.laws.bytes_are_an_index_or_damaged.Goals as goal

pub returns-clause-either : goal.returns-clause-either
returns-clause-either c = λ version form bytes. index_or_first_failing version form bytes

pub returns-clause-not_both : goal.returns-clause-not_both
returns-clause-not_both c = λ version form bytes part index failing. index_has_none_failing version form bytes part index failing

pub returns-clause-one_part : goal.returns-clause-one_part
returns-clause-one_part c = λ version form bytes part other first second. first_failing_is_one version form bytes part other first second
