use Rattle.result_write.proofs.MemberLaws.{members-all, members-ascend}
use Rattle.result_write.proofs.laws.members_are_the_bound_columns_by_name.Goals as goal

pub returns-clause-all : goal.returns-clause-all
returns-clause-all c = members-all

pub returns-clause-ascend : goal.returns-clause-ascend
returns-clause-ascend c = members-ascend
