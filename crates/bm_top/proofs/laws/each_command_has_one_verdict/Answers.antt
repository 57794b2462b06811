use Rattle.bm_top.specs.Command.{request_of}
use Rattle.bm_top.proofs.StandardLaws.{request_one, request_some}
use Rattle.bm_top.proofs.laws.each_command_has_one_verdict.Goals as goal

pub returns-clause-some : goal.returns-clause-some
returns-clause-some c = λ words files hold. request_some files (request_of words) hold

pub returns-clause-one : goal.returns-clause-one
returns-clause-one c = λ words files verdict other is also. request_one files (request_of words) verdict other is also
