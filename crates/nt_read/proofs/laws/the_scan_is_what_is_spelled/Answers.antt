use Rattle.nt_read.proofs.LineLaws.{spelled_is_read, nothing_is_read, bad_is_read, scanned_is_spelled, scanned_is_nothing, scanned_is_bad}
use Rattle.nt_read.proofs.laws.the_scan_is_what_is_spelled.Goals as goal

pub returns-clause-triple : goal.returns-clause-triple
returns-clause-triple c = λ line triple. (scanned_is_spelled line triple, spelled_is_read line triple)

pub returns-clause-nothing : goal.returns-clause-nothing
returns-clause-nothing c = λ line. (scanned_is_nothing line, nothing_is_read line)

pub returns-clause-bad : goal.returns-clause-bad
returns-clause-bad c = λ line. (scanned_is_bad line, bad_is_read line)
