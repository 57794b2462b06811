use Rattle.nt_read.specs.scanning.Line.{bad, nothing, spelled}
use Rattle.nt_read.proofs.LineLaws.{spelled_is_read, nothing_is_read, bad_is_read}
use Rattle.nt_read.proofs.LineAnswers.{answers_spelled, answers_nothing, answers_bad, answers_rdf, answers_only}
use Rattle.nt_read.proofs.line.read_line.Goals as goal

pub returns-clause-spelled : goal.returns-clause-spelled
returns-clause-spelled c = answers_spelled c.args.line.now c.read.result c.read.ensures

pub returns-clause-nothing : goal.returns-clause-nothing
returns-clause-nothing c = answers_nothing c.args.line.now c.read.result c.read.ensures

pub returns-clause-bad : goal.returns-clause-bad
returns-clause-bad c = answers_bad c.args.line.now c.read.result c.read.ensures

pub returns-clause-triple : goal.returns-clause-triple
returns-clause-triple c = answers_rdf c.args.line.now c.read.result c.read.ensures

pub returns-clause-only_spelled : goal.returns-clause-only_spelled
returns-clause-only_spelled c =
    λ triple s. answers_only c.args.line.now (spelled triple) c.read.result c.read.ensures (spelled_is_read c.args.line.now triple s)

pub returns-clause-only_nothing : goal.returns-clause-only_nothing
returns-clause-only_nothing c =
    λ s. answers_only c.args.line.now nothing c.read.result c.read.ensures (nothing_is_read c.args.line.now s)

pub returns-clause-only_bad : goal.returns-clause-only_bad
returns-clause-only_bad c =
    λ s. answers_only c.args.line.now bad c.read.result c.read.ensures (bad_is_read c.args.line.now s)
