use Rattle.std.proofs.Common.{subst}
use Rattle.std.specs.Str.{chars}
use Rattle.nt_read.specs.scanning.Line.{scan_chars, AnswersLine}
use Rattle.nt_read.proofs.LineLaws.{line_of_text, line_of_other_bytes}
use Rattle.nt_read.proofs.line.read.Goals as goal

pub returns-in-Ok : goal.returns-in-Ok
returns-in-Ok c =
    let (same, utf8) = c.in-Ok.ensures.cases in
    let scanned = line_of_text c.args.line.now utf8 in
    rw scanned (subst (λ text. AnswersLine (scan_chars (chars text)) c.read_text.result) same c.read_text.ensures)

pub returns-in-Err : goal.returns-in-Err
returns-in-Err c = line_of_other_bytes c.args.line.now c.in-Err.ensures.cases.0
