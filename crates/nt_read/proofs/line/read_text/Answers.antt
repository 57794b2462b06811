use Rattle.std.proofs.Common.{ap, ◌∙◌, sym}
use Rattle.std.specs.Str.{chars}
use Rattle.nt_read.specs.scanning.Found.{terms_found}
use Rattle.nt_read.specs.scanning.Line.{spelled}
use Rattle.nt_read.proofs.LineLaws.{statement_is_terms, statement_is_spelled, no_statement_is_bad, end_is_nothing}
use Rattle.nt_read.proofs.line.read_text.Goals as goal

pub returns-then-is_end : goal.returns-then-is_end
returns-then-is_end c = end_is_nothing (chars c.args.text.now) (sym c.is_end.ensures ∙ c.if-is_end.true)

pub triple-requires-clause-terms : goal.triple-requires-clause-terms
triple-requires-clause-terms c =
    let terms = terms_found c.in-Some.found in
    let (subject, predicate, object) = statement_is_terms (chars c.args.text.now) terms.0 terms.1 terms.2 (sym c.in-Some.ensures.chars) in
    record { subject = subject; predicate = predicate; object = object }

pub returns-in-Ok : goal.returns-in-Ok
returns-in-Ok c =
    statement_is_spelled (chars c.args.text.now) (terms_found c.in-Some.found) (sym c.is_end.ensures ∙ c.if-is_end.false) c.in-Some.ensures.chars
    ∙ ap spelled (sym c.in-Ok.ensures)

pub returns-in-None : goal.returns-in-None
returns-in-None c = no_statement_is_bad (chars c.args.text.now) (sym c.is_end.ensures ∙ c.if-is_end.false) c.in-None.ensures.chars
