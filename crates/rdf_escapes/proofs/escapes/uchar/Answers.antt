use Rattle.std.specs.Str.{chars}
use Rattle.rdf_escapes.proofs.EscapeLaws.{scalar_is_read, no_scalar_is_refused}
use Rattle.rdf_escapes.proofs.escapes.uchar.Goals as goal

pub returns-clause-chars : goal.returns-clause-chars
returns-clause-chars c =
    scalar_is_read c.args.letter c.in_ok-number.number c.in_ok-c.c (chars c.args.text.now) (chars c.in_ok-number.rest.now)
    c.in_ok-number.ensures.chars c.in_ok-c.ensures.value.0 c.in_ok-c.ensures.value.1

pub returns-in_err-c-clause-chars : goal.returns-in_err-c-clause-chars
returns-in_err-c-clause-chars c =
    rw c.from_residual-in_err-c.ensures
    (no_scalar_is_refused c.args.letter c.in_ok-number.number (chars c.args.text.now) (chars c.in_ok-number.rest.now)
    c.in_ok-number.ensures.chars c.in_err-c.ensures.value)
