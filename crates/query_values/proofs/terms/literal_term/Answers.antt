use Rattle.std.proofs.lemmas.Str.{scalars-chars}
use Rattle.std.specs.Prelude.{string_bytes}
use Rattle.std.specs.Str.{chars}
use Rattle.bm_term.specs.Canonical.{typed}
use Rattle.query_values.proofs.TermLaws.{is_canonical, literal_bytes}
use Rattle.query_values.proofs.terms.literal_term.Goals as goal

pub from_canonical-requires : goal.from_canonical-requires
from_canonical-requires c =
    rw c.into_bytes.ensures.value
    (is_canonical (typed (chars c.args.lexical.now) (chars c.args.datatype.now)) (string_bytes c.push_datatype.new.out)
    (scalars-chars c.args.lexical.now c.utf8.lexical, c.requires.characters, c.requires.other)
    (literal_bytes (chars c.args.lexical.now) (chars c.args.datatype.now) (string_bytes c.new-text.result) (string_bytes c.push.new.self)
    (string_bytes c.push_escaped.new.out) (string_bytes c.push-2.new.self) (string_bytes c.push_datatype.new.out)
    c.new-text.ensures.bytes c.in_ok-push.ensures.bytes c.in_ok-push_escaped.ensures c.in_ok-push-2.ensures.bytes c.in_ok-push_datatype.ensures))

pub returns : goal.returns
returns c =
    rw (c.from_canonical.ensures, c.into_bytes.ensures.value)
    (literal_bytes (chars c.args.lexical.now) (chars c.args.datatype.now) (string_bytes c.new-text.result) (string_bytes c.push.new.self)
    (string_bytes c.push_escaped.new.out) (string_bytes c.push-2.new.self) (string_bytes c.push_datatype.new.out)
    c.new-text.ensures.bytes c.in_ok-push.ensures.bytes c.in_ok-push_escaped.ensures c.in_ok-push-2.ensures.bytes c.in_ok-push_datatype.ensures)
