use Rattle.std.specs.Prelude.{string_bytes}
use Rattle.std.specs.Str.{chars}
use Rattle.rdf_text.specs.Marks.{less_than, greater_than}
use Rattle.bm_term.proofs.WrittenTerms.{pushed_marked}
use Rattle.query_values.proofs.TermLaws.{text_bytes}
use Rattle.query_values.proofs.terms.push_iri.Goals as goal

pub returns : goal.returns
returns c =
    pushed_marked c.push-2.result (string_bytes c.args.out.now) (string_bytes c.push.new.self) (string_bytes c.push_str.new.self)
    (string_bytes c.push-2.new.self) (chars c.args.iri.now) less_than greater_than
    c.in_ok-push.ensures.bytes
    (text_bytes (string_bytes c.push.new.self) (string_bytes c.push_str.new.self) c.args.iri.now c.utf8.iri c.in_ok-push_str.ensures.bytes)
    c.push-2.ensures.bytes
