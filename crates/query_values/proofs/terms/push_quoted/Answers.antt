use Rattle.std.proofs.Common.{◌++◌, ◌∙◌, ap}
use Rattle.std.specs.Prelude.{string_bytes}
use Rattle.std.specs.Str.{chars, encode_utf8_all}
use Rattle.rdf_text.specs.Spelling.{escaped}
use Rattle.rdf_text.specs.Marks.{quotation_mark}
use Rattle.query_tokens.specs.Token.{shown}
use Rattle.query_values.specs.reading.Values.{between_marks, lexical_of}
use Rattle.bm_term.proofs.WrittenTerms.{pushed_marked}
use Rattle.query_values.proofs.terms.push_quoted.Goals as goal

pub returns : goal.returns
unfolding lexical_of
returns c =
    pushed_marked c.push-2.result (string_bytes c.args.out.now) (string_bytes c.push.new.self) (string_bytes c.push_between_marks.new.out)
    (string_bytes c.push-2.new.self) (escaped (lexical_of (shown c.args.string))) quotation_mark quotation_mark
    c.in_ok-push.ensures.bytes
    (c.in_ok-push_between_marks.ensures ∙ ap (λ text. string_bytes c.push.new.self ++ encode_utf8_all (escaped (between_marks (chars text)))) c.text_of.ensures)
    c.push-2.ensures.bytes
