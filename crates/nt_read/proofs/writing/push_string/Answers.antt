use Rattle.std.specs.Prelude.{string_bytes}
use Rattle.std.specs.Str.{chars}
use Rattle.bm_term.specs.Canonical.{plain}
use Rattle.rdf_text.specs.Spelling.{escaped}
use Rattle.rdf_text.specs.Marks.{quotation_mark}
use Rattle.nt_read.specs.declared.found.FoundText.TheVariants.{Raw}
use Rattle.nt_read.specs.scanning.Found.{lexical_of}
use Rattle.rdf_escapes.specs.scanning.Pieces.{values}
use Rattle.rdf_escapes.specs.scanning.Strings.{string_piece}
use Rattle.bm_term.proofs.WrittenTerms.{pushed_marked}
use Rattle.nt_read.proofs.WritingLaws.{raw_bytes, pushed_raw}
use Rattle.nt_read.proofs.writing.push_string.Goals as goal

pub returns-in-Raw : goal.returns-in-Raw
returns-in-Raw c =
    let term = plain (lexical_of (Raw c.in-Raw.text)) in
    rw c.in-Raw.is
    (pushed_raw c.push_str.result (string_bytes c.args.out.now) (string_bytes c.push_str.new.self) c.in-Raw.text.now term
    c.push_str.ensures.bytes (raw_bytes c.in-Raw.text.now term (rw c.in-Raw.is at c.requires)))

pub returns-in_ok-push_string_pieces-in-Escaped : goal.returns-in_ok-push_string_pieces-in-Escaped
unfolding lexical_of
returns-in_ok-push_string_pieces-in-Escaped c =
    rw c.in-Escaped.is
    (pushed_marked c.push-in-Escaped.result (string_bytes c.args.out.now) (string_bytes c.push.new.self) (string_bytes c.push_string_pieces.new.out)
    (string_bytes c.push-in-Escaped.new.self) (escaped (values (string_piece quotation_mark) (chars c.in-Escaped.body.now))) quotation_mark quotation_mark
    c.in_ok-push-in-Escaped.ensures.bytes c.in_ok-push_string_pieces-in-Escaped.ensures.ok c.push-in-Escaped.ensures.bytes)
