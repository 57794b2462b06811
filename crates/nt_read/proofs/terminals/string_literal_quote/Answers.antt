use Rattle.std.proofs.Common.{ap, ◌∙◌}
use Rattle.std.specs.Str.{chars}
use Rattle.rdf_text.specs.Marks.{quotation_mark}
use Rattle.rdf_text.specs.scanning.Text.{after_char}
use Rattle.rdf_text.specs.scanning.Bytes.{is_raw_char}
use Rattle.nt_read.specs.scanning.Found.{lexical_of}
use Rattle.nt_read.proofs.RawLaws.{begins_with_run, run_has_rest, string_run_is_read, string_run_is_canonical}
use Rattle.nt_read.proofs.terminals.string_literal_quote.Goals as goal

pub before-requires : goal.before-requires
before-requires c =
    run_has_rest is_raw_char quotation_mark quotation_mark (chars c.args.text.now) (chars c.in-Some.rest.now)
    (begins_with_run is_raw_char quotation_mark quotation_mark (chars c.args.text.now) (chars c.in_ok-body.body.now) (chars c.in-Some.rest.now)
    c.in_ok-body.ensures.chars (c.in-Some.ensures.chars ∙ ap (after_char quotation_mark) c.after_raw_chars.ensures))

pub returns-in-Some-clause-chars : goal.returns-in-Some-clause-chars
unfolding lexical_of
returns-in-Some-clause-chars c =
    rw c.before-in-Some.ensures
    (string_run_is_read (chars c.args.text.now) (chars c.in-Some.rest.now)
    (begins_with_run is_raw_char quotation_mark quotation_mark (chars c.args.text.now) (chars c.in_ok-body.body.now) (chars c.in-Some.rest.now)
    c.in_ok-body.ensures.chars (c.in-Some.ensures.chars ∙ ap (after_char quotation_mark) c.after_raw_chars.ensures)))

pub returns-in-Some-clause-is : goal.returns-in-Some-clause-is
unfolding lexical_of
returns-in-Some-clause-is c = (
  (
    c.before-in-Some.utf8,
    rw c.before-in-Some.ensures
        (string_run_is_canonical (chars c.args.text.now) (chars c.in-Some.rest.now)
        (begins_with_run is_raw_char quotation_mark quotation_mark (chars c.args.text.now) (chars c.in_ok-body.body.now) (chars c.in-Some.rest.now)
        c.in_ok-body.ensures.chars (c.in-Some.ensures.chars ∙ ap (after_char quotation_mark) c.after_raw_chars.ensures))),
  ),
  c.in-Some.ensures.utf8,
)
