use Rattle.std.proofs.Common.{ap, ◌∙◌}
use Rattle.std.specs.Str.{chars}
use Rattle.rdf_text.specs.Classes.{is_irichar}
use Rattle.rdf_text.specs.Marks.{greater_than, less_than}
use Rattle.rdf_text.specs.scanning.Text.{after_char}
use Rattle.nt_read.specs.scanning.Found.{iri_of}
use Rattle.nt_read.proofs.RawLaws.{begins_with_run, run_has_rest, iri_run_is_read, iri_run_is_canonical}
use Rattle.nt_read.proofs.terminals.iri_ref.Goals as goal

pub before-requires : goal.before-requires
before-requires c =
    run_has_rest is_irichar less_than greater_than (chars c.args.text.now) (chars c.in-Some.rest.now)
    (begins_with_run is_irichar less_than greater_than (chars c.args.text.now) (chars c.in_ok-body.body.now) (chars c.in-Some.rest.now)
    c.in_ok-body.ensures.chars (c.in-Some.ensures.chars ∙ ap (after_char greater_than) c.after_irichars.ensures))

pub returns-in-Some-clause-chars : goal.returns-in-Some-clause-chars
unfolding iri_of
returns-in-Some-clause-chars c =
    rw c.before-in-Some.ensures
    (iri_run_is_read (chars c.args.text.now) (chars c.in-Some.rest.now)
    (begins_with_run is_irichar less_than greater_than (chars c.args.text.now) (chars c.in_ok-body.body.now) (chars c.in-Some.rest.now)
    c.in_ok-body.ensures.chars (c.in-Some.ensures.chars ∙ ap (after_char greater_than) c.after_irichars.ensures)))

pub returns-in-Some-clause-is : goal.returns-in-Some-clause-is
unfolding iri_of
returns-in-Some-clause-is c = (
  (
    c.before-in-Some.utf8,
    rw c.before-in-Some.ensures
        (iri_run_is_canonical (chars c.args.text.now) (chars c.in-Some.rest.now)
        (begins_with_run is_irichar less_than greater_than (chars c.args.text.now) (chars c.in_ok-body.body.now) (chars c.in-Some.rest.now)
        c.in_ok-body.ensures.chars (c.in-Some.ensures.chars ∙ ap (after_char greater_than) c.after_irichars.ensures))),
  ),
  c.in-Some.ensures.utf8,
)
