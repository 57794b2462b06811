use Rattle.std.proofs.Common.{◌++◌, refl}
use Rattle.std.specs.Prelude.{string_bytes}
use Rattle.std.specs.Str.{chars, encode_utf8_all}
use Rattle.rdf_text.specs.Spelling.{escaped, spelling}
use Rattle.rdf_text.proofs.WalkLaws.{walk_step, walk_end}
use Rattle.query_values.proofs.terms.push_escaped.Goals as goal

pub loop-c-preserved : goal.loop-c-preserved
loop-c-preserved c = (
  c.in-Some.ensures.utf8,
  walk_step (escaped) (spelling) (λ c cs. refl) (string_bytes c.loop-c.out) (string_bytes c.push_spelling.new.out) (chars c.loop-c.rest.now) (chars c.in-Some.after.now)
      (string_bytes c.args.out.now ++ encode_utf8_all (escaped (chars c.args.text.now))) c.in-Some.c
      (c.in_ok-push_spelling.ensures.ok) c.in-Some.ensures.chars c.loop-c.invariant.1,
)

pub returns : goal.returns
returns c =
    walk_end (escaped) (spelling) refl (string_bytes c.loop-c.out) (chars c.loop-c.rest.now)
    (string_bytes c.args.out.now ++ encode_utf8_all (escaped (chars c.args.text.now)))
    c.in_default.ensures.chars c.loop-c.invariant.1
