use Rattle.std.proofs.Common.{◌++◌, refl, [], ◌∷◌}
use Rattle.std.specs.Prelude.{string_bytes}
use Rattle.std.specs.Str.{chars, encode_utf8_all}
use Rattle.std.specs.List.{filter}
use Rattle.query_values.specs.reading.Values.{is_no_backslash}
use Rattle.rdf_text.proofs.WalkLaws.{walk_step, walk_end}
use Rattle.std.proofs.lemmas.List.Elements.{filter-append}
use Rattle.query_values.proofs.values.push_without_backslashes.Goals as goal

pub loop-c-preserved : goal.loop-c-preserved
loop-c-preserved c = (
  c.in-Some.ensures.utf8,
  walk_step (filter is_no_backslash) (λ c. filter is_no_backslash (c ∷ [])) (λ c cs. filter-append is_no_backslash (c ∷ []) cs) (string_bytes c.loop-c.out) (string_bytes c.push_no_backslash.new.out) (chars c.loop-c.rest.now) (chars c.in-Some.after.now)
      (string_bytes c.args.out.now ++ encode_utf8_all (filter is_no_backslash (chars c.args.text.now))) c.in-Some.c
      (c.in_ok-push_no_backslash.ensures) c.in-Some.ensures.chars c.loop-c.invariant.1,
)

pub returns : goal.returns
returns c =
    walk_end (filter is_no_backslash) (λ c. filter is_no_backslash (c ∷ [])) refl (string_bytes c.loop-c.out) (chars c.loop-c.rest.now)
    (string_bytes c.args.out.now ++ encode_utf8_all (filter is_no_backslash (chars c.args.text.now)))
    c.in_default.ensures.chars c.loop-c.invariant.1
