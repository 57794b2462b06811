use Rattle.std.proofs.Common.{◌++◌, refl, map, [], ◌∷◌, ◌∙◌, ap, append-nil, sym}
use Rattle.std.specs.Prelude.{string_bytes, encode_utf8}
use Rattle.std.specs.Str.{chars, encode_utf8_all}
use Rattle.std.specs.Char.{to_ascii_lowercase}
use Rattle.rdf_text.proofs.WalkLaws.{walk_step, walk_end}
use Rattle.rdf_text.proofs.writing.push_lower.Goals as goal

pub loop-c-preserved : goal.loop-c-preserved
loop-c-preserved c = (
  c.in-Some.ensures.utf8,
  walk_step (map to_ascii_lowercase) (λ c. to_ascii_lowercase c ∷ []) (λ c cs. refl) (string_bytes c.loop-c.out) (string_bytes c.push.new.self) (chars c.loop-c.rest.now) (chars c.in-Some.after.now)
      (string_bytes c.args.out.now ++ encode_utf8_all (map to_ascii_lowercase (chars c.args.text.now))) c.in-Some.c
      (c.in_ok-push.ensures.bytes ∙ ap (λ xs. string_bytes c.loop-c.out ++ xs) (ap encode_utf8 c.to_ascii_lowercase.ensures.value ∙ sym (append-nil _))) c.in-Some.ensures.chars c.loop-c.invariant.1,
)

pub returns-clause-ok : goal.returns-clause-ok
returns-clause-ok c =
    walk_end (map to_ascii_lowercase) (λ c. to_ascii_lowercase c ∷ []) refl (string_bytes c.loop-c.out) (chars c.loop-c.rest.now)
    (string_bytes c.args.out.now ++ encode_utf8_all (map to_ascii_lowercase (chars c.args.text.now)))
    c.in_default.ensures.chars c.loop-c.invariant.1
