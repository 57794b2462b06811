use Rattle.std.proofs.Common.{◌≡◌, ◌++◌, refl}
use Rattle.std.specs.Prelude.{encode_utf8}
use Rattle.std.proofs.lemmas.Str.{chars_past_char}
use Rattle.rdf_text.proofs.text.split_char.Goals as goal

pub returns-clause-chars : goal.returns-clause-chars
returns-clause-chars c =
    let step : c.chars-rest.result.rest.now ≡ encode_utf8 c.in_ok-c.c ++ c.next.new.self.rest.now = c.in_ok-c.ensures.steps.0 in
    let spelled : c.args.text.now ≡ encode_utf8 c.in_ok-c.c ++ c.as_str.result.now = cc in
    rw (chars_past_char c.args.text.now c.as_str.result.now c.in_ok-c.c c.utf8.text spelled) refl
