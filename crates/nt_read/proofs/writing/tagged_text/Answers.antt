use Rattle.std.proofs.Common.{◌++◌, map, ap, ◌∙◌}
use Rattle.std.specs.Prelude.{string_bytes}
use Rattle.std.specs.Char.{to_ascii_lowercase}
use Rattle.std.specs.Str.{chars}
use Rattle.bm_term.specs.Canonical.{plain, canonical_text}
use Rattle.nt_read.specs.scanning.Found.{lexical_of, tag_of}
use Rattle.bm_term.proofs.WrittenTerms.{tagged_bytes}
use Rattle.nt_read.proofs.writing.tagged_text.Goals as goal

pub returns : goal.returns
unfolding tag_of
returns c =
    let lexical = lexical_of c.args.string in
    rw c.into_bytes.ensures.value
    (tagged_bytes lexical (map to_ascii_lowercase (chars c.args.tag.now)) (string_bytes c.push_string.new.out) (string_bytes c.push.new.self) (string_bytes c.push_lower.new.out)
    (c.in_ok-push_string.ensures ∙ ap (λ xs. xs ++ canonical_text (plain lexical)) c.in_ok-out.ensures.bytes)
    c.in_ok-push.ensures.bytes c.in_ok-push_lower.ensures.ok)
