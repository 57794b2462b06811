use Rattle.std.specs.Prelude.{string_bytes}
use Rattle.std.proofs.Common.{◌++◌, ◌∙◌, ap}
use Rattle.std.specs.Str.{chars}
use Rattle.bm_term.specs.Canonical.{iri, canonical_text}
use Rattle.query_values.proofs.TermLaws.{is_canonical}
use Rattle.query_values.proofs.terms.iri_term.Goals as goal

pub from_canonical-requires : goal.from_canonical-requires
from_canonical-requires c =
    rw c.into_bytes.ensures.value
    (is_canonical (iri (chars c.args.iri.now)) (string_bytes c.push_iri.new.out) c.requires
    (c.in_ok-push_iri.ensures ∙ ap (λ xs. xs ++ canonical_text (iri (chars c.args.iri.now))) c.new-text.ensures.bytes))
