use Rattle.std.specs.Prelude.{string_bytes}
use Rattle.std.proofs.Common.{◌++◌, ◌∙◌, ap}
use Rattle.bm_term.specs.Canonical.{canonical_text}
use Rattle.query_tokens.specs.Token.{shown}
use Rattle.query_values.specs.reading.Values.{plain_literal}
use Rattle.query_values.proofs.TermLaws.{is_canonical}
use Rattle.query_values.proofs.TokenLaws.{lexical_characters}
use Rattle.query_values.proofs.terms.plain_term.Goals as goal

pub from_canonical-requires : goal.from_canonical-requires
from_canonical-requires c =
    rw c.into_bytes.ensures.value
    (is_canonical (plain_literal (shown c.args.string)) (string_bytes c.push_quoted.new.out) (lexical_characters (shown c.args.string))
    (c.in_ok-push_quoted.ensures ∙ ap (λ xs. xs ++ canonical_text (plain_literal (shown c.args.string))) c.new-text.ensures.bytes))
