use Rattle.std.proofs.Common.{ap, ◌∙◌}
use Rattle.std.specs.Str.{chars}
use Rattle.query_tokens.proofs.TokenLists.{found_stands, token_begins, token_end, token_shorter}
use Rattle.query_tokens.proofs.source.first_token.Goals as goal

pub before-requires : goal.before-requires
before-requires c =
    let (kind, after) = c.scan_or_bad-kind.result in
    let stands = found_stands c.args.text.now after.now kind c.utf8.text c.requires.some_text c.scan_or_bad-kind.ensures.chars in
    (stands.text, stands.split)

pub returns-clause-token : goal.returns-clause-token
returns-clause-token c =
    let (kind, after) = c.scan_or_bad-kind.result in
    let stands = found_stands c.args.text.now after.now kind c.utf8.text c.requires.some_text c.scan_or_bad-kind.ensures.chars in
    token_begins c.args.at c.args.text.now after.now c.as_bytes.result.now kind stands c.as_bytes.ensures.utf8 (ap chars c.as_bytes.ensures.value ∙ c.before-2.ensures)

pub returns-clause-end : goal.returns-clause-end
returns-clause-end c =
    let (kind, after) = c.scan_or_bad-kind.result in
    let stands = found_stands c.args.text.now after.now kind c.utf8.text c.requires.some_text c.scan_or_bad-kind.ensures.chars in
    token_end c.args.text.now after.now c.as_bytes.result.now kind stands c.utf8.text c.scan_or_bad-kind.ensures.utf8 c.as_bytes.ensures.utf8 (ap chars c.as_bytes.ensures.value ∙ c.before-2.ensures)

pub returns-clause-shorter : goal.returns-clause-shorter
returns-clause-shorter c =
    let (kind, after) = c.scan_or_bad-kind.result in
    token_shorter c.args.text.now after.now kind (found_stands c.args.text.now after.now kind c.utf8.text c.requires.some_text c.scan_or_bad-kind.ensures.chars)
