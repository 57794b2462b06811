use Rattle.std.proofs.Common.{sym}
use Rattle.query_tokens.proofs.PrefixBounds.{none_here}
use Rattle.query_tokens.proofs.prefixed_names.find_prefix.Goals as goal

pub returns-then-text-unprefixed-clause-chars : goal.returns-then-text-unprefixed-clause-chars
returns-then-text-unprefixed-clause-chars c =
    sym (none_here c.args.unprefixed c.args.text.now c.utf8.text c.requires c.if-text-unprefixed.true)
