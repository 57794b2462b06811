use Rattle.std.proofs.Common.{subst, sym}
use Rattle.query_tokens.specs.Tokens.{AreTokens}
use Rattle.query_tokens.proofs.TokenLists.{slices_of}
use Rattle.query_tokens.proofs.source.text_tokens.Goals as goal

pub returns-clause-slices : goal.returns-clause-slices
returns-clause-slices c = slices_of c.args.text.now c.of.result c.utf8.text (subst (AreTokens c.args.text.now) (sym c.of.ensures) c.in_ok-tokens_of.ensures)
