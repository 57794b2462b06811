use Rattle.query_values.proofs.SourceTokens.{spelled_tokens}
use Rattle.query_values.proofs.value_laws.tokens_are_spelled.Goals as goal

pub returns : goal.returns
returns c = spelled_tokens
