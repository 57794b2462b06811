use Rattle.query_tokens.proofs.OneList.{one_kind}
use Rattle.query_tokens.proofs.laws.a_text_is_of_one_kind.Goals as goal

pub returns : goal.returns
returns c = one_kind
