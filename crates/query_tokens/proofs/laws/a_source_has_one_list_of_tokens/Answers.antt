use Rattle.std.specs.Str.{chars}
use Rattle.query_tokens.proofs.OneList.{one_list}
use Rattle.query_tokens.proofs.laws.a_source_has_one_list_of_tokens.Goals as goal

pub returns : goal.returns
returns c = λ source tokens others are are'. one_list tokens others 0 (chars source) are are'
