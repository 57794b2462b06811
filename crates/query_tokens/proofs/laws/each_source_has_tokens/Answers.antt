use Rattle.std.proofs.Common.{length, arith}
use Rattle.std.specs.Str.{chars}
use Rattle.query_tokens.proofs.OneList.{some_list}
use Rattle.query_tokens.proofs.laws.each_source_has_tokens.Goals as goal

pub returns : goal.returns
returns c = λ source. some_list (length (chars source)) 0 (chars source) (omega arith)
