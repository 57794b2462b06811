use Rattle.std.proofs.Common.{length, ap, arith}
use Rattle.index_image.proofs.MeasureLaws.{IsImageOf-numbers, IsIndex-numbers}
use Rattle.index_image.proofs.writing.image.Goals as goal

pub returns-clause-image : goal.returns-clause-image
returns-clause-image c = λ graph numbers. IsImageOf-numbers c.args.form c.args.numbers.now _ graph numbers c.requires c.in_ok-image.ensures (omega (arith, ap length c.in_ok-image.ensures, c.in_ok-lengths.ensures.short))

pub returns-clause-index : goal.returns-clause-index
returns-clause-index c = λ graph numbers. IsIndex-numbers c.args.form graph _ (IsImageOf-numbers c.args.form c.args.numbers.now _ graph numbers c.requires c.in_ok-image.ensures (omega (arith, ap length c.in_ok-image.ensures, c.in_ok-lengths.ensures.short)))
