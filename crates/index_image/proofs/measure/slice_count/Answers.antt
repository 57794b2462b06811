use Rattle.std.proofs.Common.{arith}
use Rattle.index_image.proofs.MeasureLaws.{length-all_pairs}
use Rattle.index_image.proofs.measure.slice_count.Goals as goal

pub returns-clause-count : goal.returns-clause-count
returns-clause-count c = omega (arith, length-all_pairs c.args.numbers.now, c.slices_in.ensures.count, c.slices_in-2.ensures.count, c.slices_in-3.ensures.count, c.slices_in-4.ensures.count)
