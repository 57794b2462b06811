use Rattle.std.proofs.Common.{arith}
use Rattle.index_file.proofs.IndexLaws.{index_of_image, never_failing}
use Rattle.index_file.proofs.index.Index.open.Goals as goal

pub returns-in-Some-clause-image : goal.returns-in-Some-clause-image
returns-in-Some-clause-image c = λ graph image.
    absurd (never_failing c.args.bytes.now _ (index_of_image graph c.args.bytes.now (λ i. omega (arith, c.type_inv.bytes i)) image) c.in-Some.ensures.some)
