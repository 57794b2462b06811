use Rattle.std.proofs.Common.{eqb, eqb-true, eq-eqb, not, arith, w64}
use Rattle.std.proofs.lemmas.Simd.{length-chunk, bitmask_splat}
use Rattle.std.specs.Simd.Lanes.{chunk}
use Rattle.row_lanes.proofs.ZeroLaws.{mask_l-zero_block}
use Rattle.row_lanes.proofs.lanes.is_zero_block.Goals as goal

pub returns : goal.returns
returns c =
    let words = c.args.words.now in
    let lanes = bitmask_splat w64 (λ a b. not (eqb a b)) (chunk c.args.at 4 words) 4 0 (length-chunk c.args.at 4 words c.requires) (omega arith) in
    let zero = mask_l-zero_block c.args.at _ words c.requires lanes in
    (λ test. zero.0 (eqb-true _ 0 test), λ all. eq-eqb _ 0 (zero.1 all))
