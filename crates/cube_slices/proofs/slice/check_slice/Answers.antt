use Rattle.std.proofs.Common.{arith}
use Rattle.cube_slices.proofs.SliceLaws.{IsSlice-from_encodes}
use Rattle.cube_slices.proofs.slice.check_slice.Goals as goal

pub returns-then-not-is_slice-clause-only : goal.returns-then-not-is_slice-clause-only
returns-then-not-is_slice-clause-only c ls encodes =
    let answer = c.is_slice.ensures.1 (IsSlice-from_encodes _ _ _ _ ls encodes (omega arith) (omega arith)) in
    absurd (cc)
