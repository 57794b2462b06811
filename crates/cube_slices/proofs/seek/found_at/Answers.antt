use Rattle.std.proofs.Common.{sym, ◌-◌, ◌^◌, arith}
use Rattle.cube_slices.proofs.SeekLaws.{found_none}
use Rattle.cube_slices.proofs.seek.found_at.Goals as goal

pub returns-else-number-n : goal.returns-else-number-n
returns-else-number-n c =
    sym (found_none (2 ^ 32 - 1) (2 ^ 32 - 1) c.args.n c.args.place _ _ _ c.requires.ascend c.requires.seeks c.row_at-number.ensures.line (λ same. omega arith))
