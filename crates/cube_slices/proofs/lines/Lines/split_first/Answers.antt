use Rattle.std.proofs.Common.{◌+◌, ◌-◌, ◌^◌, arith}
use Rattle.cube_slices.proofs.EntryLaws.{AreEntries-first, AreEntries-lower}
use Rattle.cube_slices.proofs.lines.Lines.split_first.Goals as goal

pub invariant_of-rest : goal.invariant_of-rest
invariant_of-rest c =
    let parts = (AreEntries-first c.self.inside.form (2 ^ 32 - 1) (2 ^ 32 - 1) 0 c.self.inside.from (c.in_ok-row.row, c.in_ok-row.end) _ _ c.self.inside.bytes.now c.in_ok-row.ensures.first).0 c.self.invariant in
    rw c.split_at.ensures.back (AreEntries-lower c.self.inside.form (2 ^ 32 - 1) (2 ^ 32 - 1) 0 (c.in_ok-row.row + 1) _ _ _ (omega arith) parts.1)
