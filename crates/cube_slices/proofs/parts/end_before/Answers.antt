use Rattle.std.proofs.Common.{◌-◌, sym, arith}
use Rattle.byte_tables.specs.Pairs.{pairs_in}
use Rattle.cube_slices.proofs.SeekLaws.{start_at-before}
use Rattle.cube_slices.proofs.parts.end_before.Goals as goal

pub returns : goal.returns
returns c =
    let some = c.if-i-eq0.false in
    sym (start_at-before 0 c.args.i (c.args.i - 1) c.pair_at-end.result (pairs_in c.args.entries.now) _ (omega arith) c.pair_at-end.ensures)
