use Rattle.std.proofs.Common.{refl, arith, slice_index_or}
use Rattle.cube_slices.proofs.WritingLaws.{line_length-le, lines_of-first_row}
use Rattle.cube_slices.proofs.writing.split_row.Goals as goal

pub split_at-requires : goal.split_at-requires
split_at-requires c =
    omega (arith, c.front_len.ensures, line_length-le (slice_index_or c.args.pairs.now 0 (0, 0)).0 c.args.pairs.now)

pub returns-clause-line : goal.returns-clause-line
returns-clause-line c =
    rw (c.split_at.ensures.front, c.split_at.ensures.back) (lines_of-first_row _ c.front_len.result c.args.pairs.now (0, 0) c.requires refl c.front_len.ensures)
