use Rattle.std.proofs.Common.{◌-◌, ◌^◌, sym, subst}
use Rattle.run_rows.specs.Row.{AscendsWithin}
use Rattle.pattern_rel.proofs.LineLaws.{row_of-ascends}
use Rattle.pattern_rel.proofs.cursor.open.Goals as goal

pub returns-then-has-clause-ascend : goal.returns-then-has-clause-ascend
returns-then-has-clause-ascend c =
    subst (AscendsWithin 0 (2 ^ 32 - 1)) (sym c.partners.ensures) (row_of-ascends _ 0 (2 ^ 32 - 1) (2 ^ 32 - 1) _ c.lines_ascend.ensures)
