use Rattle.std.proofs.Common.{sym, ◌∙◌, rules}
use Rattle.index_file.proofs.RowMatchLaws.{row_has, no_row}
use Rattle.index_file.proofs.agreement.has_pair.Goals as goal

pub returns-in-Some : goal.returns-in-Some
returns-in-Some c =
    let has = row_has _ _ c.args.row c.args.column _ _ c.row_in.ensures.ascend (sym c.row_in.ensures.row ∙ c.in-Some.is) in
    (λ found. has.0 (c.test.ensures.0 found), λ there. c.test.ensures.1 (has.1 there))

pub returns-in-None : goal.returns-in-None
returns-in-None c =
    (λ never. absurd (search rules), λ there. absurd (no_row _ _ c.args.row c.args.column _ c.row_in.ensures.ascend (sym c.row_in.ensures.row ∙ c.in-None.is) there))
