use Rattle.std.proofs.Common.{map, ◌∙◌}
use Rattle.serde_json.proofs.FreeTexts.{text_of_value}
use Rattle.result_write.specs.held.NamedColumns.{named}
use Rattle.result_write.specs.held.RowData.{row_data}
use Rattle.result_write.proofs.RowLaws.{row_has_no_float, row-written}
use Rattle.result_write.proofs.json_row.row_text.Goals as goal

pub returns-in-Ok : goal.returns-in-Ok
returns-in-Ok c =
    let row = c.args.cells.now in
    let columns = map named c.args.columns.now in
    let sent = c.in-Ok.ensures.events in
    text_of_value (row_data row columns) sent.0 c.in-Ok.text.items sent.1 sent.2 (row_has_no_float row columns) ∙ row-written row columns
