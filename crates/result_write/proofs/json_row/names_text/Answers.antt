use Rattle.std.proofs.Common.{map, string_bytes, ◌∙◌}
use Rattle.serde_json.specs.Data.{array}
use Rattle.serde_json.proofs.FreeTexts.{text_of_value}
use Rattle.result_write.specs.held.Written.{names_data}
use Rattle.result_write.proofs.RowLaws.{names_have_no_float, names-written}
use Rattle.result_write.proofs.json_row.names_text.Goals as goal

pub returns-in-Ok : goal.returns-in-Ok
returns-in-Ok c =
    let names = map string_bytes c.args.names.now in
    let sent = c.in-Ok.ensures.events in
    text_of_value (array (names_data names)) sent.0 c.in-Ok.text.items sent.1 sent.2 (names_have_no_float names) ∙ names-written names
