use Rattle.std.proofs.Common.{◌∙◌, ap, map, subst, List, ℕ, string_bytes}
use Rattle.std.specs.List.{concat}
use Rattle.alg_model.specs.Query.{abstract_of}
use Rattle.bm_world.specs.World.{Step}
use Rattle.result_write.specs.Columns.{column_names}
use Rattle.result_write.specs.JsonResult.{columns_by_name}
use Rattle.result_write.specs.Printing.{Prints}
use Rattle.result_write.specs.held.NamedColumns.{named}
use Rattle.result_write.specs.held.TextPieces.{json_pieces}
use Rattle.result_write.proofs.PieceLaws.{json_pieces-are}
use Rattle.result_write.proofs.write.write_json.Goals as goal

pub returns-clause-step : goal.returns-clause-step
returns-clause-step g c =
    let rows = c.args.rows.now.rows in
    let query = abstract_of c.args.query.now in
    let names = ap (map string_bytes) c.deref-2.ensures.value ∙ c.in-Ok.ensures in
    let columns = ap (map named) c.deref-3.ensures.value ∙ c.in-Ok-columns_by_name.ensures ∙ ap columns_by_name (ap (map string_bytes) c.deref.ensures.value ∙ c.in-Ok.ensures) in
    let text = ap (λ (names : List (List ℕ)). concat (json_pieces names (map named c.deref-3.result.now) rows)) names
    ∙ ap (λ (columns : List (List ℕ × ℕ)). concat (json_pieces (column_names query) columns rows)) columns
    ∙ json_pieces-are query rows in
    subst (λ text. Step (g.W.World.told c.args.world.now) (g.W.World.told c.print_pieces.new.world) (Prints text c.print_pieces.result)) text c.print_pieces.ensures.step
