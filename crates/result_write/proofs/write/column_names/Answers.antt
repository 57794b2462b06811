use Rattle.std.proofs.Common.{◌∷◌, ◌++◌, [], ◌∙◌, sym, ap, map, take, List, ℕ, string_bytes}
use Rattle.std.proofs.lemmas.List.{map-append}
use Rattle.result_write.specs.Columns.{name_of}
use Rattle.result_write.proofs.Joined.{map-take_more}
use Rattle.result_write.proofs.write.column_names.Goals as goal

pub loop-i-preserved : goal.loop-i-preserved
loop-i-preserved c =
    let names = c.args.query.now.names in
    let columns = c.args.query.now.columns in
    let made = c.in_ok-from_str.field-0 in
    let so_far = map (name_of names) (take c.loop-i.i columns) in
    ap (map string_bytes) c.in_ok-push.ensures.items ∙ map-append string_bytes c.loop-i.names.items (made ∷ [])
    ∙ ap (λ (done : List (List ℕ)). done ++ string_bytes made ∷ []) c.loop-i.invariant
    ∙ ap (λ (name : List ℕ). so_far ++ name ∷ []) (c.in_ok-from_str.ensures.ok ∙ c.name_of-name.ensures)
    ∙ sym (map-take_more (name_of names) columns c.loop-i.i c.get.result c.get.ensures)
