use Rattle.std.proofs.Common.{◌≡◌, [], Some, map, drop, length, string_bytes, sym, ◌∙◌, subst}
use Rattle.std.proofs.lemmas.List.{drop_all, length-map}
use Rattle.std.proofs.lemmas.Result.{on_ok_weaker}
use Rattle.serde.specs.Event.{Logs, seq_begins, text}
use Rattle.serde_json.specs.Events.{SendsItems}
use Rattle.result_write.specs.held.Written.{names_data}
use Rattle.result_write.proofs.ColumnLaws.{drop-item}
use Rattle.result_write.proofs.RowLaws.{items_len-names}
use Rattle.result_write.proofs.json_row.send_names.Goals as goal

pub loop-name-preserved : goal.loop-name-preserved
loop-name-preserved g c = λ end rest.
    let names = c.args.names.now in
    let i = c.loop-name.name-index in
    let old = g.S.Serializer.written c.loop-name.out in
    let mid = g.S.Serializer.written c.str.new.self in
    let here = drop-item names i c.name-item.result c.loop-name-test.true c.name-item.is in
    let sent = subst (λ name. Logs old mid (text name)) c.as_str.ensures.value c.in_ok-str.ensures in
    c.loop-name.invariant end (subst (λ left. SendsItems (names_data (map string_bytes left)) old end) (sym here) (mid, sent, rest))

pub returns : goal.returns
returns g c =
    let names = c.args.names.now in
    let first = g.S.Serializer.written c.begin_seq.new.self in
    let last = g.S.Serializer.written c.end_seq.new.self in
    let all : length names ≡ length (map string_bytes names) = sym (length-map names string_bytes) in
    let begun = subst (λ n. Logs (g.S.Serializer.written c.args.out.now) first (seq_begins (Some n))) (all ∙ sym (items_len-names (map string_bytes names))) c.in_ok-begin_seq.ensures in
    let none : drop c.loop-name.name-index names ≡ [] = drop_all c.loop-name.name-index names c.loop-name-test.false in
    on_ok_weaker c.end_seq.result (λ ended. (
      first,
      begun,
      c.loop-name.invariant last (subst (λ left. SendsItems (names_data (map string_bytes left)) (g.S.Serializer.written c.loop-name.out) last) (sym none) ended),
    )) c.end_seq.ensures
