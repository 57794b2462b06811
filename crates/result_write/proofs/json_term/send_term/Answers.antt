use Rattle.std.proofs.Common.{◌≡◌, true, false, OnOk, sym, ◌∙◌, subst}
use Rattle.serde_json.specs.Events.{SendsValue}
use Rattle.bm_term.specs.TermRef.{text_of}
use Rattle.result_write.specs.held.Written.{is_literal}
use Rattle.result_write.proofs.TermTexts.{other_data, literal_data}
use Rattle.result_write.proofs.json_term.send_term.Goals as goal

pub returns-then-not-is_literal : goal.returns-then-not-is_literal
returns-then-not-is_literal g c =
    let other : is_literal c.parts-parts.result.kind ≡ false = sym c.is_literal.ensures ∙ c.if-not-is_literal.true in
    let same = other_data (text_of c.args.term) c.parts-parts.result c.parts-parts.ensures c.known_utf8.result.now c.known_utf8-tail.result.now c.known_utf8-tail.ensures c.known_utf8.ensures other in
    subst (λ value. OnOk c.send_object.result (SendsValue value (g.S.Serializer.written c.args.out.now) (g.S.Serializer.written c.send_object.new.out))) same c.send_object.ensures

pub returns-in-Ok : goal.returns-in-Ok
returns-in-Ok g c =
    let literal : is_literal c.parts-parts.result.kind ≡ true = sym c.is_literal.ensures ∙ c.if-not-is_literal.false in
    let same = literal_data (text_of c.args.term) c.parts-parts.result c.parts-parts.ensures c.known_utf8-in-Ok.result.now c.known_utf8-tail.result.now c.known_utf8-tail.ensures (λ lexical spells. c.known_utf8-in-Ok.ensures ∙ c.deref.ensures.value ∙ c.in-Ok.ensures.form lexical spells) literal in
    subst (λ value. OnOk c.send_object-in-Ok.result (SendsValue value (g.S.Serializer.written c.args.out.now) (g.S.Serializer.written c.send_object-in-Ok.new.out))) same c.send_object-in-Ok.ensures
