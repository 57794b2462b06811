use Rattle.std.proofs.Common.{◌≡◌, length, not, sym, ap, ◌∙◌, subst}
use Rattle.std.specs.List.{list_any}
use Rattle.indexmap.specs.IndexSet.{insert_key}
use Rattle.bm_term.specs.Kept.{after}
use Rattle.term_numbers.specs.held.Seen.{AllAreSeen, triples_at}
use Rattle.term_numbers.proofs.SeenLaws.{AllAreSeen-nodes, triples_at-nodes}
use Rattle.term_numbers.proofs.SightLaws.{kept_with}
use Rattle.term_numbers.proofs.TakingLaws.{number_eq, AllAreSeen-stay, AllAreSeen-put, after-full, after-room, given_OnErr}
use Rattle.term_numbers.proofs.builder.Builder.see.Goals as goal

pub invariant_of-self-in_err-places : goal.invariant_of-self-in_err-places
invariant_of-self-in_err-places g c =
    subst (AllAreSeen c.self.inside.were_more c.see_triple.new.nodes.keys c.see_triple.new.predicates.keys) (sym c.in_ok-reserve.ensures.keys)
    (AllAreSeen-nodes c.self.inside.were_more c.self.inside.nodes.keys c.see_triple.new.nodes.keys c.self.inside.predicates.keys c.see_triple.new.predicates.keys c.self.inside.places.keys c.in_err-places.ensures.adds c.in_err-places.ensures.stays c.self.invariant)

pub returns-in_err-places-clause-err : goal.returns-in_err-places-clause-err
returns-in_err-places-clause-err g c =
    let list = ap (triples_at c.see_triple.new.nodes.keys c.see_triple.new.predicates.keys) c.in_ok-reserve.ensures.keys
    ∙ triples_at-nodes c.self.inside.were_more c.self.inside.nodes.keys c.see_triple.new.nodes.keys c.self.inside.predicates.keys c.see_triple.new.predicates.keys c.self.inside.places.keys c.in_err-places.ensures.adds c.in_err-places.ensures.stays c.self.invariant in
    given_OnErr c.from_residual-in_err-places.result (ap (λ l. kept_with c.self.inside.limit l c.self.inside.were_more) list ∙ c.self.view_is)

pub invariant_of-self-then-len-self : goal.invariant_of-self-then-len-self
invariant_of-self-then-len-self g c =
    let there : c.contains.result ≡ list_any (number_eq c.in_ok-places.places) c.self.inside.places.keys = c.contains.ensures ∙ ap (list_any (number_eq c.in_ok-places.places)) c.in_ok-reserve.ensures.keys in
    subst (AllAreSeen (not c.contains.result) c.see_triple.new.nodes.keys c.see_triple.new.predicates.keys) (sym c.in_ok-reserve.ensures.keys)
    (AllAreSeen-stay c.self.inside.nodes.keys c.see_triple.new.nodes.keys c.self.inside.predicates.keys c.see_triple.new.predicates.keys c.self.inside.places.keys c.in_ok-places.places c.args.triple c.self.inside.were_more c.if-self.false c.self.invariant c.in_ok-places.ensures.seen c.contains.result there)

pub returns-then-len-self-clause-ok : goal.returns-then-len-self-clause-ok
returns-then-len-self-clause-ok g c =
    let there : c.contains.result ≡ list_any (number_eq c.in_ok-places.places) c.self.inside.places.keys = c.contains.ensures ∙ ap (list_any (number_eq c.in_ok-places.places)) c.in_ok-reserve.ensures.keys in
    let full = ap length (sym c.in_ok-reserve.ensures.keys) ∙ sym c.len.ensures.len ∙ c.if-len-self.true in
    ap (λ ks. kept_with c.self.inside.limit (triples_at c.see_triple.new.nodes.keys c.see_triple.new.predicates.keys ks) (not c.contains.result)) c.in_ok-reserve.ensures.keys
    ∙ after-full c.self.inside.nodes.keys c.see_triple.new.nodes.keys c.self.inside.predicates.keys c.see_triple.new.predicates.keys c.self.inside.places.keys c.in_ok-places.places c.args.triple c.self.inside.were_more c.if-self.false c.self.invariant c.in_ok-places.ensures.seen c.self.inside.limit c.contains.result there full
    ∙ ap (λ k. after k c.args.triple) c.self.view_is

pub invariant_of-self-in_ok-insert : goal.invariant_of-self-in_ok-insert
invariant_of-self-in_ok-insert g c =
    let put : c.insert.new.self.keys ≡ insert_key number_eq c.self.inside.places.keys c.in_ok-places.places = c.in_ok-insert.ensures.keys ∙ ap (λ ks. insert_key number_eq ks c.in_ok-places.places) c.in_ok-reserve.ensures.keys in
    subst (AllAreSeen c.self.inside.were_more c.see_triple.new.nodes.keys c.see_triple.new.predicates.keys) (sym put)
    (AllAreSeen-put c.self.inside.nodes.keys c.see_triple.new.nodes.keys c.self.inside.predicates.keys c.see_triple.new.predicates.keys c.self.inside.places.keys c.in_ok-places.places c.args.triple c.self.inside.were_more c.if-self.false c.self.invariant c.in_ok-places.ensures.seen)

pub returns-in_ok-insert-clause-ok : goal.returns-in_ok-insert-clause-ok
returns-in_ok-insert-clause-ok g c =
    let put : c.insert.new.self.keys ≡ insert_key number_eq c.self.inside.places.keys c.in_ok-places.places = c.in_ok-insert.ensures.keys ∙ ap (λ ks. insert_key number_eq ks c.in_ok-places.places) c.in_ok-reserve.ensures.keys in
    ap (λ ks. kept_with c.self.inside.limit (triples_at c.see_triple.new.nodes.keys c.see_triple.new.predicates.keys ks) c.self.inside.were_more) put
    ∙ after-room c.self.inside.nodes.keys c.see_triple.new.nodes.keys c.self.inside.predicates.keys c.see_triple.new.predicates.keys c.self.inside.places.keys c.in_ok-places.places c.args.triple c.self.inside.were_more c.if-self.false c.self.invariant c.in_ok-places.ensures.seen c.self.inside.limit (λ full. c.if-len-self.false (c.len.ensures.len ∙ ap length c.in_ok-reserve.ensures.keys ∙ full))
    ∙ ap (λ k. after k c.args.triple) c.self.view_is
