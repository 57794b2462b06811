use Rattle.std.proofs.Common.{◌≡◌, [], ◌∷◌, ◌++◌, ◌<◌, IsSome, sym, subst, ◌∙◌, ap, append_assoc, append-nil, arith}
use Rattle.std.specs.Vec.Iter.{into_iter_items}
use Rattle.bm_top.proofs.Lists.{drop-first, nothing_left}
use Rattle.bm_top.proofs.args.after_name.Goals as goal

pub loop-word-init : goal.loop-word-init
loop-word-init c =
    rw c.new-words.ensures.items
    (drop-first c.next-name.result (into_iter_items c.args.args) (into_iter_items c.next-name.new.self) c.next-name.ensures.items
    (λ none.
    let nothing : ¬ (0 < c.args.args.rest.len) = λ low. let lie = subst IsSome none (c.next-name.ensures.variant.1 low) in absurd (cc) in
    omega (arith, c.args.args.rest.ok, nothing)))

pub loop-word-preserved : goal.loop-word-preserved
loop-word-preserved c =
    let more = c.in_ok-push.ensures.items in
    ap (λ front. front ++ into_iter_items c.next.new.self) more
    ∙ append_assoc c.loop-word.words.items (c.in-Some.word ∷ []) (into_iter_items c.next.new.self)
    ∙ ap (λ back. c.loop-word.words.items ++ back) (sym c.in-Some.ensures.items)
    ∙ c.loop-word.invariant

pub returns : goal.returns
returns c =
    let nothing : ¬ (0 < c.loop-word.rest.rest.len) = λ low. let lie = c.in_default.ensures.variant.1 low in absurd (cc) in
    let empty : into_iter_items c.loop-word.rest ≡ [] = nothing_left _ (omega (arith, c.loop-word.rest.rest.ok, nothing)) in
    sym (append-nil c.loop-word.words.items) ∙ ap (λ back. c.loop-word.words.items ++ back) (sym empty) ∙ c.loop-word.invariant
