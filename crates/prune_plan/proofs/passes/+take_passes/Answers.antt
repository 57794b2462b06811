use Rattle.std.proofs.Common.{◌≡◌, ◌↔◌, ◌+◌, ◌<◌, ◌∷◌, length, drop, refl, sym, ◌∙◌, ap, subst, arith}
use Rattle.std.proofs.lemmas.List.{drop_more}
use Rattle.std.proofs.lemmas.Option.{get_or_from_slice_get}
use Rattle.pruning_laws.specs.Passes.{two_passes}
use Rattle.prune_plan.specs.steps.Members.{IsWanted, held_by, agrees_in}
use Rattle.prune_plan.proofs.Layouts.{layout_then, in_order_same, in_order_then, sides_stay, agree_stays}
use Rattle.prune_plan.proofs.PassesSame.{passes_by_steps}
use Rattle.prune_plan.proofs.WantedMembers.{wanted_more, wanted_second}
use Rattle.prune_plan.proofs.passes.+take_passes.Goals as goal

pub take_passes-requires : goal.take_passes-requires
take_passes-requires t c =
    (omega arith, (c.reduce.ensures.layout.fits, (omega arith, λ m n at. sides_stay c.args.prepared.now c.reduce.new.prepared c.reduce.ensures.layout m n (c.requires.sides m n at))))

pub reduce_back-requires-clause-sides : goal.reduce_back-requires-clause-sides
reduce_back-requires-clause-sides t c = λ m n at.
    let old = c.args.prepared.now in
    let new = c.take_passes.new.prepared in
    sides_stay old new (layout_then old c.reduce.new.prepared new c.reduce.ensures.layout c.take_passes.ensures.layout) m n (c.requires.sides m n at)

pub returns-then-i-len-clause-held : goal.returns-then-i-len-clause-held
returns-then-i-len-clause-held t c = λ m item wanted.
    let pairs = c.args.pairs.now in
    let i = c.args.i in
    let pair = c.get-first.result in
    let low : i < length pairs = omega arith in
    let old = c.args.prepared.now in
    let cut = c.reduce.new.prepared in
    let inner = c.take_passes.new.prepared in
    let new = c.reduce_back.new.prepared in
    let start = held_by old c.args.kinds.now in
    let end = held_by new c.reduce_back.new.kinds in
    let front : drop i pairs ≡ pair ∷ drop (i + 1) pairs = drop_more pairs i pair low ∙ ap (λ x. x ∷ drop (i + 1) pairs) (get_or_from_slice_get pairs i pair pair c.get-first.ensures) in
    subst (λ rest. end m item ↔ two_passes (agrees_in old) rest start m item) (sym front)
    (passes_by_steps (agrees_in old) (agrees_in cut) (agrees_in inner) (agree_stays old cut c.reduce.ensures.layout)
    (agree_stays old inner (layout_then old cut inner c.reduce.ensures.layout c.take_passes.ensures.layout)) (IsWanted pairs (i + 1)) (IsWanted pairs i) (wanted_more pairs i) pair.0 pair.1
    (wanted_second pairs i pair.0 pair.1 c.get-first.ensures) (drop (i + 1) pairs)
    start (held_by cut c.reduce.new.kinds) (held_by inner c.take_passes.new.kinds) end c.reduce.ensures.held c.take_passes.ensures.held (λ k item wanted. c.reduce_back.ensures.held pair.0 pair.1 k item c.get-first.ensures wanted) m item wanted)

pub returns-then-i-len-clause-in_order : goal.returns-then-i-len-clause-in_order
returns-then-i-len-clause-in_order t c =
    let old = c.args.prepared.now in
    let cut = c.reduce.new.prepared in
    let inner = c.take_passes.new.prepared in
    let new = c.reduce_back.new.prepared in
    in_order_then old cut new c.reduce.ensures.in_order (in_order_then cut inner new c.take_passes.ensures.in_order c.reduce_back.ensures.in_order)

pub returns-else-i-len-clause-in_order : goal.returns-else-i-len-clause-in_order
returns-else-i-len-clause-in_order t c = in_order_same c.args.prepared.now c.args.prepared.now (λ i. refl)
