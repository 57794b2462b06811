use Rattle.std.proofs.Common.{◌≡◌, ◌+◌, ◌++◌, ◌∷◌, [], take, sym, ◌∙◌, ap, arith}
use Rattle.std.proofs.lemmas.List.{take_more}
use Rattle.std.proofs.lemmas.Option.{get_or_from_slice_get}
use Rattle.node_plans.specs.Placed.{pattern_edges, edges_of}
use Rattle.node_plans.proofs.PlacedSets.{edges_push}
use Rattle.node_plans.proofs.edges.all_edges.Goals as goal

pub loop-i-preserved : goal.loop-i-preserved
loop-i-preserved c =
    let patterns = c.args.patterns.now in
    let i = c.loop-i.i in
    let one = c.get.result.now in
    let front : take (i + 1) patterns ≡ take i patterns ++ one ∷ [] = take_more patterns i one (omega arith) ∙ ap (λ x. take i patterns ++ x ∷ []) (get_or_from_slice_get patterns i one one c.get.ensures) in
    (c.push_edges.ensures.edges ∙ ap (λ list. list ++ pattern_edges one) c.loop-i.invariant.0 ∙ sym (edges_push (take i patterns) one) ∙ ap edges_of (sym front), omega (arith, c.push_edges.ensures.few))
