use Rattle.std.proofs.Common.{◌≢◌, ◌++◌, [], ◌∷◌, take, AllPairs, take_all, sym, ◌∙◌, ap, subst}
use Rattle.std.proofs.lemmas.List.{take_more}
use Rattle.std.proofs.lemmas.List.Quantifiers.{all_pairs_push}
use Rattle.alg_model.proofs.tests.each_once.Goals as goal

pub loop-i-preserved : goal.loop-i-preserved
loop-i-preserved c =
    let triples = c.args.triples.now in
    let i = c.loop-i.i in
    let triple = c.index-triples-i.result in
    let more = take_more triples i triple c.loop-i-test.true ∙ ap (λ t. take i triples ++ t ∷ []) (sym c.index-triples-i.is) in
    subst (AllPairs (λ t u. t ≢ u)) (sym more) (all_pairs_push (λ t u. t ≢ u) (take i triples) triple c.loop-i.invariant (c.is_none_of.ensures c.if-not-is_none_of.false))

pub returns : goal.returns
returns c = λ _. subst (AllPairs (λ t u. t ≢ u)) (take_all c.loop-i.i c.args.triples.now c.loop-i-test.false) c.loop-i.invariant
