use Rattle.alg_model.specs.Eval.{as_terms, match_of}
use Rattle.alg_model.proofs.Lists.{filter_map-more}
use Rattle.alg_model.proofs.eval.matches.Goals as goal

pub loop-triple-preserved : goal.loop-triple-preserved
loop-triple-preserved c =
    let more = filter_map-more (match_of as_terms c.args.vars c.args.pattern.now) c.args.triples.now c.loop-triple.triple-index c.triple-item.result c.loop-triple-test.true c.triple-item.is in
    cc (c.in_ok-push_some.ensures, c.in_ok-match_triple.ensures)
