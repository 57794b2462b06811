use Rattle.std.proofs.Common.{subst}
use Rattle.std.proofs.lemmas.Result.{IfOk-weaker}
use Rattle.minimality_laws.specs.SimpleTree.{AreForests, SharesOne}
use Rattle.pattern_tree.specs.BestRows.{AreBest}
use Rattle.bm_query.specs.steps.Named.{IsBestOf}
use Rattle.bm_query.proofs.EngineRows.{AreSteps, best_named, flat_named}
use Rattle.bm_query.proofs.engine.best_rows.Goals as goal

pub returns-then-branch-clause-best : goal.returns-then-branch-clause-best
returns-then-branch-clause-best c = λ graph pattern numbers is well keeps.
    let n = c.args.index.now.numbering in
    let p = c.in_ok-prepared.prepared in
    let pruned = c.prune.new.prepared in
    let table = c.in_ok-rows.rows in
    let steps = subst (AreSteps n c.args.vars p pruned table) is (record {
      fits = c.in_ok-prepared.ensures.fits;
      has = c.in_ok-prepared.ensures.matches;
      accepted = c.requires.accepted;
      layout = c.prune.ensures.layout;
      prunes = c.prune.ensures.left;
      joined = c.in_ok-rows.ensures.rows;
    }) in
    let simple = (c.in_ok-is_simple_tree.ensures.simple pattern is).0 c.if-branch.true in
    let forests = subst AreForests is simple.0 in
    let share = subst SharesOne is simple.2 in
    flat_named graph n c.args.vars pattern p pruned table numbers well keeps c.requires.few steps forests share

pub returns-clause-best : goal.returns-clause-best
returns-clause-best c = λ graph pattern numbers is well keeps.
    let n = c.args.index.now.numbering in
    let p = c.in_ok-prepared.prepared in
    let pruned = c.prune.new.prepared in
    let table = c.in_ok-rows.rows in
    let steps = subst (AreSteps n c.args.vars p pruned table) is (record {
      fits = c.in_ok-prepared.ensures.fits;
      has = c.in_ok-prepared.ensures.matches;
      accepted = c.requires.accepted;
      layout = c.prune.ensures.layout;
      prunes = c.prune.ensures.left;
      joined = c.in_ok-rows.ensures.rows;
    }) in
    IfOk-weaker c.best_match.result (λ best. AreBest table.rows best.rows) (IsBestOf n.terms graph c.args.vars pattern)
    (λ best chosen. best_named graph n c.args.vars pattern p pruned table numbers well keeps c.requires.few steps best chosen) c.best_match.ensures.best
