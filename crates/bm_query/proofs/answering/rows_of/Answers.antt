use Rattle.std.proofs.Common.{◌≡◌, ◌<◌, List, ℕ, map, sym, ap, ◌∙◌, subst}
use Rattle.std.proofs.lemmas.Result.{IfOk-weaker}
use Rattle.alg_model.specs.Answers.{arranged, answers_of}
use Rattle.alg_model.specs.Eval.{as_terms, eval}
use Rattle.alg_model.specs.Limits.{PatternKeepsLimits}
use Rattle.alg_model.specs.Pattern.{algebra_of}
use Rattle.alg_model.specs.Row.{Row}
use Rattle.answer_rows.proofs.Moved.{arranged-moved}
use Rattle.engine_laws.specs.Terms.{text_at}
use Rattle.match_relations.specs.AcceptedTrees.{IsAcceptedTree}
use Rattle.match_relations.proofs.AcceptedLaws.{accepted_tree}
use Rattle.naming_laws.specs.Naming.{named_row}
use Rattle.pattern_tree.specs.Standing.{OccursAt}
use Rattle.bm_query.proofs.EngineRows.{occurs_below}
use Rattle.bm_query.proofs.answering.rows_of.Goals as goal

pub best_rows-requires-clause-accepted : goal.best_rows-requires-clause-accepted
best_rows-requires-clause-accepted c = subst IsAcceptedTree (sym c.in_ok-tree.ensures) (accepted_tree (algebra_of c.args.query.now.pattern) c.requires.accepted)

pub best_rows-requires-clause-below : goal.best_rows-requires-clause-below
best_rows-requires-clause-below c = λ k var occurs.
    let pattern = algebra_of c.args.query.now.pattern in
    let at = subst (λ tree. OccursAt tree k var) c.in_ok-tree.ensures occurs in
    subst (λ n. var < n) (sym c.len-width.ensures) (occurs_below _ pattern c.requires.limits.pattern.vars_below k var at)

pub named_rows-requires : goal.named_rows-requires
named_rows-requires c =
    let pattern = algebra_of c.args.query.now.pattern in
    let some = c.counts.ensures.of_a_graph in
    let keeps = subst (λ n. PatternKeepsLimits n pattern) (sym c.len-width.ensures) c.requires.limits.pattern in
    (c.in_ok-rows.ensures.best some.graph pattern some.numbers c.in_ok-tree.ensures c.requires.accepted.well_designed keeps).texts

pub returns-clause-rows : goal.returns-clause-rows
returns-clause-rows c = λ graph numbers.
    let query = c.args.query.now in
    let pattern = algebra_of query.pattern in
    let keeps = subst (λ n. PatternKeepsLimits n pattern) (sym c.len-width.ensures) c.requires.limits.pattern in
    let best = c.in_ok-rows.ensures.best graph pattern numbers c.in_ok-tree.ensures c.requires.accepted.well_designed keeps in
    let arrange : List (Row (List ℕ)) → List (Row (List ℕ)) = arranged query.columns query.distinct in
    let named = map (named_row (text_at c.args.index.now.numbering.terms)) c.in_ok-rows.rows.rows in
    let is : arrange c.in_ok-named.named.rows ≡ answers_of query graph =
    ap arrange c.in_ok-named.ensures.rows
    ∙ sym (arranged-moved query.columns query.distinct (eval as_terms c.len-width.result pattern graph) named best.bag)
    ∙ (λ i. arrange (eval as_terms (c.len-width.ensures i) pattern graph)) in
    IfOk-weaker c.project_sort.result (λ answers. answers.rows ≡ arrange c.in_ok-named.named.rows) (λ answers. answers.rows ≡ answers_of query graph) (λ answers at. at ∙ is) c.project_sort.ensures.rows
