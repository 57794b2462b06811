use Rattle.std.proofs.Common.{◌≡◌, ℕ, List, [], length, All, sym, ◌∙◌, subst}
use Rattle.std.proofs.lemmas.List.{length-map}
use Rattle.alg_model.specs.Row.{Row}
use Rattle.alg_model.specs.Answers.{project}
use Rattle.answer_rows.proofs.FewColumns.{few_columns}
use Rattle.answer_rows.proofs.Kept.{All-arranged}
use Rattle.answer_rows.proofs.Lists.{All-map}
use Rattle.answer_rows.proofs.project.project_sort.Goals as goal

pub project_rows-requires-clause-few : goal.project_rows-requires-clause-few
project_rows-requires-clause-few c = few_columns c.args.query.now c.requires.limits

pub rows_of-requires : goal.rows_of-requires
rows_of-requires c =
    let columns = c.args.query.now.columns in
    let wide = c.width.ensures ∙ c.in_ok-projected.ensures.width in
    let P : Row (List ℕ) → Type 0 = λ row. length row ≡ c.width.result in
    let each = All-map P (project columns) _ [] (λ row. length-map columns _ ∙ sym wide) in
    let keys = c.in_ok-keys.ensures ∙ c.in_ok-projected.ensures.rows in
    let all = All-arranged P c.args.query.now.distinct c.in_ok-keys.keys.items (subst (All P) (sym keys) each) in
    subst (All P) (sym (c.deref.ensures.value ∙ c.arrange.ensures)) all
