use Rattle.std.proofs.Common.{ℕ, List, [], ◌∷◌, ◌++◌, codes, ap, ◌∙◌}
use Rattle.alg_model.specs.declared.var.Var.{Var}
use Rattle.bm_query.proofs.TestQueries.{three_names, var}
use Rattle.bm_query.proofs.tests.query.Goals as goal

pub returns : goal.returns
returns c =
    let name : List (List ℕ) → List ℕ → List (List ℕ) = λ before text. before ++ text ∷ [] in
    let column : List Var → Var → List Var = λ before v. before ++ v ∷ [] in
    let x = c.in_ok-push.ensures.ok ∙ ap (λ l. name l (codes "x")) c.new-names.ensures in
    let y = c.in_ok-push-2.ensures.ok ∙ ap (λ l. name l (codes "y")) x in
    let z = c.in_ok-push-3.ensures.ok ∙ ap (λ l. name l (codes "z")) y in
    let first = c.in_ok-push-4.ensures.ok ∙ ap (λ l. column l (var 0)) c.new-columns.ensures in
    let second = c.in_ok-push-5.ensures.ok ∙ ap (λ l. column l (var 1)) first in
    let third = c.in_ok-push-6.ensures.ok ∙ ap (λ l. column l (var 2)) second in
    three_names _ z third c.requires
