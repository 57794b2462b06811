use Rattle.std.proofs.Common.{ℕ, ◌++◌, ◌∷◌, [], List, codes, ap, ◌∙◌}
use Rattle.alg_model.specs.declared.var.Var.{Var}
use Rattle.alg_model.specs.Pattern.{Bgp}
use Rattle.answer_rows.proofs.Examples.{two_names}
use Rattle.answer_rows.proofs.tests.query_of.Goals as goal

pub returns-clause-limits : goal.returns-clause-limits
returns-clause-limits c =
    let first = c.in_ok-push.ensures.ok ∙ ap (λ (names : List (List ℕ)). names ++ codes "x" ∷ []) c.new-names.ensures in
    let both = c.in_ok-push-2.ensures.ok ∙ ap (λ (names : List (List ℕ)). names ++ codes "y" ∷ []) first in
    let column = c.in_ok-push-3.ensures.ok ∙ ap (λ (vars : List Var). vars ++ record { 0 = 1 } ∷ []) c.new-columns.ensures in
    two_names _ both column (ap Bgp c.new.ensures)
