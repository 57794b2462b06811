use Rattle.std.proofs.Common.{map}
use Rattle.bm_term.proofs.Sets.{IsSetOf-set_of}
use Rattle.alg_model.specs.Answers.{row_cmp, project}
use Rattle.alg_model.proofs.InOrder.{in_order-exactly}
use Rattle.alg_model.proofs.RowOrder.{row_cmp-total, row_cmp-exact}
use Rattle.alg_model.proofs.laws.arranged_rows_law.Goals as goal

pub returns-clause-plain : goal.returns-clause-plain
returns-clause-plain c = λ columns rows answers. in_order-exactly row_cmp row_cmp-total row_cmp-exact (map (project columns) rows) answers

pub returns-clause-distinct : goal.returns-clause-distinct
returns-clause-distinct c = λ columns rows answers.
    let law = IsSetOf-set_of row_cmp row_cmp-total row_cmp-exact (map (project columns) rows) answers in
    (λ is. law.1 is, λ is. law.0 is)
