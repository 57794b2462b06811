use Rattle.std.proofs.Common.{sym, ap, ◌∙◌, subst, arith}
use Rattle.index_file.proofs.IndexLaws.{IsStored-index, stored_in-index, stands_for_graph}
use Rattle.index_file.specs.steps.Stores.{IsStored, stored_in}
use Rattle.index_file.proofs.index.Index.view.Goals as goal

pub invariant_of-result : goal.invariant_of-result
invariant_of-result c =
    subst IsStored (sym c.parts_of.ensures) (IsStored-index c.args.bytes.now (λ i. omega (arith, c.type_inv.bytes i)) c.requires)

pub returns-clause-stands_for : goal.returns-clause-stands_for
returns-clause-stands_for c =
    ap stored_in c.parts_of.ensures ∙ stored_in-index c.args.bytes.now (λ i. omega (arith, c.type_inv.bytes i)) c.requires

pub returns-clause-image : goal.returns-clause-image
returns-clause-image c = λ graph image. returns-clause-stands_for c ∙ stands_for_graph graph c.args.bytes.now image
