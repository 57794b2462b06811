use Rattle.std.proofs.Common.{◌≡◌, sym, ap, ◌∙◌, ◌-◌, Some, take, drop, arith, subst, All}
use Rattle.std.specs.List.{slice_get}
use Rattle.bm_term.specs.Canonical.{IsCanonical}
use Rattle.term_numbers.proofs.TableLaws.{length-starts, text_between, IsText, canonical_at}
use Rattle.term_numbers.proofs.table.Table.text.Goals as goal

pub index-requires : goal.index-requires
index-requires c = omega (arith, length-starts _ _ c.args.self.now c.self.invariant.cut c.self.view_is, c.requires)

pub overflow_add-place : goal.overflow_add-place
overflow_add-place c = omega (arith, length-starts _ _ c.args.self.now c.self.invariant.cut c.self.view_is, c.requires, c.self.inside.starts.small)

pub index-requires-2 : goal.index-requires-2
index-requires-2 c = omega (arith, length-starts _ _ c.args.self.now c.self.invariant.cut c.self.view_is, c.requires)

pub piece-text-requires : goal.piece-text-requires
piece-text-requires c =
    let is : IsText _ _ c.args.self.now c.args.place c.index.result.now c.index-2.result.now = text_between _ _ c.args.self.now c.args.place _ _ c.self.invariant.cut c.self.view_is c.requires c.index.ensures c.index-2.ensures in
    record { up = is.up; within = omega (arith, is.within, c.deref.ensures.len) }

at : (c : goal.After-piece-text) → slice_get c.args.self.now c.args.place ≡ Some c.piece-text.result.now
at c =
    let is : IsText _ _ c.args.self.now c.args.place c.index.result.now c.index-2.result.now = text_between _ _ c.args.self.now c.args.place _ _ c.self.invariant.cut c.self.view_is c.requires c.index.ensures c.index-2.ensures in
    is.text ∙ ap (λ b. Some (take (c.index-2.result.now - c.index.result.now) (drop c.index.result.now b))) (sym c.deref.ensures.value) ∙ ap Some (sym c.piece-text.ensures)

pub from_canonical-requires : goal.from_canonical-requires
from_canonical-requires c = canonical_at c.args.self.now c.args.place c.piece-text.result.now (subst (All (λ t. ∥ IsCanonical t ∥₁)) c.self.view_is c.self.invariant.canonical) (at c)

pub returns : goal.returns
returns c =
    let is : IsText _ _ c.args.self.now c.args.place c.index.result.now c.index-2.result.now = text_between _ _ c.args.self.now c.args.place _ _ c.self.invariant.cut c.self.view_is c.requires c.index.ensures c.index-2.ensures in
    is.text ∙ ap (λ b. Some (take (c.index-2.result.now - c.index.result.now) (drop c.index.result.now b))) (sym c.deref.ensures.value) ∙ ap Some (sym c.piece-text.ensures) ∙ ap Some (sym c.from_canonical.ensures)
