use Rattle.std.proofs.Common.{◌↔◌, ℕ, subst, sym, List, Contains, IsTrue}
use Rattle.pattern_rel.specs.declared.side.Side.TheVariants.{First, Second}
use Rattle.mask_steps.proofs.HeldLaws.{left_at}
use Rattle.mask_steps.proofs.OwnLaws.{own_usable, some_left}
use Rattle.mask_steps.proofs.steps.is_left.Goals as goal

pub next-requires-clause-first : goal.next-requires-clause-first
next-requires-clause-first c = own_usable c.args.prepared.now c.requires.fits c.args.i c.get.result.now c.get.ensures First

pub next-requires-clause-second : goal.next-requires-clause-second
next-requires-clause-second c = own_usable c.args.prepared.now c.requires.fits c.args.i c.get.result.now c.get.ensures Second

pub returns : goal.returns
returns c = subst (λ (ts : List (ℕ × ℕ)). IsTrue c.is_some.result ↔ ((pair : ℕ × ℕ) × Contains ts pair)) (sym (left_at c.args.prepared.now c.args.i c.get.result.now c.get.ensures))
    (some_left _ c.next.result c.is_some.result c.next.ensures c.is_some.ensures)
