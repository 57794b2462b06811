use Rattle.std.proofs.Common.{◌≡◌, ℕ, zero, suc, refl, inl, inr, arith, true, false, replicate, slice_index_or, length-set, get_or-set_same, get_or-set_other}
use Rattle.std.proofs.lemmas.Bool.{cases_eq, both_ways}
use Rattle.join_graph.proofs.left.Left.all.Goals as goal

slice_index_or-none : (n q : ℕ) → slice_index_or (replicate n false) q false ≡ false
slice_index_or-none zero q = refl
slice_index_or-none (suc n) zero = refl
slice_index_or-none (suc n) (suc q) = slice_index_or-none n q

pub loop-place-init : goal.loop-place-init
loop-place-init c = (refl, λ q. (λ h. absurd (both_ways _ (slice_index_or-none 256 q) h), λ lt. absurd (omega arith)))

pub loop-place-preserved : goal.loop-place-preserved
loop-place-preserved c = (
  omega (arith, length-set c.loop-place.patterns c.loop-place.place true),
  λ q. elim (cases_eq q c.loop-place.place) [
    | inl e ↦ (λ h. omega arith, λ lt. rw (e, get_or-set_same c.loop-place.patterns c.loop-place.place true false (omega arith)) refl)
    | inr ne ↦
        rw (get_or-set_other c.loop-place.patterns c.loop-place.place q true false ne)
        (λ h. omega (arith, (c.loop-place.invariant.1 q).0 h), λ lt. (c.loop-place.invariant.1 q).1 (omega arith))
  ],
)
