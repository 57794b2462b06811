-- The order of triples is total, and only equal triples tie.
use Rattle.std.proofs.Common.{◌≡◌, refl}
use Rattle.std.proofs.lemmas.Map.Lookups.{CmpEqualImpliesEq, exact_bytes}
use Rattle.std.specs.Cmp.{IsTotalOrder, then_total, on_total, nat_cmp_total}
use Rattle.std.specs.Cmp.Lexicographic.{lists_total}
use Rattle.std.specs.Ordering.{ordering_then}
use Rattle.std.specs.declared.cmp.Ordering.{Ordering}
use Rattle.std.specs.declared.cmp.Ordering.TheVariants.{Less, Equal, Greater}
use Rattle.bm_term.specs.Graph.{triple_cmp}

pub triple_cmp-total : IsTotalOrder triple_cmp
triple_cmp-total =
    then_total (on_total (λ t. t.subject) (lists_total nat_cmp_total))
    (then_total (on_total (λ t. t.predicate) (lists_total nat_cmp_total)) (on_total (λ t. t.object) (lists_total nat_cmp_total)))

-- two comparisons in turn tie where both do
both_tie : (r s : Ordering) → ordering_then r s ≡ Equal → (r ≡ Equal) × (s ≡ Equal)
both_tie Less s h = absurd (cc)
both_tie Equal s h = (refl, h)
both_tie Greater s h = absurd (cc)

pub triple_cmp-exact : CmpEqualImpliesEq triple_cmp
triple_cmp-exact t u tie =
    let subjects = both_tie _ _ tie in
    let others = both_tie _ _ subjects.1 in
    let s = exact_bytes t.subject u.subject subjects.0 in
    let p = exact_bytes t.predicate u.predicate others.0 in
    let o = exact_bytes t.object u.object others.1 in
    λ i. record { subject = s i; predicate = p i; object = o i }
