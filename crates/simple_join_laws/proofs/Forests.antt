-- A forest in another order is a forest.
use Rattle.std.proofs.Common.{◌≡◌, ◌≢◌, ◌⊎◌, inl, inr, ℕ, ◌<◌, List, length, get_or, swap, Some, IsPermutation, refl, sym, ◌∙◌, ap, arith}
use Rattle.std.proofs.lemmas.Bool.{cases_eq}
use Rattle.std.proofs.lemmas.List.Edits.{Swapped, swapped_from_swap, length-swap}
use Rattle.std.proofs.lemmas.List.Sorted.{IsPermutation-keeps}
use Rattle.std.proofs.lemmas.Option.{slice_get-get_or}
use Rattle.join_graph.specs.Core.{IsForest, IsPart}
use Rattle.join_graph.proofs.Parts.{IsForest-part}

-- where the element at a place stood before a swap
came_from : (a b m : ℕ) → (m ≡ a) ⊎ (m ≢ a) → (m ≡ b) ⊎ (m ≢ b) → ℕ
came_from a b m (inl is_a) at_b = b
came_from a b m (inr not_a) (inl is_b) = a
came_from a b m (inr not_a) (inr not_b) = m

abbrev place : ℕ → ℕ → ℕ → ℕ
place a b m = came_from a b m (cases_eq m a) (cases_eq m b)

module _ (xs : List ℕ) (a b : ℕ) (low_a : a < length xs) (low_b : b < length xs) where
  came_low : (m : ℕ) (at_a : (m ≡ a) ⊎ (m ≢ a)) (at_b : (m ≡ b) ⊎ (m ≢ b)) → m < length xs → came_from a b m at_a at_b < length xs
  unfolding came_from
  came_low m (inl is_a) at_b low = low_b
  came_low m (inr not_a) (inl is_b) low = low_a
  came_low m (inr not_a) (inr not_b) low = low

  came_same : (m : ℕ) (at_a : (m ≡ a) ⊎ (m ≢ a)) (at_b : (m ≡ b) ⊎ (m ≢ b)) → get_or xs (came_from a b m at_a at_b) 0 ≡ get_or (swap xs a b) m 0
  unfolding came_from
  came_same m at_a at_b = by at_a at_b (swapped_from_swap xs (swap xs a b) a b 0 low_a low_b refl) where
    by : (at_a : (m ≡ a) ⊎ (m ≢ a)) (at_b : (m ≡ b) ⊎ (m ≢ b)) → Swapped (λ i. get_or xs i 0) (λ i. get_or (swap xs a b) i 0) a b → get_or xs (came_from a b m at_a at_b) 0 ≡ get_or (swap xs a b) m 0
    by (inl is_a) at_b s = sym s.0 ∙ ap (λ i. get_or (swap xs a b) i 0) (sym is_a)
    by (inr not_a) (inl is_b) s = sym s.1 ∙ ap (λ i. get_or (swap xs a b) i 0) (sym is_b)
    by (inr not_a) (inr not_b) s = sym (s.2 m not_a not_b)

  came_apart : (p q : ℕ) (p_a : (p ≡ a) ⊎ (p ≢ a)) (p_b : (p ≡ b) ⊎ (p ≢ b)) (q_a : (q ≡ a) ⊎ (q ≢ a)) (q_b : (q ≡ b) ⊎ (q ≢ b)) → came_from a b p p_a p_b ≡ came_from a b q q_a q_b → p ≡ q
  unfolding came_from
  came_apart p q (inl e) p_b (inl f) q_b is = omega (arith, e, f)
  came_apart p q (inl e) p_b (inr f) (inl g) is = omega (arith, e, f, g, is)
  came_apart p q (inl e) p_b (inr f) (inr g) is = omega (arith, e, f, g, is)
  came_apart p q (inr e) (inl p_b) (inl f) q_b is = omega (arith, e, p_b, f, is)
  came_apart p q (inr e) (inl p_b) (inr f) (inl g) is = omega (arith, p_b, g)
  came_apart p q (inr e) (inl p_b) (inr f) (inr g) is = omega (arith, e, p_b, f, g, is)
  came_apart p q (inr e) (inr p_b) (inl f) q_b is = omega (arith, e, p_b, f, is)
  came_apart p q (inr e) (inr p_b) (inr f) (inl g) is = omega (arith, e, p_b, f, g, is)
  came_apart p q (inr e) (inr p_b) (inr f) (inr g) is = is

  part-swap : IsPart (swap xs a b) xs
  part-swap = record {
    place = place a b;
    same = λ m low.
        let there : m < length xs = omega (arith, low, length-swap xs a b) in
        slice_get-get_or xs (place a b m) 0 (came_low m (cases_eq m a) (cases_eq m b) there)
        ∙ ap (λ x. Some x) (came_same m (cases_eq m a) (cases_eq m b)) ∙ sym (slice_get-get_or (swap xs a b) m 0 low);
    apart = λ p q low low' is. came_apart p q (cases_eq p a) (cases_eq p b) (cases_eq q a) (cases_eq q b) is;
  }

pub forest_permuted : (xs ys : List ℕ) → IsPermutation xs ys → IsForest xs → IsForest ys
forest_permuted xs ys moved forest = IsPermutation-keeps xs IsForest forest (λ l a b low_a low_b is. IsForest-part (swap l a b) l (part-swap l a b low_a low_b) is) ys moved
