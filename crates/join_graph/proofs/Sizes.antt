-- Laws of `HasSize`: sets made from others, and what a size says.
use Rattle.std.proofs.Common.{◌≡◌, ◌≢◌, ℕ, zero, suc, ◌+◌, ◌<◌, ◌≤◌, ◌⊎◌, inl, inr, refl, sym, ap, ◌∙◌, subst, arith, zero-add, suc-add, add-one}
use Rattle.std.proofs.lemmas.Bool.{cases_eq}
use Rattle.join_graph.specs.Sets.{HasAtMostOne, HasTwo, HasSize, without}

-- sets with the same members have the same size
pub HasSize-same : {X : Type 0} (set other : X → Type 0) (n : ℕ) → ((x : X) → set x → other x) → ((x : X) → other x → set x) → HasSize set n → HasSize other n
unfolding HasSize
HasSize-same set other zero to back size = λ x h. size x (back x h)
HasSize-same set other (suc n) to back size =
    (size.0, to size.0 size.1, HasSize-same (without set size.0) (without other size.0) n (λ x h. (to x h.0, h.1)) (λ x h. (back x h.0, h.1)) size.2)

-- a set with a member is not empty
pub HasSize-positive : {X : Type 0} (set : X → Type 0) (n : ℕ) (x : X) → HasSize set n → set x → 0 < n
unfolding HasSize
HasSize-positive set zero x size h = absurd (size x h)
HasSize-positive set (suc n) x size h = omega arith

-- a set of no members is empty
pub HasSize-empty : {X : Type 0} (set : X → Type 0) → HasSize set 0 → (x : X) → ¬ set x
unfolding HasSize
HasSize-empty set size = size

-- the empty set has no members
pub HasSize-none : {X : Type 0} (set : X → Type 0) → ((x : X) → ¬ set x) → HasSize set 0
unfolding HasSize
HasSize-none set none = none

-- a set of some members is not empty
pub HasSize-some : {X : Type 0} (set : X → Type 0) (n : ℕ) → HasSize set n → 0 < n → (x : X) × set x
unfolding HasSize
HasSize-some set zero size h = absurd (omega arith)
HasSize-some set (suc n) size h = (size.0, size.1)

-- a member more
pub HasSize-suc : {X : Type 0} (set : X → Type 0) (n : ℕ) (x : X) → set x → HasSize (without set x) n → HasSize set (suc n)
unfolding HasSize
HasSize-suc set n x h size = (x, h, size)

-- a set of two or more has two members
pub HasTwo-from_size : {X : Type 0} (set : X → Type 0) (n : ℕ) → HasSize set n → 2 ≤ n → HasTwo set
unfolding HasSize
HasTwo-from_size set zero size h = absurd (omega arith)
HasTwo-from_size set (suc zero) size h = absurd (omega arith)
HasTwo-from_size set (suc (suc n)) size h =
    record { first = size.2.0; second = size.0; first_in = size.2.1.0; second_in = size.1; apart = size.2.1.1 }

-- two sets without a common member, together
pub HasSize-both : {X : Type 0} (set other : X → Type 0) (n m : ℕ) → ((x : X) → set x → other x → ⊥) → HasSize set n → HasSize other m → HasSize (λ x. set x ⊎ other x) (n + m)
unfolding HasSize
HasSize-both set other zero m apart size size' =
    rw zero-add
    (HasSize-same other (λ x. set x ⊎ other x) m (λ x h. inr h) (λ x h. elim h [ inl l ↦ absurd (size x l) | inr r ↦ r ]) size')
HasSize-both set other (suc n) m apart size size' =
    rw suc-add
    (HasSize-suc (λ x. set x ⊎ other x) (n + m) size.0 (inl size.1)
    (HasSize-same (λ x. without set size.0 x ⊎ other x) (without (λ x. set x ⊎ other x) size.0) (n + m)
    (λ x h. elim h [ inl l ↦ (inl l.0, l.1) | inr r ↦ (inr r, λ e. apart size.0 size.1 (subst other e r)) ])
    (λ x h. elim h.0 [ inl l ↦ inl (l, h.1) | inr r ↦ inr r ])
    (HasSize-both (without set size.0) other n m (λ x h o. apart x h.0 o) size.2 size')))

-- the image of a set under a function that keeps its members apart
pub HasSize-image : {X Y : Type 0} (f : X → Y) (set : X → Type 0) (n : ℕ) → ((x y : X) → f x ≡ f y → x ≡ y) → HasSize set n → HasSize (λ y. (x : X) × set x × (f x ≡ y)) n
unfolding HasSize
HasSize-image f set zero apart size = λ y h. size h.0 h.1
HasSize-image {X} f set (suc n) apart size = (
  f size.0,
  (size.0, size.1, refl),
  HasSize-same (λ y. (x : X) × without set size.0 x × (f x ≡ y)) (without (λ y. (x : X) × set x × (f x ≡ y)) (f size.0)) n
      (λ y h. ((h.0, h.1.0, h.2), λ e. h.1.1 (apart h.0 size.0 (h.2 ∙ e))))
      (λ y h. (h.0.0, (h.0.1, λ e. h.1 (sym h.0.2 ∙ ap f e)), h.0.2))
      (HasSize-image f (without set size.0) n apart size.2),
)

module _ {X : Type 0} (cases : (x y : X) → (x ≡ y) ⊎ (x ≢ y)) where
  -- a set without one of its members
  pub HasSize-without : (set : X → Type 0) (n : ℕ) (x : X) → HasSize set (suc n) → set x → HasSize (without set x) n
  unfolding HasSize
  HasSize-without set zero x size h =
      elim (cases size.0 x) [
        | inl e ↦ λ z w. size.2 z (w.0, λ e'. w.1 (e' ∙ e))
        | inr ne ↦ absurd (size.2 x (h, λ e. ne (sym e)))
      ]
  HasSize-without set (suc n) x size h =
      elim (cases size.0 x) [
        | inl e ↦ HasSize-same (without set size.0) (without set x) (suc n) (λ z w. (w.0, λ e'. w.1 (e' ∙ sym e))) (λ z w. (w.0, λ e'. w.1 (e' ∙ e))) size.2
        | inr ne ↦ (
          size.0,
          (size.1, ne),
          HasSize-same (without (without set size.0) x) (without (without set x) size.0) n
              (λ z w. ((w.0.0, w.1), w.0.1))
              (λ z w. ((w.0.0, w.1), w.0.1))
              (HasSize-without (without set size.0) n x size.2 (h, λ e. ne (sym e))),
        )
      ]

  -- a set of at most one has at most one member
  pub HasAtMostOne-from_size : (set : X → Type 0) (n : ℕ) → HasSize set n → n ≤ 1 → HasAtMostOne set
  unfolding HasSize
  HasAtMostOne-from_size set zero size h = λ x y in_x in_y. absurd (size x in_x)
  HasAtMostOne-from_size set (suc zero) size h =
      λ x y in_x in_y. elim (cases x size.0) [
        | inl e ↦ elim (cases y size.0) [ inl e' ↦ e ∙ sym e' | inr ne ↦ absurd (size.2 y (in_y, ne)) ]
        | inr ne ↦ absurd (size.2 x (in_x, ne))
      ]
  HasAtMostOne-from_size set (suc (suc n)) size h = absurd (omega arith)

-- the numbers below n
pub HasSize-below : (n : ℕ) → HasSize (λ p. p < n) n
unfolding HasSize
HasSize-below zero = λ p h. omega arith
HasSize-below (suc n) =
    (n, omega arith, HasSize-same (λ p. p < n) (without (λ p. p < suc n) n) n (λ p h. (omega arith, λ e. omega arith)) (λ p h. omega arith) (HasSize-below n))

-- what holds below i + 1, where it holds of i too
pub HasSize-more : (P : ℕ → Type 0) (i n : ℕ) → HasSize (λ p. (p < i) × P p) n → P i → HasSize (λ p. (p < i + 1) × P p) (n + 1)
HasSize-more P i n size h =
    rw (add-one n)
    (HasSize-suc (λ p. (p < i + 1) × P p) n i (omega arith, h)
    (HasSize-same (λ p. (p < i) × P p) (without (λ p. (p < i + 1) × P p) i) n
    (λ p w. ((omega arith, w.1), λ e. omega arith))
    (λ p w. (omega arith, w.0.1))
    size))

-- and where it does not hold of i
pub HasSize-skip : (P : ℕ → Type 0) (i n : ℕ) → HasSize (λ p. (p < i) × P p) n → ¬ P i → HasSize (λ p. (p < i + 1) × P p) n
HasSize-skip P i n size none =
    HasSize-same (λ p. (p < i) × P p) (λ p. (p < i + 1) × P p) n
    (λ p w. (omega arith, w.1))
    (λ p w. (elim (cases_eq p i) [ inl e ↦ absurd (none (subst P e w.1)) | inr ne ↦ omega arith ], w.1))
    size
