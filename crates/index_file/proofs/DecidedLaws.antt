-- What can be told by going through numbers and lists: it holds, or it does not.
use Rattle.std.proofs.Common.{◌≡◌, ◌⊎◌, inl, inr, ℕ, ◌<◌, ◌≤◌, Bool, true, false, List, [], ◌∷◌, All, Contains, refl, ap, subst, arith}
use Rattle.std.proofs.lemmas.Bool.{cases_eq, cases_lt}
use Rattle.std.proofs.lemmas.List.Elements.{All-nil, All-cons, All-head, All-tail, All-weaker, All-contains, All-contains_itself, All-from_recursion, recursion_from_All}
use Rattle.std.proofs.lemmas.Slice.Eq.{bytes_eq-Decides}
use Rattle.std.specs.Bool.{Decides}
use Rattle.std.specs.List.Sorted.{IsStrictlySortedBy}
use Rattle.std.specs.Str.{bytes_eq}
use Rattle.std.specs.declared.cmp.Ordering.{Ordering}
use Rattle.std.specs.declared.cmp.Ordering.TheVariants.{Less, Equal, Greater}
use Rattle.bm_term.proofs.Elements.{Contains-head, Contains-tail, Contains-cons_cases, Contains-nil}
use Rattle.term_numbers.specs.Order.{Numbered}

-- it holds, or it does not
abbrev pub Decided : Type 0 → Type 0
Decided P = P ⊎ (P → ⊥)

-- ---- what is made of what can be told

-- what is the same as something told
pub through : {P Q : Type 0} → Decided P → (P → Q) → (Q → P) → Decided Q
through (inl p) to from = inl (to p)
through (inr fails) to from = inr (λ q. fails (from q))

pub both : {P Q : Type 0} → Decided P → Decided Q → Decided (P × Q)
both (inl p) (inl q) = inl (p, q)
both (inl p) (inr fails) = inr (λ h. fails h.1)
both (inr fails) q = inr (λ h. fails h.0)

pub all_three : {P Q R : Type 0} → Decided P → Decided Q → Decided R → Decided (P × Q × R)
all_three p q r = through (both p (both q r)) (λ h. (h.0, h.1.0, h.1.1)) (λ h. (h.0, (h.1, h.2)))

pub one_of : {P Q : Type 0} → Decided P → Decided Q → Decided (P ⊎ Q)
one_of (inl p) q = inl (inl p)
one_of (inr fails) (inl q) = inl (inr q)
one_of (inr fails) (inr none) = inr (λ h. elim h as (λ _. ⊥) [ inl p ↦ fails p | inr q ↦ none q ])

pub denied : {P : Type 0} → Decided P → Decided (P → ⊥)
denied (inl p) = inr (λ fails. fails p)
denied (inr fails) = inl fails

-- what a test tells
by_test : {P : Type 0} (b : Bool) → Decides b P → Decided P
by_test true decides = inl (decides.0 refl)
by_test false decides = inr (λ p. let passes = decides.1 p in absurd (cc))

-- ---- numbers

pub decided_less : (m n : ℕ) → Decided (m < n)
decided_less m n = elim (cases_lt m n) as (λ _. Decided (m < n)) [ inl less ↦ inl less | inr least ↦ inr (λ less. omega arith) ]

pub decided_at_most : (m n : ℕ) → Decided (m ≤ n)
decided_at_most m n = elim (cases_lt n m) as (λ _. Decided (m ≤ n)) [ inl less ↦ inr (λ most. omega arith) | inr most ↦ inl most ]

pub decided_same_list : (xs ys : List ℕ) → Decided (xs ≡ ys)
decided_same_list xs ys = by_test (bytes_eq xs ys) (bytes_eq-Decides xs ys)

pub decided_same_triple : (t u : Numbered) → Decided (t ≡ u)
decided_same_triple t u =
    through (all_three (cases_eq t.0 u.0) (cases_eq t.1 u.1) (cases_eq t.2 u.2)) (λ e i. (e.0 i, e.1 i, e.2 i))
    (λ e. (ap (λ (v : Numbered). v.0) e, ap (λ (v : Numbered). v.1) e, ap (λ (v : Numbered). v.2) e))

-- ---- lists

module _ {X : Type 0} (same : (x y : X) → Decided (x ≡ y)) where
  -- whether a list has an item
  pub decided_Contains : (xs : List X) (x : X) → Decided (Contains xs x)
  decided_Contains [] x = inr (Contains-nil x)
  decided_Contains (y ∷ ys) x =
      through (one_of (same y x) (decided_Contains ys x))
      (λ h. elim h as (λ _. Contains (y ∷ ys) x) [
        | inl e ↦ subst (Contains (y ∷ ys)) e (Contains-head y ys)
        | inr later ↦ Contains-tail y ys x later
      ])
      (Contains-cons_cases y ys x)

module _ {X : Type 0} (P : X → Type 0) (each : (x : X) → Decided (P x)) where
  -- whether all items are such
  pub decided_All : (xs : List X) → Decided (All P xs)
  decided_All [] = inl (All-nil P)
  decided_All (x ∷ xs) =
      through (both (each x) (decided_All xs)) (λ h. All-cons P x xs h.0 h.1) (λ h. (All-head P x xs h, All-tail P x xs h))

  -- and so whether all that a list has are such
  pub decided_of_members : (xs : List X) → Decided ((x : X) → Contains xs x → P x)
  decided_of_members xs =
      through (decided_All xs) (λ all x there. All-contains P xs x all there)
      (λ members. All-weaker (Contains xs) P members xs (All-contains_itself xs))

is_less : (o : Ordering) → Decided (o ≡ Less)
is_less Less = inl refl
is_less Equal = inr (λ e. absurd (cc))
is_less Greater = inr (λ e. absurd (cc))

module _ {K : Type 0} (cmp : K → K → Ordering) where
  -- whether a list ascends
  pub decided_sorted : (ks : List K) → Decided (IsStrictlySortedBy cmp ks)
  unfolding IsStrictlySortedBy
  decided_sorted [] = inl tt
  decided_sorted (k ∷ ks) =
      let after : K → Type 0 = λ y. cmp k y ≡ Less in
      both (through (decided_All after (λ y. is_less (cmp k y)) ks) (recursion_from_All after ks) (All-from_recursion after ks)) (decided_sorted ks)
