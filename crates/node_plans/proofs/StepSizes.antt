-- A removal has no more steps than there are members.
use Rattle.std.proofs.Common.{◌≡◌, ◌⊎◌, inl, inr, ◌+◌, ◌<◌, ◌≤◌, ℕ, zero, suc, ◌++◌, List, [], ◌∷◌, length, take, get_or, Contains, refl, sym, subst, arith, add-one}
use Rattle.std.proofs.lemmas.Bool.{cases_lt}
use Rattle.std.proofs.lemmas.List.{take_more}
use Rattle.std.proofs.lemmas.List.Elements.{Contains-append_left, Contains-push, Contains-push_cases}
use Rattle.join_graph.specs.declared.steps.Step.TheVariants.{Pattern, Variable}
use Rattle.join_graph.specs.Left.{IsInRange}
use Rattle.join_graph.specs.Members.{Member, IsMember}
use Rattle.join_graph.specs.Removal.{IsRemoval}
use Rattle.join_graph.specs.Sets.{HasSize, without}
use Rattle.join_graph.proofs.Members.{cases_Member}
use Rattle.join_graph.proofs.Sizes.{HasSize-same, HasSize-empty, HasSize-both, HasSize-image, HasSize-below, HasSize-without}

apart_patterns : (p q : ℕ) → Pattern p ≡ Pattern q → p ≡ q
apart_patterns p q e = cc

apart_variables : (v w : ℕ) → Variable v ≡ Variable w → v ≡ w
apart_variables v w e = cc

size_in : (n : ℕ) → HasSize (IsInRange n) (n + 64)
size_in n = HasSize-same (λ m. ((p : ℕ) × (p < n) × (Pattern p ≡ m)) ⊎ ((v : ℕ) × (v < 64) × (Variable v ≡ m))) (IsInRange n) (n + 64)
    (λ m h. elim h as (λ _. IsInRange n m) [ inl l ↦ subst (IsInRange n) l.2 l.1 | inr r ↦ subst (IsInRange n) r.2 r.1 ]) at_member
    (HasSize-both (λ m. (p : ℕ) × (p < n) × (Pattern p ≡ m)) (λ m. (v : ℕ) × (v < 64) × (Variable v ≡ m)) n 64
    (λ m l r. let e : Pattern l.0 ≡ Variable r.0 = cc (l.2, r.2) in cc)
    (HasSize-image Pattern (λ p. p < n) n apart_patterns (HasSize-below n)) (HasSize-image Variable (λ v. v < 64) 64 apart_variables (HasSize-below 64))) where
      at_member : (m : Member) → IsInRange n m → ((p : ℕ) × (p < n) × (Pattern p ≡ m)) ⊎ ((v : ℕ) × (v < 64) × (Variable v ≡ m))
      at_member (Pattern p) h = inl (p, h, refl)
      at_member (Variable v) h = inr (v, h, refl)

module _ (sets : List ℕ) (steps : List Member) (n : ℕ) (inside : (m : Member) → IsMember sets m → IsInRange n m) (removal : IsRemoval sets steps) where
  -- those that the first steps do not remove
  abbrev Rest : ℕ → Member → Type 0
  Rest i m = IsInRange n m × (¬ Contains (take i steps) m)

  -- the next step removes one of them
  is_rest : (i : ℕ) → i < length steps → (d : Member) → Rest i (get_or steps i d)
  is_rest i low d =
      let left = (removal.leaves i low d).0 in
      (inside (get_or steps i d) left.0, left.1)

  -- and leaves the others
  rest_more : (i : ℕ) → i < length steps → (d m : Member) → without (Rest i) (get_or steps i d) m → Rest (suc i) m
  rest_more i low d m h =
      let front = take_more steps i d low in (
        h.0.0,
        λ c. elim (Contains-push_cases (take i steps) (get_or steps i d) m (subst (λ front. Contains front m) front (subst (λ k. Contains (take k steps) m) (sym (add-one i)) c))) as (λ _. ⊥) [
          | inl was ↦ h.0.1 was
          | inr e ↦ h.1 (sym e)
        ],
      )

  rest_fewer : (i : ℕ) → i < length steps → (d m : Member) → Rest (suc i) m → without (Rest i) (get_or steps i d) m
  rest_fewer i low d m h =
      let front = take_more steps i d low in
      let gone : (x : Member) → Contains (take i steps ++ get_or steps i d ∷ []) x → Contains (take (suc i) steps) x = λ x c. subst (λ k. Contains (take k steps) x) (add-one i) (subst (λ front. Contains front x) (sym front) c) in
      ((h.0, λ c. h.1 (gone m (Contains-append_left (take i steps) (get_or steps i d ∷ []) m c))), λ e. h.1 (gone m (subst (Contains (take i steps ++ get_or steps i d ∷ [])) (sym e) (Contains-push (take i steps) (get_or steps i d)))))

  size_rest : (i : ℕ) → i ≤ length steps → (k : ℕ) → k + i ≡ n + 64 → HasSize (Rest i) k
  size_rest zero low k is =
      let all : k ≡ n + 64 = omega arith in
      HasSize-same (IsInRange n) (Rest 0) k (λ m h. (h, λ c. omega (arith, c.1))) (λ m h. h.0) (subst (HasSize (IsInRange n)) (sym all) (size_in n))
  size_rest (suc i) low k is =
      let before : HasSize (Rest i) (suc k) = size_rest i (omega arith) (suc k) (omega arith) in
      let d = Pattern 0 in
      HasSize-same (without (Rest i) (get_or steps i d)) (Rest (suc i)) k (rest_more i (omega arith) d) (rest_fewer i (omega arith) d)
      (HasSize-without cases_Member (Rest i) k (get_or steps i d) before (is_rest i (omega arith) d))

  -- so there are no more steps than members
  pub few_steps : length steps ≤ n + 64
  few_steps = elim (cases_lt (n + 64) (length steps)) as (λ _. length steps ≤ n + 64) [
    | inl more ↦ absurd (HasSize-empty (Rest (n + 64)) (size_rest (n + 64) (omega arith) 0 (omega arith)) (get_or steps (n + 64) (Pattern 0)) (is_rest (n + 64) more (Pattern 0)))
    | inr few ↦ omega arith
  ]
