-- Marks that are added one after another, and the items without a mark.
use Rattle.std.proofs.Common.{◌≡◌, ◌≢◌, ◌↔◌, ◌⊎◌, inl, inr, ℕ, zero, suc, ◌+◌, ◌<◌, ◌≤◌, Bool, true, false, if◌then◌else◌, List, [], ◌∷◌, length, get_or, map, replicate, All, Contains, AllPairs, refl, arith, sym, ◌∙◌, ap, subst, slice_index_or, slice_set}
use Rattle.std.proofs.lemmas.List.{get_or-set_same, get_or-set_other, length-set, get_or-map, length-map}
use Rattle.std.proofs.lemmas.List.Elements.{All-contains, All-cons}
use Rattle.std.proofs.lemmas.List.Kept.{AllPairs-cons}
use Rattle.std.proofs.lemmas.Bool.{cases_eq}
use Rattle.bm_term.proofs.Elements.{Contains-head, Contains-tail, Contains-cons_cases, Contains-nil}
use Rattle.alg_model.proofs.Lists.{AllPairs-head, AllPairs-tail}
use Rattle.null_best.specs.steps.Marks.{IsMarked, AddsMarks, unmarked}

-- no mark is added
pub adds-none : (P : ℕ → Type 0) (marks : List Bool) → ((k : ℕ) → ¬ P k) → AddsMarks P marks marks
adds-none P marks none = record { len = refl; marked = λ k. (λ is. inl is, λ either. elim either [ inl is ↦ is | inr p ↦ absurd (none k p) ]) }

-- the same places, said otherwise
pub adds-same : (P Q : ℕ → Type 0) (old new : List Bool) → ((k : ℕ) → P k ↔ Q k) → AddsMarks P old new → AddsMarks Q old new
adds-same P Q old new same adds = record {
  len = adds.len;
  marked = λ k. (
    λ is. elim ((adds.marked k).0 is) [ inl was ↦ inl was | inr p ↦ inr ((same k).0 p) ],
    λ either. (adds.marked k).1 (elim either as (λ _. IsMarked old k ⊎ P k) [ inl was ↦ inl was | inr q ↦ inr ((same k).1 q) ]),
  );
}

-- marks of one kind, and then of another
pub adds-then : (P Q R : ℕ → Type 0) (a b c : List Bool) → ((k : ℕ) → R k ↔ (P k ⊎ Q k)) → AddsMarks P a b → AddsMarks Q b c → AddsMarks R a c
adds-then P Q R a b c both first second = record {
  len = second.len ∙ first.len;
  marked = λ k. (forth k, back k);
} where
  forth : (k : ℕ) → IsMarked c k → IsMarked a k ⊎ R k
  forth k is = elim ((second.marked k).0 is) [
    | inl was ↦ elim ((first.marked k).0 was) [ inl earlier ↦ inl earlier | inr p ↦ inr ((both k).1 (inl p)) ]
    | inr q ↦ inr ((both k).1 (inr q))
  ]

  back : (k : ℕ) → IsMarked a k ⊎ R k → IsMarked c k
  back k (inl was) = (second.marked k).1 (inl ((first.marked k).1 (inl was)))
  back k (inr r) = elim ((both k).0 r) [
    | inl p ↦ (second.marked k).1 (inl ((first.marked k).1 (inr p)))
    | inr q ↦ (second.marked k).1 (inr q)
  ]

-- one place is marked
pub adds-one : (P : ℕ → Type 0) (marks : List Bool) (at : ℕ) → at < length marks → P at → ((k : ℕ) → P k → k ≡ at) → AddsMarks P marks (slice_set marks at true)
adds-one P marks at within is only = record {
  len = length-set marks at true;
  marked = λ k. (forth k, back k);
} where
  set : (k : ℕ) → k ≡ at → IsMarked (slice_set marks at true) k
  set k same = ap (λ j. slice_index_or (slice_set marks at true) j false) same ∙ get_or-set_same marks at true false within

  forth : (k : ℕ) → IsMarked (slice_set marks at true) k → IsMarked marks k ⊎ P k
  forth k now = elim (cases_eq k at) [
    | inl same ↦ inr (subst P (sym same) is)
    | inr other ↦ inl (sym (get_or-set_other marks at k true false other) ∙ now)
  ]

  back : (k : ℕ) → IsMarked marks k ⊎ P k → IsMarked (slice_set marks at true) k
  back k (inr p) = set k (only k p)
  back k (inl was) = elim (cases_eq k at) [
    | inl same ↦ set k same
    | inr other ↦ get_or-set_other marks at k true false other ∙ was
  ]

-- where there are no marks yet
pub none-replicate : (n k : ℕ) → IsMarked (replicate n false) k → ⊥
none-replicate zero k is = absurd (cc)
none-replicate (suc n) zero is = absurd (cc)
none-replicate (suc n) (suc k) is = none-replicate n k is

-- an item without a mark
pub record Stays {X : Type 0} (xs : List X) (marks : List Bool) (x : X) : Type 0 where
  pub place : ℕ
  pub within : place < length xs
  pub is : get_or xs place x ≡ x
  pub plain : ¬ IsMarked marks place

stays-later : {X : Type 0} (y : X) (xs : List X) (mark : Bool) (marks : List Bool) (x : X) → Stays xs marks x → Stays (y ∷ xs) (mark ∷ marks) x
stays-later y xs mark marks x stays = record { place = suc stays.place; within = omega (arith, stays.within); is = stays.is; plain = stays.plain }

stays-first : {X : Type 0} (y : X) (xs : List X) (marks : List Bool) (x : X) → y ≡ x → Stays (y ∷ xs) (false ∷ marks) x
stays-first y xs marks x same = record { place = 0; within = omega arith; is = same; plain = λ marked. absurd (cc) }

-- what is left has a place without a mark
pub unmarked-source : {X : Type 0} (xs : List X) (marks : List Bool) (x : X) → length marks ≡ length xs → Contains (unmarked xs marks) x → Stays xs marks x
unmarked-source [] marks x long at = absurd (Contains-nil x at)
unmarked-source (y ∷ xs) [] x long at = absurd (omega arith)
unmarked-source (y ∷ xs) (true ∷ marks) x long at = stays-later y xs true marks x (unmarked-source xs marks x (omega arith) at)
unmarked-source (y ∷ xs) (false ∷ marks) x long at = elim (Contains-cons_cases y (unmarked xs marks) x at) [
  | inl same ↦ stays-first y xs marks x same
  | inr later ↦ stays-later y xs false marks x (unmarked-source xs marks x (omega arith) later)
]

-- and each item without a mark is left
pub Contains-unmarked : {X : Type 0} (xs : List X) (marks : List Bool) (k : ℕ) (x : X) → k < length xs → get_or xs k x ≡ x → ¬ IsMarked marks k → Contains (unmarked xs marks) x
Contains-unmarked [] marks k x within is plain = absurd (omega arith)
Contains-unmarked (y ∷ xs) [] zero x within is plain = subst (Contains (y ∷ unmarked xs [])) is (Contains-head y (unmarked xs []))
Contains-unmarked (y ∷ xs) [] (suc k) x within is plain = Contains-tail y (unmarked xs []) x (Contains-unmarked xs [] k x (omega arith) is (λ marked. absurd (cc)))
Contains-unmarked (y ∷ xs) (true ∷ marks) zero x within is plain = absurd (plain refl)
Contains-unmarked (y ∷ xs) (true ∷ marks) (suc k) x within is plain = Contains-unmarked xs marks k x (omega arith) is plain
Contains-unmarked (y ∷ xs) (false ∷ marks) zero x within is plain = subst (Contains (y ∷ unmarked xs marks)) is (Contains-head y (unmarked xs marks))
Contains-unmarked (y ∷ xs) (false ∷ marks) (suc k) x within is plain = Contains-tail y (unmarked xs marks) x (Contains-unmarked xs marks k x (omega arith) is plain)

-- what holds of all items holds of those that are left
All-rest : {X : Type 0} (P : X → Type 0) (x : X) (xs : List X) → All P (x ∷ xs) → All P xs
All-rest P x xs all k d lt = all (suc k) d (omega arith)

pub All-unmarked : {X : Type 0} (P : X → Type 0) (xs : List X) (marks : List Bool) → All P xs → All P (unmarked xs marks)
All-unmarked P [] marks all = all
All-unmarked P (x ∷ xs) [] all = All-cons P x (unmarked xs []) (all 0 x (omega arith)) (All-unmarked P xs [] (All-rest P x xs all))
All-unmarked P (x ∷ xs) (true ∷ marks) all = All-unmarked P xs marks (All-rest P x xs all)
All-unmarked P (x ∷ xs) (false ∷ marks) all = All-cons P x (unmarked xs marks) (all 0 x (omega arith)) (All-unmarked P xs marks (All-rest P x xs all))

pub AllPairs-unmarked : {X : Type 0} (R : X → X → Type 0) (xs : List X) (marks : List Bool) → AllPairs R xs → AllPairs R (unmarked xs marks)
AllPairs-unmarked R [] marks all = all
AllPairs-unmarked R (x ∷ xs) [] all =
    AllPairs-cons R x (unmarked xs []) (All-unmarked (R x) xs [] (AllPairs-head R x xs all)) (AllPairs-unmarked R xs [] (AllPairs-tail R x xs all))
AllPairs-unmarked R (x ∷ xs) (true ∷ marks) all = AllPairs-unmarked R xs marks (AllPairs-tail R x xs all)
AllPairs-unmarked R (x ∷ xs) (false ∷ marks) all =
    AllPairs-cons R x (unmarked xs marks) (All-unmarked (R x) xs marks (AllPairs-head R x xs all)) (AllPairs-unmarked R xs marks (AllPairs-tail R x xs all))
