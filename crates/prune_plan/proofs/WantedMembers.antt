-- Members that passes look at.
use Rattle.std.proofs.Common.{◌≡◌, ◌≢◌, ◌↔◌, inr, ℕ, ◌+◌, List, Some, sym, ◌∙◌, ap, subst, arith}
use Rattle.std.specs.Prelude.{slice_get}
use Rattle.join_graph.specs.declared.steps.Step.TheVariants.{Pattern, Variable}
use Rattle.join_graph.specs.Members.{Member}
use Rattle.pruning_laws.specs.Passes.{reduce}
use Rattle.prune_plan.specs.steps.Members.{IsWanted}

module _ (pairs : List (Member × Member)) (i : ℕ) where
  -- what is looked at later is looked at earlier
  pub wanted_more : (m : Member) → IsWanted pairs i m → IsWanted pairs (i + 1) m
  wanted_more (Pattern p) wanted = tt
  wanted_more (Variable v) wanted = (wanted.0, (let low = wanted.1 in omega arith), wanted.2)

  -- so is the second member of the i-th pair
  pub wanted_second : (m n : Member) → slice_get pairs i ≡ Some (m, n) → IsWanted pairs (i + 1) n
  wanted_second m (Pattern p) at = tt
  wanted_second m (Variable v) at = (i, omega arith, (m, inr at))

  -- one that is looked at is another than one that is not
  pub wanted_apart : (m k : Member) → (IsWanted pairs i m → ⊥) → IsWanted pairs i k → k ≢ m
  wanted_apart m k none wanted same = none (subst (IsWanted pairs i) same wanted)

-- a reduction of another member leaves what a member holds
pub reduce_other : {M I : Type 0} (agree : M → I → M → I → Type 0) (by member k : M) (held : M → I → Type 0) (i : I) → k ≢ member → held k i ↔ reduce agree by member held k i
reduce_other agree by member k held i apart = (λ h. (h, λ e. absurd (apart e)), λ h. h.0)

-- a place has one pair
same_pair : (pairs : List (Member × Member)) (i : ℕ) (pair other : Member × Member) → slice_get pairs i ≡ Some pair → slice_get pairs i ≡ Some other → pair ≡ other
same_pair pairs i pair other at at' = let same : Some pair ≡ Some other = sym at ∙ at' in cc

pub one_pair : (pairs : List (Member × Member)) (i : ℕ) (first second m n : Member) → slice_get pairs i ≡ Some (first, second) → slice_get pairs i ≡ Some (m, n) → (first ≡ m) × (second ≡ n)
one_pair pairs i first second m n at at' =
    let same = same_pair pairs i (first, second) (m, n) at at' in
    (ap (λ (p : Member × Member). p.0) same, ap (λ (p : Member × Member). p.1) same)

-- a pair of members that are not the variable
pub pair_apart : (pairs : List (Member × Member)) (j k v : ℕ) (first second m n : Member) → j ≡ k → slice_get pairs k ≡ Some (first, second) → slice_get pairs j ≡ Some (m, n) →
    (first ≢ Variable v) → (second ≢ Variable v) → (m ≢ Variable v) × (n ≢ Variable v)
pair_apart pairs j k v first second m n is at at' apart apart' =
    let same = one_pair pairs j first second m n (ap (slice_get pairs) is ∙ at) at' in
    (λ e. apart (same.0 ∙ e), λ e. apart' (same.1 ∙ e))

-- and the reduction is by its second member
pub reduce_pair : {I : Type 0} (pairs : List (Member × Member)) (i : ℕ) (first second m n : Member) → slice_get pairs i ≡ Some (first, second) → slice_get pairs i ≡ Some (m, n) →
    (agree : Member → I → Member → I → Type 0) (held : Member → I → Type 0) (k : Member) (item : I) {now : Type 0} → now ↔ reduce agree second first held k item → now ↔ reduce agree n m held k item
reduce_pair pairs i first second m n at at' agree held k item {now} is =
    let same = one_pair pairs i first second m n at at' in
    subst (λ m. now ↔ reduce agree n m held k item) same.0 (subst (λ n. now ↔ reduce agree n first held k item) same.1 is)
