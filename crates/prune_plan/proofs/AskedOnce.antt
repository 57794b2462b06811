-- How a variable comes to be reduced by the first triple pattern that has it, and by no other.
use Rattle.std.proofs.Common.{◌≡◌, ◌↔◌, ◌⊎◌, inl, inr, ℕ, ◌+◌, ◌<◌, ◌%◌, min, List, Option, get_or, bit_and, subst, arith}
use Rattle.std.specs.Int.{bit_at}
use Rattle.std.specs.Int.Bits.{bit_xor}
use Rattle.std.proofs.lemmas.Bool.{cases_eq}
use Rattle.std.proofs.lemmas.Nat.Bits.{bit_at_and, bit_at_xor, bit_at-lt}
use Rattle.node_plans.specs.NodePlan.{AreSetsOf, HasLowEdges}
use Rattle.pattern_tree.specs.Tree.{TreeNode}
use Rattle.pruning_laws.specs.Plans.{IsEdge}
use Rattle.tree_relations.specs.declared.prepared.PlaceKind.{PlaceKind}
use Rattle.tree_relations.specs.declared.prepared.Prepared.{Prepared}
use Rattle.mask_steps.specs.Held.{HasValue, OccursAt}
use Rattle.prune_plan.specs.steps.Nodes.{IsReducedOnce}
use Rattle.prune_plan.proofs.GatherLaws.{LeavesLists, leaves_then, occurs_stays}

-- ---- one variable: whether its bit is set tells whether none of the first n triple patterns has it

module _ (first : ℕ → Type 0) (occurs : ℕ → ℕ → Type 0) (edge : ℕ → Type 0) where
  abbrev IsAsked : ℕ → ℕ → (ℕ → Type 0) → Type 0
  IsAsked n bit values =
      ((bit ≡ 1) × (((i : ℕ) → i < n → ¬ edge i) × ((x : ℕ) → values x ↔ first x)))
      ⊎ ((bit ≡ 0) × ((i : ℕ) × edge i × ((x : ℕ) → values x ↔ (first x × occurs i x))))

  asked_more : (n bit set own rest : ℕ) (values next : ℕ → Type 0) → own ≡ min set bit → rest ≡ (bit + own) % 2 → set < 2 → (set ≡ 1) ↔ edge n → ((x : ℕ) → next x ↔ (values x × (own ≡ 1 → occurs n x))) →
      IsAsked n bit values → IsAsked (n + 1) rest next
  asked_more n bit set own rest values next is_own is_rest few has here (inl (one, (none, same))) = elim (cases_eq set 1) as (λ _. IsAsked (n + 1) rest next) [
    | inl in_set ↦
        let set_own : own ≡ 1 = omega (arith, is_own, in_set, one) in
        inr (
          omega (arith, is_rest, set_own, one),
          (
            n,
            has.0 in_set,
            λ x. (
              λ h. (let both = (here x).0 h in ((same x).0 both.0, both.1 set_own)),
              λ h. (here x).1 ((same x).1 h.0, λ _. h.1),
            ),
          ),
        )
    | inr out ↦
        let no_own : own ≡ 0 = omega (arith, is_own, out, few) in
        inl (
          omega (arith, is_rest, no_own, one),
          (
            λ i low e. elim (cases_eq i n) as (λ _. ⊥) [ inl last ↦ out (has.1 (subst edge last e)) | inr other ↦ none i (omega (arith, low, other)) e ],
            λ x. (λ h. (same x).0 ((here x).0 h).0, λ h. (here x).1 ((same x).1 h, λ is. absurd (omega (arith, is, no_own)))),
          ),
        )
  ]
  asked_more n bit set own rest values next is_own is_rest few has here (inr (zero, (i, e, is))) =
      let no_own : own ≡ 0 = omega (arith, is_own, zero) in
      inr (
        omega (arith, is_rest, no_own, zero),
        (
          i,
          e,
          λ x. (
            λ h. (is x).0 ((here x).0 h).0,
            λ h. (here x).1 ((is x).1 h, λ one. absurd (omega (arith, one, no_own))),
          ),
        ),
      )

-- ---- the variables that are wanted

module _ (tree : List TreeNode) (parent : ℕ) (old : Prepared) (start : List (Option PlaceKind)) (wanted : ℕ) where
  abbrev pub AreAsked : ℕ → ℕ → Prepared → List (Option PlaceKind) → Type 0
  AreAsked n left new kinds =
      ((v : ℕ) → bit_at wanted v ≡ 1 → IsAsked (HasValue old start v) (λ i x. OccursAt old i v x) (λ i. IsEdge tree parent i v) n (bit_at left v) (HasValue new kinds v)) × LeavesLists old new

  pub asked_none : LeavesLists old old → AreAsked 0 wanted old start
  asked_none same = (λ v w. inl (w, (λ i low e. omega (arith, low), λ x. (λ h. h, λ h. h))), same)

  pub asked_step : (sets : List ℕ) → AreSetsOf tree parent sets → HasLowEdges tree parent → (n left : ℕ) (mid new : Prepared) (kinds fresh : List (Option PlaceKind)) → AreAsked n left mid kinds →
      ((v x : ℕ) → HasValue new fresh v x ↔ (HasValue mid kinds v x × (v < 64 → bit_at (bit_and (get_or sets n 0) left) v ≡ 1 → OccursAt mid n v x))) → LeavesLists mid new →
      AreAsked (n + 1) (bit_xor left (bit_and (get_or sets n 0) left)) new fresh
  asked_step sets are limits n left mid new kinds fresh before values same = (
    λ v w. (
        let set = get_or sets n 0 in
        let own = bit_and set left in
        asked_more (HasValue old start v) (λ i x. OccursAt old i v x) (λ i. IsEdge tree parent i v) n (bit_at left v) (bit_at set v) (bit_at own v) (bit_at (bit_xor left own) v) (HasValue mid kinds v) (HasValue new fresh v)
        (bit_at_and set left v) (bit_at_xor left own v) (bit_at-lt set v) (are n v)
        (λ x. (
          λ h. (
              let both = (values v x).0 h in
              (both.0, λ one. (occurs_stays old mid before.1 n v x).0 (both.1 (low v one) one))
              ),
          λ h. (values v x).1 (h.0, λ _ one. (occurs_stays old mid before.1 n v x).1 (h.1 one)),
        ))
        (before.0 v w)
        ),
    leaves_then old mid new before.1 same,
  ) where
    low : (v : ℕ) → bit_at (bit_and (get_or sets n 0) left) v ≡ 1 → v < 64
    low v one =
        let e = bit_at_and (get_or sets n 0) left v in
        let few = bit_at-lt (get_or sets n 0) v in
        let set : bit_at (get_or sets n 0) v ≡ 1 = omega arith in
        (limits n v ((are n v).0 set)).1

  pub asked_all : (n left : ℕ) (new : Prepared) (kinds : List (Option PlaceKind)) → ((i v : ℕ) → IsEdge tree parent i v → i < n) → AreAsked n left new kinds → (v : ℕ) → bit_at wanted v ≡ 1 → IsReducedOnce tree parent old start new kinds v
  asked_all n left new kinds inside are v w = elim (are.0 v w) as (λ _. IsReducedOnce tree parent old start new kinds v) [
    | inl none ↦ inl (λ i e. none.1.0 i (inside i v e) e, none.1.1)
    | inr one ↦ inr one.1
  ]
