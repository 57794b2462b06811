-- Steps that reduce variables by triple patterns, one after another.
use Rattle.std.proofs.Common.{◌≡◌, ◌≢◌, ◌↔◌, ℕ, ◌+◌, ◌<◌, List, Option, Contains, sym, ◌∙◌, subst}
use Rattle.std.specs.Int.{bit_at}
use Rattle.pattern_tree.specs.Tree.{TreeNode}
use Rattle.pruning_laws.specs.Plans.{IsEdge}
use Rattle.tree_relations.specs.declared.prepared.PlaceKind.{PlaceKind}
use Rattle.tree_relations.specs.declared.prepared.Prepared.{Prepared}
use Rattle.tree_relations.specs.Readings.{lists_left}
use Rattle.mask_steps.specs.Held.{HasValue, OccursAt, HasLayoutOf}
use Rattle.mask_steps.specs.Measure.{mask_bits}
use Rattle.prune_plan.proofs.Layouts.{layout_then, gives_stay}
use Rattle.prune_plan.proofs.Starting.{HasGathered, gathered_more, gathered_skip, HasTaken, taken_more}

-- the lists and the measure are as they were
abbrev pub LeavesLists : Prepared → Prepared → Type 0
LeavesLists old new = ((i : ℕ) → lists_left new i ≡ lists_left old i) × ((mask_bits new ≡ mask_bits old) × HasLayoutOf old new)

pub leaves_then : (a b c : Prepared) → LeavesLists a b → LeavesLists b c → LeavesLists a c
leaves_then a b c first second = (λ i. second.0 i ∙ first.0 i, (second.1.0 ∙ first.1.0, layout_then a b c first.1.1 second.1.1))

pub occurs_stays : (old new : Prepared) → LeavesLists old new → (i v x : ℕ) → OccursAt new i v x ↔ OccursAt old i v x
occurs_stays old new same i v x = (
  λ o. (o.0, subst (λ l. Contains l o.0) (same.0 i) o.1, (gives_stay old new same.1.1 i o.0 v x).0 o.2),
  λ o. (o.0, subst (λ l. Contains l o.0) (sym (same.0 i)) o.1, (gives_stay old new same.1.1 i o.0 v x).1 o.2),
)

-- ---- the variables of one triple pattern

module _ (old : Prepared) (start : List (Option PlaceKind)) (i vars : ℕ) where
  abbrev pub AreGathered : ℕ → Prepared → List (Option PlaceKind) → Type 0
  AreGathered n new kinds = HasGathered (HasValue old start) (OccursAt old i) (λ v. (v < 64) × (bit_at vars v ≡ 1)) n (HasValue new kinds) × LeavesLists old new

  pub gathered_step : (n : ℕ) (mid new : Prepared) (kinds fresh : List (Option PlaceKind)) → n < 64 → bit_at vars n ≡ 1 → AreGathered n mid kinds →
      ((x : ℕ) → HasValue new fresh n x ↔ (HasValue mid kinds n x × OccursAt mid i n x)) → ((v x : ℕ) → v ≢ n → HasValue new fresh v x ↔ HasValue mid kinds v x) → LeavesLists mid new →
      AreGathered (n + 1) new fresh
  gathered_step n mid new kinds fresh low wanted before here others same = (
    gathered_more (HasValue old start) (OccursAt old i) (λ v. (v < 64) × (bit_at vars v ≡ 1)) n (HasValue mid kinds) (HasValue new fresh) (low, wanted) before.0
        (λ x. (
          λ h. (let both = (here x).0 h in (both.0, (occurs_stays old mid before.1 i n x).0 both.1)),
          λ h. (here x).1 (h.0, (occurs_stays old mid before.1 i n x).1 h.1),
        ))
        others,
    leaves_then old mid new before.1 same,
  )

  pub gathered_past : (n : ℕ) (mid : Prepared) (kinds : List (Option PlaceKind)) → (bit_at vars n ≡ 1 → ⊥) → AreGathered n mid kinds → AreGathered (n + 1) mid kinds
  gathered_past n mid kinds none before =
      (gathered_skip (HasValue old start) (OccursAt old i) (λ v. (v < 64) × (bit_at vars v ≡ 1)) n (HasValue mid kinds) (λ w. none w.1) before.0, before.1)

-- ---- the triple patterns of a node

module _ (tree : List TreeNode) (parent : ℕ) (old : Prepared) (start : List (Option PlaceKind)) (wanted : ℕ) where
  abbrev pub AreTaken : ℕ → Prepared → List (Option PlaceKind) → Type 0
  AreTaken n new kinds = HasTaken (HasValue old start) (OccursAt old) (λ v. bit_at wanted v ≡ 1) (IsEdge tree parent) n (HasValue new kinds) × LeavesLists old new

  pub taken_step : (n : ℕ) (mid new : Prepared) (kinds fresh : List (Option PlaceKind)) (own : ℕ → Type 0) → ((v : ℕ) → bit_at wanted v ≡ 1 → own v ↔ IsEdge tree parent n v) → AreTaken n mid kinds →
      ((v x : ℕ) → HasValue new fresh v x ↔ (HasValue mid kinds v x × (own v → OccursAt mid n v x))) → LeavesLists mid new → AreTaken (n + 1) new fresh
  taken_step n mid new kinds fresh own is before here same = (
    taken_more (HasValue old start) (OccursAt old) (λ v. bit_at wanted v ≡ 1) (IsEdge tree parent) n (HasValue mid kinds) (HasValue new fresh) own is before.0
        (λ v x. (
          λ h. (let both = (here v x).0 h in (both.0, λ o. (occurs_stays old mid before.1 n v x).0 (both.1 o))),
          λ h. (here v x).1 (h.0, λ o. (occurs_stays old mid before.1 n v x).1 (h.1 o)),
        )),
    leaves_then old mid new before.1 same,
  )

  -- all of them, where no triple pattern of the node has a later place
  pub taken_all : (n : ℕ) (new : Prepared) (kinds : List (Option PlaceKind)) → ((i v : ℕ) → IsEdge tree parent i v → i < n) → AreTaken n new kinds → (v x : ℕ) → bit_at wanted v ≡ 1 →
      HasValue new kinds v x ↔ (HasValue old start v x × ((i : ℕ) → IsEdge tree parent i v → OccursAt old i v x))
  taken_all n new kinds inside are v x w =
      let both = are.0 v x w in
      (λ h. (let all = both.0 h in (all.0, λ i edge. all.1 i (inside i v edge) edge)), λ h. both.1 (h.0, λ i low edge. h.1 i edge))
