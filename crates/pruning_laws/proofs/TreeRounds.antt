-- A round: two passes over each node, from the root down. It keeps every arc-consistent family. On forests it leaves the
-- greatest one; and on any tree, where it drops nothing, the family is arc consistent.
use Rattle.std.proofs.Common.{◌≡◌, ◌⊎◌, inl, inr, ℕ, zero, suc, ◌<◌, ◌≤◌, List, length, sym, subst, arith}
use Rattle.std.proofs.lemmas.Bool.{cases_eq}
use Rattle.join_graph.specs.Members.{Member}
use Rattle.pruning_laws.specs.Scene.{Scene}
use Rattle.pruning_laws.specs.TreePasses.{Holding, tree_passes}
use Rattle.pruning_laws.proofs.PassLaws.{OfEach}
use Rattle.pruning_laws.proofs.ArcConsistent.{listed, LiesWithin, IsArcConsistent, IsGreatest, IsSettled, GivesOne, Fits, IsTree}
use Rattle.pruning_laws.proofs.Keeping.{AreNeighbours, node_keeps, node_passes-within, elsewhere}
use Rattle.pruning_laws.proofs.Settled.{consistent_from_settled, settled_same}
use Rattle.pruning_laws.proofs.Settling.{AreBalanced, node_settles, IsEnough, enough_balances, IsCover, cover_balances}

module _ {V X : Type 0} (scene : Scene V X) (pairs : ℕ → List (Member × Member)) where
  -- for each node the pairs of an order of removal, or all that matter
  abbrev pub IsPlan : Type 0
  IsPlan = (k : ℕ) → k < length scene.parents → IsEnough scene k (pairs k) ⊎ IsCover scene k (pairs k)

  pub each_pair : IsPlan → (k : ℕ) → k < length scene.parents → OfEach (AreNeighbours scene k) (pairs k)
  each_pair plan k low = elim (plan k low) as (λ _. OfEach (AreNeighbours scene k) (pairs k)) [ inl enough ↦ enough.each | inr cover ↦ cover.each ]

  -- it keeps
  pub round_keeps : IsPlan → (family : Holding X) → IsArcConsistent scene family → (all : Holding X) → LiesWithin family all → (n : ℕ) → n ≤ length scene.parents → LiesWithin family (tree_passes scene pairs n all)
  round_keeps plan family consistent all within zero low = within
  round_keeps plan family consistent all within (suc n) low =
      node_keeps scene family consistent n (tree_passes scene pairs n all) (round_keeps plan family consistent all within n (omega (arith, low))) (pairs n) (each_pair plan n (omega (arith, low)))

  -- and adds nothing
  pub round_within : (all : Holding X) (n : ℕ) → LiesWithin (tree_passes scene pairs n all) all
  round_within all zero p t h = h
  round_within all (suc n) p t h = round_within all n p t (node_passes-within scene n (pairs n) (tree_passes scene pairs n all) p t h)

  later_within : (all : Holding X) (n k : ℕ) → k ≤ n → LiesWithin (tree_passes scene pairs n all) (tree_passes scene pairs k all)
  later_within all zero k low p t h = subst (λ k. tree_passes scene pairs k all p t) (let e : 0 ≡ k = omega (arith, low) in e) h
  later_within all (suc n) k low p t h = elim (cases_eq k (suc n)) as (λ _. tree_passes scene pairs k all p t) [
    | inl is ↦ subst (λ k. tree_passes scene pairs k all p t) (sym is) h
    | inr other ↦ later_within all n k (omega (arith, low, other)) p t (node_passes-within scene n (pairs n) (tree_passes scene pairs n all) p t h)
  ]

  module _ (tree : IsTree scene) (all : Holding X) (one : GivesOne scene all) (fits : Fits scene all) where
    one_after : (n : ℕ) → GivesOne scene (tree_passes scene pairs n all)
    one_after n p t v x y h = one p t v x y (round_within all n p t h)

    -- ---- forests

    settled_after : ((k : ℕ) → k < length scene.parents → IsEnough scene k (pairs k)) → (n : ℕ) → n ≤ length scene.parents → (k : ℕ) → k < n → IsSettled scene (tree_passes scene pairs n all) k
    settled_after enough zero low k within = absurd (omega (arith, within))
    settled_after enough (suc n) low k within = elim (cases_eq k n) as (λ _. IsSettled scene (tree_passes scene pairs (suc n) all) k) [
      | inl is ↦
          let before = tree_passes scene pairs n all in
          let own = enough n (omega (arith, low)) in
          subst (IsSettled scene (tree_passes scene pairs (suc n) all)) (sym is)
          (node_settles scene tree before n (pairs n) own.each (one_after n) (enough_balances scene n (pairs n) before own))
      | inr other ↦
          let before = tree_passes scene pairs n all in
          let own = enough n (omega (arith, low)) in
          settled_same scene tree before (tree_passes scene pairs (suc n) all) k
          (λ p t at_most. (
            λ h. elsewhere scene n p t (pairs n) before (λ e. omega (arith, e, at_most, within, other)) own.each h,
            λ h. node_passes-within scene n (pairs n) before p t h,
          ))
          (settled_after enough n (omega (arith, low)) k (omega (arith, within, other)))
    ]

    pub two_passes_are_enough : ((k : ℕ) → k < length scene.parents → IsEnough scene k (pairs k)) → IsGreatest scene all (tree_passes scene pairs (length scene.parents) all)
    two_passes_are_enough enough =
        let n = length scene.parents in
        record {
          consistent = consistent_from_settled scene (tree_passes scene pairs n all) tree (λ p t h. fits p t (round_within all n p t h)) (settled_after enough n (omega arith));
          within = round_within all n;
          largest = λ each consistent within. round_keeps (λ k low. inl (enough k low)) (listed each) consistent all within n (omega arith);
        }

    -- ---- any nodes

    pub unchanged_is_consistent : IsPlan → LiesWithin all (tree_passes scene pairs (length scene.parents) all) → IsArcConsistent scene all
    unchanged_is_consistent plan unchanged = consistent_from_settled scene all tree fits settled where
      stays : (k : ℕ) → k ≤ length scene.parents → LiesWithin all (tree_passes scene pairs k all)
      stays k low p t h = later_within all (length scene.parents) k low p t (unchanged p t h)

      balanced : (k : ℕ) → k < length scene.parents → AreBalanced scene (tree_passes scene pairs k all) k (pairs k)
      balanced k low = elim (plan k low) as (λ _. AreBalanced scene (tree_passes scene pairs k all) k (pairs k)) [
        | inl enough ↦ enough_balances scene k (pairs k) (tree_passes scene pairs k all) enough
        | inr cover ↦ cover_balances scene tree k (pairs k) (tree_passes scene pairs k all) cover (λ p t h. stays (suc k) (omega (arith, low)) p t (round_within all k p t h))
      ]

      settled : (k : ℕ) → k < length scene.parents → IsSettled scene all k
      settled k low = settled_same scene tree (tree_passes scene pairs (suc k) all) all k
          (λ p t at_most. (λ h. round_within all (suc k) p t h, λ h. stays (suc k) (omega (arith, low)) p t h))
          (node_settles scene tree (tree_passes scene pairs k all) k (pairs k) (each_pair plan k low) (one_after k) (balanced k low))
