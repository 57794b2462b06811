-- From the pairs of each node to those of the tree: how a round over the nodes, one after the other, takes a plan of it.
use Rattle.std.proofs.Common.{◌≡◌, inl, inr, ℕ, zero, suc, ◌+◌, ◌<◌, List, [], length, refl, sym, ◌∙◌, ap, subst, arith}
use Rattle.std.proofs.lemmas.Bool.{cases_eq, cases_lt}
use Rattle.join_graph.specs.Members.{Member}
use Rattle.node_plans.specs.NodePlan.{IsByRemoval, IsNodePlan}
use Rattle.pattern_tree.specs.Tree.{TreeNode}
use Rattle.pruning_laws.specs.Plans.{IsStripped, pairs_by, IsPlanOf}
use Rattle.pruning_laws.specs.Scene.{Scene}
use Rattle.pruning_laws.specs.TreePasses.{Holding, tree_passes, node_passes}

-- the pairs of one node more
pub with_node : (ℕ → List (Member × Member)) → ℕ → List (Member × Member) → ℕ → List (Member × Member)
with_node pairs k own j = elim (cases_eq j k) [ inl is ↦ own | inr other ↦ pairs j ]

pub with_node-here : (pairs : ℕ → List (Member × Member)) (k : ℕ) (own : List (Member × Member)) → with_node pairs k own k ≡ own
unfolding with_node
with_node-here pairs k own = elim (cases_eq k k) as (λ c. elim c as (λ _. List (Member × Member)) [ inl is ↦ own | inr other ↦ pairs k ] ≡ own) [
  | inl is ↦ refl
  | inr other ↦ absurd (other refl)
]

pub with_node-below : (pairs : ℕ → List (Member × Member)) (k : ℕ) (own : List (Member × Member)) (j : ℕ) → j < k → with_node pairs k own j ≡ pairs j
unfolding with_node
with_node-below pairs k own j low = elim (cases_eq j k) as (λ c. elim c as (λ _. List (Member × Member)) [ inl is ↦ own | inr other ↦ pairs j ] ≡ pairs j) [
  | inl is ↦ absurd (omega arith)
  | inr other ↦ refl
]

-- pairs of the first nodes
abbrev pub ArePlansBelow : List TreeNode → ℕ → (ℕ → List (Member × Member)) → Type 0
ArePlansBelow tree k pairs = (j : ℕ) → j < k → IsNodePlan tree j (pairs j)

pub plans_more : (tree : List TreeNode) (k : ℕ) (pairs : ℕ → List (Member × Member)) (own : List (Member × Member)) → ArePlansBelow tree k pairs → IsNodePlan tree k own → ArePlansBelow tree (k + 1) (with_node pairs k own)
plans_more tree k pairs own before plan j low = elim (cases_eq j k) as (λ _. IsNodePlan tree j (with_node pairs k own j)) [
  | inl is ↦ subst (λ j. IsNodePlan tree j (with_node pairs k own j)) (sym is) (subst (IsNodePlan tree k) (sym (with_node-here pairs k own)) plan)
  | inr other ↦ subst (IsNodePlan tree j) (sym (with_node-below pairs k own j (omega arith))) (before j (omega arith))
]

-- those of all nodes are a plan of the tree
pub plans_all : (tree : List TreeNode) (pairs : ℕ → List (Member × Member)) → ArePlansBelow tree (length tree) pairs → IsPlanOf tree pairs
plans_all tree pairs all = all

-- passes over the first nodes look at the pairs of these alone
pub passes_same : {V X : Type 0} (scene : Scene V X) (pairs other : ℕ → List (Member × Member)) (n : ℕ) (family : Holding X) → ((j : ℕ) → j < n → pairs j ≡ other j) →
    tree_passes scene pairs n family ≡ tree_passes scene other n family
passes_same scene pairs other zero family same = refl
passes_same scene pairs other (suc k) family same =
    let before = passes_same scene pairs other k family (λ j low. same j (omega arith)) in
    ap (λ own. node_passes scene k own (tree_passes scene pairs k family)) (same k (omega arith)) ∙ ap (node_passes scene k (other k)) before

-- so one node more is passed over with its own pairs
pub passes_more : {V X : Type 0} (scene : Scene V X) (pairs : ℕ → List (Member × Member)) (k : ℕ) (own : List (Member × Member)) (family : Holding X) →
    tree_passes scene (with_node pairs k own) (suc k) family ≡ node_passes scene k own (tree_passes scene pairs k family)
passes_more scene pairs k own family =
    ap (λ list. node_passes scene k list (tree_passes scene (with_node pairs k own) k family)) (with_node-here pairs k own)
    ∙ ap (node_passes scene k own) (passes_same scene (with_node pairs k own) pairs k family (with_node-below pairs k own))

-- ---- trees of forests

module _ (tree : List TreeNode) (pairs : ℕ → List (Member × Member)) (removals : (k : ℕ) → k < length tree → IsByRemoval tree k (pairs k)) where
  -- the sets and the steps of each node
  pub sets_at : (k : ℕ) → List ℕ
  sets_at k = elim (cases_lt k (length tree)) [ inl low ↦ (removals k low).0 | inr past ↦ [] ]

  pub steps_at : (k : ℕ) → List Member
  steps_at k = elim (cases_lt k (length tree)) [ inl low ↦ (removals k low).1 | inr past ↦ [] ]

  pub stripped_at : (k : ℕ) → k < length tree → IsStripped tree k (sets_at k) (steps_at k)
  unfolding sets_at steps_at
  stripped_at k low = elim (cases_lt k (length tree))
      as (λ c. IsStripped tree k (elim c as (λ _. List ℕ) [ inl low ↦ (removals k low).0 | inr past ↦ [] ]) (elim c as (λ _. List Member) [ inl low ↦ (removals k low).1 | inr past ↦ [] ])) [
        | inl there ↦ (removals k there).2
        | inr past ↦ absurd (omega arith)
      ]

  pub pairs_at : (k : ℕ) → k < length tree → pairs k ≡ pairs_by (sets_at k) (steps_at k)
  unfolding sets_at steps_at
  pairs_at k low = elim (cases_lt k (length tree))
      as (λ c. pairs k ≡ pairs_by (elim c as (λ _. List ℕ) [ inl low ↦ (removals k low).0 | inr past ↦ [] ]) (elim c as (λ _. List Member) [ inl low ↦ (removals k low).1 | inr past ↦ [] ])) [
        | inl there ↦ (removals k there).3
        | inr past ↦ absurd (omega arith)
      ]
