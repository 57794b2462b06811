-- A forest has a removal of all its members: while members are left one of them is a leaf, or they are the core.
use Rattle.std.proofs.Common.{◌≡◌, ◌≢◌, ◌⊎◌, inl, inr, ℕ, zero, suc, ◌+◌, List, [], ◌∷◌, ◌++◌, length, take, map, EachIndex, sym, ◌∙◌, subst, arith}
use Rattle.std.specs.Int.{bit_at}
use Rattle.std.specs.Int.Count.{ones}
use Rattle.std.specs.List.{HoldsAt}
use Rattle.std.specs.Prelude.{slice_index}
use Rattle.std.proofs.lemmas.Bool.{cases_eq, cases_lt}
use Rattle.std.proofs.lemmas.List.{take_at, take-append-le, get_or_at, get_or_append_left, length_push}
use Rattle.bm_term.proofs.Elements.{Contains-nil}
use Rattle.alg_model.specs.declared.pattern.TriplePat.{TriplePat}
use Rattle.alg_model.specs.VarSet.{triple_set, list_set}
use Rattle.join_graph.specs.declared.steps.Step.TheVariants.{Pattern, Variable}
use Rattle.join_graph.specs.Core.{neighbours_in, IsForest}
use Rattle.join_graph.specs.Members.{Member, IsMember, IsNeighbour}
use Rattle.join_graph.specs.Removal.{IsLeft, IsLeaf, IsRemoval, RemovesAll}
use Rattle.join_graph.specs.Sets.{HasAtMostOne, HasTwo, HasSize, without}
use Rattle.join_graph.proofs.Bits.{HasSize-ones}
use Rattle.join_graph.proofs.Counts.{HasSize-members}
use Rattle.join_graph.proofs.Members.{cases_Member}
use Rattle.join_graph.proofs.Removals.{IsLeft-push, LeavesCore-from_removal, IsForest-from_core}
use Rattle.join_graph.proofs.Sizes.{HasSize-same, HasSize-empty, HasSize-without}
use Rattle.minimality_laws.proofs.SetVars.{word_occurs}

-- it holds or not
abbrev IsTold : Type 0 → Type 0
IsTold P = P ⊎ (P → ⊥)

-- in a set that has a size some member has a property, or none has
search_set : (set : Member → Type 0) (n : ℕ) → HasSize set n → (P : Member → Type 0) → ((m : Member) → set m → IsTold (P m)) → ((m : Member) × set m × P m) ⊎ ((m : Member) → set m → P m → ⊥)
unfolding HasSize
search_set set zero size P told = inr (λ m h p. size m h)
search_set set (suc n) size P told = elim (told size.0 size.1) as (λ _. ((m : Member) × set m × P m) ⊎ ((m : Member) → set m → P m → ⊥)) [
  | inl is ↦ inl (size.0, size.1, is)
  | inr is_not ↦ elim (search_set (without set size.0) n size.2 P (λ m h. told m h.0)) as (λ _. ((m : Member) × set m × P m) ⊎ ((m : Member) → set m → P m → ⊥)) [
    | inl found ↦ inl (found.0, found.1.0, found.2)
    | inr none ↦ inr (λ m h p. elim (cases_Member m size.0) as (λ _. ⊥) [ inl same ↦ is_not (subst P same p) | inr other ↦ none m (h, other) p ])
  ]
]

module _ (sets : List ℕ) where
  near_told : (m k : Member) → IsTold (IsNeighbour sets m k)
  near_told (Pattern p) (Variable v) = cases_eq (bit_at (slice_index sets p) v) 1
  near_told (Variable v) (Pattern p) = cases_eq (bit_at (slice_index sets p) v) 1
  near_told (Pattern p) (Pattern q) = inr (λ h. h)
  near_told (Variable v) (Variable w) = inr (λ h. h)

  -- a member has at most one neighbour in the set, or two
  one_or_two : (left : Member → Type 0) (n : ℕ) → HasSize left n → (m : Member) → HasAtMostOne (neighbours_in sets left m) ⊎ HasTwo (neighbours_in sets left m)
  one_or_two left n size m = elim (search_set left n size (IsNeighbour sets m) (λ k h. near_told m k)) as (λ _. HasAtMostOne (neighbours_in sets left m) ⊎ HasTwo (neighbours_in sets left m)) [
    | inr none ↦ inl (λ j k at_j at_k. absurd (none j at_j.1 at_j.0))
    | inl first ↦ elim (search_set left n size (λ k. IsNeighbour sets m k × (k ≢ first.0)) (λ k h. other_told first.0 k)) as (λ _. HasAtMostOne (neighbours_in sets left m) ⊎ HasTwo (neighbours_in sets left m)) [
      | inl second ↦ inr (record { first = first.0; second = second.0; first_in = (first.2, first.1); second_in = (second.2.0, second.1); apart = λ e. second.2.1 (sym e) })
      | inr none ↦ inl (λ j k at_j at_k. only first.0 none j at_j ∙ sym (only first.0 none k at_k))
    ]
  ] where
    other_told : (first k : Member) → IsTold (IsNeighbour sets m k × (k ≢ first))
    other_told first k = elim (near_told m k) as (λ _. IsTold (IsNeighbour sets m k × (k ≢ first))) [
      | inr far ↦ inr (λ h. far h.0)
      | inl near ↦ elim (cases_Member k first) as (λ _. IsTold (IsNeighbour sets m k × (k ≢ first))) [ inl same ↦ inr (λ h. h.1 same) | inr other ↦ inl (near, other) ]
    ]

    only : (first : Member) → ((k : Member) → left k → IsNeighbour sets m k × (k ≢ first) → ⊥) → (k : Member) → neighbours_in sets left m k → k ≡ first
    only first none k at = elim (cases_Member k first) as (λ _. k ≡ first) [ inl same ↦ same | inr other ↦ absurd (none k at.1 (at.0, other)) ]

  -- each step so far has removed a leaf
  abbrev AreLeaves : List Member → Type 0
  AreLeaves steps = EachIndex steps (λ i. HoldsAt (IsLeaf sets (IsLeft sets (take i steps))) steps i)

  leaves-push : (steps : List Member) (m : Member) → AreLeaves steps → IsLeaf sets (IsLeft sets steps) m → AreLeaves (steps ++ m ∷ [])
  leaves-push steps m before leaf =
      λ i lt d. elim (cases_lt i (length steps)) [
        | inl inside ↦ rw (take-append-le i steps (m ∷ []) (omega arith), get_or_append_left steps (m ∷ []) d i inside) (before i inside d)
        | inr past ↦
            let here : length steps ≡ i = omega (arith, length_push steps m) in
            rw (take_at steps (m ∷ []) i here, get_or_at steps m [] d i here) leaf
      ]

  -- a removal of all members
  pub record HasRemoval : Type 0 where
    pub steps : List Member
    pub removal : IsRemoval sets steps
    pub all : RemovesAll sets steps

  ended : (steps : List Member) → IsForest sets → AreLeaves steps → ((m : Member) → IsLeft sets steps m → HasTwo (neighbours_in sets (IsLeft sets steps) m)) → HasRemoval
  ended steps forest leaves two =
      let removal : IsRemoval sets steps = record { leaves = leaves; ended = two } in
      record { steps = steps; removal = removal; all = (IsForest-from_core sets steps (LeavesCore-from_removal sets steps removal)).0 forest }

  remove_from : IsForest sets → (n : ℕ) (steps : List Member) → HasSize (IsLeft sets steps) n → AreLeaves steps → HasRemoval
  remove_from forest zero steps size leaves = ended steps forest leaves (λ m h. absurd (HasSize-empty (IsLeft sets steps) size m h))
  remove_from forest (suc n) steps size leaves =
      let left : Member → Type 0 = IsLeft sets steps in
      let each = one_or_two left (suc n) size in
      elim (search_set left (suc n) size (λ m. HasAtMostOne (neighbours_in sets left m)) (λ m h. one_told left m (each m))) as (λ _. HasRemoval) [
        | inl leaf ↦
            let fewer = HasSize-without cases_Member left n leaf.0 size leaf.1 in
            remove_from forest n (steps ++ leaf.0 ∷ [])
            (HasSize-same (without left leaf.0) (IsLeft sets (steps ++ leaf.0 ∷ [])) n (λ m. (IsLeft-push sets steps leaf.0 m).1) (λ m. (IsLeft-push sets steps leaf.0 m).0) fewer)
            (leaves-push steps leaf.0 leaves (leaf.1, leaf.2))
        | inr none ↦ ended steps forest leaves (λ m h. elim (each m) as (λ _. HasTwo (neighbours_in sets left m)) [ inl one ↦ absurd (none m h one) | inr two ↦ two ])
      ] where
        one_told : (left : Member → Type 0) (m : Member) → HasAtMostOne (neighbours_in sets left m) ⊎ HasTwo (neighbours_in sets left m) → IsTold (HasAtMostOne (neighbours_in sets left m))
        one_told left m (inl one) = inl one
        one_told left m (inr two) = inr (λ one. two.apart (one two.first two.second two.first_in two.second_in))

-- the sets of some triple patterns that are a forest have one
pub removal_of : (patterns : List TriplePat) (d : TriplePat) → IsForest (map triple_set patterns) → HasRemoval (map triple_set patterns)
removal_of patterns d forest =
    let sets = map triple_set patterns in
    let size = HasSize-members sets (list_set patterns) (ones (list_set patterns)) (word_occurs patterns d) (HasSize-ones (list_set patterns)) in
    remove_from sets forest (length sets + ones (list_set patterns)) []
    (HasSize-same (IsMember sets) (IsLeft sets []) (length sets + ones (list_set patterns)) (λ m h. (h, λ at. Contains-nil m at)) (λ m h. h.0) size)
    (λ i lt d. absurd (omega (arith, lt)))
