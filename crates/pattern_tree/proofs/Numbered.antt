-- The triple patterns of a pattern that keeps the limits are numbered, so no two of its tree have one number.
use Rattle.std.proofs.Common.{◌≡◌, ◌≢◌, ℕ, zero, suc, ◌+◌, ◌<◌, ◌≤◌, ◌++◌, inl, inr, List, [], ◌∷◌, length, map, Contains, refl, sym, ◌∙◌, ap, subst, arith}
use Rattle.std.specs.List.{range_with_len}
use Rattle.bm_term.proofs.Elements.{Contains-nil, Contains-cons_cases}
use Rattle.alg_model.specs.declared.pattern.TriplePat.{TriplePat}
use Rattle.alg_model.specs.Limits.{PatternKeepsLimits}
use Rattle.alg_model.specs.Pattern.{Algebra, Bgp, Join, LeftJoin, triple_patterns}
use Rattle.pattern_tree.specs.Standing.{StandsAt, IsNumbered}
use Rattle.pattern_tree.specs.Tree.{nodes_below, moved_parent, tree_of}
use Rattle.pattern_tree.proofs.Standing.{stands-joined, stands-optional, stands-listed}

-- the triple patterns have the numbers from this one on, in their order
abbrev pub AreNumberedFrom : ℕ → List TriplePat → Type 0
AreNumberedFrom first [] = Unit {0}
AreNumberedFrom first (p ∷ list) = (p.number ≡ first) × AreNumberedFrom (suc first) list

-- so are those of each side
pub numbered_left : (first : ℕ) (ps qs : List TriplePat) → AreNumberedFrom first (ps ++ qs) → AreNumberedFrom first ps
numbered_left first [] qs are = tt
numbered_left first (p ∷ ps) qs are = (are.0, numbered_left (suc first) ps qs are.1)

pub numbered_right : (first : ℕ) (ps qs : List TriplePat) → AreNumberedFrom first (ps ++ qs) → AreNumberedFrom (first + length ps) qs
numbered_right first [] qs are = subst (λ from. AreNumberedFrom from qs) (let e : first ≡ first + length {A = TriplePat} [] = omega arith in e) are
numbered_right first (p ∷ ps) qs are =
    subst (λ from. AreNumberedFrom from qs) (let e : suc first + length ps ≡ first + length (p ∷ ps) = omega arith in e) (numbered_right (suc first) ps qs are.1)

-- the number of a triple pattern of the list is one of these
pub number_between : (first : ℕ) (list : List TriplePat) (p : TriplePat) → AreNumberedFrom first list → Contains list p → (first ≤ p.number) × (p.number < first + length list)
number_between first [] p are at = absurd (Contains-nil p at)
number_between first (q ∷ list) p are at = elim (Contains-cons_cases q list p at) as (λ _. (first ≤ p.number) × (p.number < first + length (q ∷ list))) [
  | inl is ↦ let e : p.number ≡ first = sym (ap (λ p. p.number) is) ∙ are.0 in (omega (arith, e), omega (arith, e))
  | inr later ↦ let b = number_between (suc first) list p are.1 later in (omega (arith, b.0), omega (arith, b.1))
]

-- and no two have one number
pub one_number : (first : ℕ) (list : List TriplePat) (p q : TriplePat) → AreNumberedFrom first list → Contains list p → Contains list q → p.number ≡ q.number → p ≡ q
one_number first [] p q are at_p at_q same = absurd (Contains-nil p at_p)
one_number first (r ∷ list) p q are at_p at_q same = elim (Contains-cons_cases r list p at_p) as (λ _. p ≡ q) [
  | inl is_p ↦ elim (Contains-cons_cases r list q at_q) as (λ _. p ≡ q) [
    | inl is_q ↦ sym is_p ∙ is_q
    | inr later ↦
        let e : p.number ≡ first = sym (ap (λ p. p.number) is_p) ∙ are.0 in
        let b = number_between (suc first) list q are.1 later in
        absurd (omega (arith, e, same, b.0))
  ]
  | inr later_p ↦ elim (Contains-cons_cases r list q at_q) as (λ _. p ≡ q) [
    | inl is_q ↦
        let e : q.number ≡ first = sym (ap (λ p. p.number) is_q) ∙ are.0 in
        let b = number_between (suc first) list p are.1 later_p in
        absurd (omega (arith, e, same, b.0))
    | inr later_q ↦ one_number (suc first) list p q are.1 later_p later_q same
  ]
]

-- ---- the tree

-- one place and one triple pattern
abbrev AreOne : ℕ → ℕ → TriplePat → TriplePat → Type 0
AreOne k j p q = (k ≡ j) × (p ≡ q)

module _ (first : ℕ) (left right : Algebra) (are : AreNumberedFrom first (triple_patterns left ++ triple_patterns right)) where
  abbrev pub of_left : AreNumberedFrom first (triple_patterns left)
  of_left = numbered_left first (triple_patterns left) (triple_patterns right) are

  abbrev pub of_right : AreNumberedFrom (first + length (triple_patterns left)) (triple_patterns right)
  of_right = numbered_right first (triple_patterns left) (triple_patterns right) are

  -- one of each side have different numbers
  pub sides_apart : (p q : TriplePat) → Contains (triple_patterns left) p → Contains (triple_patterns right) q → p.number ≢ q.number
  sides_apart p q at_p at_q same =
      let a = number_between first (triple_patterns left) p of_left at_p in
      let b = number_between (first + length (triple_patterns left)) (triple_patterns right) q of_right at_q in
      omega (arith, a.1, b.0, same)

pub one_place : (first : ℕ) (pattern : Algebra) → AreNumberedFrom first (triple_patterns pattern) →
    (k j : ℕ) (p q : TriplePat) → StandsAt (tree_of pattern) k p → StandsAt (tree_of pattern) j q → p.number ≡ q.number → (k ≡ j) × (p ≡ q)
one_place first (Bgp list) are k j p q s t same =
    (only_root k p s ∙ sym (only_root j q t), one_number first list p q are (stands-listed (Bgp list) k p s) (stands-listed (Bgp list) j q t) same) where
      only_root : (k : ℕ) (p : TriplePat) → StandsAt (tree_of (Bgp list)) k p → k ≡ 0
      only_root zero p s = refl
      only_root (suc k) p s = let is = s.stands in cc
one_place first (Join left right) are k j p q s t same =
    let d = length (nodes_below left) in
    let from = first + length (triple_patterns left) in
    elim (stands-joined left right k p s) as (λ _. (k ≡ j) × (p ≡ q)) [
      | inl s_left ↦ elim (stands-joined left right j q t) as (λ _. (k ≡ j) × (p ≡ q)) [
        | inl t_left ↦ one_place first left (of_left first left right are) k j p q s_left t_left same
        | inr t_right ↦ absurd (sides_apart first left right are p q (stands-listed left k p s_left) (stands-listed right t_right.0 q t_right.2) same)
      ]
      | inr s_right ↦ elim (stands-joined left right j q t) as (λ _. (k ≡ j) × (p ≡ q)) [
        | inl t_left ↦ absurd (sides_apart first left right are q p (stands-listed left j q t_left) (stands-listed right s_right.0 p s_right.2) (sym same))
        | inr t_right ↦
            let one = one_place from right (of_right first left right are) s_right.0 t_right.0 p q s_right.2 t_right.2 same in
            (s_right.1 ∙ ap (moved_parent d) one.0 ∙ sym t_right.1, one.1)
      ]
    ]
one_place first (LeftJoin left right) are k j p q s t same =
    let d = length (nodes_below left) in
    let from = first + length (triple_patterns left) in
    elim (stands-optional left right k p s) as (λ _. (k ≡ j) × (p ≡ q)) [
      | inl s_left ↦ elim (stands-optional left right j q t) as (λ _. (k ≡ j) × (p ≡ q)) [
        | inl t_left ↦ one_place first left (of_left first left right are) k j p q s_left t_left same
        | inr t_right ↦ absurd (sides_apart first left right are p q (stands-listed left k p s_left) (stands-listed right t_right.0 q t_right.2) same)
      ]
      | inr s_right ↦ elim (stands-optional left right j q t) as (λ _. (k ≡ j) × (p ≡ q)) [
        | inl t_left ↦ absurd (sides_apart first left right are q p (stands-listed left j q t_left) (stands-listed right s_right.0 p s_right.2) (sym same))
        | inr t_right ↦
            let one = one_place from right (of_right first left right are) s_right.0 t_right.0 p q s_right.2 t_right.2 same in
            (s_right.1 ∙ ap (λ j. suc (j + d)) one.0 ∙ sym t_right.1, one.1)
      ]
    ]

-- the numbers of a pattern that keeps the limits begin with 1
numbered_from : (first : ℕ) (list : List TriplePat) → map (λ triple. triple.number) list ≡ range_with_len first (length list) → AreNumberedFrom first list
numbered_from first [] is = tt
numbered_from first (p ∷ list) is =
    let next : first + 1 ≡ suc first = omega arith in
    let rest : map (λ triple. triple.number) list ≡ range_with_len (first + 1) (length list) = cc in
    (cc, numbered_from (suc first) list (subst (λ from. map (λ triple. triple.number) list ≡ range_with_len from (length list)) next rest))

pub numbered_patterns : (n : ℕ) (pattern : Algebra) → PatternKeepsLimits n pattern → AreNumberedFrom 1 (triple_patterns pattern)
numbered_patterns n pattern keeps = numbered_from 1 (triple_patterns pattern) keeps.numbered

pub numbered_tree : (n : ℕ) (pattern : Algebra) → PatternKeepsLimits n pattern → IsNumbered (tree_of pattern)
numbered_tree n pattern keeps = record { one = one_place 1 pattern (numbered_patterns n pattern keeps) }
