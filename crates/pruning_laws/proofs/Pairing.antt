-- The pairs of an order of removal: where all members are removed, each edge makes a pair, one way or the other.
use Rattle.std.proofs.Common.{◌≡◌, ◌↔◌, ◌⊎◌, inl, inr, ℕ, ◌<◌, ◌++◌, Bool, true, false, if◌then◌else◌, List, [], ◌∷◌, length, get_or, take, Option, Some, None, EachIndex, Contains, refl, sym, ◌∙◌, ap, subst, arith, append_assoc, eqb-true, eq-eqb}
use Rattle.std.specs.Int.{bit_at}
use Rattle.std.specs.Prelude.{slice_index}
use Rattle.std.specs.List.{HoldsAt}
use Rattle.std.proofs.lemmas.List.{take_at, get_or_at, length-append}
use Rattle.std.proofs.lemmas.List.Elements.{Contains-append_left, Contains-push}
use Rattle.bm_term.proofs.Elements.{Contains-head, Contains-tail, Contains-cons_cases, Contains-nil}
use Rattle.join_graph.specs.declared.steps.Step.TheVariants.{Pattern, Variable}
use Rattle.join_graph.specs.Members.{Member, PatternHas, IsNeighbour}
use Rattle.join_graph.specs.Removal.{IsLeft, IsLeaf, IsRemoval, RemovesAll}
use Rattle.join_graph.proofs.Members.{IsMember-from_neighbour, IsNeighbour-sym}
use Rattle.pruning_laws.specs.Passes.{partner, with_partner, pairs_of}
use Rattle.pruning_laws.specs.Scene.{Scene, Has, StandsIn}
use Rattle.pruning_laws.specs.TreePasses.{are_near}
use Rattle.pruning_laws.proofs.PassLaws.{IsFresh, GoOnce, OfEach}
use Rattle.pruning_laws.proofs.Keeping.{AreNeighbours}
use Rattle.pruning_laws.proofs.NodeSolutions.{IsPairing}
use Rattle.pruning_laws.proofs.Settling.{Matters, IsEnough}

-- ---- the first that is near

module _ {M : Type 0} (near : M → Bool) where
  -- a partner is of the list, and near
  pub partner-source : (list : List M) (n : M) → partner near list ≡ Some n → Contains list n × (near n ≡ true)
  partner-source [] n is = cc
  partner-source (k ∷ list) n is = elim (near k) as (λ b. near k ≡ b → (if b then Some k else partner near list) ≡ Some n → Contains (k ∷ list) n × (near n ≡ true)) [
    | true ↦ λ here is. let same : k ≡ n = cc in (subst (Contains (k ∷ list)) same (Contains-head k list), subst (λ n. near n ≡ true) same here)
    | false ↦ λ not_here is. let found = partner-source list n is in (Contains-tail k list n found.0, found.1)
  ] refl is

  -- where one of the list is near, there is a partner
  pub partner-found : (list : List M) (n : M) → Contains list n → near n ≡ true → (l : M) × (partner near list ≡ Some l)
  partner-found [] n at is_near = absurd (Contains-nil n at)
  partner-found (k ∷ list) n at is_near = elim (near k) as (λ b. near k ≡ b → (l : M) × ((if b then Some k else partner near list) ≡ Some l)) [
    | true ↦ λ here. (k, refl)
    | false ↦ λ not_here. elim (Contains-cons_cases k list n at) as (λ _. (l : M) × (partner near list ≡ Some l)) [
      | inl same ↦ absurd (let e : true ≡ false = sym is_near ∙ sym (ap near same) ∙ not_here in cc)
      | inr later ↦ partner-found list n later is_near
    ]
  ] refl

-- ---- leaves, one after the other

-- each of the rest is a leaf once those before it are gone
abbrev pub AreLeaves : List ℕ → List Member → List Member → Type 0
AreLeaves sets done [] = Unit {0}
AreLeaves sets done (m ∷ rest) = IsLeaf sets (IsLeft sets done) m × AreLeaves sets (done ++ m ∷ []) rest

leaves_from : (sets : List ℕ) (steps : List Member) → EachIndex steps (λ i. HoldsAt (IsLeaf sets (IsLeft sets (take i steps))) steps i) → (done rest : List Member) → done ++ rest ≡ steps → AreLeaves sets done rest
leaves_from sets steps leaves done [] is = tt
leaves_from sets steps leaves done (m ∷ rest) is =
    let i = length done in
    let low : i < length steps = omega (arith, ap length is, length-append done (m ∷ rest)) in
    let leaf : IsLeaf sets (IsLeft sets (take i (done ++ m ∷ rest))) (get_or (done ++ m ∷ rest) i m) =
    subst (λ s. IsLeaf sets (IsLeft sets (take i s)) (get_or s i m)) (sym is) (leaves i low m) in
    let front : take i (done ++ m ∷ rest) ≡ done = take_at done (m ∷ rest) i refl in
    let here : get_or (done ++ m ∷ rest) i m ≡ m = get_or_at done m rest m i refl in (
      subst (λ n. IsLeaf sets (IsLeft sets done) n) here (subst (λ before. IsLeaf sets (IsLeft sets before) (get_or (done ++ m ∷ rest) i m)) front leaf),
      leaves_from sets steps leaves (done ++ m ∷ []) rest (append_assoc done (m ∷ []) rest ∙ is),
    )

-- a step that comes later is left now
later_left : (sets : List ℕ) (done rest : List Member) (n : Member) → AreLeaves sets done rest → Contains rest n → IsLeft sets done n
later_left sets done [] n leaves at = absurd (Contains-nil n at)
later_left sets done (m ∷ rest) n leaves at = elim (Contains-cons_cases m rest n at) as (λ _. IsLeft sets done n) [
  | inl is ↦ subst (IsLeft sets done) is leaves.0.0
  | inr later ↦
      let left = later_left sets (done ++ m ∷ []) rest n leaves.1 later in
      (left.0, λ c. left.1 (Contains-append_left done (m ∷ []) n c))
]

-- so no step comes twice
not_again : (sets : List ℕ) (done rest : List Member) (m : Member) → AreLeaves sets (done ++ m ∷ []) rest → Contains rest m → ⊥
not_again sets done rest m leaves at = (later_left sets (done ++ m ∷ []) rest m leaves at).1 (Contains-push done m)

-- ---- pairs

module _ (near : Member → Member → Bool) where
  -- a member that is no step stands in no pair
  fresh : (rest : List Member) (m : Member) → (Contains rest m → ⊥) → IsFresh m (pairs_of near rest)
  fresh [] m out = tt
  fresh (k ∷ rest) m out =
      let inner = fresh rest m (λ at. out (Contains-tail k rest m at)) in
      elim (partner (near k) rest) as (λ o. partner (near k) rest ≡ o → IsFresh m (with_partner k o (pairs_of near rest))) [
        | None ↦ λ is. inner
        | Some l ↦ λ is. (
          λ same. out (subst (Contains (k ∷ rest)) same (Contains-head k rest)),
          (λ same. out (Contains-tail k rest m (subst (Contains rest) same (partner-source (near k) rest l is).0)), inner),
        )
      ] refl

  each_near : (P : Member → Member → Type 0) → ((m n : Member) → near m n ≡ true → P m n) → (rest : List Member) → OfEach P (pairs_of near rest)
  each_near P has [] = tt
  each_near P has (k ∷ rest) = elim (partner (near k) rest) as (λ o. partner (near k) rest ≡ o → OfEach P (with_partner k o (pairs_of near rest))) [
    | None ↦ λ is. each_near P has rest
    | Some l ↦ λ is. (has k l (partner-source (near k) rest l is).1, each_near P has rest)
  ] refl

  go_once : (sets : List ℕ) (done rest : List Member) → AreLeaves sets done rest → GoOnce (pairs_of near rest)
  go_once sets done [] leaves = tt
  go_once sets done (k ∷ rest) leaves =
      let inner = go_once sets (done ++ k ∷ []) rest leaves.1 in
      elim (partner (near k) rest) as (λ o. partner (near k) rest ≡ o → GoOnce (with_partner k o (pairs_of near rest))) [
        | None ↦ λ is. inner
        | Some l ↦ λ is. (
          λ same. not_again sets done rest k leaves.1 (subst (Contains rest) same (partner-source (near k) rest l is).0),
          (fresh rest k (not_again sets done rest k leaves.1), inner),
        )
      ] refl

  -- a pair of later members stays
  kept : (k : Member) (o : Option Member) (pairs : List (Member × Member)) (pair : Member × Member) → Contains pairs pair → Contains (with_partner k o pairs) pair
  kept k None pairs pair at = at
  kept k (Some l) pairs pair at = Contains-tail (k, l) pairs pair at

  -- the first of two neighbours makes a pair with the other
  makes_pair : (sets : List ℕ) (done rest : List Member) (m n : Member) → ((a b : Member) → near a b ≡ true → IsNeighbour sets a b) → AreLeaves sets done (m ∷ rest) → Contains rest n → near m n ≡ true →
      Contains (pairs_of near (m ∷ rest)) (m, n)
  makes_pair sets done rest m n neighbour leaves at is_near =
      let found = partner-found (near m) rest n at is_near in
      let source = partner-source (near m) rest found.0 found.1 in
      let left_l = later_left sets (done ++ m ∷ []) rest found.0 leaves.1 source.0 in
      let left_n = later_left sets (done ++ m ∷ []) rest n leaves.1 at in
      let same : found.0 ≡ n = leaves.0.1 found.0 n
      (neighbour m found.0 source.1, (left_l.0, λ c. left_l.1 (Contains-append_left done (m ∷ []) found.0 c)))
      (neighbour m n is_near, (left_n.0, λ c. left_n.1 (Contains-append_left done (m ∷ []) n c))) in
      subst (λ o. Contains (with_partner m o (pairs_of near rest)) (m, n)) (sym (found.1 ∙ ap (λ l. Some l) same)) (Contains-head (m, n) (pairs_of near rest))

  each_edge : (sets : List ℕ) (done rest : List Member) (m n : Member) → ((a b : Member) → near a b ≡ true → IsNeighbour sets a b) → ((a : Member) → near a a ≡ true → ⊥) → AreLeaves sets done rest →
      Contains rest m → Contains rest n → near m n ≡ true → near n m ≡ true → Contains (pairs_of near rest) (m, n) ⊎ Contains (pairs_of near rest) (n, m)
  each_edge sets done [] m n neighbour apart leaves at_m at_n to from = absurd (Contains-nil m at_m)
  each_edge sets done (k ∷ rest) m n neighbour apart leaves at_m at_n to from =
      let pairs = pairs_of near rest in
      elim (Contains-cons_cases k rest m at_m) as (λ _. Contains (pairs_of near (k ∷ rest)) (m, n) ⊎ Contains (pairs_of near (k ∷ rest)) (n, m)) [
        | inl is_m ↦ elim (Contains-cons_cases k rest n at_n) as (λ _. Contains (pairs_of near (k ∷ rest)) (m, n) ⊎ Contains (pairs_of near (k ∷ rest)) (n, m)) [
          | inl is_n ↦ absurd (apart k (subst (λ b. near k b ≡ true) (sym is_n) (subst (λ a. near a n ≡ true) (sym is_m) to)))
          | inr later_n ↦ inl (subst (λ m. Contains (pairs_of near (k ∷ rest)) (m, n)) is_m (makes_pair sets done rest k n neighbour leaves later_n (subst (λ a. near a n ≡ true) (sym is_m) to)))
        ]
        | inr later_m ↦ elim (Contains-cons_cases k rest n at_n) as (λ _. Contains (pairs_of near (k ∷ rest)) (m, n) ⊎ Contains (pairs_of near (k ∷ rest)) (n, m)) [
          | inl is_n ↦ inr (subst (λ n. Contains (pairs_of near (k ∷ rest)) (n, m)) is_n (makes_pair sets done rest k m neighbour leaves later_m (subst (λ a. near a m ≡ true) (sym is_n) from)))
          | inr later_n ↦ elim (each_edge sets (done ++ k ∷ []) rest m n neighbour apart leaves.1 later_m later_n to from) as (λ _. Contains (pairs_of near (k ∷ rest)) (m, n) ⊎ Contains (pairs_of near (k ∷ rest)) (n, m)) [
            | inl at ↦ inl (kept k (partner (near k) rest) pairs (m, n) at)
            | inr at ↦ inr (kept k (partner (near k) rest) pairs (n, m) at)
          ]
        ]
      ]

-- ---- sets of variables

near_neighbour : (sets : List ℕ) (m n : Member) → are_near sets m n ≡ true → IsNeighbour sets m n
near_neighbour sets (Pattern p) (Variable v) is = eqb-true (bit_at (slice_index sets p) v) 1 is
near_neighbour sets (Variable v) (Pattern p) is = eqb-true (bit_at (slice_index sets p) v) 1 is
near_neighbour sets (Pattern p) (Pattern q) is = cc
near_neighbour sets (Variable v) (Variable w) is = cc

neighbour_near : (sets : List ℕ) (m n : Member) → IsNeighbour sets m n → are_near sets m n ≡ true
neighbour_near sets (Pattern p) (Variable v) is = eq-eqb (bit_at (slice_index sets p) v) 1 is
neighbour_near sets (Variable v) (Pattern p) is = eq-eqb (bit_at (slice_index sets p) v) 1 is
neighbour_near sets (Pattern p) (Pattern q) is = absurd is
neighbour_near sets (Variable v) (Variable w) is = absurd is

not_near_itself : (sets : List ℕ) (m : Member) → are_near sets m m ≡ true → ⊥
not_near_itself sets (Pattern p) is = cc
not_near_itself sets (Variable v) is = cc

-- where all members are removed each edge makes a pair
edge_pair : (sets : List ℕ) (steps : List Member) → IsRemoval sets steps → RemovesAll sets steps → (p v : ℕ) → PatternHas sets p v →
    Contains (pairs_of (are_near sets) steps) (Pattern p, Variable v) ⊎ Contains (pairs_of (are_near sets) steps) (Variable v, Pattern p)
edge_pair sets steps removal removes p v edge =
    let back : IsNeighbour sets (Variable v) (Pattern p) = IsNeighbour-sym sets (Pattern p) (Variable v) edge in
    each_edge (are_near sets) sets [] steps (Pattern p) (Variable v) (near_neighbour sets) (not_near_itself sets) (leaves_from sets steps removal.leaves [] steps refl)
    (removes (Pattern p) (IsMember-from_neighbour sets (Pattern p) (Variable v) edge))
    (removes (Variable v) (IsMember-from_neighbour sets (Variable v) (Pattern p) back))
    (neighbour_near sets (Pattern p) (Variable v) edge)
    (neighbour_near sets (Variable v) (Pattern p) back)

module _ {V X : Type 0} (scene : Scene V X) (k : ℕ) (sets : List ℕ) where
  -- the sets have the variables of the node's triple patterns that matter, and no others
  pub record AreSetsThatMatter : Type 0 where
    pub some : (p v : ℕ) → PatternHas sets p v → StandsIn scene p k × Has scene p v
    pub all : (p v : ℕ) → StandsIn scene p k → Has scene p v → Matters scene k v → PatternHas sets p v

  near_here : ((p v : ℕ) → PatternHas sets p v → StandsIn scene p k × Has scene p v) → (m n : Member) → are_near sets m n ≡ true → AreNeighbours scene k m n
  near_here some (Pattern p) (Variable v) is = some p v (near_neighbour sets (Pattern p) (Variable v) is)
  near_here some (Variable v) (Pattern p) is = some p v (near_neighbour sets (Variable v) (Pattern p) is)
  near_here some (Pattern p) (Pattern q) is = cc
  near_here some (Variable v) (Variable w) is = cc

  -- the pairs of a removal of all members are enough
  pub enough_from_removal : AreSetsThatMatter → (steps : List Member) → IsRemoval sets steps → RemovesAll sets steps → IsEnough scene k (pairs_of (are_near sets) steps)
  enough_from_removal are steps removal removes = record {
    once = go_once (are_near sets) sets [] steps (leaves_from sets steps removal.leaves [] steps refl);
    each = each_near (are_near sets) (AreNeighbours scene k) (near_here are.some) steps;
    all = λ p v stands has matters. edge_pair sets steps removal removes p v (are.all p v stands has matters);
  }

  -- and where the sets have all variables of the node's triple patterns, the pairs have all edges
  pub pairing_from_removal : ((p v : ℕ) → PatternHas sets p v ↔ (StandsIn scene p k × Has scene p v)) → (steps : List Member) → IsRemoval sets steps → RemovesAll sets steps → IsPairing scene k (pairs_of (are_near sets) steps)
  pairing_from_removal same steps removal removes = record {
    once = go_once (are_near sets) sets [] steps (leaves_from sets steps removal.leaves [] steps refl);
    each = each_near (are_near sets) (AreNeighbours scene k) (near_here (λ p v. (same p v).0)) steps;
    all = λ p v stands has. edge_pair sets steps removal removes p v ((same p v).1 (stands, has));
  }
