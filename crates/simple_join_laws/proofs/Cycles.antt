-- In a forest of triple patterns in a linked order, no pattern shares two variables with those before it: two variables
-- of patterns that hang together are bridged by a set in which all other members have two neighbours, and a pattern that
-- has both would make it part of the core.
use Rattle.std.proofs.Common.{◌≡◌, ◌≢◌, ◌⊎◌, inl, inr, ℕ, zero, suc, ◌<◌, ◌≤◌, ◌||◌, Bool, true, List, refl, sym, ap, subst, arith, eqb-true, eq-eqb}
use Rattle.std.specs.Prelude.{◌==◌}
use Rattle.std.proofs.lemmas.Bool.{cases_eq, or_left, or_right, or_cases}
use Rattle.join_graph.specs.declared.steps.Step.TheVariants.{Pattern, Variable}
use Rattle.join_graph.specs.Core.{neighbours_in, EachHasTwoNeighbours, passing, core_of, IsForest}
use Rattle.join_graph.specs.Members.{Member, PatternHas}
use Rattle.join_graph.specs.Sets.{HasTwo}
use Rattle.join_graph.proofs.Members.{cases_Member, OccursBelow}

-- where a pattern that is left shares a variable with those before, the next pattern does
abbrev pub IsLinkedOrder : List ℕ → Type 0
IsLinkedOrder sets = (i j v : ℕ) → i ≤ j → OccursBelow sets i v → PatternHas sets j v → (u : ℕ) × OccursBelow sets i u × PatternHas sets i u

-- ---- a set with a pattern and a variable more

module _ (test : Member → Bool) (p x : ℕ) where
  with_both : Member → Bool
  with_both (Pattern q) = test (Pattern q) || (q == p)
  with_both (Variable u) = test (Variable u) || (u == x)

  with_old : (m : Member) → test m ≡ true → with_both m ≡ true
  unfolding with_both
  with_old (Pattern q) held = or_left (test (Pattern q)) (q == p) held
  with_old (Variable u) held = or_left (test (Variable u)) (u == x) held

  with_pattern : with_both (Pattern p) ≡ true
  unfolding with_both
  with_pattern = or_right (test (Pattern p)) (p == p) (eq-eqb p p refl)

  with_variable : with_both (Variable x) ≡ true
  unfolding with_both
  with_variable = or_right (test (Variable x)) (x == x) (eq-eqb x x refl)

  data IsOneOf (m : Member) : Type 0 where
    was_in : test m ≡ true → IsOneOf m
    the_pattern : m ≡ Pattern p → IsOneOf m
    the_variable : m ≡ Variable x → IsOneOf m

  with_cases : (m : Member) → with_both m ≡ true → IsOneOf m
  unfolding with_both
  with_cases (Pattern q) held = elim (or_cases (test (Pattern q)) (q == p) held) as (λ _. IsOneOf (Pattern q)) [ inl old ↦ was_in old | inr is ↦ the_pattern (ap Pattern (eqb-true q p is)) ]
  with_cases (Variable u) held = elim (or_cases (test (Variable u)) (u == x) held) as (λ _. IsOneOf (Variable u)) [ inl old ↦ was_in old | inr is ↦ the_variable (ap Variable (eqb-true u x is)) ]

module _ (sets : List ℕ) where
  -- two variables of a pattern, or two patterns of a variable, in a set
  two_variables : (set : Member → Type 0) (p v w : ℕ) → v ≢ w → PatternHas sets p v → PatternHas sets p w → set (Variable v) → set (Variable w) → HasTwo (neighbours_in sets set (Pattern p))
  two_variables set p v w apart has_v has_w in_v in_w = record { first = Variable v; second = Variable w; first_in = (has_v, in_v); second_in = (has_w, in_w); apart = λ e. apart (variable_apart e) } where
    variable_apart : Variable v ≡ Variable w → v ≡ w
    variable_apart e = cc

  two_patterns : (set : Member → Type 0) (p q v : ℕ) → p ≢ q → PatternHas sets p v → PatternHas sets q v → set (Pattern p) → set (Pattern q) → HasTwo (neighbours_in sets set (Variable v))
  two_patterns set p q v apart has_p has_q in_p in_q = record { first = Pattern p; second = Pattern q; first_in = (has_p, in_p); second_in = (has_q, in_q); apart = λ e. apart (pattern_apart e) } where
    pattern_apart : Pattern p ≡ Pattern q → p ≡ q
    pattern_apart e = cc

  larger : (test more : Member → Bool) (m : Member) → ((k : Member) → test k ≡ true → more k ≡ true) → HasTwo (neighbours_in sets (passing test) m) → HasTwo (neighbours_in sets (passing more) m)
  larger test more m to two = record {
    first = two.first;
    second = two.second;
    first_in = (two.first_in.0, to two.first two.first_in.1);
    second_in = (two.second_in.0, to two.second two.second_in.1);
    apart = two.apart;
  }

  -- a pattern of the set that has the variable
  abbrev HasOne : (Member → Bool) → ℕ → Type 0
  HasOne test v = (q : ℕ) × PatternHas sets q v × (test (Pattern q) ≡ true)

  -- a set among the first i patterns in which all members but two variables have two neighbours, and these have one
  record Bridges (i v w : ℕ) : Type 0 where
    test : Member → Bool
    has_v : test (Variable v) ≡ true
    has_w : test (Variable w) ≡ true
    early : (q : ℕ) → test (Pattern q) ≡ true → q < i
    one_v : HasOne test v
    one_w : HasOne test w
    two : (m : Member) → test m ≡ true → m ≢ Variable v → m ≢ Variable w → HasTwo (neighbours_in sets (passing test) m)

  turned : (i v w : ℕ) → Bridges i v w → Bridges i w v
  turned i v w is = record { test = is.test; has_v = is.has_w; has_w = is.has_v; early = is.early; one_v = is.one_w; one_w = is.one_v; two = λ m held other other'. is.two m held other' other }

  later : (i v w : ℕ) → Bridges i v w → Bridges (suc i) v w
  later i v w is = record { test = is.test; has_v = is.has_v; has_w = is.has_w; early = λ q held. (let low = is.early q held in omega (arith, low)); one_v = is.one_v; one_w = is.one_w; two = is.two }

  -- a later pattern that has both closes a cycle
  module _ (i v w p : ℕ) (is : Bridges i v w) (low : i ≤ p) (apart : v ≢ w) (has_v : PatternHas sets p v) (has_w : PatternHas sets p w) where
    closed : Member → Bool
    closed = with_both is.test p v

    old_one : (q : ℕ) → is.test (Pattern q) ≡ true → q ≢ p
    old_one q held e = (let early = is.early q held in omega (arith, early, e, low))

    end_two : (x : ℕ) → HasOne is.test x → PatternHas sets p x → HasTwo (neighbours_in sets (passing closed) (Variable x))
    unfolding closed
    end_two x one has = two_patterns (passing closed) one.0 p x (old_one one.0 one.2) one.1 has (with_old is.test p v (Pattern one.0) one.2) (with_pattern is.test p v)

    closed_two : EachHasTwoNeighbours sets (passing closed)
    unfolding closed
    closed_two m held = elim (cases_Member m (Variable v)) as (λ _. HasTwo (neighbours_in sets (passing closed) m)) [
      | inl is_v ↦ subst (λ m. HasTwo (neighbours_in sets (passing closed) m)) (sym is_v) (end_two v is.one_v has_v)
      | inr not_v ↦ elim (cases_Member m (Variable w)) as (λ _. HasTwo (neighbours_in sets (passing closed) m)) [
        | inl is_w ↦ subst (λ m. HasTwo (neighbours_in sets (passing closed) m)) (sym is_w) (end_two w is.one_w has_w)
        | inr not_w ↦ other (with_cases is.test p v m held) not_v not_w
      ]
    ] where
      other : IsOneOf is.test p v m → m ≢ Variable v → m ≢ Variable w → HasTwo (neighbours_in sets (passing closed) m)
      other (was_in old) not_v not_w = larger is.test closed m (with_old is.test p v) (is.two m old not_v not_w)
      other (the_pattern e) not_v not_w = subst (λ m. HasTwo (neighbours_in sets (passing closed) m)) (sym e)
          (two_variables (passing closed) p v w apart has_v has_w (with_old is.test p v (Variable v) is.has_v) (with_old is.test p v (Variable w) is.has_w))
      other (the_variable e) not_v not_w = absurd (not_v e)

    closes : ¬ IsForest sets
    unfolding core_of IsForest closed
    closes forest = forest (Pattern p) (closed, closed_two, with_pattern is.test p v)

  -- a pattern bridges two of its variables
  module _ (i p v w : ℕ) (low : p < i) (has_v : PatternHas sets p v) (has_w : PatternHas sets p w) (apart : v ≢ w) where
    pair : Member → Bool
    pair (Pattern q) = q == p
    pair (Variable u) = (u == v) || (u == w)

    pair_v : pair (Variable v) ≡ true
    unfolding pair
    pair_v = or_left (v == v) (v == w) (eq-eqb v v refl)

    pair_w : pair (Variable w) ≡ true
    unfolding pair
    pair_w = or_right (w == v) (w == w) (eq-eqb w w refl)

    pair_two : (m : Member) → pair m ≡ true → m ≢ Variable v → m ≢ Variable w → HasTwo (neighbours_in sets (passing pair) m)
    unfolding pair
    pair_two (Pattern q) held not_v not_w = subst (λ q. HasTwo (neighbours_in sets (passing pair) (Pattern q))) (sym (eqb-true q p held)) (two_variables (passing pair) p v w apart has_v has_w pair_v pair_w)
    pair_two (Variable u) held not_v not_w = elim (or_cases (u == v) (u == w) held) as (λ _. HasTwo (neighbours_in sets (passing pair) (Variable u))) [
      | inl is ↦ absurd (not_v (ap Variable (eqb-true u v is)))
      | inr is ↦ absurd (not_w (ap Variable (eqb-true u w is)))
    ]

    direct : Bridges i v w
    unfolding pair
    direct = record {
      test = pair;
      has_v = pair_v;
      has_w = pair_w;
      early = λ q held. (let is = eqb-true q p held in omega (arith, is, low));
      one_v = (p, has_v, eq-eqb p p refl);
      one_w = (p, has_w, eq-eqb p p refl);
      two = pair_two;
    }

  -- a later pattern carries a bridge on to another of its variables
  module _ (i j v u w p : ℕ) (is : Bridges i v u) (low : i ≤ p) (before : p < j) (apart : u ≢ w) (has_u : PatternHas sets p u) (has_w : PatternHas sets p w) where
    carried : Member → Bool
    carried = with_both is.test p w

    carried_two : (m : Member) → carried m ≡ true → m ≢ Variable v → m ≢ Variable w → HasTwo (neighbours_in sets (passing carried) m)
    unfolding carried
    carried_two m held not_v not_w = by (with_cases is.test p w m held) where
      by : IsOneOf is.test p w m → HasTwo (neighbours_in sets (passing carried) m)
      by (was_in old) = elim (cases_Member m (Variable u)) as (λ _. HasTwo (neighbours_in sets (passing carried) m)) [
        | inl is_u ↦ subst (λ m. HasTwo (neighbours_in sets (passing carried) m)) (sym is_u)
            (two_patterns (passing carried) is.one_w.0 p u (λ e. let early = is.early is.one_w.0 is.one_w.2 in omega (arith, early, e, low)) is.one_w.1 has_u
            (with_old is.test p w (Pattern is.one_w.0) is.one_w.2) (with_pattern is.test p w))
        | inr not_u ↦ larger is.test carried m (with_old is.test p w) (is.two m old not_v not_u)
      ]
      by (the_pattern e) = subst (λ m. HasTwo (neighbours_in sets (passing carried) m)) (sym e)
          (two_variables (passing carried) p u w apart has_u has_w (with_old is.test p w (Variable u) is.has_w) (with_variable is.test p w))
      by (the_variable e) = absurd (not_w e)

    further : Bridges j v w
    unfolding carried
    further = record {
      test = carried;
      has_v = with_old is.test p w (Variable v) is.has_v;
      has_w = with_variable is.test p w;
      early = λ q held. early q (with_cases is.test p w (Pattern q) held);
      one_v = (is.one_v.0, is.one_v.1, with_old is.test p w (Pattern is.one_v.0) is.one_v.2);
      one_w = (p, has_w, with_pattern is.test p w);
      two = carried_two;
    } where
      pattern_is : (q : ℕ) → Pattern q ≡ Pattern p → q ≡ p
      pattern_is q e = cc

      early : (q : ℕ) → IsOneOf is.test p w (Pattern q) → q < j
      early q (was_in old) = (let first = is.early q old in omega (arith, first, low, before))
      early q (the_pattern e) = (let same = pattern_is q e in omega (arith, same, before))
      early q (the_variable e) = absurd (cc)

  -- ---- two variables of the patterns so far that patterns to come have are bridged

  seen_cases : (i v : ℕ) → OccursBelow sets (suc i) v → OccursBelow sets i v ⊎ PatternHas sets i v
  seen_cases i v seen = elim (cases_eq seen.0 i) as (λ _. OccursBelow sets i v ⊎ PatternHas sets i v) [
    | inl is ↦ inr (subst (λ q. PatternHas sets q v) is seen.2)
    | inr other ↦ inl (seen.0, (let low = seen.1 in omega (arith, low, other)), seen.2)
  ]

  module _ (linked : IsLinkedOrder sets) where
    -- an old variable and one of the new pattern
    joins : (i v w j : ℕ) → ((x y k : ℕ) → x ≢ y → OccursBelow sets i x → OccursBelow sets i y → (l : ℕ) → i ≤ k → PatternHas sets k x → i ≤ l → PatternHas sets l y → Bridges i x y) → v ≢ w →
        OccursBelow sets i v → PatternHas sets i w → i ≤ j → PatternHas sets j v → (l : ℕ) → i ≤ l → PatternHas sets l w → Bridges (suc i) v w
    joins i v w j before apart old has low has_j l low_l has_l =
        let link = linked i j v low old has_j in
        let u = link.0 in
        elim (cases_eq u w) as (λ _. Bridges (suc i) v w) [
          | inl is_w ↦ later i v w (before v w j apart old (subst (OccursBelow sets i) is_w link.1) l low has_j low_l has_l)
          | inr not_w ↦ elim (cases_eq v u) as (λ _. Bridges (suc i) v w) [
            | inl is_v ↦ direct (suc i) i v w (omega arith) (subst (PatternHas sets i) (sym is_v) link.2) has apart
            | inr not_v ↦ further i (suc i) v u w i (before v u j not_v old link.1 i low has_j (omega arith) link.2) (omega arith) (omega arith) not_w link.2 has
          ]
        ]

    bridged : (i v w k : ℕ) → v ≢ w → OccursBelow sets i v → OccursBelow sets i w → (l : ℕ) → i ≤ k → PatternHas sets k v → i ≤ l → PatternHas sets l w → Bridges i v w
    bridged zero v w k apart seen_v seen_w l low_k has_k low_l has_l = absurd (let low = seen_v.1 in omega (arith, low))
    bridged (suc i) v w k apart seen_v seen_w l low_k has_k low_l has_l =
        elim (seen_cases i v seen_v) as (λ _. Bridges (suc i) v w) [
          | inl old_v ↦ elim (seen_cases i w seen_w) as (λ _. Bridges (suc i) v w) [
            | inl old_w ↦ later i v w (bridged i v w k apart old_v old_w l (omega (arith, low_k)) has_k (omega (arith, low_l)) has_l)
            | inr new_w ↦ joins i v w k (bridged i) apart old_v new_w (omega (arith, low_k)) has_k l (omega (arith, low_l)) has_l
          ]
          | inr new_v ↦ elim (seen_cases i w seen_w) as (λ _. Bridges (suc i) v w) [
            | inl old_w ↦ turned (suc i) w v (joins i w v l (bridged i) (λ e. apart (sym e)) old_w new_v (omega (arith, low_l)) has_l k (omega (arith, low_k)) has_k)
            | inr new_w ↦ direct (suc i) i v w (omega arith) new_v new_w apart
          ]
        ]

    -- so in a forest a pattern shares at most one variable with those before it
    pub shares_one_before : IsForest sets → (i v w : ℕ) → OccursBelow sets i v → PatternHas sets i v → OccursBelow sets i w → PatternHas sets i w → v ≡ w
    shares_one_before forest i v w seen_v has_v seen_w has_w = elim (cases_eq v w) as (λ _. v ≡ w) [
      | inl is ↦ is
      | inr apart ↦ absurd (closes i v w i (bridged i v w i apart seen_v seen_w i (omega arith) has_v (omega arith) has_w) (omega arith) apart has_v has_w forest)
    ]
