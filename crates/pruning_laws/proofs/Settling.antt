-- Two passes settle a node where they balance each triple pattern with those of its variables that matter: that stand in
-- another triple pattern of the node, or in its parent.
use Rattle.std.proofs.Common.{◌≡◌, ◌≢◌, ◌⊎◌, inl, inr, ℕ, zero, suc, ◌<◌, List, [], ◌∷◌, Contains, sym, ◌∙◌, ap, subst, arith}
use Rattle.std.proofs.lemmas.Bool.{cases_eq}
use Rattle.bm_term.proofs.Elements.{Contains-cons_cases, Contains-nil}
use Rattle.join_graph.specs.declared.steps.Step.TheVariants.{Pattern, Variable}
use Rattle.join_graph.specs.Members.{Member}
use Rattle.pruning_laws.specs.Passes.{HasPartner, reduce, first_pass, second_pass}
use Rattle.pruning_laws.specs.Scene.{Scene, parent_in, Has, Gives, StandsIn}
use Rattle.pruning_laws.specs.TreePasses.{Holding, Occurs, Item, Triple, Value, agrees, holding, first_values, at_end, node_passes}
use Rattle.pruning_laws.proofs.PassLaws.{GoOnce, OfEach, Balanced, first_pass-within, second_pass-within, two_passes-within, two_passes-balance}
use Rattle.pruning_laws.proofs.ArcConsistent.{LiesWithin, IsSettled, GivesOne, IsTree, has_given, governs_same}
use Rattle.pruning_laws.proofs.Keeping.{AreNeighbours, agrees-symmetric, end_elsewhere}

module _ {V X : Type 0} (scene : Scene V X) where
  -- two triple patterns of the node have the variable
  pub record StandsTwice (k v : ℕ) : Type 0 where
    pub first : ℕ
    pub second : ℕ
    pub first_in : StandsIn scene first k
    pub second_in : StandsIn scene second k
    pub first_has : Has scene first v
    pub second_has : Has scene second v
    pub apart : first ≢ second

  -- a triple pattern of the parent has it
  pub record StandsAbove (k v : ℕ) : Type 0 where
    pub positive : 0 < k
    pub pattern : ℕ
    pub stands : StandsIn scene pattern (parent_in scene k)
    pub has : Has scene pattern v

  abbrev pub Matters : ℕ → ℕ → Type 0
  Matters k v = StandsTwice k v ⊎ StandsAbove k v

  abbrev pub AreBalanced : Holding X → ℕ → List (Member × Member) → Type 0
  AreBalanced all k pairs = (p v : ℕ) → StandsIn scene p k → Has scene p v → Matters k v → Balanced (agrees scene) (at_end scene k pairs all) (Pattern p) (Variable v)

  module _ (tree : IsTree scene) (all : Holding X) (k : ℕ) (pairs : List (Member × Member)) (each : OfEach (AreNeighbours scene k) pairs) where
    abbrev ends : Member → Item V X → Type 0
    ends = at_end scene k pairs all

    -- at the end a triple pattern holds items, and a variable values
    pub values_alone : (v : ℕ) (t : X) → ends (Variable v) (Triple t) → ⊥
    values_alone v t h = two_passes-within (agrees scene) pairs (holding all (first_values scene all k)) (Variable v) (Triple t) h

    pub items_alone : (p : ℕ) (x : V) → ends (Pattern p) (Value x) → ⊥
    items_alone p x h = two_passes-within (agrees scene) pairs (holding all (first_values scene all k)) (Pattern p) (Value x) h

    -- an item of the whole
    of_all : (p : ℕ) (t : X) → ends (Pattern p) (Triple t) → all p t
    of_all p t h = two_passes-within (agrees scene) pairs (holding all (first_values scene all k)) (Pattern p) (Triple t) h

    partner_value : (p v : ℕ) (t : X) → HasPartner (agrees scene) ends (Variable v) (Pattern p) (Triple t) → (y : V) × ends (Variable v) (Value y) × Gives scene p t v y
    partner_value p v t has = by has.0 has.1 has.2 where
      by : (i : Item V X) → ends (Variable v) i → agrees scene (Variable v) i (Pattern p) (Triple t) → (y : V) × ends (Variable v) (Value y) × Gives scene p t v y
      by (Value y) h a = (y, h, a)
      by (Triple s) h a = absurd a

    partner_item : (p v : ℕ) (x : V) → HasPartner (agrees scene) ends (Pattern p) (Variable v) (Value x) → (s : X) × ends (Pattern p) (Triple s) × Gives scene p s v x
    partner_item p v x has = by has.0 has.1 has.2 where
      by : (i : Item V X) → ends (Pattern p) i → agrees scene (Pattern p) i (Variable v) (Value x) → (s : X) × ends (Pattern p) (Triple s) × Gives scene p s v x
      by (Triple s) h a = (s, h, a)
      by (Value y) h a = absurd a

    module _ (one : GivesOne scene all) (balanced : AreBalanced all k pairs) where
      -- a value that an item gives is held by the variable at the end
      value_held : (q v : ℕ) (x : V) (t : X) → StandsIn scene q k → Matters k v → ends (Pattern q) (Triple t) → Gives scene q t v x → ends (Variable v) (Value x)
      value_held q v x t stands matters h gives =
          let p = partner_value q v t ((balanced q v stands (has_given scene q t v x gives) matters).1 (Triple t) h) in
          subst (λ x. ends (Variable v) (Value x)) (one q t v p.0 x (of_all q t h) p.2 gives) p.1

      pub node_settles : IsSettled scene (node_passes scene k pairs all) k
      node_settles = record {
        beside = λ p q v x in_p in_q has occurs. elim (cases_eq p q) as (λ _. Occurs scene (node_passes scene k pairs all) p v x) [
          | inl same ↦ subst (λ p. Occurs scene (node_passes scene k pairs all) p v x) (sym same) occurs
          | inr apart ↦
              let has' = has_given scene q occurs.0 v x occurs.2 in
              let matters : Matters k v = inl (record { first = p; second = q; first_in = in_p; second_in = in_q; first_has = has; second_has = has'; apart = apart }) in
              let held = value_held q v x occurs.0 in_q matters occurs.1.0 occurs.2 in
              let s = partner_item p v x ((balanced p v in_p has matters).0 (Value x) held) in
              (s.0, (s.1, λ is r governs. occurs.1.1 in_q.1 r (governs_same scene r p q (in_p.1 ∙ sym in_q.1) governs)), s.2)
        ];
        under = λ p q v x positive in_p in_q has has' occurs.
            let matters : Matters k v = inr (record { positive = positive; pattern = p; stands = in_p; has = has }) in
            let held = value_held q v x occurs.0 in_q matters occurs.1.0 occurs.2 in
            let first = two_passes-within (agrees scene) pairs (holding all (first_values scene all k)) (Variable v) (Value x) held in
            let o = of_parent k positive v x p first in_p has in
            let low = tree.parents_first k positive in
            (o.0, (end_elsewhere scene k p o.0 pairs all (λ is. omega (arith, low, in_p.1, is)) each o.1, λ is. absurd (let e = in_p.1 in omega (arith, low, e, is))), o.2);
        filled = λ p q in_q governs f.
            let found = f.1.1 in_q.1 p governs in
            (found.0, (found.1, λ is r governs'. f.1.1 in_q.1 r (governs_same scene r p q (is ∙ sym in_q.1) governs')));
      } where
        of_parent : (k : ℕ) → 0 < k → (v : ℕ) (x : V) (p : ℕ) → first_values scene all k v x → StandsIn scene p (parent_in scene k) → Has scene p v → Occurs scene all p v x
        of_parent zero positive v x p first in_p has = absurd (omega (arith, positive))
        of_parent (suc k) positive v x p first in_p has = first p in_p has

  -- ---- pairs of a forest

  pub of_each : (P : Member → Member → Type 0) (pairs : List (Member × Member)) (m n : Member) → OfEach P pairs → Contains pairs (m, n) → P m n
  of_each P [] m n each at = absurd (Contains-nil (m, n) at)
  of_each P ((k, l) ∷ pairs) m n each at = elim (Contains-cons_cases (k, l) pairs (m, n) at) as (λ _. P m n) [
    | inl is ↦ subst (λ pair. P pair.0 pair.1) is each.0
    | inr later ↦ of_each P pairs m n each.1 later
  ]

  -- the pairs of an order of removal, which have each variable that matters
  pub record IsEnough (k : ℕ) (pairs : List (Member × Member)) : Type 0 where
    pub once : GoOnce pairs
    pub each : OfEach (AreNeighbours scene k) pairs
    pub all : (p v : ℕ) → StandsIn scene p k → Has scene p v → Matters k v → Contains pairs (Pattern p, Variable v) ⊎ Contains pairs (Variable v, Pattern p)

  pub enough_balances : (k : ℕ) (pairs : List (Member × Member)) (all : Holding X) → IsEnough k pairs → AreBalanced all k pairs
  enough_balances k pairs all enough p v stands has matters =
      let ends = at_end scene k pairs all in
      let balance = two_passes-balance (agrees scene) (agrees-symmetric scene) pairs (holding all (first_values scene all k)) enough.once in
      elim (enough.all p v stands has matters) as (λ _. Balanced (agrees scene) ends (Pattern p) (Variable v)) [
        | inl at ↦ of_each (Balanced (agrees scene) ends) pairs (Pattern p) (Variable v) balance at
        | inr at ↦ let b = of_each (Balanced (agrees scene) ends) pairs (Variable v) (Pattern p) balance at in (b.1, b.0)
      ]

  -- ---- pairs of any node: each is of a triple pattern and a variable, in this order

  abbrev pub IsForward : Member → Member → Type 0
  IsForward (Pattern p) (Variable v) = Unit {0}
  IsForward (Pattern p) (Pattern q) = ⊥
  IsForward (Variable v) n = ⊥

  pub record IsCover (k : ℕ) (pairs : List (Member × Member)) : Type 0 where
    pub each : OfEach (AreNeighbours scene k) pairs
    pub forward : OfEach IsForward pairs
    pub all : (p v : ℕ) → StandsIn scene p k → Has scene p v → Matters k v → Contains pairs (Pattern p, Variable v)

  not_first : (m n : Member) (v : ℕ) → IsForward m n → Variable v ≡ m → ⊥
  not_first (Pattern p) n v forward is = cc
  not_first (Variable w) n v forward is = absurd forward

  not_second : (m n : Member) (p : ℕ) → IsForward m n → Pattern p ≡ n → ⊥
  not_second (Pattern q) (Variable w) p forward is = cc
  not_second (Pattern q) (Pattern r) p forward is = absurd forward
  not_second (Variable w) n p forward is = absurd forward

  -- after the first pass a value of a variable has a partner in each of its triple patterns
  gathered : (pairs : List (Member × Member)) (held : Member → Item V X → Type 0) (p v : ℕ) (j : Item V X) → OfEach IsForward pairs → Contains pairs (Pattern p, Variable v) →
      first_pass (agrees scene) pairs held (Variable v) j → HasPartner (agrees scene) held (Pattern p) (Variable v) j
  gathered [] held p v j forward at h = absurd (Contains-nil (Pattern p, Variable v) at)
  gathered ((m, n) ∷ pairs) held p v j forward at h = elim (Contains-cons_cases (m, n) pairs (Pattern p, Variable v) at) as (λ _. HasPartner (agrees scene) held (Pattern p) (Variable v) j) [
    | inl is ↦
        let cut = first_pass-within (agrees scene) pairs (reduce (agrees scene) m n held) (Variable v) j h in
        subst (λ m. HasPartner (agrees scene) held m (Variable v) j) (ap (λ pair. pair.0) is) (cut.1 (sym (ap (λ pair. pair.1) is)))
    | inr later ↦ let found = gathered pairs (reduce (agrees scene) m n held) p v j forward.1 later h in (found.0, found.1.0, found.2)
  ]

  -- after the second pass an item of a triple pattern has a partner in each of its variables
  spread : (pairs : List (Member × Member)) (held : Member → Item V X → Type 0) (p v : ℕ) (j : Item V X) → OfEach IsForward pairs → Contains pairs (Pattern p, Variable v) →
      second_pass (agrees scene) pairs held (Pattern p) j → HasPartner (agrees scene) (second_pass (agrees scene) pairs held) (Variable v) (Pattern p) j
  spread [] held p v j forward at h = absurd (Contains-nil (Pattern p, Variable v) at)
  spread ((m, n) ∷ pairs) held p v j forward at h = elim (Contains-cons_cases (m, n) pairs (Pattern p, Variable v) at) as (λ _. HasPartner (agrees scene) (second_pass (agrees scene) ((m, n) ∷ pairs) held) (Variable v) (Pattern p) j) [
    | inl is ↦
        let found = h.1 (sym (ap (λ pair. pair.0) is)) in
        let variable : n ≡ Variable v = ap (λ pair. pair.1) is in (
          found.0,
          (subst (λ n. second_pass (agrees scene) pairs held n found.0) variable found.1, λ e. absurd (not_first m n v forward.0 e)),
          subst (λ n. agrees scene n found.0 (Pattern p) j) variable found.2,
        )
    | inr later ↦ let found = spread pairs held p v j forward.1 later h.0 in (found.0, (found.1, λ e. absurd (not_first m n v forward.0 e)), found.2)
  ]

  -- so where nothing was dropped each pair is balanced
  pub cover_balances : (tree : IsTree scene) (k : ℕ) (pairs : List (Member × Member)) (all : Holding X) → IsCover k pairs → LiesWithin all (node_passes scene k pairs all) → AreBalanced all k pairs
  cover_balances tree k pairs all cover unchanged p v stands has matters =
      let held = holding all (first_values scene all k) in
      let at = cover.all p v stands has matters in (
        λ j h. back j (gathered pairs held p v j cover.forward at (from_second pairs (first_pass (agrees scene) pairs held) (Variable v) j h)),
        λ j h. spread pairs (first_pass (agrees scene) pairs held) p v j cover.forward at h,
      ) where
        from_second : (pairs : List (Member × Member)) (held : Member → Item V X → Type 0) (m : Member) (i : Item V X) → second_pass (agrees scene) pairs held m i → held m i
        from_second pairs held m i h = second_pass-within (agrees scene) pairs held m i h

        back : (j : Item V X) → HasPartner (agrees scene) (holding all (first_values scene all k)) (Pattern p) (Variable v) j → HasPartner (agrees scene) (at_end scene k pairs all) (Pattern p) (Variable v) j
        back j found = by found.0 found.1 found.2 where
          by : (i : Item V X) → holding all (first_values scene all k) (Pattern p) i → agrees scene (Pattern p) i (Variable v) j → HasPartner (agrees scene) (at_end scene k pairs all) (Pattern p) (Variable v) j
          by (Triple s) h a = (Triple s, (unchanged p s h).0, a)
          by (Value y) h a = absurd h
