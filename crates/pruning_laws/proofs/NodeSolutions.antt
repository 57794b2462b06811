-- In a node that is a forest, each item of an arc-consistent family is part of a solution of the node.
use Rattle.std.proofs.Common.{◌≡◌, ◌⊎◌, inl, inr, ℕ, zero, suc, ◌<◌, List, [], ◌∷◌, length, Contains, refl, subst, arith}
use Rattle.std.proofs.lemmas.Bool.{cases_eq, cases_lt}
use Rattle.join_graph.specs.declared.steps.Step.TheVariants.{Pattern, Variable}
use Rattle.join_graph.specs.Members.{Member}
use Rattle.join_graph.proofs.Members.{cases_Member}
use Rattle.pruning_laws.specs.Scene.{Column, Scene, columns_at, node_of, ColumnsHave, Has, Gives, here, StandsIn}
use Rattle.pruning_laws.specs.TreePasses.{Holding, IsFilled, Item, Triple, Value, agrees, holding}
use Rattle.pruning_laws.proofs.ArcConsistent.{IsArcConsistent, GivesOne, HasHere, gives_some, has_given, governs_from}
use Rattle.pruning_laws.proofs.Choices.{IsChoice, choose}
use Rattle.pruning_laws.proofs.Keeping.{AreNeighbours, agrees-symmetric, values_in, neighbours_balance}
use Rattle.pruning_laws.proofs.PassLaws.{GoOnce, OfEach, OfEach-weaker, Balanced}
use Rattle.pruning_laws.proofs.Settling.{of_each}

-- it holds or not
abbrev IsTold : Type 0 → Type 0
IsTold P = P ⊎ (P → ⊥)

columns_told : {V X : Type 0} (columns : List (Column V X)) (v : ℕ) → IsTold (ColumnsHave columns v)
columns_told [] v = inr (λ h. h)
columns_told (column ∷ columns) v = elim (cases_eq column.variable v) as (λ _. IsTold (ColumnsHave (column ∷ columns) v)) [
  | inl is ↦ inl (inl is)
  | inr other ↦ elim (columns_told columns v) as (λ _. IsTold (ColumnsHave (column ∷ columns) v)) [
    | inl later ↦ inl (inr later)
    | inr none ↦ inr (λ h. elim h as (λ _. ⊥) [ inl is ↦ other is | inr later ↦ none later ])
  ]
]

module _ {V X : Type 0} (scene : Scene V X) where
  has_told : (p v : ℕ) → IsTold (Has scene p v)
  unfolding Has
  has_told p v = columns_told (columns_at scene p) v

  stands_told : (p k : ℕ) → IsTold (StandsIn scene p k)
  stands_told p k = elim (cases_lt p (length scene.patterns)) as (λ _. IsTold (StandsIn scene p k)) [
    | inl low ↦ elim (cases_eq (node_of scene p) k) as (λ _. IsTold (StandsIn scene p k)) [ inl is ↦ inl (low, is) | inr other ↦ inr (λ s. other s.1) ]
    | inr past ↦ inr (λ s. let low = s.0 in omega (arith, low, past))
  ]

  -- one of the first triple patterns stands in the node and has the variable
  here_below : (bound k v : ℕ) → IsTold ((r : ℕ) × (r < bound) × StandsIn scene r k × Has scene r v)
  here_below zero k v = inr (λ h. let low = h.1 in omega (arith, low))
  here_below (suc bound) k v = elim (here_below bound k v) as (λ _. IsTold ((r : ℕ) × (r < suc bound) × StandsIn scene r k × Has scene r v)) [
    | inl found ↦ inl (found.0, (let low = found.1 in omega (arith, low)), found.2, found.3)
    | inr none ↦ elim (stands_told bound k) as (λ _. IsTold ((r : ℕ) × (r < suc bound) × StandsIn scene r k × Has scene r v)) [
      | inl stands ↦ elim (has_told bound v) as (λ _. IsTold ((r : ℕ) × (r < suc bound) × StandsIn scene r k × Has scene r v)) [
        | inl has ↦ inl (bound, omega arith, stands, has)
        | inr not_has ↦ inr (λ h. elim (cases_eq h.0 bound) as (λ _. ⊥) [ inl is ↦ not_has (subst (λ r. Has scene r v) is h.3) | inr other ↦ none (h.0, (let low = h.1 in omega (arith, low, other)), h.2, h.3) ])
      ]
      | inr out ↦ inr (λ h. elim (cases_eq h.0 bound) as (λ _. ⊥) [ inl is ↦ out (subst (λ r. StandsIn scene r k) is h.2) | inr other ↦ none (h.0, (let low = h.1 in omega (arith, low, other)), h.2, h.3) ])
    ]
  ]

  here_told : (k v : ℕ) → IsTold (HasHere scene k v)
  here_told k v = elim (here_below (length scene.patterns) k v) as (λ _. IsTold (HasHere scene k v)) [
    | inl found ↦ inl (found.0, found.2, found.3)
    | inr none ↦ inr (λ h. none (h.0, h.1.0, h.1, h.2))
  ]

  -- the pairs of an order of removal, which have every edge of the node
  pub record IsPairing (k : ℕ) (pairs : List (Member × Member)) : Type 0 where
    pub once : GoOnce pairs
    pub each : OfEach (AreNeighbours scene k) pairs
    pub all : (p v : ℕ) → StandsIn scene p k → Has scene p v → Contains pairs (Pattern p, Variable v) ⊎ Contains pairs (Variable v, Pattern p)

  -- values of all variables, under which each triple pattern of the node is some item that it holds
  abbrev pub SolvesNode : Holding X → ℕ → (ℕ → V) → Type 0
  SolvesNode family k value = (p : ℕ) → StandsIn scene p k → (t : X) × family p t × ((v : ℕ) (x : V) → Gives scene p t v x → value v ≡ x)

  module _ (family : Holding X) (consistent : IsArcConsistent scene family) (one : GivesOne scene family) (k : ℕ) (pairs : List (Member × Member)) (pairing : IsPairing k pairs)
      (p0 : ℕ) (t0 : X) (stands0 : StandsIn scene p0 k) (held0 : family p0 t0) (nothing : V) where
    abbrev counts : Member → Type 0
    counts (Pattern p) = StandsIn scene p k
    counts (Variable v) = HasHere scene k v

    abbrev held : Member → Item V X → Type 0
    held = holding family (values_in scene family k)

    -- each triple pattern of the node holds some item
    filled : (p : ℕ) → StandsIn scene p k → IsFilled family p
    filled p stands = consistent.filled p p0 (governs_from scene p p0 k k stands stands0.1 here) (t0, held0)

    base_of : (m : Member) → IsTold (counts m) → Item V X
    base_of (Pattern p) (inl stands) = Triple (filled p stands).0
    base_of (Pattern p) (inr out) = Triple t0
    base_of (Variable v) (inl has) = Value (gives_some scene has.0 v has.2 (filled has.0 has.1).0).0
    base_of (Variable v) (inr none) = Value nothing

    counts_told : (m : Member) → IsTold (counts m)
    counts_told (Pattern p) = stands_told p k
    counts_told (Variable v) = here_told k v

    base : Member → Item V X
    base m = base_of m (counts_told m)

    base_held : (m : Member) → counts m → held m (base m)
    unfolding base base_of
    base_held m counted = by m (counts_told m) counted where
      by : (m : Member) (told : IsTold (counts m)) → counts m → held m (base_of m told)
      by (Pattern p) (inl stands) counted = (filled p stands).1
      by (Pattern p) (inr out) counted = absurd (out counted)
      by (Variable v) (inl has) counted = let f = filled has.0 has.1 in (has.0, has.1, (f.0, f.1, (gives_some scene has.0 v has.2 f.0).1))
      by (Variable v) (inr none) counted = absurd (none counted)

    neighbours_count : (m n : Member) → AreNeighbours scene k m n → counts m × counts n
    neighbours_count (Pattern p) (Variable v) near = (near.0, (p, near.0, near.1))
    neighbours_count (Variable v) (Pattern p) near = ((p, near.0, near.1), near.0)
    neighbours_count (Pattern p) (Pattern q) near = absurd near
    neighbours_count (Variable v) (Variable w) near = absurd near

    value_or : Item V X → V
    value_or (Value x) = x
    value_or (Triple t) = nothing

    pub record NodeSolution : Type 0 where
      pub value : ℕ → V
      pub solves : SolvesNode family k value
      pub from : (v : ℕ) (x : V) → Gives scene p0 t0 v x → value v ≡ x

    module _ (choice : Member → Item V X) (is : IsChoice cases_Member (agrees scene) (agrees-symmetric scene) counts held base base_held pairs (Pattern p0) (Triple t0) choice) where
      -- along an edge the choices agree
      edge_agrees : (p v : ℕ) → StandsIn scene p k → Has scene p v → agrees scene (Pattern p) (choice (Pattern p)) (Variable v) (choice (Variable v))
      edge_agrees p v stands has = elim (pairing.all p v stands has) as (λ _. agrees scene (Pattern p) (choice (Pattern p)) (Variable v) (choice (Variable v))) [
        | inl at ↦ of_each scene (λ m n. agrees scene m (choice m) n (choice n)) pairs (Pattern p) (Variable v) is.agreed at
        | inr at ↦ agrees-symmetric scene (Variable v) (choice (Variable v)) (Pattern p) (choice (Pattern p)) (of_each scene (λ m n. agrees scene m (choice m) n (choice n)) pairs (Variable v) (Pattern p) is.agreed at)
      ]

      value_is : (p : ℕ) (t : X) → StandsIn scene p k → family p t → choice (Pattern p) ≡ Triple t → (v : ℕ) (x : V) → Gives scene p t v x → value_or (choice (Variable v)) ≡ x
      unfolding value_or
      value_is p t stands h chosen v x gives = by (choice (Variable v)) (subst (λ i. agrees scene (Pattern p) i (Variable v) (choice (Variable v))) chosen (edge_agrees p v stands (has_given scene p t v x gives))) where
        by : (j : Item V X) → agrees scene (Pattern p) (Triple t) (Variable v) j → value_or j ≡ x
        by (Value y) a = one p t v y x h a gives
        by (Triple s) a = absurd a

      solution : NodeSolution
      solution = record {
        value = λ v. value_or (choice (Variable v));
        solves = λ p stands. some p stands (choice (Pattern p)) refl (is.held_by_each (Pattern p) stands);
        from = value_is p0 t0 stands0 held0 is.at_first;
      } where
        some : (p : ℕ) → StandsIn scene p k → (i : Item V X) → choice (Pattern p) ≡ i → held (Pattern p) (choice (Pattern p)) → (t : X) × family p t × ((v : ℕ) (x : V) → Gives scene p t v x → value_or (choice (Variable v)) ≡ x)
        some p stands (Triple t) e h = let there : family p t = subst (λ i. held (Pattern p) i) e h in (t, there, value_is p t stands there e)
        some p stands (Value x) e h = absurd (let none : ⊥ = subst (λ i. held (Pattern p) i) e h in none)

    pub solve_node : NodeSolution
    solve_node =
        let found = choose cases_Member (agrees scene) (agrees-symmetric scene) counts held base base_held pairs pairing.once
        (OfEach-weaker (AreNeighbours scene k) (λ m n. counts m × counts n) neighbours_count pairs pairing.each)
        (OfEach-weaker (AreNeighbours scene k) (Balanced (agrees scene) held) (neighbours_balance scene family consistent k) pairs pairing.each)
        (Pattern p0) (Triple t0) held0 in
        solution found.0 found.1
