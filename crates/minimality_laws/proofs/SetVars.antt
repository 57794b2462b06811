-- The sets of the variables of some triple patterns, and the variables as lists.
use Rattle.std.proofs.Common.{◌≡◌, ◌↔◌, ◌⊎◌, inl, inr, ℕ, zero, suc, ◌<◌, List, [], ◌∷◌, length, get_or, map, Contains, refl, sym, subst, arith}
use Rattle.std.proofs.lemmas.Bool.{cases_eq}
use Rattle.std.proofs.lemmas.List.{get_or-map, length-map}
use Rattle.std.proofs.lemmas.List.Elements.{Contains-get_or}
use Rattle.bm_term.proofs.Elements.{Contains-head, Contains-tail, Contains-cons_cases, Contains-nil}
use Rattle.alg_model.specs.declared.pattern.TriplePat.{TriplePat}
use Rattle.alg_model.specs.Pattern.{triple_vars}
use Rattle.alg_model.specs.VarSet.{triple_set, list_set}
use Rattle.alg_model.proofs.Lists.{Contains-flat_map, source-flat_map}
use Rattle.alg_model.proofs.VarSets.{HoldsJust-triple, HoldsJust-list}
use Rattle.join_graph.specs.Members.{HasVariable, PatternHas, OccursIn}
use Rattle.join_graph.proofs.Members.{PatternHas-place}
use Rattle.pattern_tree.proofs.Choices.{list_vars}

-- the variable is among these or not
pub told_among : (vars : List ℕ) (v : ℕ) → Contains vars v ⊎ (Contains vars v → ⊥)
told_among [] v = inr (λ at. Contains-nil v at)
told_among (w ∷ vars) v = elim (cases_eq w v) as (λ _. Contains (w ∷ vars) v ⊎ (Contains (w ∷ vars) v → ⊥)) [
  | inl is ↦ inl (subst (Contains (w ∷ vars)) is (Contains-head w vars))
  | inr other ↦ elim (told_among vars v) as (λ _. Contains (w ∷ vars) v ⊎ (Contains (w ∷ vars) v → ⊥)) [
    | inl later ↦ inl (Contains-tail w vars v later)
    | inr none ↦ inr (λ at. elim (Contains-cons_cases w vars v at) as (λ _. ⊥) [ inl is ↦ other is | inr later ↦ none later ])
  ]
]

-- two lists share a variable or not
pub told_shared : (vars others : List ℕ) → ((v : ℕ) × Contains vars v × Contains others v) ⊎ ((v : ℕ) → Contains vars v → Contains others v → ⊥)
told_shared [] others = inr (λ v at at'. Contains-nil v at)
told_shared (w ∷ vars) others = elim (told_among others w) as (λ _. ((v : ℕ) × Contains (w ∷ vars) v × Contains others v) ⊎ ((v : ℕ) → Contains (w ∷ vars) v → Contains others v → ⊥)) [
  | inl at ↦ inl (w, Contains-head w vars, at)
  | inr out ↦ elim (told_shared vars others) as (λ _. ((v : ℕ) × Contains (w ∷ vars) v × Contains others v) ⊎ ((v : ℕ) → Contains (w ∷ vars) v → Contains others v → ⊥)) [
    | inl some ↦ inl (some.0, Contains-tail w vars some.0 some.1, some.2)
    | inr none ↦ inr (λ v at at'. elim (Contains-cons_cases w vars v at) as (λ _. ⊥) [ inl is ↦ out (subst (Contains others) (sym is) at') | inr later ↦ none v later at' ])
  ]
]

-- the variable is in the set of the triple pattern where it is one of its variables
pub set_has : (p : TriplePat) (v : ℕ) → HasVariable (triple_set p) v ↔ Contains (triple_vars p) v
set_has p v = HoldsJust-triple p v

module _ (patterns : List TriplePat) (d : TriplePat) where
  pub has_at : (j v : ℕ) → PatternHas (map triple_set patterns) j v → (j < length patterns) × Contains (triple_vars (get_or patterns j d)) v
  has_at j v has =
      let there = PatternHas-place (map triple_set patterns) j v has in
      let low : j < length patterns = omega (arith, there, length-map patterns triple_set) in
      (low, (set_has (get_or patterns j d) v).0 (subst (λ s. HasVariable s v) (get_or-map triple_set patterns j d 0 low) has))

  pub at_has : (j v : ℕ) → j < length patterns → Contains (triple_vars (get_or patterns j d)) v → PatternHas (map triple_set patterns) j v
  at_has j v low among = subst (λ s. HasVariable s v) (sym (get_or-map triple_set patterns j d 0 low)) ((set_has (get_or patterns j d) v).1 among)

  -- a variable occurs in the sets where it is one of the list's
  pub occurs_vars : (v : ℕ) → OccursIn (map triple_set patterns) v ↔ Contains (list_vars patterns) v
  occurs_vars v = (
    λ occurs. (let at = has_at occurs.0 v occurs.1 in Contains-flat_map triple_vars patterns (get_or patterns occurs.0 d) v (Contains-get_or patterns occurs.0 d at.0) at.1),
    λ among. (
        let from = source-flat_map triple_vars patterns v among in
        let at = from.1 in
        let same = get_or_other patterns at.0 from.0 d at.1 in
        (at.0, at_has at.0 v at.1 (subst (λ p. Contains (triple_vars p) v) same (subst (λ p. Contains (triple_vars p) v) (sym at.2) from.2)))
        ),
  ) where
    get_or_other : (xs : List TriplePat) (i : ℕ) (d e : TriplePat) → i < length xs → get_or xs i d ≡ get_or xs i e
    get_or_other [] i d e low = absurd (omega (arith, low))
    get_or_other (x ∷ xs) zero d e low = refl
    get_or_other (x ∷ xs) (suc i) d e low = get_or_other xs i d e (omega (arith, low))

  -- the one word of the list has the variables that occur in the sets
  pub word_occurs : (v : ℕ) → HasVariable (list_set patterns) v ↔ OccursIn (map triple_set patterns) v
  word_occurs v = (
    λ has. (occurs_vars v).1 ((HoldsJust-list patterns v).0 has),
    λ occurs. (HoldsJust-list patterns v).1 ((occurs_vars v).0 occurs),
  )
