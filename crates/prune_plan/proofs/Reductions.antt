-- A step on masks is a reduction of members: a variable is reduced by a triple pattern, or a triple pattern by a variable.
use Rattle.std.proofs.Common.{◌≡◌, ◌≢◌, ◌↔◌, inl, inr, ℕ, refl, sym, subst}
use Rattle.std.proofs.lemmas.Bool.{cases_eq}
use Rattle.join_graph.specs.declared.steps.Step.TheVariants.{Pattern, Variable}
use Rattle.join_graph.specs.Members.{Member}
use Rattle.pruning_laws.specs.Passes.{HasPartner, reduce}
use Rattle.pruning_laws.specs.TreePasses.{Holding, Item, Triple, Value, holding}
use Rattle.prune_plan.specs.steps.Members.{agrees_by}

module _ (gives : ℕ → ℕ × ℕ → ℕ → ℕ → Type 0) (lists less : Holding (ℕ × ℕ)) (values fewer : ℕ → ℕ → Type 0) (i v : ℕ) where
  abbrev old : Member → Item ℕ (ℕ × ℕ) → Type 0
  old = holding lists values

  abbrev new : Member → Item ℕ (ℕ × ℕ) → Type 0
  new = holding less fewer

  apart_variables : (w : ℕ) → w ≢ v → Variable w ≡ Variable v → ⊥
  apart_variables w apart e = let same : w ≡ v = cc in apart same

  apart_patterns : (j : ℕ) → j ≢ i → Pattern j ≡ Pattern i → ⊥
  apart_patterns j apart e = let same : j ≡ i = cc in apart same

  -- ---- a variable by a triple pattern

  some_pair : (x : ℕ) → HasPartner (agrees_by gives) old (Pattern i) (Variable v) (Value x) → (t : ℕ × ℕ) × lists i t × gives i t v x
  some_pair x has = by has.0 has.1 has.2 where
    by : (item : Item ℕ (ℕ × ℕ)) → old (Pattern i) item → agrees_by gives (Pattern i) item (Variable v) (Value x) → (t : ℕ × ℕ) × lists i t × gives i t v x
    by (Triple t) h a = (t, h, a)
    by (Value y) h a = absurd h

  gathered_here : ((x : ℕ) → fewer v x ↔ (values v x × ((t : ℕ × ℕ) × lists i t × gives i t v x))) → (x : ℕ) → new (Variable v) (Value x) ↔ reduce (agrees_by gives) (Pattern i) (Variable v) old (Variable v) (Value x)
  gathered_here is x = (
    λ h. (let both = (is x).0 h in (both.0, λ e. (Triple both.1.0, both.1.1, both.1.2))),
    λ h. (is x).1 (h.0, some_pair x (h.1 refl)),
  )

  pub gathered : ((j : ℕ) (t : ℕ × ℕ) → less j t ↔ lists j t) → ((x : ℕ) → fewer v x ↔ (values v x × ((t : ℕ × ℕ) × lists i t × gives i t v x))) →
      ((w x : ℕ) → w ≢ v → fewer w x ↔ values w x) → (m : Member) (item : Item ℕ (ℕ × ℕ)) → new m item ↔ reduce (agrees_by gives) (Pattern i) (Variable v) old m item
  gathered same here others (Pattern j) (Triple t) = (λ h. ((same j t).0 h, λ e. absurd (cc e)), λ h. (same j t).1 h.0)
  gathered same here others (Pattern j) (Value x) = (λ h. absurd h, λ h. absurd h.0)
  gathered same here others (Variable w) (Triple t) = (λ h. absurd h, λ h. absurd h.0)
  gathered same here others (Variable w) (Value x) = elim (cases_eq w v) as (λ _. new (Variable w) (Value x) ↔ reduce (agrees_by gives) (Pattern i) (Variable v) old (Variable w) (Value x)) [
    | inl is ↦ subst (λ w. new (Variable w) (Value x) ↔ reduce (agrees_by gives) (Pattern i) (Variable v) old (Variable w) (Value x)) (sym is) (gathered_here here x)
    | inr apart ↦ (λ h. ((others w x apart).0 h, λ e. absurd (apart_variables w apart e)), λ h. (others w x apart).1 h.0)
  ]

  -- ---- a triple pattern by a variable

  some_value : (t : ℕ × ℕ) → HasPartner (agrees_by gives) old (Variable v) (Pattern i) (Triple t) → (x : ℕ) × values v x × gives i t v x
  some_value t has = by has.0 has.1 has.2 where
    by : (item : Item ℕ (ℕ × ℕ)) → old (Variable v) item → agrees_by gives (Variable v) item (Pattern i) (Triple t) → (x : ℕ) × values v x × gives i t v x
    by (Value x) h a = (x, h, a)
    by (Triple s) h a = absurd h

  spread_here : ((t : ℕ × ℕ) → less i t ↔ (lists i t × ((x : ℕ) × values v x × gives i t v x))) → (t : ℕ × ℕ) → new (Pattern i) (Triple t) ↔ reduce (agrees_by gives) (Variable v) (Pattern i) old (Pattern i) (Triple t)
  spread_here is t = (
    λ h. (let both = (is t).0 h in (both.0, λ e. (Value both.1.0, both.1.1, both.1.2))),
    λ h. (is t).1 (h.0, some_value t (h.1 refl)),
  )

  pub spread_out : ((w x : ℕ) → fewer w x ↔ values w x) → ((t : ℕ × ℕ) → less i t ↔ (lists i t × ((x : ℕ) × values v x × gives i t v x))) →
      ((j : ℕ) (t : ℕ × ℕ) → j ≢ i → less j t ↔ lists j t) → (m : Member) (item : Item ℕ (ℕ × ℕ)) → new m item ↔ reduce (agrees_by gives) (Variable v) (Pattern i) old m item
  spread_out same here others (Variable w) (Value x) = (λ h. ((same w x).0 h, λ e. absurd (cc e)), λ h. (same w x).1 h.0)
  spread_out same here others (Variable w) (Triple t) = (λ h. absurd h, λ h. absurd h.0)
  spread_out same here others (Pattern j) (Value x) = (λ h. absurd h, λ h. absurd h.0)
  spread_out same here others (Pattern j) (Triple t) = elim (cases_eq j i) as (λ _. new (Pattern j) (Triple t) ↔ reduce (agrees_by gives) (Variable v) (Pattern i) old (Pattern j) (Triple t)) [
    | inl is ↦ subst (λ j. new (Pattern j) (Triple t) ↔ reduce (agrees_by gives) (Variable v) (Pattern i) old (Pattern j) (Triple t)) (sym is) (spread_here here t)
    | inr apart ↦ (λ h. ((others j t apart).0 h, λ e. absurd (apart_patterns j apart e)), λ h. (others j t apart).1 h.0)
  ]
