-- The columns of a triple pattern have its variables, and give them the values that they take.
use Rattle.std.proofs.Common.{◌≡◌, ◌↔◌, ◌⊎◌, inl, inr, ℕ, zero, suc, ◌+◌, ◌<◌, ◌++◌, List, [], ◌∷◌, length, get_or, Contains, refl, sym, ◌∙◌, ap, subst, arith}
use Rattle.std.proofs.lemmas.List.Elements.{Contains-append_left, Contains-append_right, Contains-append_cases}
use Rattle.bm_term.proofs.Elements.{Contains-head, Contains-nil, Contains-single}
use Rattle.alg_model.specs.declared.pattern.Place.{Place}
use Rattle.alg_model.specs.declared.pattern.Place.TheVariants as places
use Rattle.alg_model.specs.declared.pattern.TriplePat.{TriplePat}
use Rattle.alg_model.specs.Eval.{Interpretation}
use Rattle.alg_model.specs.Pattern.{IsVar, place_vars, triple_vars}
use Rattle.pattern_tree.specs.Consistent.{TakesValue}
use Rattle.pruning_laws.specs.Scene.{Column, ColumnsHave, ColumnsGive}
use Rattle.pruning_laws.specs.SceneOf.{place_columns, columns_of, columns_from}

module _ {V Y : Type 0} where
  have-append : (xs ys : List (Column V Y)) (v : ℕ) → ColumnsHave (xs ++ ys) v ↔ ColumnsHave xs v ⊎ ColumnsHave ys v
  have-append xs ys v = (to xs, from xs) where
    to : (xs : List (Column V Y)) → ColumnsHave (xs ++ ys) v → ColumnsHave xs v ⊎ ColumnsHave ys v
    to [] has = inr has
    to (column ∷ xs) (inl is) = inl (inl is)
    to (column ∷ xs) (inr later) = elim (to xs later) as (λ _. ColumnsHave (column ∷ xs) v ⊎ ColumnsHave ys v) [ inl h ↦ inl (inr h) | inr h ↦ inr h ]

    from : (xs : List (Column V Y)) → ColumnsHave xs v ⊎ ColumnsHave ys v → ColumnsHave (xs ++ ys) v
    from [] (inl h) = absurd h
    from [] (inr h) = h
    from (column ∷ xs) (inl (inl is)) = inl is
    from (column ∷ xs) (inl (inr later)) = inr (from xs (inl later))
    from (column ∷ xs) (inr h) = inr (from xs (inr h))

  give-append : (xs ys : List (Column V Y)) (t : Y) (v : ℕ) (x : V) → ColumnsGive (xs ++ ys) t v x ↔ ColumnsGive xs t v x ⊎ ColumnsGive ys t v x
  give-append xs ys t v x = (to xs, from xs) where
    to : (xs : List (Column V Y)) → ColumnsGive (xs ++ ys) t v x → ColumnsGive xs t v x ⊎ ColumnsGive ys t v x
    to [] gives = inr gives
    to (column ∷ xs) (inl is) = inl (inl is)
    to (column ∷ xs) (inr later) = elim (to xs later) as (λ _. ColumnsGive (column ∷ xs) t v x ⊎ ColumnsGive ys t v x) [ inl h ↦ inl (inr h) | inr h ↦ inr h ]

    from : (xs : List (Column V Y)) → ColumnsGive xs t v x ⊎ ColumnsGive ys t v x → ColumnsGive (xs ++ ys) t v x
    from [] (inl h) = absurd h
    from [] (inr h) = h
    from (column ∷ xs) (inl (inl is)) = inl is
    from (column ∷ xs) (inl (inr later)) = inr (from xs (inl later))
    from (column ∷ xs) (inr h) = inr (from xs (inr h))

  -- ---- a place

  place_have : (place : Place) (value : Y → V) (v : ℕ) → ColumnsHave (place_columns place value) v → Contains (place_vars place) v
  place_have (places.Var var) value v (inl is) = subst (Contains (var.0 ∷ [])) is (Contains-head var.0 [])
  place_have (places.Var var) value v (inr none) = absurd none
  place_have (places.Term text) value v none = absurd none

  have_place : (place : Place) (value : Y → V) (v : ℕ) → Contains (place_vars place) v → ColumnsHave (place_columns place value) v
  have_place (places.Var var) value v at = inl (Contains-single var.0 v at)
  have_place (places.Term text) value v at = absurd (Contains-nil v at)

  place_give : (place : Place) (value : Y → V) (t : Y) (v : ℕ) (x w : V) → value t ≡ w → ColumnsGive (place_columns place value) t v x → IsVar place v × (x ≡ w)
  place_give (places.Var var) value t v x w is (inl gives) = (gives.0, sym gives.1 ∙ is)
  place_give (places.Var var) value t v x w is (inr none) = absurd none
  place_give (places.Term text) value t v x w is none = absurd none

  give_place : (place : Place) (value : Y → V) (t : Y) (v : ℕ) (x w : V) → value t ≡ w → IsVar place v → x ≡ w → ColumnsGive (place_columns place value) t v x
  give_place (places.Var var) value t v x w is var_is same = inl (var_is, is ∙ sym same)
  give_place (places.Term text) value t v x w is var_is same = absurd var_is

  -- ---- a triple pattern

  pub has-columns : (reading : Interpretation V Y) (pattern : TriplePat) (v : ℕ) → ColumnsHave (columns_of reading pattern) v ↔ Contains (triple_vars pattern) v
  has-columns reading pattern v = (to, from) where
    to : ColumnsHave (columns_of reading pattern) v → Contains (triple_vars pattern) v
    to has =
        let s = place_columns pattern.subject reading.subject in
        let p = place_columns pattern.predicate reading.predicate in
        let o = place_columns pattern.object reading.object in
        elim ((have-append (s ++ p) o v).0 has) as (λ _. Contains (triple_vars pattern) v) [
          | inl first ↦ Contains-append_left (place_vars pattern.subject ++ place_vars pattern.predicate) (place_vars pattern.object) v
              (elim ((have-append s p v).0 first) as (λ _. Contains (place_vars pattern.subject ++ place_vars pattern.predicate) v) [
                | inl h ↦ Contains-append_left (place_vars pattern.subject) (place_vars pattern.predicate) v (place_have pattern.subject reading.subject v h)
                | inr h ↦ Contains-append_right (place_vars pattern.subject) (place_vars pattern.predicate) v (place_have pattern.predicate reading.predicate v h)
              ])
          | inr h ↦ Contains-append_right (place_vars pattern.subject ++ place_vars pattern.predicate) (place_vars pattern.object) v (place_have pattern.object reading.object v h)
        ]

    from : Contains (triple_vars pattern) v → ColumnsHave (columns_of reading pattern) v
    from at =
        let s = place_columns pattern.subject reading.subject in
        let p = place_columns pattern.predicate reading.predicate in
        let o = place_columns pattern.object reading.object in
        elim (Contains-append_cases (place_vars pattern.subject ++ place_vars pattern.predicate) (place_vars pattern.object) v at) as (λ _. ColumnsHave (columns_of reading pattern) v) [
          | inl first ↦ elim (Contains-append_cases (place_vars pattern.subject) (place_vars pattern.predicate) v first) as (λ _. ColumnsHave (columns_of reading pattern) v) [
            | inl h ↦ (have-append (s ++ p) o v).1 (inl ((have-append s p v).1 (inl (have_place pattern.subject reading.subject v h))))
            | inr h ↦ (have-append (s ++ p) o v).1 (inl ((have-append s p v).1 (inr (have_place pattern.predicate reading.predicate v h))))
          ]
          | inr h ↦ (have-append (s ++ p) o v).1 (inr (have_place pattern.object reading.object v h))
        ]

  module _ {X : Type 0} (interpretation : Interpretation V X) (reading : Interpretation V Y) (pattern : TriplePat) (t : Y) (triple : X)
      (subject : reading.subject t ≡ interpretation.subject triple) (predicate : reading.predicate t ≡ interpretation.predicate triple) (object : reading.object t ≡ interpretation.object triple) where
    abbrev s : List (Column V Y)
    s = place_columns pattern.subject reading.subject

    abbrev p : List (Column V Y)
    p = place_columns pattern.predicate reading.predicate

    abbrev o : List (Column V Y)
    o = place_columns pattern.object reading.object

    to_takes : (v : ℕ) (x : V) → ColumnsGive (columns_of reading pattern) t v x → TakesValue interpretation pattern triple v x
    to_takes v x gives = elim ((give-append (s ++ p) o t v x).0 gives) as (λ _. TakesValue interpretation pattern triple v x) [
      | inl first ↦ elim ((give-append s p t v x).0 first) as (λ _. TakesValue interpretation pattern triple v x) [
        | inl h ↦ inl (place_give pattern.subject reading.subject t v x (interpretation.subject triple) subject h)
        | inr h ↦ inr (inl (place_give pattern.predicate reading.predicate t v x (interpretation.predicate triple) predicate h))
      ]
      | inr h ↦ inr (inr (place_give pattern.object reading.object t v x (interpretation.object triple) object h))
    ]

    from_takes : (v : ℕ) (x : V) → TakesValue interpretation pattern triple v x → ColumnsGive (columns_of reading pattern) t v x
    from_takes v x (inl at) = (give-append (s ++ p) o t v x).1 (inl ((give-append s p t v x).1 (inl (give_place pattern.subject reading.subject t v x (interpretation.subject triple) subject at.0 at.1))))
    from_takes v x (inr (inl at)) = (give-append (s ++ p) o t v x).1 (inl ((give-append s p t v x).1 (inr (give_place pattern.predicate reading.predicate t v x (interpretation.predicate triple) predicate at.0 at.1))))
    from_takes v x (inr (inr at)) = (give-append (s ++ p) o t v x).1 (inr (give_place pattern.object reading.object t v x (interpretation.object triple) object at.0 at.1))

    pub gives-columns : (v : ℕ) (x : V) → ColumnsGive (columns_of reading pattern) t v x ↔ TakesValue interpretation pattern triple v x
    gives-columns v x = (to_takes v x, from_takes v x)

  -- ---- some triple patterns

  pub length-columns : (readings : ℕ → Interpretation V Y) (q : ℕ) (list : List TriplePat) → length (columns_from readings q list) ≡ length list
  length-columns readings q [] = refl
  length-columns readings q (pattern ∷ list) = let rest = length-columns readings (suc q) list in omega (arith, rest)

  pub columns_at-text : (readings : ℕ → Interpretation V Y) (q : ℕ) (list : List TriplePat) (p : ℕ) (d : TriplePat) → p < length list →
      get_or (columns_from readings q list) p [] ≡ columns_of (readings (q + p)) (get_or list p d)
  columns_at-text readings q [] p d low = absurd (omega (arith, low))
  columns_at-text readings q (pattern ∷ list) zero d low = ap (λ i. columns_of (readings i) pattern) (let e : q ≡ q + 0 = omega arith in e)
  columns_at-text readings q (pattern ∷ list) (suc p) d low =
      columns_at-text readings (suc q) list p d (omega (arith, low)) ∙ ap (λ i. columns_of (readings i) (get_or list p d)) (let e : suc q + p ≡ q + suc p = omega arith in e)
