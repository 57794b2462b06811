-- The matches of a triple pattern over names, and over what the names name.
use Rattle.std.proofs.Common.{◌≡◌, ℕ, zero, suc, Bool, true, false, inl, inr, if◌then◌else◌, List, [], ◌∷◌, map, Contains, Option, Some, None, option_to_list, slice_set, refl, sym, ◌∙◌, ap, subst}
use Rattle.std.specs.List.{filter_map, cons_option}
use Rattle.std.specs.Option.{option_map}
use Rattle.std.proofs.lemmas.Bool.{cases_eq, cases_lt}
use Rattle.std.proofs.lemmas.List.{map-set}
use Rattle.bm_term.proofs.Elements.{Contains-head, Contains-tail}
use Rattle.alg_model.specs.declared.pattern.Place.{Place}
use Rattle.alg_model.specs.declared.pattern.Place.TheVariants as places
use Rattle.alg_model.specs.declared.pattern.TriplePat.{TriplePat}
use Rattle.alg_model.specs.Eval.{Interpretation, place_row, match_of, matches_of}
use Rattle.alg_model.specs.Pattern.{IsVar}
use Rattle.alg_model.specs.Row.{Row, unbound, single, both_rows, merged, binding}
use Rattle.alg_model.specs.Solution.{TellsValues}
use Rattle.alg_model.proofs.Cells.{binding-unbound, binding_past, binding-single_same, binding-single_other}
use Rattle.alg_model.proofs.Joins.{merges-Contains}
use Rattle.alg_model.proofs.Lists.{filter_map_as_flat_map, source-flat_map, option-Contains}
use Rattle.alg_model.proofs.Width.{width-single}
use Rattle.multiway_join.specs.FlatRows.{continued}
use Rattle.naming_laws.specs.Naming.{IsNaming, named_row, named_family}
use Rattle.pattern_tree.specs.Consistent.{TakesValue}
use Rattle.pattern_tree.specs.Solution.{Family}
use Rattle.report_laws.proofs.NamedCells.{BindsOnly, TellsNames, merged_named, merged_only}

-- ---- lists

cons_named : {X Y : Type 0} (f : X → Y) (o : Option X) (xs : List X) → cons_option (option_map f o) (map f xs) ≡ map f (cons_option o xs)
cons_named f None xs = refl
cons_named f (Some x) xs = refl

-- what g gives of renamed items is, renamed, what f gives of the items
filter_map_named : {X Y Z U : Type 0} (rename : X → Z) (rename' : Y → U) (f : X → Option Y) (g : Z → Option U) (xs : List X) → ((x : X) → Contains xs x → g (rename x) ≡ option_map rename' (f x)) →
    filter_map g (map rename xs) ≡ map rename' (filter_map f xs)
filter_map_named rename rename' f g [] each = refl
filter_map_named rename rename' f g (x ∷ xs) each =
    ap (λ o. cons_option o (filter_map g (map rename xs))) (each x (Contains-head x xs))
    ∙ ap (λ list. cons_option (option_map rename' (f x)) list) (filter_map_named rename rename' f g xs (λ z at. each z (Contains-tail x xs z at)))
    ∙ cons_named rename' (f x) (filter_map f xs)

-- ---- one triple pattern

module _ {W Y V X : Type 0} (names : Interpretation W Y) (interpretation : Interpretation V X) (value : W → V) (triple : Y → X) (naming : IsNaming names interpretation value triple) (tells : TellsValues names) (tells' : TellsValues interpretation) (n : ℕ)
    (Takes : ℕ → W → Type 0) (one : TellsNames value Takes) where
  pub unbound_named : (n : ℕ) → named_row value (unbound W n) ≡ unbound V n
  unbound_named zero = refl
  unbound_named (suc n) = ap (λ row. None ∷ row) (unbound_named n)

  pub unbound_only : BindsOnly Takes (unbound W n)
  unbound_only var name is = let none = binding-unbound W n var in absurd cc

  single_named : (var : ℕ) (name : W) → named_row value (single n var name) ≡ single n var (value name)
  single_named var name = map-set (option_map value) (unbound W n) var (Some name) ∙ ap (λ row. slice_set row var (Some (value name))) (unbound_named n)

  single_only : (var : ℕ) (name : W) → Takes var name → BindsOnly Takes (single n var name)
  single_only var name takes k other is = elim (cases_eq k var) as (λ _. Takes k other) [
    | inl same ↦ elim (cases_lt var n) as (λ _. Takes k other) [
      | inl low ↦
          let bound : binding (single n var name) var ≡ Some other = subst (λ k. binding (single n var name) k ≡ Some other) same is in
          let first : Some name ≡ Some other = sym (binding-single_same n var name low) ∙ bound in
          let known : name ≡ other = cc in
          subst (λ k. Takes k other) (sym same) (subst (Takes var) known takes)
      | inr past ↦
          let none = binding_past n (single n var name) var (width-single n var name) past in
          let bound = subst (λ k. binding (single n var name) k ≡ Some other) same is in
          absurd cc
    ]
    | inr apart ↦ let none = binding-single_other n var k name apart in absurd cc
  ]

  if_unbound : (b : Bool) → (if b then Some (unbound V n) else None) ≡ option_map (named_row value) (if b then Some (unbound W n) else None)
  if_unbound true = ap (λ row. Some row) (sym (unbound_named n))
  if_unbound false = refl

  place_named : (place : Place) (name : W) (x : V) → x ≡ value name → place_row interpretation n place x ≡ option_map (named_row value) (place_row names n place name)
  place_named (places.Var var) name x is = ap (λ row. Some row) (ap (λ x. single n var.0 x) is ∙ sym (single_named var.0 name))
  place_named (places.Term text) name x is =
      ap (λ x. if interpretation.stands_for x text then Some (unbound V n) else None) is
      ∙ ap (λ b. if b then Some (unbound V n) else None) (sym (naming.stands_for name text))
      ∙ if_unbound (names.stands_for name text)

  -- where there is a row, it binds only such names
  abbrev Only : Option (Row W) → Type 0
  Only some = (row : Row W) → some ≡ Some row → BindsOnly Takes row

  place_only : (place : Place) (name : W) → ((var : ℕ) → IsVar place var → Takes var name) → Only (place_row names n place name)
  place_only (places.Var var) name takes row is = let same : single n var.0 name ≡ row = cc in subst (BindsOnly Takes) same (single_only var.0 name (takes var.0 refl))
  place_only (places.Term text) name takes row is = none (names.stands_for name text) is where
    none : (b : Bool) → (if b then Some (unbound W n) else None) ≡ Some row → BindsOnly Takes row
    none false is = absurd cc
    none true is = let same : unbound W n ≡ row = cc in subst (BindsOnly Takes) same unbound_only

  both_named : (a b : Option (Row W)) → Only a → Only b → both_rows interpretation.same (option_map (named_row value) a) (option_map (named_row value) b) ≡ option_map (named_row value) (both_rows names.same a b)
  both_named (Some r) (Some s) only only' = merged_named value names.same interpretation.same tells tells' Takes one r s (only r refl) (only' s refl)
  both_named (Some r) None only only' = refl
  both_named None b only only' = refl

  both_only : (a b : Option (Row W)) → Only a → Only b → Only (both_rows names.same a b)
  both_only (Some r) (Some s) only only' row is = merged_only names.same Takes r s row (only r refl) (only' s refl) is
  both_only (Some r) None only only' row is = absurd cc
  both_only None b only only' row is = absurd cc

  -- the names that a triple gives the variables of a triple pattern are such names
  abbrev pub GivesOnly : TriplePat → Y → Type 0
  GivesOnly pattern y = (var : ℕ) (name : W) → TakesValue names pattern y var name → Takes var name

  module _ (pattern : TriplePat) (y : Y) (gives : GivesOnly pattern y) where
    abbrev subject : Option (Row W)
    subject = place_row names n pattern.subject (names.subject y)

    abbrev predicate : Option (Row W)
    predicate = place_row names n pattern.predicate (names.predicate y)

    abbrev object : Option (Row W)
    object = place_row names n pattern.object (names.object y)

    subject_only : Only subject
    subject_only = place_only pattern.subject (names.subject y) (λ var is. gives var (names.subject y) (inl (is, refl)))

    predicate_only : Only predicate
    predicate_only = place_only pattern.predicate (names.predicate y) (λ var is. gives var (names.predicate y) (inr (inl (is, refl))))

    object_only : Only object
    object_only = place_only pattern.object (names.object y) (λ var is. gives var (names.object y) (inr (inr (is, refl))))

    match_named : match_of interpretation n pattern (triple y) ≡ option_map (named_row value) (match_of names n pattern y)
    match_named =
        let rows = interpretation.same in
        let s' = place_row interpretation n pattern.subject (interpretation.subject (triple y)) in
        let p' = place_row interpretation n pattern.predicate (interpretation.predicate (triple y)) in
        let o' = place_row interpretation n pattern.object (interpretation.object (triple y)) in
        ap (λ s. both_rows rows (both_rows rows s p') o') (place_named pattern.subject (names.subject y) (interpretation.subject (triple y)) (naming.subject y))
        ∙ ap (λ p. both_rows rows (both_rows rows (option_map (named_row value) subject) p) o') (place_named pattern.predicate (names.predicate y) (interpretation.predicate (triple y)) (naming.predicate y))
        ∙ ap (λ o. both_rows rows (both_rows rows (option_map (named_row value) subject) (option_map (named_row value) predicate)) o) (place_named pattern.object (names.object y) (interpretation.object (triple y)) (naming.object y))
        ∙ ap (λ both. both_rows rows both (option_map (named_row value) object)) (both_named subject predicate subject_only predicate_only)
        ∙ both_named (both_rows names.same subject predicate) object (both_only subject predicate subject_only predicate_only) object_only

    match_only : Only (match_of names n pattern y)
    match_only = both_only (both_rows names.same subject predicate) object (both_only subject predicate subject_only predicate_only) object_only

  -- ---- and a list of triples

  module _ (family : Family Y) (pattern : TriplePat) (gives : (y : Y) → Contains (family pattern) y → GivesOnly pattern y) where
    matches_only : (s : Row W) → Contains (matches_of names n pattern (family pattern)) s → BindsOnly Takes s
    matches_only s at =
        let from = source-flat_map (λ y. option_to_list (match_of names n pattern y)) (family pattern) s
        (subst (λ rows. Contains rows s) (filter_map_as_flat_map (match_of names n pattern) (family pattern)) at) in
        match_only pattern from.0 (gives from.0 from.1) s (option-Contains (match_of names n pattern from.0) s from.2)

    pub continued_named : (row : Row W) → BindsOnly Takes row → continued interpretation n (named_family triple family) pattern (named_row value row) ≡ map (named_row value) (continued names n family pattern row)
    continued_named row only =
        ap (filter_map (merged interpretation.same (named_row value row)))
        (filter_map_named triple (named_row value) (match_of names n pattern) (match_of interpretation n pattern) (family pattern) (λ y at. match_named pattern y (gives y at)))
        ∙ filter_map_named (named_row value) (named_row value) (merged names.same row) (merged interpretation.same (named_row value row)) (matches_of names n pattern (family pattern))
        (λ s at. merged_named value names.same interpretation.same tells tells' Takes one row s only (matches_only s at))

    pub continued_only : (row q : Row W) → BindsOnly Takes row → Contains (continued names n family pattern row) q → BindsOnly Takes q
    continued_only row q only at =
        let from = merges-Contains names.same row (matches_of names n pattern (family pattern)) q at in
        merged_only names.same Takes row from.0 q only (matches_only from.0 from.1) from.2
