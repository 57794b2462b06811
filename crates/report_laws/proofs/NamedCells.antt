-- Rows of names, whose values are told apart: they agree, merge and extend each other as the rows that they name.
use Rattle.std.proofs.Common.{◌≡◌, ◌↔◌, ℕ, zero, suc, Bool, true, false, ◌&&◌, if◌then◌else◌, [], ◌∷◌, Option, Some, None, IsTrue, IsSome, refl, sym, ◌∙◌, ap, subst}
use Rattle.std.specs.Option.{option_map}
use Rattle.std.proofs.lemmas.Option.{cond_some}
use Rattle.alg_model.specs.Row.{Row, binding, cells_agree, are_compatible, merge_cells, merge, merged, Extends, BindsMore}
use Rattle.naming_laws.specs.Naming.{named_row}
use Rattle.naming_laws.proofs.NamedRows.{binding_named, named_some, named_none, some_same}

-- each name that the row binds is one that its variable may have
abbrev pub BindsOnly : {W : Type 0} → (ℕ → W → Type 0) → Row W → Type 0
BindsOnly {W} Takes row = (var : ℕ) (name : W) → binding row var ≡ Some name → Takes var name

-- a variable has no two names of one value
abbrev pub TellsNames : {W V : Type 0} → (W → V) → (ℕ → W → Type 0) → Type 0
TellsNames {W} value Takes = (var : ℕ) (v w : W) → Takes var v → Takes var w → value v ≡ value w → v ≡ w

pub one_truth : (b c : Bool) → (IsTrue b → IsTrue c) → (IsTrue c → IsTrue b) → b ≡ c
one_truth true true to from = refl
one_truth true false to from = let is = to refl in absurd cc
one_truth false true to from = let is = from refl in absurd cc
one_truth false false to from = refl

-- what a row without its first cell binds
later_only : {W : Type 0} (Takes : ℕ → W → Type 0) (cell : Option W) (row : Row W) → BindsOnly Takes (cell ∷ row) → BindsOnly (λ var. Takes (suc var)) row
later_only Takes cell row only var name is = only (suc var) name is

-- ---- agreeing and merging

module _ {W V : Type 0} (value : W → V) (same : W → W → Bool) (same' : V → V → Bool) (tells : (v w : W) → IsTrue (same v w) ↔ (v ≡ w)) (tells' : (v w : V) → IsTrue (same' v w) ↔ (v ≡ w)) where
  names_agree : (v w : W) → (value v ≡ value w → v ≡ w) → same' (value v) (value w) ≡ same v w
  names_agree v w one = one_truth (same' (value v) (value w)) (same v w) (λ t. (tells v w).1 (one ((tells' (value v) (value w)).0 t))) (λ t. (tells' (value v) (value w)).1 (ap value ((tells v w).0 t)))

  cells_named : (c d : Option W) → ((v w : W) → c ≡ Some v → d ≡ Some w → value v ≡ value w → v ≡ w) → cells_agree same' (option_map value c) (option_map value d) ≡ cells_agree same c d
  cells_named (Some v) (Some w) one = names_agree v w (one v w refl refl)
  cells_named (Some v) None one = refl
  cells_named None d one = refl

  compatible_named : (Takes : ℕ → W → Type 0) → TellsNames value Takes → (r s : Row W) → BindsOnly Takes r → BindsOnly Takes s → are_compatible same' (named_row value r) (named_row value s) ≡ are_compatible same r s
  compatible_named Takes one [] s only only' = refl
  compatible_named Takes one (c ∷ r) [] only only' = refl
  compatible_named Takes one (c ∷ r) (d ∷ s) only only' =
      ap (λ b. b && are_compatible same' (named_row value r) (named_row value s)) (cells_named c d (λ v w is is'. one 0 v w (only 0 v is) (only' 0 w is')))
      ∙ ap (λ b. cells_agree same c d && b) (compatible_named (λ var. Takes (suc var)) (λ var. one (suc var)) r s (later_only Takes c r only) (later_only Takes d s only'))

  merge_cells_named : (c d : Option W) → merge_cells (option_map value c) (option_map value d) ≡ option_map value (merge_cells c d)
  merge_cells_named (Some v) d = refl
  merge_cells_named None d = refl

  merge_named : (r s : Row W) → merge (named_row value r) (named_row value s) ≡ named_row value (merge r s)
  merge_named [] s = refl
  merge_named (c ∷ r) [] = refl
  merge_named (c ∷ r) (d ∷ s) =
      ap (λ cell. cell ∷ merge (named_row value r) (named_row value s)) (merge_cells_named c d)
      ∙ ap (λ row. option_map value (merge_cells c d) ∷ row) (merge_named r s)

  if_named : (b : Bool) (row : Row W) → (if b then Some (named_row value row) else None) ≡ option_map (named_row value) (if b then Some row else None)
  if_named true row = refl
  if_named false row = refl

  pub merged_named : (Takes : ℕ → W → Type 0) → TellsNames value Takes → (r s : Row W) → BindsOnly Takes r → BindsOnly Takes s → merged same' (named_row value r) (named_row value s) ≡ option_map (named_row value) (merged same r s)
  merged_named Takes one r s only only' =
      ap (λ b. if b then Some (merge (named_row value r) (named_row value s)) else None) (compatible_named Takes one r s only only')
      ∙ ap (λ row. if are_compatible same r s then Some row else None) (merge_named r s)
      ∙ if_named (are_compatible same r s) (merge r s)

module _ {W : Type 0} where
  merge_only : (Takes : ℕ → W → Type 0) (r s : Row W) → BindsOnly Takes r → BindsOnly Takes s → BindsOnly Takes (merge r s)
  merge_only Takes [] s only only' var name is = absurd cc
  merge_only Takes (c ∷ r) [] only only' var name is = absurd cc
  merge_only Takes (Some v ∷ r) (d ∷ s) only only' zero name is = only 0 name is
  merge_only Takes (None ∷ r) (d ∷ s) only only' zero name is = only' 0 name is
  merge_only Takes (c ∷ r) (d ∷ s) only only' (suc var) name is =
      merge_only (λ var. Takes (suc var)) r s (later_only Takes c r only) (later_only Takes d s only') var name is

  pub merged_only : (same : W → W → Bool) (Takes : ℕ → W → Type 0) (r s q : Row W) → BindsOnly Takes r → BindsOnly Takes s → merged same r s ≡ Some q → BindsOnly Takes q
  merged_only same Takes r s q only only' is = subst (BindsOnly Takes) (cond_some (are_compatible same r s) (merge r s) q is).1 (merge_only Takes r s only only')

-- ---- extending

module _ {W V : Type 0} (value : W → V) (Takes : ℕ → W → Type 0) (one : TellsNames value Takes) where
  pub extends_named : (row other : Row W) → Extends other row → Extends (named_row value other) (named_row value row)
  extends_named row other extends var x bound =
      let found = named_some value (binding row var) x (sym (binding_named value row var) ∙ bound) in
      binding_named value other var ∙ ap (option_map value) (extends var found.0 found.1) ∙ ap (λ x. Some x) found.2

  pub named_extends : (row other : Row W) → BindsOnly Takes row → BindsOnly Takes other → Extends (named_row value other) (named_row value row) → Extends other row
  named_extends row other only only' extends var v bound =
      let there : binding (named_row value other) var ≡ Some (value v) = extends var (value v) (binding_named value row var ∙ ap (option_map value) bound) in
      let found = named_some value (binding other var) (value v) (sym (binding_named value other var) ∙ there) in
      found.1 ∙ ap (λ v. Some v) (one var found.0 v (only' var found.0 found.1) (only var v bound) found.2)

  pub more_named : (row other : Row W) → BindsMore other row → BindsMore (named_row value other) (named_row value row)
  more_named row other more = (
    more.0,
    subst IsSome (sym (binding_named value other more.0)) ((some_same value (binding other more.0)).1 more.1),
    binding_named value row more.0 ∙ ap (option_map value) more.2,
  )

  pub named_more : (row other : Row W) → BindsMore (named_row value other) (named_row value row) → BindsMore other row
  named_more row other more = (
    more.0,
    (some_same value (binding other more.0)).0 (subst IsSome (binding_named value other more.0) more.1),
    named_none value (binding row more.0) (sym (binding_named value row more.0) ∙ more.2),
  )

-- rows that name one row are one
pub named_one : {W V : Type 0} (value : W → V) (Takes : ℕ → W → Type 0) → TellsNames value Takes → (r s : Row W) → BindsOnly Takes r → BindsOnly Takes s → named_row value r ≡ named_row value s → r ≡ s
named_one value Takes one [] [] only only' is = refl
named_one value Takes one [] (d ∷ s) only only' is = absurd cc
named_one value Takes one (c ∷ r) [] only only' is = absurd cc
named_one {W} value Takes one (c ∷ r) (d ∷ s) only only' is =
    let first : option_map value c ≡ option_map value d = cc in
    let rest : named_row value r ≡ named_row value s = cc in
    ap (λ cell. cell ∷ r) (cell c d first (only 0) (only' 0))
    ∙ ap (λ row. d ∷ row) (named_one value (λ var. Takes (suc var)) (λ var. one (suc var)) r s (later_only Takes c r only) (later_only Takes d s only') rest) where
      cell : (c d : Option W) → option_map value c ≡ option_map value d → ((v : W) → c ≡ Some v → Takes 0 v) → ((v : W) → d ≡ Some v → Takes 0 v) → c ≡ d
      cell (Some v) (Some w) same takes takes' = let is : value v ≡ value w = cc in ap (λ v. Some v) (one 0 v w (takes v refl) (takes' w refl) is)
      cell (Some v) None same takes takes' = absurd cc
      cell None (Some w) same takes takes' = absurd cc
      cell None None same takes takes' = refl
