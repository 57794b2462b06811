-- Rows of names, cell by cell.
use Rattle.std.proofs.Common.{◌≡◌, ◌↔◌, ℕ, zero, suc, [], ◌∷◌, Option, Some, None, refl, ◌∙◌, ap, subst}
use Rattle.std.specs.Prelude.{IsSome}
use Rattle.std.specs.Option.{option_map}
use Rattle.alg_model.specs.Row.{Row, binding}
use Rattle.naming_laws.specs.Naming.{named_row}

module _ {W V : Type 0} (value : W → V) where
  pub binding_named : (row : Row W) (var : ℕ) → binding (named_row value row) var ≡ option_map value (binding row var)
  binding_named [] var = refl
  binding_named (cell ∷ row) zero = refl
  binding_named (cell ∷ row) (suc var) = binding_named row var

  -- what names a value is there
  pub named_some : (cell : Option W) (x : V) → option_map value cell ≡ Some x → (name : W) × (cell ≡ Some name) × (value name ≡ x)
  named_some None x is = absurd cc
  named_some (Some name) x is = (name, refl, cc)

  pub named_none : (cell : Option W) → option_map value cell ≡ None → cell ≡ None
  named_none None is = refl
  named_none (Some name) is = absurd cc

  pub some_same : (cell : Option W) → IsSome (option_map value cell) ↔ IsSome cell
  some_same None = (λ some. some, λ some. some)
  some_same (Some name) = (λ some. some, λ some. some)

  -- what holds of the first cell and of the others holds of all
  holds_of_all : (P : ℕ → W → Type 0) (cell : Option W) (rest : Row W) → ((v : W) → cell ≡ Some v → P 0 v) → ((var : ℕ) (v : W) → binding rest var ≡ Some v → P (suc var) v) →
      (var : ℕ) (v : W) → binding (cell ∷ rest) var ≡ Some v → P var v
  holds_of_all P cell rest first later zero v is = first v is
  holds_of_all P cell rest first later (suc var) v is = later var v is

  -- names for the cells of a row, where each value has one of which P holds
  pub names_for : (P : ℕ → W → Type 0) (row : Row V) → ((var : ℕ) (x : V) → binding row var ≡ Some x → (name : W) × P var name × (value name ≡ x)) →
      (name : Row W) × (named_row value name ≡ row) × ((var : ℕ) (v : W) → binding name var ≡ Some v → P var v)
  names_for P [] each = ([], refl, λ var v is. absurd cc)
  names_for P (None ∷ row) each =
      let rest = names_for (λ var. P (suc var)) row (λ var x is. each (suc var) x is) in
      (None ∷ rest.0, ap (λ row. None ∷ row) rest.1, holds_of_all P None rest.0 (λ v is. absurd cc) rest.2)
  names_for P (Some x ∷ row) each =
      let first = each 0 x refl in
      let rest = names_for (λ var. P (suc var)) row (λ var x is. each (suc var) x is) in (
        Some first.0 ∷ rest.0,
        ap (λ x. Some x ∷ named_row value rest.0) first.2 ∙ ap (λ row. Some x ∷ row) rest.1,
        holds_of_all P (Some first.0) rest.0 (λ v is. (let same : first.0 ≡ v = cc in subst (P 0) same first.1)) rest.2,
      )
