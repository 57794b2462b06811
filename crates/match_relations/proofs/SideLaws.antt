-- The sides of a relation are the variable places of its triple pattern.
use Rattle.std.proofs.Common.{◌≡◌, ◌↔◌, ◌⊎◌, ℕ, inl, inr, List, refl}
use Rattle.alg_model.specs.declared.pattern.Place.{Place}
use Rattle.alg_model.specs.declared.pattern.Place.TheVariants as places
use Rattle.alg_model.specs.declared.pattern.TriplePat.{TriplePat}
use Rattle.alg_model.specs.Pattern.{IsVar}
use Rattle.term_numbers.specs.Numbering.{Terms}
use Rattle.tree_relations.specs.declared.prepared.Entry.{Entry}
use Rattle.tree_relations.specs.declared.prepared.PlaceKind.{PlaceKind}
use Rattle.tree_relations.specs.declared.prepared.PlaceKind.TheVariants.{Subject, Object, Predicate}
use Rattle.tree_relations.specs.Fits.{IsSide, place_at, IsEntryOf}
use Rattle.well_designed.specs.Refusals.{HasThreeVariables}
use Rattle.match_relations.specs.steps.Parts.{part_of, HasVar, HasNumber, first_side, second_side, subject_part, predicate_part, object_part}
use Rattle.match_relations.specs.declared.part.Part.{Part}
use Rattle.match_relations.specs.declared.part.Part.TheVariants.{Variable, Number}

-- what holds of neither, of the first alone, and of the second alone
neither : {P A B : Type 0} → (P → ⊥) → (A → ⊥) → (B → ⊥) → P ↔ (A ⊎ B)
neither p a b = (λ h. absurd (p h), λ h. absurd (elim h as (λ _. ⊥) [ inl x ↦ a x | inr y ↦ b y ]))

the_first : {P A B : Type 0} → P ↔ A → (B → ⊥) → P ↔ (A ⊎ B)
the_first {P} {A} {B} same b = (λ h. inl (same.0 h), λ h. same.1 (elim h as (λ _. A) [ inl x ↦ x | inr y ↦ absurd (b y) ]))

the_second : {P A B : Type 0} → P ↔ B → (A → ⊥) → P ↔ (A ⊎ B)
the_second {P} {A} {B} same a = (λ h. inr (same.0 h), λ h. same.1 (elim h as (λ _. B) [ inl x ↦ absurd (a x) | inr y ↦ y ]))

-- a variable that stands at a side of its kind, and one of another kind
here : (kind : PlaceKind) (v var : ℕ) → (v ≡ var) ↔ ((kind ≡ kind) × (v ≡ var))
here kind v var = (λ h. (refl, h), λ h. h.1)

other : {A : Type 0} (kind of : PlaceKind) → (kind ≡ of → ⊥) → (kind ≡ of) × A → ⊥
other kind of apart h = apart h.0

-- a part of a kind
abbrev pub part_at : PlaceKind → Part → Part → Part → Part
part_at Subject s p o = s
part_at Predicate s p o = p
part_at Object s p o = o

pub sides_are : (s p o : Part) (kind : PlaceKind) (var : ℕ) → HasNumber s p o → HasVar (part_at kind s p o) var ↔ (IsSide (first_side s p o) kind var ⊎ IsSide (second_side s p o) kind var)
sides_are (Variable s) (Variable p) (Variable o) kind var some = absurd some
sides_are (Variable s) (Variable p) (Number o) Subject var some = the_second (here Subject s.0 var) (other Predicate Subject (λ e. cc))
sides_are (Variable s) (Variable p) (Number o) Predicate var some = the_first (here Predicate p.0 var) (other Subject Predicate (λ e. cc))
sides_are (Variable s) (Variable p) (Number o) Object var some = neither (λ h. h) (other Predicate Object (λ e. cc)) (other Subject Object (λ e. cc))
sides_are (Variable s) (Number p) (Variable o) Subject var some = the_first (here Subject s.0 var) (other Object Subject (λ e. cc))
sides_are (Variable s) (Number p) (Variable o) Predicate var some = neither (λ h. h) (other Subject Predicate (λ e. cc)) (other Object Predicate (λ e. cc))
sides_are (Variable s) (Number p) (Variable o) Object var some = the_second (here Object o.0 var) (other Subject Object (λ e. cc))
sides_are (Variable s) (Number p) (Number o) Subject var some = the_first (here Subject s.0 var) (λ h. h)
sides_are (Variable s) (Number p) (Number o) Predicate var some = neither (λ h. h) (other Subject Predicate (λ e. cc)) (λ h. h)
sides_are (Variable s) (Number p) (Number o) Object var some = neither (λ h. h) (other Subject Object (λ e. cc)) (λ h. h)
sides_are (Number s) (Variable p) (Variable o) Subject var some = neither (λ h. h) (other Predicate Subject (λ e. cc)) (other Object Subject (λ e. cc))
sides_are (Number s) (Variable p) (Variable o) Predicate var some = the_first (here Predicate p.0 var) (other Object Predicate (λ e. cc))
sides_are (Number s) (Variable p) (Variable o) Object var some = the_second (here Object o.0 var) (other Predicate Object (λ e. cc))
sides_are (Number s) (Variable p) (Number o) Subject var some = neither (λ h. h) (other Predicate Subject (λ e. cc)) (λ h. h)
sides_are (Number s) (Variable p) (Number o) Predicate var some = the_first (here Predicate p.0 var) (λ h. h)
sides_are (Number s) (Variable p) (Number o) Object var some = neither (λ h. h) (other Predicate Object (λ e. cc)) (λ h. h)
sides_are (Number s) (Number p) (Variable o) Subject var some = neither (λ h. h) (other Object Subject (λ e. cc)) (λ h. h)
sides_are (Number s) (Number p) (Variable o) Predicate var some = neither (λ h. h) (other Object Predicate (λ e. cc)) (λ h. h)
sides_are (Number s) (Number p) (Variable o) Object var some = the_first (here Object o.0 var) (λ h. h)
sides_are (Number s) (Number p) (Number o) Subject var some = neither (λ h. h) (λ h. h) (λ h. h)
sides_are (Number s) (Number p) (Number o) Predicate var some = neither (λ h. h) (λ h. h) (λ h. h)
sides_are (Number s) (Number p) (Number o) Object var some = neither (λ h. h) (λ h. h) (λ h. h)

-- a place has the variable that its part has
pub has_var : (texts : List (List ℕ)) (place : Place) (var : ℕ) → IsVar place var ↔ HasVar (part_of texts place) var
has_var texts (places.Var v) var = (λ h. h, λ h. h)
has_var texts (places.Term text) var = (λ h. h, λ h. h)

some_number : (ss ps os : List (List ℕ)) (s p o : Place) (k : ℕ) → ¬ HasThreeVariables (record { subject = s; predicate = p; object = o; number = k }) → HasNumber (part_of ss s) (part_of ps p) (part_of os o)
some_number ss ps os (places.Var s) (places.Var p) (places.Var o) k none = absurd (none (record { subject = tt; predicate = tt; object = tt }))
some_number ss ps os (places.Var s) (places.Var p) (places.Term o) k none = tt
some_number ss ps os (places.Var s) (places.Term p) o k none = tt
some_number ss ps os (places.Term s) p o k none = tt

module _ (terms : Terms) (pattern : TriplePat) (none : ¬ HasThreeVariables pattern) where
  pub has_number : HasNumber (subject_part terms pattern) (predicate_part terms pattern) (object_part terms pattern)
  has_number = some_number _ _ _ pattern.subject pattern.predicate pattern.object pattern.number none

  part_is : (kind : PlaceKind) (var : ℕ) → IsVar (place_at kind pattern) var ↔ HasVar (part_at kind (subject_part terms pattern) (predicate_part terms pattern) (object_part terms pattern)) var
  part_is Subject var = has_var _ pattern.subject var
  part_is Predicate var = has_var _ pattern.predicate var
  part_is Object var = has_var _ pattern.object var

  -- so the entry with these sides is one of the triple pattern
  pub is_entry_of : (e : Entry) → e.first ≡ first_side (subject_part terms pattern) (predicate_part terms pattern) (object_part terms pattern) →
      e.second ≡ second_side (subject_part terms pattern) (predicate_part terms pattern) (object_part terms pattern) → IsEntryOf pattern e
  is_entry_of e first second kind var =
      let part = part_is kind var in
      let sides = rw (← first, ← second) at (sides_are (subject_part terms pattern) (predicate_part terms pattern) (object_part terms pattern) kind var has_number) in
      (λ h. sides.0 (part.0 h), λ h. part.1 (sides.1 h))
