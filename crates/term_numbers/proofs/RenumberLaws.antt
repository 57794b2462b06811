-- Laws of writing numbers in place of places.
use Rattle.std.proofs.Common.{◌≡◌, ◌≢◌, ℕ, zero, suc, ◌+◌, ◌<◌, inl, inr, List, [], ◌∷◌, ◌++◌, Some, length, get_or, take, drop, map, refl, sym, ap, ◌∙◌, subst, arith, add-one}
use Rattle.std.proofs.lemmas.Bool.Decides.{eqb_tells}
use Rattle.std.proofs.Math.ListN.{set}
use Rattle.std.specs.List.{slice_get}
use Rattle.term_numbers.specs.declared.entry.Entry.{Entry}
use Rattle.term_numbers.specs.held.Entries.{AreNumbered, PlacesDiffer}

mapped_suc : {X : Type 0} (f : X → X) (xs : List X) (i : ℕ) (d : X) → i < length xs
    → set (map f (take i xs) ++ drop i xs) i (f (get_or (map f (take i xs) ++ drop i xs) i d)) ≡ map f (take (suc i) xs) ++ drop (suc i) xs
mapped_suc f [] i d low = absurd (omega arith)
mapped_suc f (x ∷ xs) zero d low = refl
mapped_suc f (x ∷ xs) (suc i) d low = ap (λ l. f x ∷ l) (mapped_suc f xs i d (omega arith))

-- one item more of a list is mapped in place
pub mapped_step : {X : Type 0} (f : X → X) (xs : List X) (i : ℕ) (d : X) (l : List X) → i < length xs → l ≡ map f (take i xs) ++ drop i xs
    → set l i (f (get_or l i d)) ≡ map f (take (i + 1) xs) ++ drop (i + 1) xs
mapped_step f xs i d l low is = rw add-one (subst (λ m. set m i (f (get_or m i d)) ≡ map f (take (suc i) xs) ++ drop (suc i) xs) (sym is) (mapped_suc f xs i d low))

-- what is at a place after a write at another
slice_get-set_other : {X : Type 0} (xs : List X) (a k : ℕ) (v : X) → a ≢ k → slice_get (set xs a v) k ≡ slice_get xs k
slice_get-set_other [] a k v apart = refl
slice_get-set_other (x ∷ xs) zero zero v apart = absurd (apart refl)
slice_get-set_other (x ∷ xs) zero (suc k) v apart = refl
slice_get-set_other (x ∷ xs) (suc a) zero v apart = refl
slice_get-set_other (x ∷ xs) (suc a) (suc k) v apart = slice_get-set_other xs a k v (λ e. apart (ap suc e))

slice_get-set_same : {X : Type 0} (xs : List X) (a : ℕ) (v : X) → a < length xs → slice_get (set xs a v) a ≡ Some v
slice_get-set_same [] a v low = absurd (omega arith)
slice_get-set_same (x ∷ xs) zero v low = refl
slice_get-set_same (x ∷ xs) (suc a) v low = slice_get-set_same xs a v (omega arith)

-- what is at a place of a list does not depend on what is given for other places
pub default_free : {X : Type 0} (xs : List X) (i : ℕ) (c d : X) → i < length xs → get_or xs i c ≡ get_or xs i d
default_free [] i c d low = absurd (omega arith)
default_free (x ∷ xs) zero c d low = refl
default_free (x ∷ xs) (suc i) c d low = default_free xs i c d (omega arith)

-- one entry more has its number
pub AreNumbered-step : (es : List Entry) (count first n : ℕ) (e : Entry) (old mid : List ℕ) → count < length es → e ≡ get_or es count e → e.place < length mid → n ≡ first + count → PlacesDiffer es
    → AreNumbered es count first old mid → AreNumbered es (count + 1) first old (set mid e.place n)
AreNumbered-step es count first n e old mid low at inside is differ h =
    let here : (d : Entry) → get_or es count d ≡ e = λ d. default_free es count d e low ∙ sym at in
    let new : List ℕ = set mid e.place n in
    record {
      numbered = λ k d k_low. elim (eqb_tells k count) as (λ _. slice_get new (get_or es k d).place ≡ Some (first + k)) [
        | inl last ↦
            let at_last : get_or es k d ≡ e = ap (λ m. get_or es m d) last.1 ∙ here d in
            ap (λ (x : Entry). slice_get new x.place) at_last ∙ slice_get-set_same mid e.place n inside ∙ ap Some (omega (arith, last.1))
        | inr before ↦
            let earlier : k < count = omega (arith, before.1) in
            let apart : e.place ≢ (get_or es k d).place = λ same. differ k count d earlier low (sym same ∙ sym (ap (λ (x : Entry). x.place) (here d))) in
            slice_get-set_other mid e.place (get_or es k d).place n apart ∙ h.numbered k d earlier
      ];
      others = λ place none.
          let apart : e.place ≢ place = λ same. none count e (omega arith) (ap (λ (x : Entry). x.place) (here e) ∙ same) in
          slice_get-set_other mid e.place place n apart ∙ h.others place (λ k d k_low. none k d (omega arith));
    }
