-- Laws of the roles of nodes, as triples are gone through.
use Rattle.std.proofs.Common.{◌≡◌, ℕ, ◌+◌, ◌<◌, inl, inr, Bool, true, false, ◌||◌, List, [], ◌∷◌, ◌++◌, Some, length, get_or, take, refl, sym, ap, ◌∙◌, arith}
use Rattle.std.proofs.lemmas.Bool.Decides.{eqb_tells}
use Rattle.std.proofs.lemmas.List.{take_more, get_or-set_same, get_or-set_other}
use Rattle.std.proofs.lemmas.List.Folds.{list_any-append}
use Rattle.std.proofs.lemmas.Option.{slice_get-get_or, get_or_from_slice_get}
use Rattle.std.proofs.Math.Bool.{or-true}
use Rattle.std.proofs.Math.Dec.{eqb}
use Rattle.std.proofs.Math.ListN.{set, length-set}
use Rattle.std.specs.List.{slice_get, list_any}
use Rattle.term_numbers.specs.Order.{Numbered}
use Rattle.term_numbers.specs.declared.role.Role.{Role}
use Rattle.term_numbers.specs.held.Seen.{role_of, AreRoles}

or-false : (b : Bool) → (b || false) ≡ b
or-false true = refl
or-false false = refl

-- what a place has after a write at another or at this one
module _ (roles : List Role) (a k : ℕ) (r v : Role) (inside : a < length roles) (low : k < length roles) (is : r ≡ get_or roles a r) (has : slice_get roles k ≡ Some v) where
  abbrev after_write : Role → Type 0
  after_write w = slice_get (set roles a w) k ≡ slice_get (set roles a w) k

  at_k : get_or roles k r ≡ v
  at_k = get_or_from_slice_get roles k v r has

  read : (w : Role) → slice_get (set roles a w) k ≡ Some (get_or (set roles a w) k r)
  read w = slice_get-get_or (set roles a w) k r (omega (arith, length-set roles a w))

  pub subject_marked : slice_get (set roles a (record { subject = true; object = r.object })) k ≡ Some (record { subject = v.subject || (eqb a k || false); object = v.object })
  subject_marked =
      let w : Role = record { subject = true; object = r.object } in
      elim (eqb_tells a k) as (λ _. slice_get (set roles a w) k ≡ Some (record { subject = v.subject || (eqb a k || false); object = v.object })) [
        | inl yes' ↦
            let same : r ≡ v = is ∙ ap (λ n. get_or roles n r) yes'.1 ∙ at_k in
            let value : w ≡ record { subject = v.subject || (eqb a k || false); object = v.object } =
            λ i. record { subject = sym (ap (λ b. v.subject || (b || false)) yes'.0 ∙ or-true v.subject) i; object = ap (λ (u : Role). u.object) same i } in
            read w ∙ ap Some (ap (λ n. get_or (set roles a w) n r) (sym yes'.1) ∙ get_or-set_same roles a w r inside ∙ value)
        | inr no' ↦
            let value : v ≡ record { subject = v.subject || (eqb a k || false); object = v.object } =
            λ i. record { subject = sym (ap (λ b. v.subject || (b || false)) no'.0 ∙ or-false v.subject) i; object = v.object } in
            read w ∙ ap Some (get_or-set_other roles a k w r (λ e. no'.1 (sym e)) ∙ at_k ∙ value)
      ]

  pub object_marked : slice_get (set roles a (record { subject = r.subject; object = true })) k ≡ Some (record { subject = v.subject; object = v.object || (eqb a k || false) })
  object_marked =
      let w : Role = record { subject = r.subject; object = true } in
      elim (eqb_tells a k) as (λ _. slice_get (set roles a w) k ≡ Some (record { subject = v.subject; object = v.object || (eqb a k || false) })) [
        | inl yes' ↦
            let same : r ≡ v = is ∙ ap (λ n. get_or roles n r) yes'.1 ∙ at_k in
            let value : w ≡ record { subject = v.subject; object = v.object || (eqb a k || false) } =
            λ i. record { subject = ap (λ (u : Role). u.subject) same i; object = sym (ap (λ b. v.object || (b || false)) yes'.0 ∙ or-true v.object) i } in
            read w ∙ ap Some (ap (λ n. get_or (set roles a w) n r) (sym yes'.1) ∙ get_or-set_same roles a w r inside ∙ value)
        | inr no' ↦
            let value : v ≡ record { subject = v.subject; object = v.object || (eqb a k || false) } =
            λ i. record { subject = v.subject; object = sym (ap (λ b. v.object || (b || false)) no'.0 ∙ or-false v.object) i } in
            read w ∙ ap Some (get_or-set_other roles a k w r (λ e. no'.1 (sym e)) ∙ at_k ∙ value)
      ]

-- one triple more gives its subject and its object their roles
pub AreRoles-step : (ts : List Numbered) (n i : ℕ) (t : Numbered) (roles : List Role) (r q : Role) → i < length ts → t ≡ get_or ts i t → (t.0 < n) × (t.2 < n)
    → r ≡ get_or roles t.0 r → q ≡ get_or (set roles t.0 (record { subject = true; object = r.object })) t.2 q → AreRoles (take i ts) n roles
    → AreRoles (take (i + 1) ts) n (set (set roles t.0 (record { subject = true; object = r.object })) t.2 (record { subject = q.subject; object = true }))
AreRoles-step ts n i t roles r q low at below at_subject at_object h =
    let marked : List Role = set roles t.0 (record { subject = true; object = r.object }) in
    let both : List Role = set marked t.2 (record { subject = q.subject; object = true }) in
    let count : length roles ≡ n = h.count in
    let more : take (i + 1) ts ≡ take i ts ++ t ∷ [] = take_more ts i t low ∙ ap (λ u. take i ts ++ u ∷ []) (sym at) in
    let s : ℕ = t.0 in
    let o : ℕ = t.2 in
    let s_low : s < n = below.0 in
    let o_low : o < n = below.1 in
    let wide : length marked ≡ length roles = length-set roles s (record { subject = true; object = r.object }) in
    record {
      count = length-set marked o (record { subject = q.subject; object = true }) ∙ wide ∙ count;
      each = λ k k_low.
          let v : Role = role_of (take i ts) k in
          let u : Role = record { subject = v.subject || (eqb s k || false); object = v.object } in
          let first : slice_get marked k ≡ Some u = subject_marked roles s k r v (omega arith) (omega arith) at_subject (h.each k k_low) in
          let second : slice_get both k ≡ Some (record { subject = u.subject; object = u.object || (eqb o k || false) }) = object_marked marked o k q u (omega arith) (omega arith) at_object first in
          let role : record { subject = u.subject; object = u.object || (eqb o k || false) } ≡ role_of (take (i + 1) ts) k = λ j. record {
            subject = sym (ap (list_any (λ (x : Numbered). eqb x.0 k)) more ∙ list_any-append (λ (x : Numbered). eqb x.0 k) (take i ts) (t ∷ [])) j;
            object = sym (ap (list_any (λ (x : Numbered). eqb x.2 k)) more ∙ list_any-append (λ (x : Numbered). eqb x.2 k) (take i ts) (t ∷ [])) j;
          } in
          second ∙ ap Some role;
    }
