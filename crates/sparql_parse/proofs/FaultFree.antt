-- Tokens of which none has a fault: one token more, and a front.
use Rattle.std.proofs.Common.{◌≡◌, ◌⊎◌, inl, inr, List, [], ◌∷◌, ◌++◌, length, None, refl, sym, ap, ◌∙◌, arith, length-append}
use Rattle.query_grammar.specs.Roles.{Labelled}
use Rattle.sparql_parse.specs.computed.Faults.{fault_of}
use Rattle.sparql_parse.proofs.ComputedDenotes.{HasNoFaults}

-- a place in a list with one item more: that item, or a place before it
abbrev IsLast : {A : Type 0} → List A → A → List A → A → List A → Type 0
IsLast xs y front x back = (back ≡ []) × (front ≡ xs) × (x ≡ y)

abbrev IsBefore : {A : Type 0} → List A → List A → A → Type 0
IsBefore {A = A} xs front x = (more : List A) × (xs ≡ front ++ x ∷ more)

last-or-before : {A : Type 0} (xs : List A) (y : A) (front : List A) (x : A) (back : List A) → xs ++ y ∷ [] ≡ front ++ x ∷ back →
    IsLast xs y front x back ⊎ IsBefore xs front x
last-or-before [] y [] x back e = inl (let b : back ≡ [] = cc in b, refl, let s : x ≡ y = cc in s)
last-or-before (z ∷ zs) y [] x back e = inr (zs, let s : z ≡ x = cc in ap (λ w. w ∷ zs) s)
last-or-before [] y (f ∷ front) x back e =
    let rest : [] ≡ front ++ x ∷ back = cc in
    absurd (omega (arith, ap length rest, length-append front (x ∷ back)))
last-or-before (z ∷ zs) y (f ∷ front) x back e =
    let rest : zs ++ y ∷ [] ≡ front ++ x ∷ back = cc in
    let same : z ≡ f = cc in
    elim (last-or-before zs y front x back rest) [
      | inl last ↦ inl (last.0, ap (λ w. f ∷ w) last.1 ∙ ap (λ w. w ∷ zs) (sym same), last.2)
      | inr before ↦ inr (before.0, ap (λ w. w ∷ zs) same ∙ ap (λ w. f ∷ w) before.1)
    ]

pub none-nothing : HasNoFaults []
none-nothing before after l e = absurd (omega (arith, ap length e, length-append before (l ∷ after)))

pub none-more : (ls : List Labelled) (l : Labelled) → HasNoFaults ls → fault_of ls l ≡ None → HasNoFaults (ls ++ l ∷ [])
none-more ls l none own before after x e =
    elim (last-or-before ls l before x after e) [
      | inl last ↦ ap (λ b. fault_of b x) last.1 ∙ ap (fault_of ls) last.2 ∙ own
      | inr inside ↦ none before inside.0 x inside.1
    ]
