-- A text that is written character by character, each as some rule has it.
use Rattle.std.proofs.Common.{◌≡◌, ℕ, Option, Some, None, List, [], ◌∷◌, ◌++◌, refl, ap, ◌∙◌, sym, append_assoc, append-nil}
use Rattle.std.specs.Str.{encode_utf8_all}
use Rattle.std.proofs.lemmas.Option.{some_pair_parts}
use Rattle.std.proofs.lemmas.Str.{encodes-append}
use Rattle.rdf_text.specs.scanning.Text.{uncons}

module _ (spells : List ℕ → List ℕ) (one : ℕ → List ℕ) where
  -- what a text is written as, step by step
  abbrev pub GoesByOne : Type 0
  GoesByOne = (c : ℕ) (cs : List ℕ) → spells (c ∷ cs) ≡ one c ++ spells cs

  -- one character more is written
  pub walk_step : GoesByOne → (out new rest after total : List ℕ) (c : ℕ) → new ≡ out ++ encode_utf8_all (one c) → ◌≡◌ {A = Option (ℕ × List ℕ)} (Some (c, after)) (uncons rest) → out ++ encode_utf8_all (spells rest) ≡ total → new ++ encode_utf8_all (spells after) ≡ total
  walk_step by_one out new [] after total c pushed step before = absurd (cc)
  walk_step by_one out new (x ∷ xs) after total c pushed step before =
      let (first, others) = some_pair_parts c x after xs step in
      let split : spells (x ∷ xs) ≡ one c ++ spells after = by_one x xs ∙ rw (first, others) refl in
      ap (λ ys. ys ++ encode_utf8_all (spells after)) pushed
      ∙ append_assoc out (encode_utf8_all (one c)) (encode_utf8_all (spells after))
      ∙ ap (λ ys. out ++ ys) (sym (ap encode_utf8_all split ∙ encodes-append (one c) (spells after)))
      ∙ before

  -- at the end all is written
  pub walk_end : spells [] ≡ [] → (out rest total : List ℕ) → None ≡ uncons rest → out ++ encode_utf8_all (spells rest) ≡ total → out ≡ total
  walk_end nothing out [] total none before = sym (append-nil out) ∙ ap (λ ys. out ++ encode_utf8_all ys) (sym nothing) ∙ before
  walk_end nothing out (x ∷ xs) total none before = absurd (cc)
