-- A language tag is read to its longest end.
use Rattle.std.proofs.Common.{◌≡◌, ℕ, ◌≤◌, Bool, false, Some, None, List, [], ◌∷◌, ◌++◌, length, refl, ap, ◌∙◌, sym, arith, append_assoc, length-append}
use Rattle.std.specs.Option.{option_map}
use Rattle.rdf_text.specs.Classes.{is_letter, is_alphanumeric, is_lower_letter, is_lower_alphanumeric, is_digit}
use Rattle.rdf_text.specs.scanning.Text.{after_char, after_run, after_some}
use Rattle.rdf_text.specs.Text.{IsRun}
use Rattle.rdf_text.specs.Repetition.{Star}
use Rattle.rdf_text.specs.scanning.Repetition.{after_pieces}
use Rattle.rdf_text.specs.Names.{IsSubtag, IsLanguageTag}
use Rattle.rdf_text.specs.scanning.Names.{after_subtag, after_language_tag}
use Rattle.rdf_text.proofs.TextLemmas.{after_char-some, after_some-some, after_some-append, after_run-stop, length-after_run}
use Rattle.rdf_text.proofs.Longest.{Sound, Reaches}
use Rattle.std.proofs.lemmas.Option.{option_and_then_some, same_Some}
use Rattle.rdf_text.proofs.RepetitionLemmas.{GoesForward, after_pieces-step, PassesPieces, splits}

-- what a step over a subtag takes
after_subtag-reads : (p : ℕ → Bool) (text rest : List ℕ) → after_subtag p text ≡ Some rest → (front subtag : List ℕ) × IsSubtag p front subtag × (text ≡ front ++ rest) × (after_run p rest ≡ rest)
unfolding after_subtag
after_subtag-reads p text rest e =
    option_and_then_some (after_some p) (after_char 45 text) rest e
    (λ after found some.
    let (run, is_run, split, stuck) = after_some-some p after rest some in
    (45 ∷ run, run, (is_run, refl), after_char-some 45 text after found ∙ ap (λ xs. 45 ∷ xs) split, stuck))

-- what a step over a subtag takes is one
after_subtag-passes : (p : ℕ → Bool) → PassesPieces (IsSubtag p) (after_subtag p)
after_subtag-passes p text rest e =
    let (front, subtag, is, split, stuck) = after_subtag-reads p text rest e in
    (front, subtag, is, split)

-- such a step goes forward
pub after_subtag-forward : (p : ℕ → Bool) → GoesForward (after_subtag p)
after_subtag-forward p text rest e =
    let (front, subtag, (run, spelled), split, stuck) = after_subtag-reads p text rest e in
    omega (arith, ap length split, ap length spelled, length-append front rest)

-- after one subtag the others follow
pub after_subtags-more : (p : ℕ → Bool) (text rest : List ℕ) → after_subtag p text ≡ Some rest → after_pieces (after_subtag p) text ≡ after_pieces (after_subtag p) rest
after_subtags-more p text rest e = rw (after_pieces-step (after_subtag p) (after_subtag-forward p) text, e) refl

-- where no subtag is in front, nothing is passed
pub after_subtags-none : (p : ℕ → Bool) (text : List ℕ) → after_subtag p text ≡ None → after_pieces (after_subtag p) text ≡ text
after_subtags-none p text e = rw (after_pieces-step (after_subtag p) (after_subtag-forward p) text, e) refl

pub ruleset subtags = (after_subtag-forward, after_subtags-more, after_subtags-none)

-- classes without the hyphen
module _ (letter alphanumeric : ℕ → Bool) (no_letter : letter 45 ≡ false) (no_alphanumeric : alphanumeric 45 ≡ false) where
  -- what follows the subtags is no longer than the text
  length-after_subtags : (text : List ℕ) → length (after_pieces (after_subtag alphanumeric) text) ≤ length text
  length-after_subtags text =
      let (front, subtags, star, split) = splits (IsSubtag alphanumeric) (after_subtag alphanumeric) (after_subtag-passes alphanumeric) (after_subtag-forward alphanumeric) text in
      omega (arith, ap length split, length-append front (after_pieces (after_subtag alphanumeric) text))

  -- a step over a subtag
  step : (subtag rest : List ℕ) → IsRun alphanumeric subtag → after_subtag alphanumeric (45 ∷ (subtag ++ rest)) ≡ Some (after_run alphanumeric rest)
  unfolding after_subtag
  step subtag rest run = after_some-append alphanumeric subtag rest run

  -- subtags in front are passed
  subtags_reach : (subtags : List (List ℕ)) (text more : List ℕ) → Star (IsSubtag alphanumeric) text subtags → length (after_pieces (after_subtag alphanumeric) (after_run alphanumeric (text ++ more))) ≤ length more
  subtags_reach [] text more star =
      rw star (omega (arith, length-after_subtags (after_run alphanumeric more), length-after_run alphanumeric more))
  subtags_reach (subtag ∷ subtags) text more (front, others, (run, spelled), star, split) =
      let whole : text ++ more ≡ 45 ∷ (subtag ++ (others ++ more)) = rw (split, spelled, append_assoc subtag others more) refl in
      rw (
        whole,
        after_run-stop alphanumeric 45 (subtag ++ (others ++ more)) no_alphanumeric,
        after_subtags-more alphanumeric (45 ∷ (subtag ++ (others ++ more))) (after_run alphanumeric (others ++ more)) (step subtag (others ++ more) run),
      )
      (subtags_reach subtags others more star)

  -- what follows the first part of a tag
  rest_reaches : (subtags : List (List ℕ)) (text more : List ℕ) → Star (IsSubtag alphanumeric) text subtags → length (after_pieces (after_subtag alphanumeric) (after_run letter (text ++ more))) ≤ length more
  rest_reaches [] text more star =
      rw star (omega (arith, length-after_subtags (after_run letter more), length-after_run letter more))
  rest_reaches (subtag ∷ subtags) text more (front, others, (run, spelled), star, split) =
      let whole : text ++ more ≡ 45 ∷ (subtag ++ (others ++ more)) = rw (split, spelled, append_assoc subtag others more) refl in
      rw (
        whole,
        after_run-stop letter 45 (subtag ++ (others ++ more)) no_letter,
        after_subtags-more alphanumeric (45 ∷ (subtag ++ (others ++ more))) (after_run alphanumeric (others ++ more)) (step subtag (others ++ more) run),
      )
      (subtags_reach subtags others more star)

  -- each language tag in front is passed
  pub after_language_tag-reaches : Reaches (IsLanguageTag letter alphanumeric) (after_language_tag letter alphanumeric)
  unfolding after_language_tag
  after_language_tag-reaches front more (primary, text, subtags, run, star, spelled) = (
    after_pieces (after_subtag alphanumeric) (after_run letter (text ++ more)),
    rw (spelled, append_assoc primary text more, after_some-append letter primary (text ++ more) run) refl,
    rest_reaches subtags text more star,
  )

-- what is passed is a language tag
pub after_language_tag-sound : (letter alphanumeric : ℕ → Bool) → Sound (IsLanguageTag letter alphanumeric) (after_language_tag letter alphanumeric)
unfolding after_language_tag
after_language_tag-sound letter alphanumeric text rest e =
    elim (after_some letter text) as (λ r. after_some letter text ≡ r → option_map (after_pieces (after_subtag alphanumeric)) r ≡ Some rest → (tag : List ℕ) × IsLanguageTag letter alphanumeric tag × (text ≡ tag ++ rest)) [
      | None ↦ λ found h. absurd (cc)
      | Some after ↦ λ found h.
          let (primary, run, text_split, stuck) = after_some-some letter text after found in
          let (front, subtags, star, after_split) = splits (IsSubtag alphanumeric) (after_subtag alphanumeric) (after_subtag-passes alphanumeric) (after_subtag-forward alphanumeric) after in
          let end : after_pieces (after_subtag alphanumeric) after ≡ rest = same_Some (after_pieces (after_subtag alphanumeric) after) rest h in (
            primary ++ front,
            (primary, front, subtags, run, star, refl),
            text_split ∙ ap (λ xs. primary ++ xs) (after_split ∙ ap (λ xs. front ++ xs) end) ∙ sym (append_assoc primary front rest),
          )
    ] refl e

-- the hyphen is no letter and no digit
pub no_letter : is_letter 45 ≡ false
unfolding is_letter
no_letter = refl

-- the hyphen is no letter or digit
pub no_alphanumeric : is_alphanumeric 45 ≡ false
unfolding is_alphanumeric is_letter is_digit
no_alphanumeric = refl

-- the hyphen is no small letter
pub no_lower_letter : is_lower_letter 45 ≡ false
unfolding is_lower_letter
no_lower_letter = refl

-- the hyphen is no small letter or digit
pub no_lower_alphanumeric : is_lower_alphanumeric 45 ≡ false
unfolding is_lower_alphanumeric is_lower_letter is_digit
no_lower_alphanumeric = refl

pub ruleset hyphens = (no_letter, no_alphanumeric, no_lower_letter, no_lower_alphanumeric)
