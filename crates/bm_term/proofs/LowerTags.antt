-- A language tag in lower case is a canonical tag.
use Rattle.std.proofs.Common.{◌≡◌, ℕ, Bool, true, ⊎_elim, List, [], ◌∷◌, map, refl, ap, ◌∙◌, arith}
use Rattle.std.proofs.lemmas.Bool.{and_parts, or_cases}
use Rattle.std.proofs.Math.Bool.{or-true}
use Rattle.std.proofs.lemmas.Bool.Decides.{nat_tests}
use Rattle.std.proofs.lemmas.List.{length-map, map-append}
use Rattle.std.specs.Char.{to_ascii_lowercase}
use Rattle.std.specs.Cmp.Derive.{both_true}
use Rattle.std.specs.List.{list_all}
use Rattle.rdf_text.specs.Classes.{is_letter, is_alphanumeric, is_lower_letter, is_lower_alphanumeric, is_digit}
use Rattle.rdf_text.specs.Text.{IsRun}
use Rattle.rdf_text.specs.Repetition.{Star}
use Rattle.rdf_text.specs.Names.{IsSubtag, IsLanguageTag}
use Rattle.bm_term.specs.Canonical.{IsLowerTag}

-- a letter becomes a letter of lower case, and a digit stays
lower_letter : (c : ℕ) → is_letter c ≡ true → is_lower_letter (to_ascii_lowercase c) ≡ true
unfolding is_letter is_lower_letter
lower_letter c e = grind (arith, nat_tests)

-- a digit stays a digit
same_digit : (c : ℕ) → is_digit c ≡ true → is_digit (to_ascii_lowercase c) ≡ true
unfolding is_digit
same_digit c e = grind (arith, nat_tests)

-- a letter or digit becomes one of lower case
lower_alphanumeric : (c : ℕ) → is_alphanumeric c ≡ true → is_lower_alphanumeric (to_ascii_lowercase c) ≡ true
unfolding is_alphanumeric is_lower_alphanumeric
lower_alphanumeric c e =
    ⊎_elim (λ letter. rw (lower_letter c letter) refl) (λ digit. rw (same_digit c digit) (or-true (is_lower_letter (to_ascii_lowercase c)))) (or_cases (is_letter c) (is_digit c) e)

module _ (p q : ℕ → Bool) (lower : (c : ℕ) → p c ≡ true → q (to_ascii_lowercase c) ≡ true) where
  -- so do all of a list
  all_lower : (cs : List ℕ) → list_all p cs ≡ true → list_all q (map to_ascii_lowercase cs) ≡ true
  all_lower [] all = refl
  all_lower (c ∷ cs) all =
      let (first, others) = and_parts (p c) (list_all p cs) all in
      both_true (lower c first) (all_lower cs others)

  -- so does a run
  run_lower : (cs : List ℕ) → IsRun p cs → IsRun q (map to_ascii_lowercase cs)
  run_lower cs (long, all) = (rw length-map long, all_lower cs all)

  -- so do subtags
  subtags_lower : (subtags : List (List ℕ)) (text : List ℕ) → Star (IsSubtag p) text subtags → Star (IsSubtag q) (map to_ascii_lowercase text) (map (map to_ascii_lowercase) subtags)
  subtags_lower [] text star = rw star refl
  subtags_lower (subtag ∷ subtags) text (front, rest, (run, spelled), star, split) = (
    map to_ascii_lowercase front,
    map to_ascii_lowercase rest,
    (run_lower subtag run, ap (map to_ascii_lowercase) spelled),
    subtags_lower subtags rest star,
    ap (map to_ascii_lowercase) split ∙ map-append to_ascii_lowercase front rest,
  )

-- so does a language tag
pub IsLowerTag-lowercase : (tag : List ℕ) → IsLanguageTag is_letter is_alphanumeric tag → IsLowerTag (map to_ascii_lowercase tag)
IsLowerTag-lowercase tag (primary, rest, subtags, run, star, split) = (
  map to_ascii_lowercase primary,
  map to_ascii_lowercase rest,
  map (map to_ascii_lowercase) subtags,
  run_lower is_letter is_lower_letter lower_letter primary run,
  subtags_lower is_alphanumeric is_lower_alphanumeric lower_alphanumeric subtags rest star,
  ap (map to_ascii_lowercase) split ∙ map-append to_ascii_lowercase primary rest,
)
