-- The characters of a literal as they are spelled, read one by one.
use Rattle.std.proofs.Common.{◌≡◌, ℕ, ◌<◌, true, false, ◌==◌, ◌&&◌, if◌then◌else◌, ◌⊎◌, inl, inr, is_none, Some, None, List, [], ◌∷◌, ◌++◌, length, refl, ap, ◌∙◌, arith, length-append}
use Rattle.std.proofs.lemmas.Option.{cond_some}
use Rattle.std.proofs.lemmas.Bool.{eqb-true}
use Rattle.std.proofs.lemmas.Bool.Decides.{nat_tests}
use Rattle.rdf_text.specs.Spelling.{escape_letter, spelled_by, spelling, escaped}
use Rattle.rdf_text.specs.scanning.Spelling.{is_escape_letter, after_escape, after_spelling}
use Rattle.rdf_text.specs.Repetition.{Star}
use Rattle.rdf_text.specs.scanning.Repetition.{after_pieces}
use Rattle.rdf_text.proofs.Scalars.{all_scalars-append}
use lib.Utf8.{scalar, low_scalar}
use Rattle.std.proofs.Math.Bool.{and-true}
use Rattle.std.specs.Str.{all_scalars}
use Rattle.rdf_text.proofs.RepetitionLemmas.{GoesForward, after_pieces-step, PassesPieces, splits, passed}

-- a piece of a literal: a character as it is spelled
abbrev pub IsSpelling : List ℕ → ℕ → Type 0
IsSpelling text c = text ≡ spelling c

-- the letters of escapes are these five
five_letters : (letter : ℕ) → is_escape_letter letter ≡ true → (letter ≡ 34) ⊎ ((letter ≡ 92) ⊎ ((letter ≡ 110) ⊎ ((letter ≡ 114) ⊎ (letter ≡ 116))))
unfolding is_escape_letter
five_letters letter e = grind (arith, nat_tests)

-- a letter after a backslash stands for some character
escape_letter-onto : (letter : ℕ) → is_escape_letter letter ≡ true → (c : ℕ) × (escape_letter c ≡ Some letter)
unfolding escape_letter
escape_letter-onto letter e =
    elim (five_letters letter e) [
      | inl e ↦ (34, rw e refl)
      | inr (inl e) ↦ (92, rw e refl)
      | inr (inr (inl e)) ↦ (10, rw e refl)
      | inr (inr (inr (inl e))) ↦ (13, rw e refl)
      | inr (inr (inr (inr e))) ↦ (9, rw e refl)
    ]

-- and no character but these five letters
pub escape_letter-into : (c letter : ℕ) → escape_letter c ≡ Some letter → is_escape_letter letter ≡ true
unfolding escape_letter is_escape_letter
escape_letter-into c letter e = grind (arith, nat_tests)

-- an escape is the spelling of a character
escape_passes : (c : ℕ) (cs rest : List ℕ) → c ≡ 92 → after_escape cs ≡ Some rest → (front : List ℕ) × (v : ℕ) × IsSpelling front v × (c ∷ cs ≡ front ++ rest)
escape_passes c [] rest same e = absurd (cc)
escape_passes c (l ∷ ls) rest same e =
    let (is_letter, others) = cond_some (is_escape_letter l) ls rest e in
    let (v, letter) = escape_letter-onto l is_letter in
    (92 ∷ l ∷ [], v, rw letter refl, cc)

-- a raw character is its own spelling
raw_passes : (c : ℕ) (cs rest : List ℕ) → (if is_none (escape_letter c) then Some cs else None) ≡ Some rest → (front : List ℕ) × (v : ℕ) × IsSpelling front v × (c ∷ cs ≡ front ++ rest)
raw_passes c cs rest e =
    elim (escape_letter c) as (λ r. escape_letter c ≡ r → (if is_none r then Some cs else None) ≡ Some rest → (front : List ℕ) × (v : ℕ) × IsSpelling front v × (c ∷ cs ≡ front ++ rest)) [
      | None ↦ λ raw h. (c ∷ [], c, rw raw refl, cc)
      | Some letter ↦ λ raw h. absurd (cc)
    ] refl e

-- what a step takes is the spelling of a character
after_spelling-passes : PassesPieces IsSpelling after_spelling
unfolding after_spelling
after_spelling-passes [] rest e = absurd (cc)
after_spelling-passes (c ∷ cs) rest e =
    elim (c == 92) as (λ b. (c == 92) ≡ b → (if b then after_escape cs else (if is_none (escape_letter c) then Some cs else None)) ≡ Some rest → (front : List ℕ) × (v : ℕ) × IsSpelling front v × (c ∷ cs ≡ front ++ rest)) [
      | true ↦ λ f h. escape_passes c cs rest (eqb-true c 92 f) h
      | false ↦ λ f h. raw_passes c cs rest h
    ] refl e

-- a raw character is no backslash
pub raw_is_no_backslash : (c : ℕ) → escape_letter c ≡ None → (c == 92) ≡ false
unfolding escape_letter
raw_is_no_backslash c e = grind (arith, nat_tests)

-- a spelling in front is passed
pub after_spelling-spelling : (c : ℕ) (rest : List ℕ) → after_spelling (spelling c ++ rest) ≡ Some rest
unfolding after_spelling
after_spelling-spelling c rest =
    elim (escape_letter c) as (λ r. escape_letter c ≡ r → after_spelling (spelled_by c r ++ rest) ≡ Some rest) [
      | None ↦ λ e. rw (raw_is_no_backslash c e, e) refl
      | Some letter ↦ λ e. rw (escape_letter-into c letter e) refl
    ] refl

-- a spelling has a character at least
length-spelling : (c : ℕ) → 0 < length (spelling c)
length-spelling c = elim (escape_letter c) as (λ r. 0 < length (spelled_by c r)) [ None ↦ omega arith | Some letter ↦ omega arith ]

-- a step over a spelling goes forward
pub after_spelling-forward : GoesForward after_spelling
after_spelling-forward text rest e =
    let (front, c, spelled, split) = after_spelling-passes text rest e in
    omega (arith, ap length split, ap length spelled, length-append front rest, length-spelling c)

-- after one spelling the others follow
pub after_spellings-more : (text rest : List ℕ) → after_spelling text ≡ Some rest → after_pieces after_spelling text ≡ after_pieces after_spelling rest
after_spellings-more text rest e = rw (after_pieces-step after_spelling after_spelling-forward text, e) refl

-- where no spelling is in front, nothing is passed
pub after_spellings-none : (text : List ℕ) → after_spelling text ≡ None → after_pieces after_spelling text ≡ text
after_spellings-none text e = rw (after_pieces-step after_spelling after_spelling-forward text, e) refl

pub ruleset spellings = (after_spelling-forward, after_spellings-more, after_spellings-none)

-- spellings in a row are the spelled characters
spellings_are : (lexical text : List ℕ) → Star IsSpelling text lexical → text ≡ escaped lexical
spellings_are [] text star = star
spellings_are (c ∷ cs) text (front, rest, spelled, star, split) = let others = spellings_are cs rest star in rw (split, spelled, others) refl

-- spelled characters are spellings in a row
are_spellings : (lexical : List ℕ) → Star IsSpelling (escaped lexical) lexical
are_spellings [] = refl
are_spellings (c ∷ cs) = (spelling c, escaped cs, refl, are_spellings cs, refl)

-- a text is the spelled characters that it begins with, and what follows them
pub spellings-split : (text : List ℕ) → (lexical : List ℕ) × (text ≡ escaped lexical ++ after_pieces after_spelling text)
spellings-split text =
    let (front, lexical, star, split) = splits IsSpelling after_spelling after_spelling-passes after_spelling-forward text in
    let spelled = spellings_are lexical front star in
    (lexical, split ∙ ap (λ xs. xs ++ after_pieces after_spelling text) spelled)

-- spelled characters in front are passed
pub after_spellings-escaped : (lexical rest : List ℕ) → after_pieces after_spelling (escaped lexical ++ rest) ≡ after_pieces after_spelling rest
after_spellings-escaped lexical rest =
    passed IsSpelling after_spelling (λ _. Unit {0}) (λ _ _ _ _. tt) after_spelling-forward
    (λ front rest c spelled _. rw spelled (after_spelling-spelling c rest)) lexical (escaped lexical) rest (are_spellings lexical) tt

-- what is escaped, and its letter, are ASCII
pub escaped_is_ascii : (c letter : ℕ) → escape_letter c ≡ Some letter → c < 128
unfolding escape_letter
escaped_is_ascii c letter e = grind (arith, nat_tests)

-- the letter of an escape is ASCII
pub letter_is_ascii : (letter : ℕ) → is_escape_letter letter ≡ true → letter < 128
unfolding is_escape_letter
letter_is_ascii letter e = grind (arith, nat_tests)

-- the spelling of a character is of characters, and of no other number is
all_scalars-spelling : (c : ℕ) → all_scalars (spelling c) ≡ scalar c
all_scalars-spelling c =
    elim (escape_letter c) as (λ r. escape_letter c ≡ r → all_scalars (spelled_by c r) ≡ scalar c) [
      | None ↦ λ e. and-true (scalar c)
      | Some letter ↦ λ e.
          let small = escaped_is_ascii c letter e in
          let letter_small = letter_is_ascii letter (escape_letter-into c letter e) in
          let is : scalar c ≡ true = low_scalar c (omega arith) in
          let letter_is : scalar letter ≡ true = low_scalar letter (omega arith) in
          rw (is, letter_is) refl
    ] refl

-- spelled characters are characters where the characters are
pub all_scalars-escaped : (lexical : List ℕ) → all_scalars (escaped lexical) ≡ all_scalars lexical
all_scalars-escaped [] = refl
all_scalars-escaped (c ∷ cs) =
    all_scalars-append (spelling c) (escaped cs)
    ∙ ap (λ b. b && all_scalars (escaped cs)) (all_scalars-spelling c)
    ∙ ap (λ b. scalar c && b) (all_scalars-escaped cs)
