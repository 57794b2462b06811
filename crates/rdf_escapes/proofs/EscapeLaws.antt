-- What is read after a backslash is an escape, and each escape is read.
use Rattle.std.proofs.Common.{◌≡◌, ℕ, ◌+◌, ◌*◌, true, false, ◌==◌, if◌then◌else◌, Option, Some, None, List, [], ◌∷◌, ◌++◌, length, refl, ap, ◌∙◌, sym, arith, append_assoc, length-append}
use Rattle.std.proofs.lemmas.Bool.{and_parts}
use lib.Utf8.{scalar}
use Rattle.std.proofs.lemmas.Option.{cond_some, option_and_then_some, same_Some, some_pair_parts}
use Rattle.std.proofs.lemmas.List.Folds.{list_all-append}
use Rattle.std.specs.Cmp.Derive.{both_true}
use Rattle.std.specs.List.{list_all}
use Rattle.rdf_text.specs.Classes.{is_scalar, is_hex}
use Rattle.rdf_text.specs.Marks.{backslash, letter_u, capital_u}
use Rattle.rdf_text.proofs.Scalars.{is_scalar-scalar}
use Rattle.rdf_escapes.specs.Escapes.{hex_value, hex_number, uchar_length, IsUchar}
use Rattle.rdf_escapes.specs.scanning.Escapes.{hex_digit, four_digits, eight_digits, uchar_number, scan_uchar}

-- the text begins with digits that spell the number
pub record BeginsWithDigits (text : List ℕ) (count number : ℕ) (rest : List ℕ) : Type 0 where
  pub digits : List ℕ
  pub long : length digits ≡ count
  pub hex : list_all is_hex digits ≡ true
  pub spells : number ≡ hex_number digits
  pub split : text ≡ digits ++ rest

-- what is taken is a digit, with its value
hex_digit-some : (text rest : List ℕ) (v : ℕ) → hex_digit text ≡ Some (v, rest) → (c : ℕ) × (is_hex c ≡ true) × (hex_value c ≡ v) × (text ≡ c ∷ rest)
unfolding hex_digit
hex_digit-some [] rest v e = absurd (cc)
hex_digit-some (c ∷ cs) rest v e =
    let (is, same) = cond_some (is_hex c) (hex_value c, cs) (v, rest) e in
    (c, is, ap (λ p. p.0) same, ap (λ (p : ℕ × List ℕ). c ∷ p.1) same)

-- the number that four digits spell
four_digits-number : (a b c d : ℕ) → hex_number (a ∷ b ∷ c ∷ d ∷ []) ≡ 4096 * hex_value a + 256 * hex_value b + 16 * hex_value c + hex_value d
four_digits-number a b c d = omega arith

-- what is taken are four digits, with their number
pub four_digits-some : (text rest : List ℕ) (n : ℕ) → four_digits text ≡ Some (n, rest) → BeginsWithDigits text 4 n rest
unfolding four_digits
four_digits-some text rest n e =
    option_and_then_some _ (hex_digit text) (n, rest) e (λ a a_is e.
    option_and_then_some _ (hex_digit a.1) (n, rest) e (λ b b_is e.
    option_and_then_some _ (hex_digit b.1) (n, rest) e (λ c c_is e.
    option_and_then_some _ (hex_digit c.1) (n, rest) e (λ d d_is e.
    let (first, first_hex, first_value, first_split) = hex_digit-some text a.1 a.0 a_is in
    let (second, second_hex, second_value, second_split) = hex_digit-some a.1 b.1 b.0 b_is in
    let (third, third_hex, third_value, third_split) = hex_digit-some b.1 c.1 c.0 c_is in
    let (fourth, fourth_hex, fourth_value, fourth_split) = hex_digit-some c.1 d.1 d.0 d_is in
    let (number, end) = some_pair_parts (4096 * a.0 + 256 * b.0 + 16 * c.0 + d.0) n d.1 rest e in
    record {
      digits = first ∷ second ∷ third ∷ fourth ∷ [];
      long = refl;
      hex = rw (first_hex, second_hex, third_hex, fourth_hex) refl;
      spells = omega (arith, number, first_value, second_value, third_value, fourth_value, four_digits-number first second third fourth);
      split = first_split ∙ ap (λ xs. first ∷ xs) (second_split ∙ ap (λ xs. second ∷ xs) (third_split ∙ ap (λ xs. third ∷ xs) (fourth_split ∙ ap (λ xs. fourth ∷ xs) end)));
    }))))

-- eight digits are four and four
both_numbers : (high low : List ℕ) → length high ≡ 4 → length low ≡ 4 → hex_number (high ++ low) ≡ 65536 * hex_number high + hex_number low
both_numbers (a ∷ b ∷ c ∷ d ∷ []) (e ∷ f ∷ g ∷ h ∷ []) long long' = omega arith
both_numbers high low long long' = absurd (omega arith)

-- what is taken are eight digits, with their number
pub eight_digits-some : (text rest : List ℕ) (n : ℕ) → eight_digits text ≡ Some (n, rest) → BeginsWithDigits text 8 n rest
unfolding eight_digits
eight_digits-some text rest n e =
    option_and_then_some _ (four_digits text) (n, rest) e (λ high high_is e.
    option_and_then_some _ (four_digits high.1) (n, rest) e (λ low low_is e.
    let first = four_digits-some text high.1 high.0 high_is in
    let second = four_digits-some high.1 low.1 low.0 low_is in
    let (number, end) = some_pair_parts (65536 * high.0 + low.0) n low.1 rest e in
    record {
      digits = first.digits ++ second.digits;
      long = omega (arith, first.long, second.long, length-append first.digits second.digits);
      hex = list_all-append is_hex first.digits second.digits ∙ both_true first.hex second.hex;
      spells = omega (arith, number, first.spells, second.spells, both_numbers first.digits second.digits first.long second.long);
      split = first.split ∙ ap (λ xs. first.digits ++ xs) (second.split ∙ ap (λ xs. second.digits ++ xs) end) ∙ sym (append_assoc first.digits second.digits rest);
    }))

-- digits of HEX in front are read
pub four_digits-again : (digits rest : List ℕ) → length digits ≡ 4 → list_all is_hex digits ≡ true → four_digits (digits ++ rest) ≡ Some (hex_number digits, rest)
unfolding four_digits hex_digit
four_digits-again (a ∷ b ∷ c ∷ d ∷ []) rest long hex =
    let (a_is, others) = and_parts (is_hex a) (list_all is_hex (b ∷ c ∷ d ∷ [])) hex in
    let (b_is, others) = and_parts (is_hex b) (list_all is_hex (c ∷ d ∷ [])) others in
    let (c_is, others) = and_parts (is_hex c) (list_all is_hex (d ∷ [])) others in
    let (d_is, others) = and_parts (is_hex d) true others in
    rw (a_is, b_is, c_is, d_is, four_digits-number a b c d) refl
four_digits-again digits rest long hex = absurd (omega arith)

-- eight are read as four and four
fours : (digits : List ℕ) → length digits ≡ 8 → (high low : List ℕ) × (length high ≡ 4) × (length low ≡ 4) × (digits ≡ high ++ low)
fours (a ∷ b ∷ c ∷ d ∷ e ∷ f ∷ g ∷ h ∷ []) long = (a ∷ b ∷ c ∷ d ∷ [], e ∷ f ∷ g ∷ h ∷ [], refl, refl, refl)
fours digits long = absurd (omega arith)

-- eight digits are taken
pub eight_digits-again : (digits rest : List ℕ) → length digits ≡ 8 → list_all is_hex digits ≡ true → eight_digits (digits ++ rest) ≡ Some (hex_number digits, rest)
unfolding eight_digits
eight_digits-again digits rest long hex =
    let (high, low, high_long, low_long, split) = fours digits long in
    let (high_hex, low_hex) = and_parts (list_all is_hex high) (list_all is_hex low) (sym (list_all-append is_hex high low) ∙ ap (list_all is_hex) (sym split) ∙ hex) in
    rw (split, append_assoc high low rest, four_digits-again high (low ++ rest) high_long high_hex, four_digits-again low rest low_long low_hex, both_numbers high low high_long low_long) refl

-- what is read as a UCHAR is one
pub record BeginsWithUchar (letter : ℕ) (text : List ℕ) (c : ℕ) (rest : List ℕ) : Type 0 where
  pub digits : List ℕ
  pub is : IsUchar (backslash ∷ letter ∷ digits) c
  pub split : text ≡ digits ++ rest

-- what is taken are as many digits as the letter says
uchar_number-some : (letter : ℕ) (text rest : List ℕ) (n : ℕ) → uchar_number letter text ≡ Some (n, rest) → (count : ℕ) × (uchar_length letter ≡ Some count) × BeginsWithDigits text count n rest
unfolding uchar_number uchar_length
uchar_number-some letter text rest n e =
    elim (letter == letter_u) as (λ b. ◌≡◌ {A = Option (ℕ × List ℕ)} (if b then four_digits text else (if letter == capital_u then eight_digits text else None)) (Some (n, rest)) → (count : ℕ) × (◌≡◌ {A = Option ℕ} (if b then Some 4 else (if letter == capital_u then Some 8 else None)) (Some count)) × BeginsWithDigits text count n rest) [
      | true ↦ λ h. (4, refl, four_digits-some text rest n h)
      | false ↦ λ h.
          elim (letter == capital_u) as (λ b. ◌≡◌ {A = Option (ℕ × List ℕ)} (if b then eight_digits text else None) (Some (n, rest)) → (count : ℕ) × (◌≡◌ {A = Option ℕ} (if b then Some 8 else None) (Some count)) × BeginsWithDigits text count n rest) [
            | true ↦ λ k. (8, refl, eight_digits-some text rest n k)
            | false ↦ λ k. absurd (cc)
          ] h
    ] e

-- what is taken after the backslash is a UCHAR
pub scan_uchar-some : (letter : ℕ) (text rest : List ℕ) (c : ℕ) → scan_uchar letter text ≡ Some (c, rest) → BeginsWithUchar letter text c rest
unfolding scan_uchar
scan_uchar-some letter text rest c e =
    option_and_then_some _ (uchar_number letter text) (c, rest) e (λ found found_is e.
    let (scalar, same) = cond_some (is_scalar found.0) found (c, rest) e in
    let number : found.0 ≡ c = ap (λ (p : ℕ × List ℕ). p.0) same in
    let end : found.1 ≡ rest = ap (λ (p : ℕ × List ℕ). p.1) same in
    let (count, letter_is, begins) = uchar_number-some letter text found.1 found.0 found_is in
    record {
      digits = begins.digits;
      is = record {
        letter = letter;
        digits = begins.digits;
        count = letter_is ∙ ap Some (sym begins.long);
        hex = begins.hex;
        number = sym number ∙ begins.spells;
        scalar = ap is_scalar (sym number) ∙ scalar;
        spelled = refl;
      };
      split = begins.split ∙ ap (λ xs. begins.digits ++ xs) end;
    })

-- as many digits as the letter says are taken
uchar_number-again : (letter : ℕ) (digits rest : List ℕ) → uchar_length letter ≡ Some (length digits) → list_all is_hex digits ≡ true → uchar_number letter (digits ++ rest) ≡ Some (hex_number digits, rest)
unfolding uchar_number uchar_length
uchar_number-again letter digits rest count hex =
    elim (letter == letter_u) as (λ b. ◌≡◌ {A = Option ℕ} (if b then Some 4 else (if letter == capital_u then Some 8 else None)) (Some (length digits)) → ◌≡◌ {A = Option (ℕ × List ℕ)} (if b then four_digits (digits ++ rest) else (if letter == capital_u then eight_digits (digits ++ rest) else None)) (Some (hex_number digits, rest))) [
      | true ↦ λ h. four_digits-again digits rest (sym (same_Some 4 (length digits) h)) hex
      | false ↦ λ h.
          elim (letter == capital_u) as (λ b. ◌≡◌ {A = Option ℕ} (if b then Some 8 else None) (Some (length digits)) → ◌≡◌ {A = Option (ℕ × List ℕ)} (if b then eight_digits (digits ++ rest) else None) (Some (hex_number digits, rest))) [
            | true ↦ λ k. eight_digits-again digits rest (sym (same_Some 8 (length digits) k)) hex
            | false ↦ λ k. absurd (cc)
          ] h
    ] count

-- each UCHAR is taken
pub scan_uchar-again : (text rest : List ℕ) (c : ℕ) → (is : IsUchar text c) → scan_uchar is.letter (is.digits ++ rest) ≡ Some (c, rest)
unfolding scan_uchar
scan_uchar-again text rest c is =
    let scalar : is_scalar (hex_number is.digits) ≡ true = ap is_scalar (sym is.number) ∙ is.scalar in
    rw (uchar_number-again is.letter is.digits rest is.count is.hex, scalar, is.number) refl

-- a number that is no character is refused
pub scalar_is_read : (letter number c : ℕ) (text rest : List ℕ) → Some (number, rest) ≡ uchar_number letter text → scalar number ≡ true → c ≡ number → ◌≡◌ {A = Option (ℕ × List ℕ)} (Some (c, rest)) (scan_uchar letter text)
unfolding scan_uchar
scalar_is_read letter number c text rest found is same = rw (← found, is_scalar-scalar number, is, same) refl

-- a number that is no character is refused
pub no_scalar_is_refused : (letter number : ℕ) (text rest : List ℕ) → Some (number, rest) ≡ uchar_number letter text → (scalar number ≡ true → ⊥) → None ≡ scan_uchar letter text
unfolding scan_uchar
no_scalar_is_refused letter number text rest found no_scalar =
    rw (← found, is_scalar-scalar number)
    (elim (scalar number) as (λ b. (b ≡ true → ⊥) → ◌≡◌ {A = Option (ℕ × List ℕ)} None (if b then Some (number, rest) else None)) [
      | true ↦ λ h. absurd (h refl)
      | false ↦ λ h. refl
    ] no_scalar)
