-- What is walked by bytes is what is walked by characters: each character beyond ASCII belongs to the run.
use Rattle.std.proofs.Common.{◌≡◌, ℕ, ◌<◌, ◌≤◌, Bool, true, false, ◌==◌, nat_le, if◌then◌else◌, is_none, ⊎_elim, Some, None, List, [], ◌∷◌, ◌++◌, length, take, drop, refl, ap, ◌∙◌, sym, subst, arith}
use Rattle.std.proofs.lemmas.Bool.{and_parts, cases_lt, eqb-true}
use Rattle.std.proofs.lemmas.Bool.Decides.{nat_tests}
use Rattle.std.proofs.lemmas.List.{take-append-drop}
use Rattle.std.proofs.lemmas.Str.{encodes-append, encodes-chars, chars-encodes, scalars-chars, encode_ascii, length-encode, len_utf8_bounds}
use Rattle.std.specs.Cmp.Derive.{both_true}
use Rattle.std.specs.List.{list_all}
use Rattle.std.specs.Str.{chars, IsUtf8, all_scalars, encode_utf8_all}
use lib.Utf8.{scalar, encode}
use Rattle.rdf_text.specs.Classes.{is_scalar, is_irichar}
use Rattle.rdf_text.specs.scanning.Text.{after_run}
use Rattle.rdf_text.specs.Text.{HasRest}
use Rattle.rdf_text.specs.scanning.Repetition.{after_pieces}
use Rattle.rdf_text.specs.Spelling.{escape_letter, escaped}
use Rattle.rdf_text.specs.scanning.Bytes.{is_iri_byte, is_raw_char, is_raw_byte}
use Rattle.rdf_text.specs.scanning.Spelling.{is_escape_letter, after_escape, after_spelling}
use Rattle.rdf_text.proofs.Scalars.{is_scalar-scalar, scalars_back}
use Rattle.rdf_text.proofs.TextLemmas.{after_run-split, after_run-append}
use Rattle.rdf_text.proofs.RepetitionLemmas.{stuck}
use Rattle.rdf_text.proofs.Spellings.{IsSpelling, after_spelling-forward, spellings-split, after_spellings-escaped, after_spellings-none, escaped_is_ascii, letter_is_ascii}
use Rattle.rdf_text.proofs.Unescaping.{encode_is_high, encode-escaped}

-- a text whose end has these characters
pub record EndsWith (text end cs : List ℕ) : Type 0 where
  pub rest : HasRest text end
  pub utf8 : IsUtf8 end
  pub characters : chars end ≡ cs

-- the end of a text of UTF-8 is UTF-8, and its characters are the end of the text's characters
ends_with : (text front end : List ℕ) → IsUtf8 text → chars text ≡ front ++ end → EndsWith text (encode_utf8_all end) end
ends_with text front end utf8 split =
    let end_scalars = scalars_back front end (subst (λ xs. all_scalars xs ≡ true) split (scalars-chars text utf8)) in
    record {
      rest = (encode_utf8_all front, sym (encodes-chars text utf8) ∙ ap encode_utf8_all split ∙ encodes-append front end);
      utf8 = (end, (end_scalars, refl));
      characters = chars-encodes end end_scalars;
    }

module _ (byte char : ℕ → Bool)
    (ascii : (c : ℕ) → c < 128 → byte c ≡ char c)
    (high_byte : (b : ℕ) → nat_le 128 b ≡ true → byte b ≡ true)
    (high_char : (c : ℕ) → 128 ≤ c → scalar c ≡ true → char c ≡ true) where
  -- bytes beyond ASCII are all members
  high_bytes : (bytes : List ℕ) → list_all (λ b. nat_le 128 b) bytes ≡ true → list_all byte bytes ≡ true
  high_bytes [] all = refl
  high_bytes (b ∷ bs) all =
      let (first, others) = and_parts (nat_le 128 b) (list_all (λ b. nat_le 128 b) bs) all in
      both_true (high_byte b first) (high_bytes bs others)

  -- one character of ASCII more
  ascii_step : (c : ℕ) (cs : List ℕ) → c < 128 → after_run byte (encode_utf8_all cs) ≡ encode_utf8_all (after_run char cs) → after_run byte (encode_utf8_all (c ∷ cs)) ≡ encode_utf8_all (after_run char (c ∷ cs))
  unfolding after_run
  ascii_step c cs small others =
      rw (encode_ascii c small, ascii c small)
      (elim (char c) as (λ b. (if b then after_run byte (encode_utf8_all cs) else c ∷ encode_utf8_all cs) ≡ encode_utf8_all (if b then after_run char cs else c ∷ cs)) [
        | true ↦ others
        | false ↦ rw (encode_ascii c small) refl
      ])

  -- one character beyond ASCII more
  high_step : (c : ℕ) (cs : List ℕ) → 128 ≤ c → scalar c ≡ true → after_run byte (encode_utf8_all cs) ≡ encode_utf8_all (after_run char cs) → after_run byte (encode_utf8_all (c ∷ cs)) ≡ encode_utf8_all (after_run char (c ∷ cs))
  unfolding after_run
  high_step c cs high is others =
      rw (high_char c high is) (after_run-append byte (encode c) (encode_utf8_all cs) (high_bytes (encode c) (encode_is_high c high)) ∙ others)

  -- a run ends in the bytes where it ends in the characters
  after_run-encode : (cs : List ℕ) → all_scalars cs ≡ true → after_run byte (encode_utf8_all cs) ≡ encode_utf8_all (after_run char cs)
  unfolding after_run
  after_run-encode [] scalars = refl
  after_run-encode (c ∷ cs) scalars =
      let (first, others) = and_parts (scalar c) (all_scalars cs) scalars in
      ⊎_elim (λ small. ascii_step c cs small (after_run-encode cs others)) (λ high. high_step c cs high first (after_run-encode cs others)) (cases_lt c 128)

  -- so in the bytes of any text of UTF-8
  pub byte_run-ends : (text : List ℕ) → IsUtf8 text → EndsWith text (after_run byte text) (after_run char (chars text))
  byte_run-ends text utf8 =
      let (run, all, split) = after_run-split char (chars text) in
      let walked : after_run byte text ≡ encode_utf8_all (after_run char (chars text)) =
      ap (after_run byte) (sym (encodes-chars text utf8)) ∙ after_run-encode (chars text) (scalars-chars text utf8) in
      rw walked (ends_with text run (after_run char (chars text)) utf8 split)

-- below 128 a byte is an IRICHAR where the character is
iri_ascii : (c : ℕ) → c < 128 → is_iri_byte c ≡ is_irichar c
unfolding is_iri_byte
iri_ascii c small = let below : nat_le 128 c ≡ false = grind (arith, nat_tests) in rw below refl

-- each other byte is one of an IRICHAR
iri_high_byte : (b : ℕ) → nat_le 128 b ≡ true → is_iri_byte b ≡ true
unfolding is_iri_byte
iri_high_byte b high = rw high refl

-- each character beyond ASCII is an IRICHAR
iri_high_char : (c : ℕ) → 128 ≤ c → scalar c ≡ true → is_irichar c ≡ true
unfolding is_irichar is_scalar
iri_high_char c high is = grind (arith, nat_tests)

-- a run of IRICHARs ends in the bytes where it ends in the characters
pub iri_bytes-ends : (text : List ℕ) → IsUtf8 text → EndsWith text (after_run is_iri_byte text) (after_run is_irichar (chars text))
iri_bytes-ends text utf8 = byte_run-ends is_iri_byte is_irichar iri_ascii iri_high_byte iri_high_char text utf8

-- below 128 a byte stands for itself where the character does
raw_ascii : (c : ℕ) → c < 128 → is_raw_byte c ≡ is_raw_char c
unfolding is_raw_byte is_raw_char is_scalar
raw_ascii c small = grind (arith, nat_tests)

-- each other byte stands for itself
raw_high_byte : (b : ℕ) → nat_le 128 b ≡ true → is_raw_byte b ≡ true
unfolding is_raw_byte
raw_high_byte b high = rw high refl

-- each character beyond ASCII stands for itself
raw_high_char : (c : ℕ) → 128 ≤ c → scalar c ≡ true → is_raw_char c ≡ true
unfolding is_raw_char
raw_high_char c high is =
    rw (is_scalar-scalar c, is)
    (elim (escape_letter c) as (λ r. escape_letter c ≡ r → is_none r ≡ true) [
      | None ↦ λ e. refl
      | Some letter ↦ λ e. absurd (omega (arith, escaped_is_ascii c letter e))
    ] refl)

-- a run of such characters ends in the bytes where it ends in the characters
pub raw_bytes-ends : (text : List ℕ) → IsUtf8 text → EndsWith text (after_run is_raw_byte text) (after_run is_raw_char (chars text))
raw_bytes-ends text utf8 = byte_run-ends is_raw_byte is_raw_char raw_ascii raw_high_byte raw_high_char text utf8

-- a block of members belongs to the run
pub block_passed : (p : ℕ → Bool) (n : ℕ) (rest block after : List ℕ) → block ≡ take n rest → after ≡ drop n rest → list_all p block ≡ true → after_run p after ≡ after_run p rest
block_passed p n rest block after front back all =
    let whole : block ++ after ≡ rest = rw (front, back) (take-append-drop n rest) in
    sym (after_run-append p block after all) ∙ ap (after_run p) whole

-- a byte of a character beyond ASCII is no letter of an escape
no_letter-high : (bytes rest : List ℕ) → 0 < length bytes → list_all (λ b. nat_le 128 b) bytes ≡ true → after_escape (bytes ++ rest) ≡ None
no_letter-high [] rest long all = absurd (omega arith)
no_letter-high (b ∷ bs) rest long all =
    let (first, others) = and_parts (nat_le 128 b) (list_all (λ b. nat_le 128 b) bs) all in
    let beyond : 128 ≤ b = grind (arith, nat_tests) in
    elim (is_escape_letter b) as (λ v. is_escape_letter b ≡ v → (if v then Some (bs ++ rest) else None) ≡ None) [
      | true ↦ λ e. absurd (omega (arith, letter_is_ascii b e))
      | false ↦ λ e. refl
    ] refl

-- where no letter of an escape is first among the characters, none is first among the bytes
escape_stuck : (cs : List ℕ) → after_escape cs ≡ None → after_escape (encode_utf8_all cs) ≡ None
escape_stuck [] none = none
escape_stuck (c ∷ cs) none =
    ⊎_elim
    (λ small. rw (encode_ascii c small)
    (elim (is_escape_letter c) as (λ v. (if v then Some cs else None) ≡ None → (if v then Some (encode_utf8_all cs) else None) ≡ None) [
      | true ↦ λ h. absurd (cc)
      | false ↦ λ h. refl
    ] none))
    (λ high. no_letter-high (encode c) (encode_utf8_all cs) (omega (arith, length-encode c, len_utf8_bounds c)) (encode_is_high c high))
    (cases_lt c 128)

-- where no spelling begins among the characters, none begins among the bytes
stuck_bytes : (cs : List ℕ) → after_spelling cs ≡ None → after_spelling (encode_utf8_all cs) ≡ None
unfolding after_spelling
stuck_bytes [] none = none
stuck_bytes (c ∷ cs) none =
    elim (c == 92) as (λ b. (c == 92) ≡ b → (if b then after_escape cs else (if is_none (escape_letter c) then Some cs else None)) ≡ None → after_spelling (encode c ++ encode_utf8_all cs) ≡ None) [
      | true ↦ λ f h. let same = eqb-true c 92 f in rw (same, encode_ascii 92 (omega arith)) (escape_stuck cs h)
      | false ↦ λ f h.
          elim (escape_letter c) as (λ r. escape_letter c ≡ r → (if is_none r then Some cs else None) ≡ None → after_spelling (encode c ++ encode_utf8_all cs) ≡ None) [
            | None ↦ λ e k. absurd (cc)
            | Some letter ↦ λ e k. rw (encode_ascii c (escaped_is_ascii c letter e), f, e) refl
          ] refl h
    ] refl none

-- spelled characters end in the bytes where they end in the characters
pub after_spelled_bytes-ends : (text : List ℕ) → IsUtf8 text → EndsWith text (after_pieces after_spelling text) (after_pieces after_spelling (chars text))
after_spelled_bytes-ends text utf8 =
    let end = after_pieces after_spelling (chars text) in
    let (lexical, split) = spellings-split (chars text) in
    let bytes : text ≡ escaped (encode_utf8_all lexical) ++ encode_utf8_all end =
    sym (encodes-chars text utf8) ∙ ap encode_utf8_all split ∙ encodes-append (escaped lexical) end ∙ ap (λ xs. xs ++ encode_utf8_all end) (encode-escaped lexical) in
    let walked : after_pieces after_spelling text ≡ encode_utf8_all end =
    ap (after_pieces after_spelling) bytes ∙ after_spellings-escaped (encode_utf8_all lexical) (encode_utf8_all end)
    ∙ after_spellings-none (encode_utf8_all end) (stuck_bytes end (stuck IsSpelling after_spelling after_spelling-forward (chars text))) in
    rw walked (ends_with text (escaped lexical) end utf8 split)
