-- What was escaped is got back.
use Rattle.std.proofs.Common.{◌≡◌, ℕ, ◌<◌, ◌≤◌, ◌+◌, ◌/◌, ◌%◌, Bool, true, false, cond, nat_le, ◌==◌, if◌then◌else◌, Option, Some, None, List, [], ◌∷◌, ◌++◌, length, refl, ap, ◌∙◌, sym, arith, append-nil, ⊎_elim}
use Rattle.std.proofs.lemmas.Bool.{and_parts, cases_lt}
use Rattle.std.proofs.lemmas.Bool.Decides.{nat_tests}
use Rattle.std.specs.Cmp.Derive.{both_true}
use Rattle.std.specs.List.{list_all}
use Rattle.std.specs.Option.{option_map}
use Rattle.std.proofs.lemmas.Option.{same_Some, some_pair_parts}
use Rattle.std.proofs.lemmas.Str.{encodes-append, encode_ascii}
use Rattle.std.proofs.lemmas.List.Concat.{flat_map-append}
use lib.Utf8.{encode, next}
use lib.Dec.{ltb}
use Rattle.rdf_text.proofs.Spellings.{raw_is_no_backslash, escaped_is_ascii, letter_is_ascii, escape_letter-into}
use Rattle.std.specs.Str.{encode_utf8_all}
use Rattle.rdf_text.specs.Spelling.{echar_value, escape_letter, spelled_by, spelling, escaped, escaped_value, unescaped, SpellsForm}
use Rattle.rdf_text.specs.scanning.Spelling.{first_unescaped}

-- character by character
pub unescaped-first : (text rest : List ℕ) (c : ℕ) → first_unescaped text ≡ Some (c, rest) → unescaped text ≡ c ∷ unescaped rest
unfolding unescaped first_unescaped
unescaped-first [] rest c e = absurd (cc)
unescaped-first (b ∷ []) rest c e = let (first, others) = some_pair_parts b c [] rest e in rw (first, ← others) refl
unescaped-first (b ∷ letter ∷ ls) rest c e =
    elim (b == 92) as (λ v. ◌≡◌ {A = Option (ℕ × List ℕ)} (if v then Some (escaped_value letter, ls) else Some (b, letter ∷ ls)) (Some (c, rest)) → (if v then escaped_value letter ∷ unescaped ls else b ∷ unescaped (letter ∷ ls)) ≡ c ∷ unescaped rest) [
      | true ↦ λ h. let (first, others) = some_pair_parts (escaped_value letter) c ls rest h in cc
      | false ↦ λ h. let (first, others) = some_pair_parts b c (letter ∷ ls) rest h in rw (first, ← others) refl
    ] e

-- a step goes forward
pub first_unescaped-forward : (text rest : List ℕ) (c : ℕ) → first_unescaped text ≡ Some (c, rest) → length rest < length text
unfolding first_unescaped
first_unescaped-forward [] rest c e = absurd (cc)
first_unescaped-forward (b ∷ []) rest c e = let (first, others) = some_pair_parts b c [] rest e in rw (← others) (omega arith)
first_unescaped-forward (b ∷ letter ∷ ls) rest c e =
    elim (b == 92) as (λ v. ◌≡◌ {A = Option (ℕ × List ℕ)} (if v then Some (escaped_value letter, ls) else Some (b, letter ∷ ls)) (Some (c, rest)) → length rest < length (b ∷ letter ∷ ls)) [
      | true ↦ λ h. let (first, others) = some_pair_parts (escaped_value letter) c ls rest h in rw (← others) (omega arith)
      | false ↦ λ h. let (first, others) = some_pair_parts b c (letter ∷ ls) rest h in rw (← others) (omega arith)
    ] e

-- nothing is first only in an empty text
pub first_unescaped-none : (text : List ℕ) → first_unescaped text ≡ None → text ≡ []
unfolding first_unescaped
first_unescaped-none [] e = refl
first_unescaped-none (b ∷ []) e = absurd (cc)
first_unescaped-none (b ∷ letter ∷ ls) e =
    elim (b == 92) as (λ v. ◌≡◌ {A = Option (ℕ × List ℕ)} (if v then Some (escaped_value letter, ls) else Some (b, letter ∷ ls)) None → (b ∷ letter ∷ ls) ≡ []) [
      | true ↦ λ h. absurd (cc)
      | false ↦ λ h. absurd (cc)
    ] e

-- nothing is got from nothing
pub unescaped-nil : unescaped [] ≡ []
unfolding unescaped
unescaped-nil = refl

pub ruleset unescaping = (unescaped-first, first_unescaped-forward, first_unescaped-none, unescaped-nil)

-- a letter of an escape stands for the character that has it
escaped_value-letter : (c letter : ℕ) → escape_letter c ≡ Some letter → escaped_value letter ≡ c
unfolding escape_letter escaped_value echar_value
escaped_value-letter c letter e = grind (arith, nat_tests)

-- a character other than the backslash stands for itself
unescaped-raw : (c : ℕ) (rest : List ℕ) → (c == 92) ≡ false → unescaped (c ∷ rest) ≡ c ∷ unescaped rest
unfolding unescaped
unescaped-raw c [] e = refl
unescaped-raw c (letter ∷ ls) e = rw e refl

-- each character's spelling is replaced by the character
unescaped-spelling : (c : ℕ) (rest : List ℕ) → unescaped (spelling c ++ rest) ≡ c ∷ unescaped rest
unfolding unescaped
unescaped-spelling c rest =
    elim (escape_letter c) as (λ r. escape_letter c ≡ r → unescaped (spelled_by c r ++ rest) ≡ c ∷ unescaped rest) [
      | None ↦ λ e. unescaped-raw c rest (raw_is_no_backslash c e)
      | Some letter ↦ λ e. ap (λ x. x ∷ unescaped rest) (escaped_value-letter c letter e)
    ] refl

-- what was escaped is got back
pub unescaped-escaped : (lexical : List ℕ) → unescaped (escaped lexical) ≡ lexical
unfolding unescaped
unescaped-escaped [] = refl
unescaped-escaped (c ∷ cs) = unescaped-spelling c (escaped cs) ∙ ap (λ xs. c ∷ xs) (unescaped-escaped cs)

-- a byte of a character beyond ASCII stands for itself
spelling-high : (b : ℕ) → 128 ≤ b → spelling b ≡ b ∷ []
spelling-high b high =
    elim (escape_letter b) as (λ r. escape_letter b ≡ r → spelled_by b r ≡ b ∷ []) [
      | None ↦ λ e. refl
      | Some letter ↦ λ e. absurd (omega (arith, escaped_is_ascii b letter e))
    ] refl

-- bytes beyond ASCII are spelled raw
escaped-high : (bytes : List ℕ) → list_all (λ b. nat_le 128 b) bytes ≡ true → escaped bytes ≡ bytes
escaped-high [] all = refl
escaped-high (b ∷ bs) all =
    let (first, others) = and_parts (nat_le 128 b) (list_all (λ b. nat_le 128 b) bs) all in
    rw (spelling-high b (grind (arith, nat_tests)), escaped-high bs others) refl

-- a number from 128 on stays so
high_sum : (n k : ℕ) → 128 ≤ n → nat_le 128 (n + k) ≡ true
high_sum n k high = grind (arith, nat_tests)

-- a byte after the first of a character is beyond ASCII
high_next : (bits : ℕ) → nat_le 128 (next bits) ≡ true
high_next bits = high_sum 128 (bits % 64) (omega arith)

-- both of two texts are beyond ASCII
either_high : (v : Bool) (xs ys : List ℕ) → list_all (λ b. nat_le 128 b) xs ≡ true → list_all (λ b. nat_le 128 b) ys ≡ true → list_all (λ b. nat_le 128 b) (cond v xs ys) ≡ true
either_high true xs ys first second = first
either_high false xs ys first second = second

-- all bytes of such a character are beyond ASCII
pub encode_is_high : (c : ℕ) → 128 ≤ c → list_all (λ b. nat_le 128 b) (encode c) ≡ true
unfolding encode
encode_is_high c high =
    let beyond : ltb c 128 ≡ false = grind (arith, nat_tests) in
    rw beyond
    (either_high (ltb c 2048) ((192 + c / 64) ∷ next c ∷ []) (cond (ltb c 65536) ((224 + c / 4096) ∷ next (c / 64) ∷ next c ∷ []) ((240 + c / 262144) ∷ next (c / 4096) ∷ next (c / 64) ∷ next c ∷ []))
    (both_true (high_sum 192 (c / 64) (omega arith)) (both_true (high_next c) refl))
    (either_high (ltb c 65536) ((224 + c / 4096) ∷ next (c / 64) ∷ next c ∷ []) ((240 + c / 262144) ∷ next (c / 4096) ∷ next (c / 64) ∷ next c ∷ [])
    (both_true (high_sum 224 (c / 4096) (omega arith)) (both_true (high_next (c / 64)) (both_true (high_next c) refl)))
    (both_true (high_sum 240 (c / 262144) (omega arith)) (both_true (high_next (c / 4096)) (both_true (high_next (c / 64)) (both_true (high_next c) refl))))))

-- escapes are ASCII, so escaping the characters is escaping their bytes
raw_ascii : (c : ℕ) → c < 128 → escape_letter c ≡ None → encode_utf8_all (c ∷ []) ≡ escaped (encode c)
raw_ascii c small e = rw (encode_ascii c small, e) refl

-- the bytes of a character beyond ASCII are their own spelling
raw_high : (c : ℕ) → 128 ≤ c → encode_utf8_all (c ∷ []) ≡ escaped (encode c)
raw_high c high = append-nil (encode c) ∙ sym (escaped-high (encode c) (encode_is_high c high))

-- the bytes of a spelling are the spelled bytes
encode-spelling : (c : ℕ) → encode_utf8_all (spelling c) ≡ escaped (encode c)
encode-spelling c =
    elim (escape_letter c) as (λ r. escape_letter c ≡ r → encode_utf8_all (spelled_by c r) ≡ escaped (encode c)) [
      | None ↦ λ e. ⊎_elim (λ h. raw_ascii c h e) (λ h. raw_high c h) (cases_lt c 128)
      | Some letter ↦ λ e.
          let small = escaped_is_ascii c letter e in
          let letter_small = letter_is_ascii letter (escape_letter-into c letter e) in
          rw (encode_ascii c small, e, encode_ascii 92 (omega arith), encode_ascii letter letter_small) refl
    ] refl

-- so for all characters of a text
pub encode-escaped : (lexical : List ℕ) → encode_utf8_all (escaped lexical) ≡ escaped (encode_utf8_all lexical)
encode-escaped [] = refl
encode-escaped (c ∷ cs) =
    encodes-append (spelling c) (escaped cs)
    ∙ ap (λ xs. xs ++ encode_utf8_all (escaped cs)) (encode-spelling c)
    ∙ ap (λ xs. escaped (encode c) ++ xs) (encode-escaped cs)
    ∙ sym (flat_map-append spelling (encode c) (encode_utf8_all cs))

-- what a body spells is got back from it
pub unescaped-body : (body lexical : List ℕ) → SpellsForm body lexical → unescaped body ≡ encode_utf8_all lexical
unescaped-body body lexical spells =
    ap unescaped (spells.spelled ∙ encode-escaped lexical) ∙ unescaped-escaped (encode_utf8_all lexical)

-- the bytes of an escape
pub encode-escape : (c : ℕ) (text : List ℕ) → Some text ≡ option_map (λ letter. 92 ∷ letter ∷ []) (escape_letter c) → encode_utf8_all (spelling c) ≡ text
encode-escape c text e =
    elim (escape_letter c) as (λ r. escape_letter c ≡ r → Some text ≡ option_map (λ letter. 92 ∷ letter ∷ []) r → encode_utf8_all (spelled_by c r) ≡ text) [
      | None ↦ λ raw h. absurd (cc)
      | Some letter ↦ λ found h.
          let letter_small = letter_is_ascii letter (escape_letter-into c letter found) in
          let same : text ≡ 92 ∷ letter ∷ [] = same_Some text (92 ∷ letter ∷ []) h in
          rw (encode_ascii 92 (omega arith), encode_ascii letter letter_small) (sym same)
    ] refl e
