-- JSON of characters, and of their bytes: what is escaped is ASCII, so encoding goes through.
use Rattle.std.proofs.Common.{◌≡◌, ℕ, ◌<◌, ◌≤◌, true, nat_lt, nat_le, List, [], ◌∷◌, ◌++◌, map, ⊎_elim, refl, sym, ◌∙◌, ap, arith, append-nil}
use Rattle.std.proofs.lemmas.Bool.Decides.{nat_tests}
use Rattle.std.specs.List.{flat_map, join_with_byte, list_all}
use Rattle.std.proofs.lemmas.List.Concat.{flat_map-append}
use Rattle.std.specs.Str.{encode_utf8_all}
use Rattle.std.proofs.lemmas.Str.{encodes-append, encode_ascii, encodes-IsAscii}
use Rattle.std.proofs.lemmas.Bool.{and_parts, cases_lt}
use lib.Utf8.{encode}
use Rattle.rdf_text.proofs.TextLemmas.{IsAscii-list_all}
use Rattle.rdf_text.proofs.Unescaping.{encode_is_high}
use Rattle.serde_json.specs.Data.{object}
use Rattle.serde_json.specs.Written.{compact_text}
use Rattle.result_write.specs.Json.{comma, short_escape, json_spelling, json_string, Member, member_text, json_object}
use Rattle.result_write.specs.JsonResult.{string_member}
use Rattle.result_write.specs.held.Written.{strings_data, member_texts}
use Rattle.result_write.proofs.JsonLaws.{quoted-string, compact-object}

-- the spelling of an ASCII character is ASCII
ascii_spelling : (c : ℕ) → c < 128 → list_all (λ b. nat_lt b 128) (json_spelling c) ≡ true
unfolding short_escape
ascii_spelling c small = grind (arith, nat_tests)

-- other characters are raw
raw_spelling : (c : ℕ) → 128 ≤ c → json_spelling c ≡ c ∷ []
unfolding short_escape
raw_spelling c high = grind (arith, nat_tests)

-- so are their bytes
raw_bytes : (bytes : List ℕ) → list_all (λ b. nat_le 128 b) bytes ≡ true → flat_map json_spelling bytes ≡ bytes
raw_bytes [] all = refl
raw_bytes (b ∷ bs) all =
    let (first, others) = and_parts (nat_le 128 b) (list_all (λ b. nat_le 128 b) bs) all in
    rw (raw_spelling b (grind (arith, nat_tests)), raw_bytes bs others) refl

-- the bytes of a spelling are the spelled bytes
encode-spelling : (c : ℕ) → encode_utf8_all (json_spelling c) ≡ flat_map json_spelling (encode c)
encode-spelling c = ⊎_elim
    (λ small. encodes-IsAscii (json_spelling c) (IsAscii-list_all (json_spelling c) (ascii_spelling c small)) ∙ sym (append-nil (json_spelling c)) ∙ ap (flat_map json_spelling) (sym (encode_ascii c small)))
    (λ high. ap encode_utf8_all (raw_spelling c high) ∙ append-nil (encode c) ∙ sym (raw_bytes (encode c) (encode_is_high c high)))
    (cases_lt c 128)

-- so of a whole text
encode-spellings : (text : List ℕ) → encode_utf8_all (flat_map json_spelling text) ≡ flat_map json_spelling (encode_utf8_all text)
encode-spellings [] = refl
encode-spellings (c ∷ cs) =
    encodes-append (json_spelling c) (flat_map json_spelling cs)
    ∙ ap (λ xs. xs ++ encode_utf8_all (flat_map json_spelling cs)) (encode-spelling c)
    ∙ ap (λ xs. flat_map json_spelling (encode c) ++ xs) (encode-spellings cs)
    ∙ sym (flat_map-append json_spelling (encode c) (encode_utf8_all cs))

-- the bytes of a string are the string of the bytes
pub encode-string : (text : List ℕ) → encode_utf8_all (json_string text) ≡ json_string (encode_utf8_all text)
encode-string text =
    ap (λ xs. xs ++ encode_utf8_all (flat_map json_spelling text ++ 0x22 ∷ [])) (encode_ascii 0x22 (omega arith))
    ∙ ap (λ xs. 0x22 ∷ xs) (encodes-append (flat_map json_spelling text) (0x22 ∷ [])
    ∙ ap (λ xs. xs ++ encode_utf8_all (0x22 ∷ [])) (encode-spellings text)
    ∙ ap (λ xs. flat_map json_spelling (encode_utf8_all text) ++ xs) (encodes-IsAscii (0x22 ∷ []) (IsAscii-list_all (0x22 ∷ []) refl)))

-- a byte of ASCII in front
encode-front : (c : ℕ) → c < 128 → (text : List ℕ) → encode_utf8_all (c ∷ text) ≡ c ∷ encode_utf8_all text
encode-front c small text = ap (λ xs. xs ++ encode_utf8_all text) (encode_ascii c small)

-- the bytes of a member
abbrev pub encoded : List ℕ × List ℕ → List ℕ × List ℕ
encoded m = (encode_utf8_all m.0, encode_utf8_all m.1)

encode-member : (m : Member) → encode_utf8_all (member_text m) ≡ member_text (encoded m)
encode-member m =
    encodes-append (json_string m.0) (58 ∷ m.1)
    ∙ ap (λ xs. xs ++ encode_utf8_all (58 ∷ m.1)) (encode-string m.0)
    ∙ ap (λ xs. json_string (encode_utf8_all m.0) ++ xs) (encode-front 58 (omega arith) m.1)

encode-join : (ms : List Member) → encode_utf8_all (join_with_byte comma (map member_text ms)) ≡ join_with_byte comma (map member_text (map encoded ms))
encode-join [] = refl
encode-join (m ∷ []) = encode-member m
encode-join (m ∷ n ∷ ms) =
    encodes-append (member_text m) (comma ∷ join_with_byte comma (map member_text (n ∷ ms)))
    ∙ ap (λ xs. xs ++ encode_utf8_all (comma ∷ join_with_byte comma (map member_text (n ∷ ms)))) (encode-member m)
    ∙ ap (λ xs. member_text (encoded m) ++ xs) (encode-front comma (omega arith) (join_with_byte comma (map member_text (n ∷ ms))) ∙ ap (λ xs. comma ∷ xs) (encode-join (n ∷ ms)))

-- the bytes of an object are the object of the bytes
pub encode-object : (ms : List Member) → encode_utf8_all (json_object ms) ≡ json_object (map encoded ms)
encode-object ms =
    encode-front 0x7B (omega arith) (join_with_byte comma (map member_text ms) ++ 0x7D ∷ [])
    ∙ ap (λ xs. 0x7B ∷ xs) (encodes-append (join_with_byte comma (map member_text ms)) (0x7D ∷ [])
    ∙ ap (λ xs. xs ++ encode_utf8_all (0x7D ∷ [])) (encode-join ms)
    ∙ ap (λ xs. join_with_byte comma (map member_text (map encoded ms)) ++ xs) (encodes-IsAscii (0x7D ∷ []) (IsAscii-list_all (0x7D ∷ []) refl)))

-- what is written for strings, by their bytes
strings_texts : (ms : List (List ℕ × List ℕ)) → member_texts (strings_data (map encoded ms)) ≡ map encoded (map string_member ms)
strings_texts [] = refl
strings_texts (m ∷ ms) =
    ap (λ text. (encode_utf8_all m.0, text) ∷ member_texts (strings_data (map encoded ms))) (quoted-string (encode_utf8_all m.1) ∙ sym (encode-string m.1))
    ∙ ap (λ rest. encoded (string_member m) ∷ rest) (strings_texts ms)

-- the text of an object whose members are strings
pub strings-written : (ms : List (List ℕ × List ℕ)) → compact_text (object (strings_data (map encoded ms))) ≡ encode_utf8_all (json_object (map string_member ms))
strings-written ms =
    compact-object (strings_data (map encoded ms)) ∙ ap json_object (strings_texts ms) ∙ sym (encode-object (map string_member ms))
