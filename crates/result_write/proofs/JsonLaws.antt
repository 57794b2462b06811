-- What the writer of JSON writes is JSON by the definitions.
use Rattle.std.proofs.Common.{◌≡◌, ℕ, true, false, ◌==◌, List, [], ◌∷◌, ◌++◌, map, refl, sym, ◌∙◌, ap, append_assoc}
use Rattle.std.proofs.lemmas.Bool.{eqb-true}
use Rattle.std.specs.List.{flat_map, join_with_byte}
use Rattle.json.specs.Print.{escape_byte, escape, quoted}
use Rattle.serde_json.specs.Data.{object, array, Items, no_items, item, Members, no_members, member}
use Rattle.serde_json.specs.Written.{compact_text, items_text, members_text}
use Rattle.result_write.specs.Json.{comma, short_escape, json_spelling, json_string, member_text, json_object, json_array}
use Rattle.result_write.specs.held.Written.{item_texts, member_texts}

-- a byte is escaped as the definition spells it
escape_byte-spelling : (c : ℕ) → escape_byte c ≡ json_spelling c
unfolding escape_byte short_escape
escape_byte-spelling c =
    elim (c == 0x22) as (λ b. (c == 0x22) ≡ b → escape_byte c ≡ json_spelling c) [
      | true ↦ λ e. rw (eqb-true c 0x22 e) refl
      | false ↦ λ a1. elim (c == 0x5C) as (λ b. (c == 0x5C) ≡ b → escape_byte c ≡ json_spelling c) [
        | true ↦ λ e. rw (eqb-true c 0x5C e) refl
        | false ↦ λ a2. elim (c == 0x8) as (λ b. (c == 0x8) ≡ b → escape_byte c ≡ json_spelling c) [
          | true ↦ λ e. rw (eqb-true c 0x8 e) refl
          | false ↦ λ a3. elim (c == 0x9) as (λ b. (c == 0x9) ≡ b → escape_byte c ≡ json_spelling c) [
            | true ↦ λ e. rw (eqb-true c 0x9 e) refl
            | false ↦ λ a4. elim (c == 0xA) as (λ b. (c == 0xA) ≡ b → escape_byte c ≡ json_spelling c) [
              | true ↦ λ e. rw (eqb-true c 0xA e) refl
              | false ↦ λ a5. elim (c == 0xC) as (λ b. (c == 0xC) ≡ b → escape_byte c ≡ json_spelling c) [
                | true ↦ λ e. rw (eqb-true c 0xC e) refl
                | false ↦ λ a6. elim (c == 0xD) as (λ b. (c == 0xD) ≡ b → escape_byte c ≡ json_spelling c) [
                  | true ↦ λ e. rw (eqb-true c 0xD e) refl
                  | false ↦ λ a7. rw (a1, a2, a3, a4, a5, a6, a7) refl
                ] refl
              ] refl
            ] refl
          ] refl
        ] refl
      ] refl
    ] refl

-- so is a text
escape-spelling : (text : List ℕ) → escape text ≡ flat_map json_spelling text
escape-spelling [] = refl
escape-spelling (c ∷ cs) = ap (λ front. front ++ escape cs) (escape_byte-spelling c) ∙ ap (λ rest. json_spelling c ++ rest) (escape-spelling cs)

-- a quoted text is a string
pub quoted-string : (text : List ℕ) → quoted text ≡ json_string text
quoted-string text = ap (λ spelled. 0x22 ∷ (spelled ++ 0x22 ∷ [])) (escape-spelling text)

-- a member, as it is written, and what follows it
member-written : (k text rest : List ℕ) → quoted k ++ 58 ∷ (text ++ rest) ≡ member_text (k, text) ++ rest
member-written k text rest =
    ap (λ name. name ++ 58 ∷ (text ++ rest)) (quoted-string k) ∙ sym (append_assoc (json_string k) (58 ∷ text) rest)

-- members behind the first
members_behind : (ms : Members) (first : List ℕ) → first ++ members_text true ms ≡ join_with_byte comma (first ∷ map member_text (member_texts ms)) ++ 0x7D ∷ []
members_behind no_members first = refl
members_behind (member k d ms) first =
    ap (λ rest. first ++ (comma ∷ rest)) (member-written k (compact_text d) (members_text true ms) ∙ members_behind ms (member_text (k, compact_text d)))
    ∙ sym (append_assoc first (comma ∷ join_with_byte comma (member_text (k, compact_text d) ∷ map member_text (member_texts ms))) (0x7D ∷ []))

-- the text of an object
pub compact-object : (ms : Members) → compact_text (object ms) ≡ json_object (member_texts ms)
compact-object no_members = refl
compact-object (member k d ms) =
    ap (λ rest. 0x7B ∷ rest) (member-written k (compact_text d) (members_text true ms) ∙ members_behind ms (member_text (k, compact_text d)))

-- items behind the first
items_behind : (ds : Items) (first : List ℕ) → first ++ items_text true ds ≡ join_with_byte comma (first ∷ item_texts ds) ++ 0x5D ∷ []
items_behind no_items first = refl
items_behind (item d ds) first =
    ap (λ rest. first ++ (comma ∷ rest)) (items_behind ds (compact_text d))
    ∙ sym (append_assoc first (comma ∷ join_with_byte comma (compact_text d ∷ item_texts ds)) (0x5D ∷ []))

-- the text of an array
pub compact-array : (ds : Items) → compact_text (array ds) ≡ json_array (item_texts ds)
compact-array no_items = refl
compact-array (item d ds) = ap (λ rest. 0x5B ∷ rest) (items_behind ds (compact_text d))
