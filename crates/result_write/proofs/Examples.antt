-- Worked examples of the definitions.
use Rattle.std.proofs.Common.{◌≡◌, [], ◌∷◌, refl}
use Rattle.std.specs.Prelude.{codes}
use Rattle.bm_term.specs.Canonical.{iri, blank, plain, tagged, typed}
use Rattle.result_write.specs.Json.{short_escape, json_string, json_object, json_array}
use Rattle.result_write.specs.JsonResult.{term_json, columns_by_name, document_json}

-- a quotation mark, a backslash, and the control characters 8, 9, A, C, D and 1F
escapes : json_string (0x61 ∷ 0x22 ∷ 0x5C ∷ 0x8 ∷ 0x9 ∷ 0xA ∷ 0xC ∷ 0xD ∷ 0x1F ∷ []) ≡ codes "\"a\\\"\\\\\\b\\t\\n\\f\\r\\u001f\""
unfolding short_escape
escapes = refl

-- other characters are raw
raw : json_string (0x2F ∷ 0x7F ∷ 0xE9 ∷ []) ≡ 0x22 ∷ 0x2F ∷ 0x7F ∷ 0xE9 ∷ 0x22 ∷ []
unfolding short_escape
raw = refl

-- two members, and none
members : json_object ((codes "a", codes "1") ∷ (codes "b", codes "[]") ∷ []) ≡ codes "{\"a\":1,\"b\":[]}"
unfolding short_escape
members = refl

no_items : json_array [] ≡ codes "[]"
no_items = refl

-- the objects of terms
object_of_iri : term_json (iri (codes "urn:a")) ≡ codes "{\"type\":\"uri\",\"value\":\"urn:a\"}"
unfolding short_escape
object_of_iri = refl

object_of_blank : term_json (blank (codes "b1")) ≡ codes "{\"type\":\"bnode\",\"value\":\"b1\"}"
unfolding short_escape
object_of_blank = refl

object_of_plain : term_json (plain (codes "a\"")) ≡ codes "{\"type\":\"literal\",\"value\":\"a\\\"\"}"
unfolding short_escape
object_of_plain = refl

object_of_tagged : term_json (tagged (codes "Ann") (codes "en")) ≡ codes "{\"type\":\"literal\",\"value\":\"Ann\",\"xml:lang\":\"en\"}"
unfolding short_escape
object_of_tagged = refl

object_of_typed : term_json (typed (codes "41") (codes "urn:int")) ≡ codes "{\"datatype\":\"urn:int\",\"type\":\"literal\",\"value\":\"41\"}"
unfolding short_escape
object_of_typed = refl

-- columns in the order of their names
three_columns : columns_by_name (codes "n" ∷ codes "age" ∷ codes "k" ∷ []) ≡ (codes "age", 1) ∷ (codes "k", 2) ∷ (codes "n", 0) ∷ []
unfolding columns_by_name
three_columns = refl

-- no rows
no_rows : document_json (codes "n" ∷ codes "a" ∷ []) [] ≡ codes "{\"head\":{\"vars\":[\"n\",\"a\"]},\"results\":{\"bindings\":[]}}"
unfolding short_escape
no_rows = refl
