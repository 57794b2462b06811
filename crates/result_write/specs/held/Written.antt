-- Carries proofs only: the data that are sent to the writer of JSON, and their texts.
use Rattle.std.specs.Prelude.{ℕ, Bool, true, false, List, [], ◌∷◌, codes}
use Rattle.std.specs.Str.{encode_utf8_all}
use Rattle.serde.specs.Event as event
use Rattle.serde.specs.Event.{Log, Logs, field_key}
use Rattle.serde.specs.declared.name.Case.TheVariants.{AsIs}
use Rattle.serde_json.specs.Data.{Data, string, object, Items, no_items, item, Members, no_members, member}
use Rattle.serde_json.specs.Written.{compact_text}
use Rattle.bm_term.specs.declared.term_parts.TermKind.{TermKind}
use Rattle.bm_term.specs.declared.term_parts.TermKind.TheVariants.{Iri, Blank, Plain, Tagged, Typed}
use Rattle.bm_term.specs.Canonical.{RdfTerm, iri, blank, plain, tagged, typed, kind_of, tail_of}
use Rattle.result_write.specs.Json.{Member}
use Rattle.result_write.specs.TermText.{term_with_text}

-- members as data, all of them strings
abbrev pub strings_data : List (List ℕ × List ℕ) → Members
strings_data [] = no_members
strings_data (m ∷ ms) = member m.0 (string m.1) (strings_data ms)

-- names as data
abbrev pub names_data : List (List ℕ) → Items
names_data [] = no_items
names_data (name ∷ names) = item (string name) (names_data names)

abbrev pub strings_object : List (List ℕ × List ℕ) → Data
strings_object members = object (strings_data members)

abbrev pub is_literal : TermKind → Bool
is_literal Iri = false
is_literal Blank = false
is_literal Plain = true
is_literal Tagged = true
is_literal Typed = true

-- the object of a term, by its kind, its value (the IRI, the label or the lexical form) and its tail
abbrev pub kind_members : TermKind → List ℕ → List ℕ → List (List ℕ × List ℕ)
kind_members Iri value tail = (codes "type", codes "uri") ∷ (codes "value", value) ∷ []
kind_members Blank value tail = (codes "type", codes "bnode") ∷ (codes "value", value) ∷ []
kind_members Plain value tail = (codes "type", codes "literal") ∷ (codes "value", value) ∷ []
kind_members Tagged value tail = (codes "type", codes "literal") ∷ (codes "value", value) ∷ (codes "xml:lang", tail) ∷ []
kind_members Typed value tail = (codes "datatype", tail) ∷ (codes "type", codes "literal") ∷ (codes "value", value) ∷ []

abbrev pub kind_data : TermKind → List ℕ → List ℕ → Data
kind_data kind value tail = strings_object (kind_members kind value tail)

-- the value of a term: the IRI, the label or the lexical form
abbrev pub value_of : RdfTerm → List ℕ
value_of (iri cs) = cs
value_of (blank label) = label
value_of (plain lexical) = lexical
value_of (tagged lexical tag) = lexical
value_of (typed lexical datatype) = lexical

-- the object of a term, by the bytes of its parts
abbrev pub term_data : RdfTerm → Data
term_data term = kind_data (kind_of term) (encode_utf8_all (value_of term)) (encode_utf8_all (tail_of term))

unfoldable pub cell_data : List ℕ → Data
cell_data text = term_data (term_with_text text)

-- a member whose value is a string is sent
pub record SendsString (name value : List ℕ) (old new : Log) : Type 0 where
  pub named : Log
  pub key : Logs old named (field_key name AsIs)
  pub string : Logs named new (event.text value)

-- the texts of items, and of members beside their names
abbrev pub item_texts : Items → List (List ℕ)
item_texts no_items = []
item_texts (item d ds) = compact_text d ∷ item_texts ds

abbrev pub member_texts : Members → List Member
member_texts no_members = []
member_texts (member k d ms) = (k, compact_text d) ∷ member_texts ms
