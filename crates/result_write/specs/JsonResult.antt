-- Results as JSON. SPARQL 1.1 Query Results JSON Format, sections 3.1 and 3.2. There is no white space, a line feed ends
-- the text, and the members of an object stand in ascending byte order of their names.
use Rattle.std.specs.Prelude.{◌≡◌, ℕ, false, List, [], ◌∷◌, ◌++◌, map, codes, Option, None, slice_index_or}
use Rattle.std.specs.List.{enumerate_from, filter_map}
use Rattle.std.specs.Option.{option_map}
use Rattle.std.specs.declared.cmp.Ordering.{Ordering}
use Rattle.std.specs.Ordering.{nat_cmp, ordering_then, is_lt}
use Rattle.std.specs.Cmp.Lexicographic.{slice_cmp}
use Rattle.std.specs.Str.{encode_utf8_all}
use Rattle.rdf_text.specs.Marks.{line_feed}
use Rattle.bm_term.specs.Canonical.{RdfTerm, iri, blank, plain, tagged, typed}
use Rattle.alg_model.specs.Row.{Row}
use Rattle.alg_model.specs.Query.{AbstractQuery}
use Rattle.alg_model.specs.Answers.{in_order}
use Rattle.result_write.specs.Json.{Member, json_string, json_object, json_array}
use Rattle.result_write.specs.Columns.{column_names}
use Rattle.result_write.specs.TermText.{term_with_text}

-- the members of a term's object, in order: names and values, all of them strings (section 3.2.2)
abbrev pub term_members : RdfTerm → List (List ℕ × List ℕ)
term_members (iri chars) = (codes "type", codes "uri") ∷ (codes "value", chars) ∷ []
term_members (blank label) = (codes "type", codes "bnode") ∷ (codes "value", label) ∷ []
term_members (plain lexical) = (codes "type", codes "literal") ∷ (codes "value", lexical) ∷ []
term_members (tagged lexical tag) =
    (codes "type", codes "literal") ∷ (codes "value", lexical) ∷ (codes "xml:lang", tag) ∷ []
term_members (typed lexical datatype) =
    (codes "datatype", datatype) ∷ (codes "type", codes "literal") ∷ (codes "value", lexical) ∷ []

-- a member whose value is a string
abbrev pub string_member : List ℕ × List ℕ → Member
string_member member = (member.0, json_string member.1)

-- the object of a term, by its characters
abbrev pub term_json : RdfTerm → List ℕ
term_json term = json_object (map string_member (term_members term))

-- the object of the term with this text, as bytes
unfoldable pub cell_json : List ℕ → List ℕ
cell_json text = encode_utf8_all (term_json (term_with_text text))

-- Columns, each with its name and its place. They are ordered by the bytes of their names, and then by their places.
abbrev pub column_cmp : List ℕ × ℕ → List ℕ × ℕ → Ordering
column_cmp c d = ordering_then (slice_cmp nat_cmp c.0 d.0) (nat_cmp c.1 d.1)

abbrev pub columns_of : List (List ℕ) → List (List ℕ × ℕ)
columns_of names = map (λ column. (column.1, column.0)) (enumerate_from 0 names)

unfoldable pub columns_by_name : List (List ℕ) → List (List ℕ × ℕ)
columns_by_name names = in_order column_cmp (columns_of names)

-- the member of a column, where the row binds it
abbrev pub bound_member : Row (List ℕ) → List ℕ × ℕ → Option Member
bound_member row column = option_map (λ text. (column.0, cell_json text)) (slice_index_or row column.1 None)

-- the members of a row: one for each column that is bound, in ascending order of the names (section 3.2.1)
abbrev pub row_members : List (List ℕ) → Row (List ℕ) → List Member
row_members names row = filter_map (bound_member row) (columns_by_name names)

-- the same in the order of the columns, for the law that no other member is there
abbrev pub bound_members : List (List ℕ) → Row (List ℕ) → List Member
bound_members names row = filter_map (bound_member row) (columns_of names)

-- a member's name does not come before that of an earlier one
abbrev pub IsNotBefore : Member → Member → Type 0
IsNotBefore earlier later = is_lt (slice_cmp nat_cmp later.0 earlier.0) ≡ false

unfoldable pub row_json : List (List ℕ) → Row (List ℕ) → List ℕ
row_json names row = json_object (row_members names row)

-- the head has the names, and the results have the rows
abbrev pub head_json : List (List ℕ) → List ℕ
head_json names = json_object ((codes "vars", json_array (map json_string names)) ∷ [])

abbrev pub results_json : List (List ℕ) → List (Row (List ℕ)) → List ℕ
results_json names rows = json_object ((codes "bindings", json_array (map (row_json names) rows)) ∷ [])

abbrev pub document_json : List (List ℕ) → List (Row (List ℕ)) → List ℕ
document_json names rows =
    json_object ((codes "head", head_json names) ∷ (codes "results", results_json names rows) ∷ [])

unfoldable pub json_text : AbstractQuery → List (Row (List ℕ)) → List ℕ
json_text query rows = document_json (column_names query) rows ++ line_feed ∷ []
