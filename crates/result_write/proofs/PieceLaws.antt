-- The pieces of a text joined are the text, and what stands at each place.
use Rattle.std.proofs.Common.{◌≡◌, ℕ, zero, suc, ◌+◌, Bool, true, false, nat_lt, List, [], ◌∷◌, ◌++◌, codes, map, length, slice_index_or, Some, slice_get, refl, sym, ◌∙◌, ap, arith, append_assoc}
use Rattle.std.proofs.lemmas.Bool.Decides.{nat_tests}
use Rattle.std.specs.List.{concat, flat_map, join_with_byte}
use Rattle.std.proofs.lemmas.List.{append-nil, length-map}
use Rattle.alg_model.specs.declared.var.Var.{Var}
use Rattle.alg_model.specs.Query.{AbstractQuery}
use Rattle.alg_model.specs.Row.{Row}
use Rattle.result_write.specs.Columns.{name_of, column_names}
use Rattle.result_write.specs.Tsv.{question_mark, marked_name, tsv_line, tsv_header, tsv_row, tsv_text}
use Rattle.result_write.specs.Json.{comma, short_escape, json_string, json_array, json_object}
use Rattle.result_write.specs.JsonResult.{columns_by_name, row_json, json_text}
use Rattle.result_write.specs.held.TextPieces.{header_line, tsv_pieces, json_start, json_end, row_object, row_piece, row_pieces, json_pieces}

-- lines joined
concat-lines : (rows : List (Row (List ℕ))) → concat (map tsv_row rows) ≡ flat_map tsv_row rows
concat-lines [] = refl
concat-lines (row ∷ rows) = ap (λ rest. tsv_row row ++ rest) (concat-lines rows)

-- names, each with its mark
marked_names : (names : List (List ℕ)) (columns : List Var) → map (λ name. question_mark ∷ name) (map (name_of names) columns) ≡ map (marked_name names) columns
marked_names names [] = refl
marked_names names (column ∷ columns) = ap (λ rest. marked_name names column ∷ rest) (marked_names names columns)

-- the pieces of tab-separated values
pub tsv_pieces-are : (query : AbstractQuery) (rows : List (Row (List ℕ))) → concat (tsv_pieces (column_names query) rows) ≡ tsv_text query rows
tsv_pieces-are query rows =
    ap (λ marked. tsv_line marked ++ concat (map tsv_row rows)) (marked_names query.names query.columns)
    ∙ ap (λ lines. tsv_header query.names query.columns ++ lines) (concat-lines rows)

-- rows behind the first
rows_behind : (columns : List (List ℕ × ℕ)) (first : List ℕ) (rows : List (Row (List ℕ))) → first ++ concat (row_pieces columns true rows) ≡ join_with_byte comma (first ∷ map (row_object columns) rows) ++ json_end
rows_behind columns first [] = ap (λ text. first ++ text) (append-nil json_end)
rows_behind columns first (row ∷ rows) =
    ap (λ rest. first ++ comma ∷ rest) (rows_behind columns (row_object columns row) rows)
    ∙ sym (append_assoc first (comma ∷ join_with_byte comma (row_object columns row ∷ map (row_object columns) rows)) json_end)

rows_joined : (columns : List (List ℕ × ℕ)) (rows : List (Row (List ℕ))) → concat (row_pieces columns false rows) ≡ join_with_byte comma (map (row_object columns) rows) ++ json_end
rows_joined columns [] = append-nil json_end
rows_joined columns (row ∷ rows) = rows_behind columns (row_object columns row) rows

-- the document, as it is put together
regrouped : (names between joined : List ℕ) → (((names ++ 0x7D ∷ []) ++ comma ∷ (between ++ ((joined ++ 0x5D ∷ []) ++ 0x7D ∷ []))) ++ 0x7D ∷ []) ++ 0xA ∷ []
    ≡ (names ++ 0x7D ∷ comma ∷ between) ++ (joined ++ 0x5D ∷ 0x7D ∷ 0x7D ∷ 0xA ∷ [])
regrouped names between joined = simp append_assoc

document_is : (names joined : List ℕ) → json_object ((codes "head", json_object ((codes "vars", names) ∷ [])) ∷ (codes "results", json_object ((codes "bindings", 0x5B ∷ (joined ++ 0x5D ∷ [])) ∷ [])) ∷ []) ++ 0xA ∷ []
    ≡ (codes "{\"head\":{\"vars\":" ++ (names ++ codes "},\"results\":{\"bindings\":[")) ++ (joined ++ json_end)
unfolding short_escape
document_is names joined = ap (λ rest. codes "{\"head\":{\"vars\":" ++ rest) (regrouped names (codes "\"results\":{\"bindings\":[") joined)

-- the rows by the columns in the order of their names
same_rows : (names : List (List ℕ)) (rows : List (Row (List ℕ))) → map (row_object (columns_by_name names)) rows ≡ map (row_json names) rows
unfolding row_json
same_rows names rows = refl

-- the pieces of JSON
pub json_pieces-are : (query : AbstractQuery) (rows : List (Row (List ℕ))) → concat (json_pieces (column_names query) (columns_by_name (column_names query)) rows) ≡ json_text query rows
unfolding json_pieces json_text
json_pieces-are query rows =
    let names = column_names query in
    ap (λ rest. json_start names ++ rest) (rows_joined (columns_by_name names) rows ∙ ap (λ objects. join_with_byte comma objects ++ json_end) (same_rows names rows))
    ∙ sym (document_is (json_array (map json_string names)) (join_with_byte comma (map (row_json names) rows)))

-- how many pieces there are
length-row_pieces : (columns : List (List ℕ × ℕ)) (later : Bool) (rows : List (Row (List ℕ))) → length (row_pieces columns later rows) ≡ length rows + 1
length-row_pieces columns later [] = omega arith
length-row_pieces columns later (row ∷ rows) = omega (arith, length-row_pieces columns true rows)

pub length-json_pieces : (names : List (List ℕ)) (columns : List (List ℕ × ℕ)) (rows : List (Row (List ℕ))) → length (json_pieces names columns rows) ≡ length rows + 2
unfolding json_pieces
length-json_pieces names columns rows = omega (arith, length-row_pieces columns false rows)

pub length-tsv_pieces : (names : List (List ℕ)) (rows : List (Row (List ℕ))) → length (tsv_pieces names rows) ≡ length rows + 1
length-tsv_pieces names rows = omega (arith, length-map rows tsv_row)

-- what is at each place
pub json_first : (names : List (List ℕ)) (columns : List (List ℕ × ℕ)) (rows : List (Row (List ℕ))) (i : ℕ) → i ≡ 0 → slice_index_or (json_pieces names columns rows) i [] ≡ json_start names
unfolding json_pieces
json_first names columns rows i is = rw is refl

row_piece_at : (columns : List (List ℕ × ℕ)) (rows : List (Row (List ℕ))) (k : ℕ) (row : Row (List ℕ)) → slice_get rows k ≡ Some row → slice_index_or (row_pieces columns true rows) k [] ≡ comma ∷ row_object columns row
row_piece_at columns [] k row at = absurd (cc)
row_piece_at columns (r ∷ rows) zero row at = let same : r ≡ row = cc in ap (λ r. comma ∷ row_object columns r) same
row_piece_at columns (r ∷ rows) (suc k) row at = row_piece_at columns rows k row at

first_piece_at : (columns : List (List ℕ × ℕ)) (rows : List (Row (List ℕ))) (k : ℕ) (row : Row (List ℕ)) → slice_get rows k ≡ Some row → slice_index_or (row_pieces columns false rows) k [] ≡ row_piece (nat_lt 0 k) (row_object columns row)
first_piece_at columns [] k row at = absurd (cc)
first_piece_at columns (r ∷ rows) zero row at = let same : r ≡ row = cc in ap (row_object columns) same
first_piece_at columns (r ∷ rows) (suc k) row at =
    let later : nat_lt 0 (suc k) ≡ true = grind (arith, nat_tests) in rw later (row_piece_at columns rows k row at)

pub json_row_at : (names : List (List ℕ)) (columns : List (List ℕ × ℕ)) (rows : List (Row (List ℕ))) (i k : ℕ) (row : Row (List ℕ)) → i ≡ k + 1 → slice_get rows k ≡ Some row → slice_index_or (json_pieces names columns rows) i [] ≡ row_piece (nat_lt 0 k) (row_object columns row)
unfolding json_pieces
json_row_at names columns rows i k row is at = rw (is, add_one k) (first_piece_at columns rows k row at)
  where
    add_one : (k : ℕ) → k + 1 ≡ suc k
    add_one k = omega arith

last_at : (columns : List (List ℕ × ℕ)) (later : Bool) (rows : List (Row (List ℕ))) → slice_index_or (row_pieces columns later rows) (length rows) [] ≡ json_end
last_at columns later [] = refl
last_at columns later (row ∷ rows) = last_at columns true rows

pub json_last : (names : List (List ℕ)) (columns : List (List ℕ × ℕ)) (rows : List (Row (List ℕ))) (i : ℕ) → i ≡ length rows + 1 → slice_index_or (json_pieces names columns rows) i [] ≡ json_end
unfolding json_pieces
json_last names columns rows i is = rw (is, add_one (length rows)) (last_at columns false rows)
  where
    add_one : (k : ℕ) → k + 1 ≡ suc k
    add_one k = omega arith

pub tsv_first : (names : List (List ℕ)) (rows : List (Row (List ℕ))) (i : ℕ) → i ≡ 0 → slice_index_or (tsv_pieces names rows) i [] ≡ header_line names
tsv_first names rows i is = rw is refl

tsv_row_of : (rows : List (Row (List ℕ))) (k : ℕ) (row : Row (List ℕ)) → slice_get rows k ≡ Some row → slice_index_or (map tsv_row rows) k [] ≡ tsv_row row
tsv_row_of [] k row at = absurd (cc)
tsv_row_of (r ∷ rows) zero row at = let same : r ≡ row = cc in ap tsv_row same
tsv_row_of (r ∷ rows) (suc k) row at = tsv_row_of rows k row at

pub tsv_row_at : (names : List (List ℕ)) (rows : List (Row (List ℕ))) (i k : ℕ) (row : Row (List ℕ)) → i ≡ k + 1 → slice_get rows k ≡ Some row → slice_index_or (tsv_pieces names rows) i [] ≡ tsv_row row
tsv_row_at names rows i k row is at = rw (is, add_one k) (tsv_row_of rows k row at)
  where
    add_one : (k : ℕ) → k + 1 ≡ suc k
    add_one k = omega arith

pub ruleset json_places = (length-json_pieces, json_first, json_row_at, json_last)

pub ruleset tsv_places = (length-tsv_pieces, tsv_first, tsv_row_at)
