-- Carries proofs only: the texts of results in pieces, of which one for each row.
use Rattle.std.specs.Prelude.{ℕ, Bool, true, false, if◌then◌else◌, List, [], ◌∷◌, ◌++◌, codes, map}
use Rattle.std.specs.List.{filter_map}
use Rattle.alg_model.specs.Row.{Row}
use Rattle.result_write.specs.Tsv.{tsv_line, tsv_row, question_mark}
use Rattle.result_write.specs.Json.{comma, json_string, json_array, json_object}
use Rattle.result_write.specs.JsonResult.{bound_member}

-- tab-separated values: the header, and a line for each row
abbrev pub header_line : List (List ℕ) → List ℕ
header_line names = tsv_line (map (λ name. question_mark ∷ name) names)

abbrev pub tsv_pieces : List (List ℕ) → List (Row (List ℕ)) → List (List ℕ)
tsv_pieces names rows = header_line names ∷ map tsv_row rows

-- JSON: what is before the rows, each row, after a comma if it is not the first, and what is behind them
abbrev pub json_start : List (List ℕ) → List ℕ
json_start names = codes "{\"head\":{\"vars\":" ++ (json_array (map json_string names) ++ codes "},\"results\":{\"bindings\":[")

abbrev pub json_end : List ℕ
json_end = codes "]}}\n"

abbrev pub row_object : List (List ℕ × ℕ) → Row (List ℕ) → List ℕ
row_object columns row = json_object (filter_map (bound_member row) columns)

abbrev pub row_piece : Bool → List ℕ → List ℕ
row_piece later object = if later then comma ∷ object else object

abbrev pub row_pieces : List (List ℕ × ℕ) → Bool → List (Row (List ℕ)) → List (List ℕ)
row_pieces columns later [] = json_end ∷ []
row_pieces columns later (row ∷ rows) = row_piece later (row_object columns row) ∷ row_pieces columns true rows

unfoldable pub json_pieces : List (List ℕ) → List (List ℕ × ℕ) → List (Row (List ℕ)) → List (List ℕ)
json_pieces names columns rows = json_start names ∷ row_pieces columns false rows
