-- Results as tab-separated values. SPARQL 1.1 Query Results CSV and TSV Formats, section 4; a term stands as its
-- canonical text, and an unbound cell is empty.
use Rattle.std.specs.Prelude.{ℕ, List, [], ◌∷◌, ◌++◌, map, Option, Some, None}
use Rattle.std.specs.List.{flat_map, join_with_byte}
use Rattle.alg_model.specs.declared.var.Var.{Var}
use Rattle.alg_model.specs.Query.{AbstractQuery}
use Rattle.alg_model.specs.Row.{Row}
use Rattle.result_write.specs.Columns.{name_of}

-- TAB, LF and the question mark
abbrev pub tab : ℕ
tab = 9

abbrev pub line_feed : ℕ
line_feed = 10

abbrev pub question_mark : ℕ
question_mark = 63

-- parts with a tab between each two, and a line end
abbrev pub tsv_line : List (List ℕ) → List ℕ
tsv_line parts = join_with_byte tab parts ++ line_feed ∷ []

-- the name of a variable after its mark
abbrev pub marked_name : List (List ℕ) → Var → List ℕ
marked_name names var = question_mark ∷ name_of names var

abbrev pub cell_text : Option (List ℕ) → List ℕ
cell_text None = []
cell_text (Some text) = text

abbrev pub tsv_header : List (List ℕ) → List Var → List ℕ
tsv_header names columns = tsv_line (map (marked_name names) columns)

abbrev pub tsv_row : Row (List ℕ) → List ℕ
tsv_row row = tsv_line (map cell_text row)

-- the header, and then a line for each row
abbrev pub tsv_text : AbstractQuery → List (Row (List ℕ)) → List ℕ
tsv_text query rows = tsv_header query.names query.columns ++ flat_map tsv_row rows
