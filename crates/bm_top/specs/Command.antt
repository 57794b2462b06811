-- The commands of the program, as words.
use Rattle.std.specs.Prelude.{ℕ, bytes_eq, codes, if◌then◌else◌, List, [], ◌∷◌, Option, Some, None}
use Rattle.std.specs.Option.{option_map, option_map_or}
use Rattle.result_write.specs.declared.form.Form.{Form}
use Rattle.result_write.specs.declared.form.Form.TheVariants.{Tsv, Json}

-- What is asked for. `ask DATA QUERY FORM` answers the query of one file over the data of another, in a form; `load DATA INDEX`
-- writes the index of the data; `query INDEX QUERY FORM` answers a query over an index; `check INDEX` looks at an index.
pub data Request : Type 0 where
  ask : List ℕ → List ℕ → Form → Request
  load : List ℕ → List ℕ → Request
  query : List ℕ → List ℕ → Form → Request
  check : List ℕ → Request

-- the form of the result that a word names
abbrev pub form_of : List ℕ → Option Form
form_of word = if bytes_eq word (codes "tsv") then Some Tsv else (if bytes_eq word (codes "json") then Some Json else None)

-- the commands with one, two and three words after the first
abbrev pub request_of_one : List ℕ → List ℕ → Option Request
request_of_one command file = if bytes_eq command (codes "check") then Some (check file) else None

abbrev pub request_of_two : List ℕ → List ℕ → List ℕ → Option Request
request_of_two command file other = if bytes_eq command (codes "load") then Some (load file other) else None

abbrev pub request_of_three : List ℕ → List ℕ → List ℕ → List ℕ → Option Request
request_of_three command file other form =
    if bytes_eq command (codes "ask") then option_map (ask file other) (form_of form)
    else (if bytes_eq command (codes "query") then option_map (query file other) (form_of form) else None)

-- the request that some words are, if they are a row of the table of commands
abbrev pub request_of : List (List ℕ) → Option Request
request_of (command ∷ file ∷ []) = request_of_one command file
request_of (command ∷ file ∷ other ∷ []) = request_of_two command file other
request_of (command ∷ file ∷ other ∷ form ∷ []) = request_of_three command file other form
request_of words = None

-- the files that a request reads, in their order
abbrev pub files_read : Request → List (List ℕ)
files_read (ask data_name query_name form) = data_name ∷ query_name ∷ []
files_read (load data_name index_name) = data_name ∷ []
files_read (query index_name query_name form) = index_name ∷ query_name ∷ []
files_read (check index_name) = index_name ∷ []

-- the files that the command of some words reads: none where the words are no command
abbrev pub names_read : Option Request → List (List ℕ)
names_read request = option_map_or files_read request []
