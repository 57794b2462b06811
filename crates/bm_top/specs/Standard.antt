-- What a command is to do: by the relations of what lines spell and what a text denotes, and by the definitions of the
-- algebra, of the order of rows and of the text. Nothing here tells how data or a query is read.
-- N-Triples 1.1, section 7; SPARQL 1.1 Query, sections 18.2, 18.5 and 19.8.
use Rattle.std.specs.Prelude.{◌≡◌, ℕ, ◌<◌, ◌≤◌, List, length, Option, None, Some}
use Rattle.std.specs.FinMap.{get}
use Rattle.bm_term.specs.declared.triple.Triple.{Triple}
use Rattle.bm_term.specs.Graph.{IsGraph}
use Rattle.byte_tables.specs.Numbers.{IsBytes}
use Rattle.nt_read.specs.Lines.{AreLines, IsFirstBadLine, SpellTriples}
use Rattle.alg_model.specs.Answers.{answers_to}
use Rattle.alg_model.specs.Query.{AbstractQuery}
use Rattle.sparql_parse.specs.declared.fault.QueryFault.{QueryFault}
use Rattle.sparql_parse.specs.Denotes.{Denotes, IsFaultOf}
use Rattle.well_designed.specs.declared.refusals.Refusal.{Refusal}
use Rattle.well_designed.specs.Refusals.{IsAccepted, IsRefused}
use Rattle.result_write.specs.declared.form.Form.{Form}
use Rattle.result_write.specs.ResultText.{result_text}
use Rattle.run_rows.specs.declared.form.RowForm.TheVariants.{V1}
use Rattle.term_numbers.specs.Limits.{max_triples}
use Rattle.index_file.specs.declared.damaged.Part.{Part}
use Rattle.index_file.specs.Conditions.{IsImageOf}
use Rattle.index_file.specs.Damage.{IsFirstFailing}
use Rattle.index_file.specs.Image.{image_of}
use Rattle.index_file.specs.Stored.{counts_of, stored_of}
use Rattle.bm_world.specs.Meanings.{Files}
use Rattle.bm_top.specs.Command.{Request, ask, load, query, check, request_of}
use Rattle.bm_top.specs.Lines.{max_data_bytes, max_query_bytes, max_index_bytes, usage_line, read_fault_line, limit_line, too_many_triples_line, image_too_long_line, damaged_line, bad_line_line, fault_line, pattern_line}
use Rattle.bm_top.specs.Texts.{stored_text, counts_text}
use Rattle.bm_top.specs.Verdict.{Verdict, answered, refused, stores}

-- the bytes are N-Triples: lines between line ends, which spell these triples one after another
pub record AreNTriples (bytes : List ℕ) (triples : List Triple) : Type 0 where
  pub lines : List (List ℕ)
  pub are_lines : AreLines bytes lines
  pub spelled : SpellTriples lines triples

-- the graph is the set of the triples of the data
pub record IsGraphOf (bytes : List ℕ) (graph : List Triple) : Type 0 where
  pub triples : List Triple
  pub are_triples : AreNTriples bytes triples
  pub is_graph : IsGraph triples graph

-- the text, in a form, of the solutions of an accepted query over a graph
pub record IsAnswerOver (form : Form) (text : List ℕ) (graph : List Triple) (printed : List ℕ) : Type 0 where
  pub query : AbstractQuery
  pub denoted : Denotes text query
  pub accepted : IsAccepted query.pattern
  pub is_text : printed ≡ result_text form query (answers_to query graph)

-- and over the set of triples of the data, which keeps the limits of a graph and of its index
pub record IsAnswer (form : Form) (bytes text printed : List ℕ) : Type 0 where
  pub graph : List Triple
  pub is_graph : IsGraphOf bytes graph
  pub few : length graph ≤ max_triples
  pub short : length (image_of 1 V1 graph) ≤ max_index_bytes
  pub is_answer : IsAnswerOver form text graph printed

-- the bytes are the index file of a graph
abbrev pub IsIndexOf : List Triple → List ℕ → Type 0
IsIndexOf graph index = IsImageOf 1 V1 graph index

-- and of the set of triples of the data
pub record IsIndexOfData (bytes index : List ℕ) : Type 0 where
  pub graph : List Triple
  pub is_graph : IsGraphOf bytes graph
  pub is_index : IsIndexOf graph index

-- the line of the first bad line of the data
pub record IsBadData (bytes line : List ℕ) : Type 0 where
  pub number : ℕ
  pub is_bad : IsFirstBadLine bytes number
  pub is_line : line ≡ bad_line_line number

-- the line of the refusal of a text as a query: it has a fault, or it denotes a query whose pattern is refused
pub data IsRefusedText (text line : List ℕ) : Type 0 where
  has_fault : (fault : QueryFault) → IsFaultOf text fault → line ≡ fault_line fault → IsRefusedText text line
  has_pattern : (query : AbstractQuery) (refusal : Refusal) → Denotes text query → IsRefused query.pattern refusal
      → line ≡ pattern_line query.names refusal → IsRefusedText text line

-- the data has no bad line, and more distinct triples than may be
pub record HasTooManyTriples (bytes : List ℕ) : Type 0 where
  pub graph : List Triple
  pub is_graph : IsGraphOf bytes graph
  pub many : max_triples < length graph

-- it keeps that limit, and its index would be too long
pub record HasTooLongImage (bytes : List ℕ) : Type 0 where
  pub graph : List Triple
  pub is_graph : IsGraphOf bytes graph
  pub few : length graph ≤ max_triples
  pub long : max_index_bytes < length (image_of 1 V1 graph)

-- The verdict of a command: the first step in its order that has a condition that holds.

-- a file is read: it has to be there, and to keep its limit; its bytes decide with what is next
pub data IsDecidedBy (files : Files) (name : List ℕ) (limit : ℕ) (Next : List ℕ → Verdict → Type 0) (verdict : Verdict) : Type 0 where
  missing : get files name ≡ None → verdict ≡ refused 5 (read_fault_line name) → IsDecidedBy files name limit Next verdict
  too_long : (bytes : List ℕ) → get files name ≡ Some bytes → limit < length bytes → verdict ≡ refused 8 (limit_line name limit)
      → IsDecidedBy files name limit Next verdict
  read : (bytes : List ℕ) → get files name ≡ Some bytes → length bytes ≤ limit → Next bytes verdict → IsDecidedBy files name limit Next verdict

-- the data has a bad line, or too many triples, or its index would be too long; otherwise its graph and the index of it
-- decide with what is next
pub data IsDecidedByData (bytes : List ℕ) (Next : List Triple → List ℕ → Verdict → Type 0) (verdict : Verdict) : Type 0 where
  bad_data : (line : List ℕ) → IsBadData bytes line → verdict ≡ refused 2 line → IsDecidedByData bytes Next verdict
  too_many : HasTooManyTriples bytes → verdict ≡ refused 8 too_many_triples_line → IsDecidedByData bytes Next verdict
  too_long_image : HasTooLongImage bytes → verdict ≡ refused 8 image_too_long_line → IsDecidedByData bytes Next verdict
  good_data : (graph : List Triple) (index : List ℕ) → IsGraphOf bytes graph → IsIndexOf graph index → Next graph index verdict
      → IsDecidedByData bytes Next verdict

-- the first part that fails of an index that is none; otherwise the graph of the index decides with what is next
pub data IsDecidedByIndex (bytes : List ℕ) (Next : List Triple → Verdict → Type 0) (verdict : Verdict) : Type 0 where
  damaged : (part : Part) → IsFirstFailing 1 V1 bytes part → verdict ≡ refused 4 (damaged_line part) → IsDecidedByIndex bytes Next verdict
  good_index : (graph : List Triple) → IsIndexOf graph bytes → Next graph verdict → IsDecidedByIndex bytes Next verdict

-- a query is refused, or answered over a graph
pub data IsAnswerOrRefusal (form : Form) (text : List ℕ) (graph : List Triple) (verdict : Verdict) : Type 0 where
  bad_query : (line : List ℕ) → IsRefusedText text line → verdict ≡ refused 3 line → IsAnswerOrRefusal form text graph verdict
  answer : (printed : List ℕ) → IsAnswerOver form text graph printed → verdict ≡ answered printed → IsAnswerOrRefusal form text graph verdict

-- the index of a graph is written, and how long it is is printed
abbrev pub IsStored : List ℕ → List Triple → List ℕ → Verdict → Type 0
IsStored name graph index verdict = verdict ≡ stores name index (stored_text (length graph) (length index))

-- how many of each the index of a graph has is printed
abbrev pub IsCounted : List Triple → Verdict → Type 0
IsCounted graph verdict = verdict ≡ answered (counts_text (counts_of (stored_of 1 graph)))

-- `ask DATA QUERY FORM`: DATA is read, then QUERY; then the data is looked at, and then the query
abbrev pub IsAskVerdict : Files → List ℕ → List ℕ → Form → Verdict → Type 0
IsAskVerdict files data_name query_name form verdict =
    IsDecidedBy files data_name max_data_bytes
    (λ bytes. IsDecidedBy files query_name max_query_bytes (λ text. IsDecidedByData bytes (λ graph _. IsAnswerOrRefusal form text graph))) verdict

-- `load DATA INDEX`: DATA is read and looked at, and then INDEX is written
abbrev pub IsLoadVerdict : Files → List ℕ → List ℕ → Verdict → Type 0
IsLoadVerdict files data_name index_name verdict =
    IsDecidedBy files data_name max_data_bytes (λ bytes. IsDecidedByData bytes (IsStored index_name)) verdict

-- `query INDEX QUERY FORM`: INDEX is read, then QUERY, and then both are looked at
abbrev pub IsQueryVerdict : Files → List ℕ → List ℕ → Form → Verdict → Type 0
IsQueryVerdict files index_name query_name form verdict =
    IsDecidedBy files index_name max_index_bytes
    (λ bytes. IsDecidedBy files query_name max_query_bytes (λ text. IsDecidedByIndex bytes (IsAnswerOrRefusal form text))) verdict

-- `check INDEX`: INDEX is read and looked at
abbrev pub IsCheckVerdict : Files → List ℕ → Verdict → Type 0
IsCheckVerdict files index_name verdict = IsDecidedBy files index_name max_index_bytes (λ bytes. IsDecidedByIndex bytes IsCounted) verdict

-- the verdict of a request on these files, if there is a request
abbrev pub IsRequestVerdict : Files → Option Request → Verdict → Type 0
IsRequestVerdict files None verdict = verdict ≡ refused 1 usage_line
IsRequestVerdict files (Some (ask data_name query_name form)) verdict = IsAskVerdict files data_name query_name form verdict
IsRequestVerdict files (Some (load data_name index_name)) verdict = IsLoadVerdict files data_name index_name verdict
IsRequestVerdict files (Some (query index_name query_name form)) verdict = IsQueryVerdict files index_name query_name form verdict
IsRequestVerdict files (Some (check index_name)) verdict = IsCheckVerdict files index_name verdict

-- the verdict of these words on these files
abbrev pub IsVerdict : List (List ℕ) → Files → Verdict → Type 0
IsVerdict words files verdict = IsRequestVerdict files (request_of words) verdict

-- each file is a list of bytes, as every file is
abbrev pub HoldBytes : Files → Type 0
HoldBytes files = (name bytes : List ℕ) → get files name ≡ Some bytes → IsBytes bytes

-- the words ask the query of one file over the data of another, in a form; both are there, and keep their limits
pub record Asks (words : List (List ℕ)) (files : Files) (form : Form) (bytes text : List ℕ) : Type 0 where
  pub data_name : List ℕ
  pub query_name : List ℕ
  pub command : request_of words ≡ Some (ask data_name query_name form)
  pub data_file : get files data_name ≡ Some bytes
  pub query_file : get files query_name ≡ Some text
  pub data_within : length bytes ≤ max_data_bytes
  pub query_within : length text ≤ max_query_bytes

-- the words ask the query of one file over the index of another, in a form; both are there, and the query keeps its limit
pub record AsksIndex (words : List (List ℕ)) (files : Files) (form : Form) (index text : List ℕ) : Type 0 where
  pub index_name : List ℕ
  pub query_name : List ℕ
  pub command : request_of words ≡ Some (query index_name query_name form)
  pub index_file : get files index_name ≡ Some index
  pub query_file : get files query_name ≡ Some text
  pub query_within : length text ≤ max_query_bytes
