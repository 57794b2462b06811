-- The lines that the program writes to standard error, and the limits that they name. They are this project's own.
use Rattle.std.specs.Prelude.{ℕ, List, [], ◌++◌, codes, decimal, Option, None, Some, slice_index_or, string_bytes}
use Rattle.index_file.specs.Damage.{part_name}
use Rattle.index_file.specs.declared.damaged.Part.{Part}
use Rattle.sparql_parse.specs.declared.fault.QueryFault.{QueryFault}
use Rattle.sparql_parse.specs.Causes.{cause_text, byte_of}
use Rattle.well_designed.specs.declared.refusals.Refusal.{Refusal as PatternRefusal}
use Rattle.well_designed.specs.declared.refusals.Refusal.TheVariants as patterns
use Rattle.bm_top.specs.declared.refusal.QueryRefusal.{QueryRefusal}
use Rattle.bm_top.specs.declared.refusal.QueryRefusal.TheVariants as queries
use Rattle.bm_top.specs.declared.refusal.Refusal.{Refusal}
use Rattle.bm_top.specs.declared.refusal.Refusal.TheVariants as refusals

-- the bytes that a data file may have, and those that a query file may have
abbrev pub max_data_bytes : ℕ
max_data_bytes = 536870912

abbrev pub max_query_bytes : ℕ
max_query_bytes = 1048576

-- the bytes that an index file may have
abbrev pub max_index_bytes : ℕ
max_index_bytes = 4294967295

abbrev pub usage_line : List ℕ
usage_line = codes "usage: bitmat ask DATA QUERY tsv|json | load DATA INDEX | query INDEX QUERY tsv|json | check INDEX | explain INDEX QUERY | trial N\n"

abbrev pub read_fault_line : List ℕ → List ℕ
read_fault_line name = codes "read fault: " ++ (name ++ codes "\n")

abbrev pub write_fault_line : List ℕ
write_fault_line = codes "write fault\n"

abbrev pub out_of_memory_line : List ℕ
out_of_memory_line = codes "out of memory\n"

abbrev pub limit_line : List ℕ → ℕ → List ℕ
limit_line name limit = codes "limit: " ++ (name ++ (codes " is longer than " ++ (decimal limit ++ codes " bytes\n")))

abbrev pub too_many_triples_line : List ℕ
too_many_triples_line = codes "limit: more than 8388608 triples\n"

abbrev pub image_too_long_line : List ℕ
image_too_long_line = codes "limit: the image is longer than 4294967295 bytes\n"

-- the first part of an index whose condition does not hold
abbrev pub damaged_line : Part → List ℕ
damaged_line part = codes "index refused: " ++ (part_name part ++ codes "\n")

abbrev pub bad_line_line : ℕ → List ℕ
bad_line_line line = codes "data refused: line " ++ (decimal line ++ codes "\n")

-- the byte at which a fault is, if it has one
abbrev pub at_byte : Option ℕ → List ℕ
at_byte None = []
at_byte (Some at) = codes " at byte " ++ decimal at

-- the fault of a text: its words, and its byte; a text has none of memory
abbrev pub fault_line : QueryFault → List ℕ
fault_line fault = codes "query refused: " ++ (cause_text fault ++ (at_byte (byte_of fault) ++ codes "\n"))

-- an OPTIONAL fails, of which the number from 1 is told, and the name of a variable
abbrev pub not_well_designed_line : ℕ → List ℕ → List ℕ
not_well_designed_line optional name =
    codes "query refused: not well designed: optional " ++ (decimal optional ++ (codes ", variable ?" ++ (name ++ codes "\n")))

-- a triple pattern has three variables, of which the number from 1 is told
abbrev pub three_places_line : ℕ → List ℕ
three_places_line pattern = codes "query refused: three variables in pattern " ++ (decimal pattern ++ codes "\n")

-- a variable stands at both kinds of place
abbrev pub cross_place_line : List ℕ → List ℕ
cross_place_line name = codes "query refused: variable ?" ++ (name ++ codes " at predicate and node places\n")

-- the line of a pattern that is refused, in a query with these names of variables
abbrev pub pattern_line : List (List ℕ) → PatternRefusal → List ℕ
pattern_line names (patterns.NotWellDesigned optional var) = not_well_designed_line optional (slice_index_or names var.0 [])
pattern_line names (patterns.ThreePlaces pattern) = three_places_line pattern
pattern_line names (patterns.CrossPlace var) = cross_place_line (slice_index_or names var.0 [])

-- the line of a refusal of the code, which has the names themselves
abbrev pub query_line : QueryRefusal → List ℕ
query_line (queries.Fault fault) = fault_line fault
query_line (queries.NotWellDesigned optional name) = not_well_designed_line optional (string_bytes name)
query_line (queries.ThreePlaces pattern) = three_places_line pattern
query_line (queries.CrossPlace name) = cross_place_line (string_bytes name)

-- the status of a refusal, and its line
abbrev pub refusal_status : Refusal → ℕ
refusal_status refusals.Usage = 1
refusal_status (refusals.BadLine line) = 2
refusal_status (refusals.Query refusal) = 3
refusal_status (refusals.TooLong name limit) = 8
refusal_status refusals.TooManyTriples = 8
refusal_status refusals.ImageTooLong = 8
refusal_status (refusals.Damaged part) = 4

abbrev pub refusal_line : Refusal → List ℕ
refusal_line refusals.Usage = usage_line
refusal_line (refusals.BadLine line) = bad_line_line line
refusal_line (refusals.Query refusal) = query_line refusal
refusal_line (refusals.TooLong name limit) = limit_line name.now limit
refusal_line refusals.TooManyTriples = too_many_triples_line
refusal_line refusals.ImageTooLong = image_too_long_line
refusal_line (refusals.Damaged part) = damaged_line part
