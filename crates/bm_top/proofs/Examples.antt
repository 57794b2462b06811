-- Worked examples, by computation: commands, lines and verdicts.
use Rattle.std.proofs.Common.{◌≡◌, ℕ, List, [], ◌∷◌, ◌++◌, None, Some, codes, decimal, refl}
use Rattle.result_write.specs.declared.form.Form.TheVariants.{Tsv, Json}
use Rattle.query_grammar.specs.declared.words.Word.TheVariants as words
use Rattle.sparql_parse.specs.declared.fault.QueryFault.TheVariants as faults
use Rattle.index_file.specs.declared.damaged.Part.TheVariants as parts
use Rattle.bm_top.specs.Command.{ask, load, query, check, request_of}
use Rattle.bm_world.specs.Meanings.{Files}
use Rattle.well_designed.specs.declared.refusals.Refusal.TheVariants as patterns
use Rattle.bm_top.specs.Lines.{bad_line_line, damaged_line, fault_line, image_too_long_line, pattern_line, too_many_triples_line, write_fault_line, out_of_memory_line}
use Rattle.bm_top.specs.Standard.{IsVerdict}
use Rattle.bm_top.specs.Texts.{stored_text}
use Rattle.bm_top.specs.Verdict.{refused}

-- the one command in both forms, a form that is none, and a word too few
command : request_of (codes "ask" ∷ codes "d" ∷ codes "q" ∷ codes "tsv" ∷ []) ≡ Some (ask (codes "d") (codes "q") Tsv)
command = refl

command_json : request_of (codes "ask" ∷ codes "d" ∷ codes "q" ∷ codes "json" ∷ []) ≡ Some (ask (codes "d") (codes "q") Json)
command_json = refl

unknown_form : request_of (codes "ask" ∷ codes "d" ∷ codes "q" ∷ codes "xml" ∷ []) ≡ None
unknown_form = refl

too_few : request_of (codes "ask" ∷ codes "d" ∷ codes "q" ∷ []) ≡ None
too_few = refl

-- no words are no command, whatever the files are
no_words : (files : Files) → IsVerdict [] files (refused 1 (codes "usage: bitmat ask DATA QUERY tsv|json | load DATA INDEX | query INDEX QUERY tsv|json | check INDEX | explain INDEX QUERY | trial N\n"))
no_words files = refl

-- the commands over an index, and words that are none
load_command : request_of (codes "load" ∷ codes "d" ∷ codes "i" ∷ []) ≡ Some (load (codes "d") (codes "i"))
load_command = refl

query_command : request_of (codes "query" ∷ codes "i" ∷ codes "q" ∷ codes "json" ∷ []) ≡ Some (query (codes "i") (codes "q") Json)
query_command = refl

check_command : request_of (codes "check" ∷ codes "i" ∷ []) ≡ Some (check (codes "i"))
check_command = refl

unknown_command : request_of (codes "save" ∷ codes "d" ∷ codes "i" ∷ []) ≡ None
unknown_command = refl

-- what `load` and `check` print, and the line of an index that is damaged
stored_line : stored_text 2 272 ≡ codes "stored triples " ++ (decimal 2 ++ (codes " bytes " ++ (decimal 272 ++ codes "\n")))
stored_line = refl

rows_line : damaged_line parts.Rows ≡ codes "index refused: rows\n"
rows_line = refl

too_long_line : image_too_long_line ≡ codes "limit: the image is longer than 4294967295 bytes\n"
too_long_line = refl

-- the line of a bad line
bad_line : bad_line_line 12 ≡ codes "data refused: line " ++ (decimal 12 ++ codes "\n")
bad_line = refl

-- each line of a query that is refused
bad_query : fault_line (faults.Syntax 9) ≡ codes "query refused: syntax at byte " ++ (decimal 9 ++ codes "\n")
bad_query = refl

unsupported_keyword : fault_line (faults.Unsupported 11 words.Filter) ≡ codes "query refused: unsupported FILTER at byte " ++ (decimal 11 ++ codes "\n")
unsupported_keyword = refl

unsupported_sign : fault_line (faults.Unsupported 7 words.SquareOpen) ≡ codes "query refused: unsupported [ at byte " ++ (decimal 7 ++ codes "\n")
unsupported_sign = refl

unknown_prefix : fault_line (faults.UnknownPrefix 14) ≡ codes "query refused: unknown prefix at byte " ++ (decimal 14 ++ codes "\n")
unknown_prefix = refl

too_many_variables : fault_line (faults.TooManyVariables 200) ≡ codes "query refused: too many variables at byte " ++ (decimal 200 ++ codes "\n")
too_many_variables = refl

too_many_patterns : fault_line (faults.TooManyPatterns 6683) ≡ codes "query refused: too many patterns at byte " ++ (decimal 6683 ++ codes "\n")
too_many_patterns = refl

too_many_optionals : fault_line (faults.TooManyOptionals 703) ≡ codes "query refused: too many optionals at byte " ++ (decimal 703 ++ codes "\n")
too_many_optionals = refl

too_many_groups : fault_line (faults.TooManyGroups 512) ≡ codes "query refused: too many groups at byte " ++ (decimal 512 ++ codes "\n")
too_many_groups = refl

too_deep : fault_line (faults.TooDeep 41) ≡ codes "query refused: too deep at byte " ++ (decimal 41 ++ codes "\n")
too_deep = refl

-- the lines that name nothing
write_fault : write_fault_line ≡ codes "write fault\n"
write_fault = refl

out_of_memory : out_of_memory_line ≡ codes "out of memory\n"
out_of_memory = refl

-- each line of a pattern that is refused
abbrev names : List (List ℕ)
names = codes "x" ∷ codes "long" ∷ []

not_well_designed : pattern_line names (patterns.NotWellDesigned 3 (record { 0 = 1 })) ≡ codes "query refused: not well designed: optional " ++ (decimal 3 ++ codes ", variable ?long\n")
not_well_designed = refl

three_places : pattern_line names (patterns.ThreePlaces 12) ≡ codes "query refused: three variables in pattern " ++ (decimal 12 ++ codes "\n")
three_places = refl

cross_place : pattern_line names (patterns.CrossPlace (record { 0 = 0 })) ≡ codes "query refused: variable ?x at predicate and node places\n"
cross_place = refl

-- a limit of triples
too_many_triples : too_many_triples_line ≡ codes "limit: more than 8388608 triples\n"
too_many_triples = refl
