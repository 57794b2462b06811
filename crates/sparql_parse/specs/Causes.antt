-- The words by which a fault is named, and the byte at which it is. They are this project's own.
use Rattle.std.specs.Prelude.{ℕ, List, ◌++◌, Option, Some, None, codes}
use Rattle.query_grammar.specs.Words.{word_text}
use Rattle.sparql_parse.specs.declared.fault.QueryFault.{QueryFault}
use Rattle.sparql_parse.specs.declared.fault.QueryFault.TheVariants as faults

-- its name
abbrev pub cause_text : QueryFault → List ℕ
cause_text (faults.Syntax at) = codes "syntax"
cause_text (faults.Unsupported at word) = codes "unsupported " ++ word_text word
cause_text (faults.UnknownPrefix at) = codes "unknown prefix"
cause_text (faults.TooManyVariables at) = codes "too many variables"
cause_text (faults.TooManyPatterns at) = codes "too many patterns"
cause_text (faults.TooManyOptionals at) = codes "too many optionals"
cause_text (faults.TooManyGroups at) = codes "too many groups"
cause_text (faults.TooDeep at) = codes "too deep"
cause_text faults.Memory = codes "out of memory"

-- its byte in the text, from 0; where memory runs out there is none
abbrev pub byte_of : QueryFault → Option ℕ
byte_of (faults.Syntax at) = Some at
byte_of (faults.Unsupported at word) = Some at
byte_of (faults.UnknownPrefix at) = Some at
byte_of (faults.TooManyVariables at) = Some at
byte_of (faults.TooManyPatterns at) = Some at
byte_of (faults.TooManyOptionals at) = Some at
byte_of (faults.TooManyGroups at) = Some at
byte_of (faults.TooDeep at) = Some at
byte_of faults.Memory = None
