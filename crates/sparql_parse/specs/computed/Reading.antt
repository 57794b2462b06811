-- Carries proofs only: the query that a text denotes, or its fault, as a function that reads tokens one by one.
use Rattle.std.specs.Prelude.{◌≡◌, ◌⊎◌, ℕ, zero, suc, ◌+◌, Bool, true, false, if◌then◌else◌, List, [], ◌∷◌, ◌++◌, map, length, Option, Some, None, Result, Ok, Err}
use Rattle.std.specs.Str.{chars, encode_utf8_all, is_utf8}
use Rattle.std.specs.Str.Lossy.{utf8_valid_len}
use Rattle.rdf_text.specs.scanning.Text.{before}
use Rattle.query_tokens.specs.scanning.Blanks.{after_blanks}
use Rattle.query_tokens.specs.scanning.ScannedToken.{ScannedToken}
use Rattle.query_tokens.specs.scanning.Tokens.{scan_or_bad}
use Rattle.query_tokens.specs.Token.{Lexeme}
use Rattle.query_grammar.specs.declared.expect.Expect.{Expect}
use Rattle.query_grammar.specs.declared.expect.Expect.TheVariants as expects
use Rattle.query_grammar.specs.declared.expect.Step.{Step}
use Rattle.query_grammar.specs.Terminals.{terminal_of}
use Rattle.query_grammar.specs.Words.{unsupported_word}
use Rattle.query_grammar.specs.Roles.{Labelled, with_role}
use Rattle.query_grammar.specs.Expecting.{start, next_step, Progress}
use Rattle.alg_model.specs.Query.{AbstractQuery}
use Rattle.alg_model.specs.declared.var.Var.{Var}
use Rattle.sparql_parse.specs.declared.fault.QueryFault.{QueryFault}
use Rattle.sparql_parse.specs.declared.fault.QueryFault.TheVariants as faults
use Rattle.sparql_parse.specs.computed.Names.{names_of}
use Rattle.sparql_parse.specs.computed.Faults.{fault_of}
use Rattle.sparql_parse.specs.computed.Building.{built, columns_after}
use Rattle.sparql_parse.specs.computed.Building as building
use Rattle.sparql_parse.specs.Denotes.{word_fault}
use Rattle.sparql_parse.specs.computed.Meaning.{scope_of}

-- no text at all
abbrev pub is_nothing : List ℕ → Bool
is_nothing [] = true
is_nothing (c ∷ cs) = false

-- the token that a text begins with, and the rest is what follows it
abbrev pub token_before : ℕ → List ℕ → ScannedToken → Lexeme
token_before at text found = record { kind = found.0; text = encode_utf8_all (before text found.1); at = at }

-- at most n tokens of a text that begins at this byte of the source
unfoldable pub tokens_from : ℕ → ℕ → List ℕ → List Lexeme
tokens_from zero at whole = []
tokens_from (suc n) at whole =
    let rest = after_blanks whole in
    let found = scan_or_bad rest in
    let token = token_before (at + length (encode_utf8_all (before whole rest))) rest found in
    if is_nothing rest then [] else token ∷ tokens_from n (token.at + length token.text) found.1

-- the tokens of a source
unfoldable pub tokens_read : List ℕ → List Lexeme
tokens_read source = tokens_from (length (chars source)) 0 (chars source)

-- before the first token
abbrev pub first : Progress
first = record { labelled = []; state = start }

-- one token more, unless it has a fault
abbrev pub unless_fault : Progress → Option QueryFault → Result Progress QueryFault
unless_fault reading None = Ok reading
unless_fault reading (Some fault) = Err fault

abbrev pub read_step : Progress → Lexeme → Option Step → Result Progress QueryFault
read_step reading token None = Err (word_fault token.at (unsupported_word token))
read_step reading token (Some step) =
    unless_fault
    (record { labelled = reading.labelled ++ with_role step.role token ∷ []; state = step.state })
    (fault_of reading.labelled (with_role step.role token))

unfoldable pub read_next : Progress → Lexeme → Result Progress QueryFault
read_next reading token = read_step reading token (next_step reading.state (terminal_of token))

-- a result, and what is read after it
abbrev pub and_then : {A B : Type 0} → (A → Result B QueryFault) → Result A QueryFault → Result B QueryFault
and_then f (Ok a) = f a
and_then f (Err fault) = Err fault

-- tokens, up to the first fault
unfoldable pub read_on : Progress → List Lexeme → Result Progress QueryFault
read_on reading [] = Ok reading
read_on reading (token ∷ tokens) = and_then (λ next. read_on next tokens) (read_next reading token)

-- the query of labelled tokens
abbrev pub var_of : ℕ → Var
var_of n = record { 0 = n }

unfoldable pub query_of : List Labelled → AbstractQuery
query_of labelled =
    let s = built (scope_of labelled) building.start labelled in
    record { names = names_of labelled; pattern = s.body.whole; columns = map var_of (columns_after s.body.whole s.head); distinct = s.head.distinct }

-- at the end of the text nothing more may be expected
abbrev pub is_end : Expect → Bool
is_end expects.End = true
is_end _ = false

abbrev pub query_at_end : ℕ → Progress → Result AbstractQuery QueryFault
query_at_end size reading = if is_end reading.state.expect then Ok (query_of reading.labelled) else Err (faults.Syntax size)

-- the same of a text that is UTF-8
unfoldable pub text_reading : List ℕ → Result AbstractQuery QueryFault
text_reading text = and_then (query_at_end (length text)) (read_on first (tokens_read text))

-- the query that a text denotes, or its first fault
unfoldable pub query_reading : List ℕ → Result AbstractQuery QueryFault
query_reading text =
    if is_utf8 text then text_reading text else Err (faults.Syntax (utf8_valid_len text))

-- a result of the code is what is read: of a fault of memory nothing is said
abbrev pub IsMemoryOr : {A : Type 0} → Result A QueryFault → QueryFault → Type 0
IsMemoryOr read fault = (fault ≡ faults.Memory) ⊎ (read ≡ Err fault)
