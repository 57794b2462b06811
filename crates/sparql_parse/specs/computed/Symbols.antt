-- Carries proofs only: the names, the declarations and the counts of a query after its tokens, read one by one.
use Rattle.std.specs.Prelude.{ℕ, ◌+◌, ◌≤◌, Bool, false, not, if◌then◌else◌, List, length, Option}
use Rattle.std.specs.List.{list_any}
use Rattle.query_tokens.specs.Token.{Lexeme}
use Rattle.query_grammar.specs.declared.terminal.Terminal.{Terminal}
use Rattle.query_grammar.specs.declared.terminal.Terminal.TheVariants as terminals
use Rattle.query_values.specs.reading.Values.{name_of}
use Rattle.alg_model.specs.Limits.{max_variables, max_triple_patterns, max_optionals, max_groups}
use Rattle.sparql_parse.specs.declared.fault.QueryFault.{QueryFault}
use Rattle.sparql_parse.specs.declared.tally.Tally.{Tally}
use Rattle.query_grammar.specs.declared.syntax.Role.{Role}
use Rattle.query_grammar.specs.Terminals.{terminal_of}
use Rattle.query_grammar.specs.Roles.{Labelled, count_of, is_open}
use Rattle.sparql_parse.specs.computed.Names.{Declarations, is_text, names_of, names_after, declarations_of, declarations_after}
use Rattle.sparql_parse.specs.Faults.{is_object, is_optional}
use Rattle.sparql_parse.specs.computed.Faults.{Counts, fault_among}

-- how many objects, OPTIONALs and groups there are
abbrev pub tally_of : List Labelled → Tally
tally_of labelled = record {
  objects = count_of is_object labelled;
  optionals = count_of is_optional labelled;
  groups = count_of is_open labelled;
}

-- one more, where a token has such a role
abbrev pub one_more : (Role → Bool) → ℕ → Role → ℕ
one_more is_such n role = if is_such role then n + 1 else n

-- with one token more, in this role
abbrev pub tally_after : Tally → Role → Tally
tally_after t role = record {
  objects = one_more is_object t.objects role;
  optionals = one_more is_optional t.optionals role;
  groups = one_more is_open t.groups role;
}

abbrev pub counts_with : ℕ → Tally → ℕ → Counts
counts_with names t depth = record { names = names; objects = t.objects; optionals = t.optionals; depth = depth; groups = t.groups }

-- names, declarations, and how many there are of what has a limit
pub record Symbols : Type 0 where
  pub names : List (List ℕ)
  pub declarations : Declarations
  pub tally : Tally

-- after some tokens
abbrev pub symbols_of : List Labelled → Symbols
symbols_of labelled = record { names = names_of labelled; declarations = declarations_of labelled; tally = tally_of labelled }

-- after one token more
abbrev pub symbols_after : Symbols → Labelled → Symbols
symbols_after k l = record {
  names = names_after k.names (terminal_of l.token) l.token;
  declarations = declarations_after k.declarations l.role l.token;
  tally = tally_after k.tally l.role;
}

-- the fault of a token after which so many groups are open
unfoldable pub fault_after : Symbols → ℕ → Labelled → Option QueryFault
fault_after k depth l =
    let after = symbols_after k l in
    fault_among k.declarations.namespaces l (counts_with (length after.names) after.tally depth)

-- the limits are kept
pub record IsWithin (list : List (List ℕ)) (tally : Tally) : Type 0 where
  pub names : length list ≤ max_variables
  pub objects : tally.objects ≤ max_triple_patterns
  pub optionals : tally.optionals ≤ max_optionals
  pub groups : tally.groups ≤ max_groups

-- whether a token is a variable whose name is not among some names
abbrev pub is_new_name : List (List ℕ) → Terminal → Lexeme → Bool
is_new_name names terminals.Variable token = not (list_any (is_text (name_of token)) names)
is_new_name names _ token = false
