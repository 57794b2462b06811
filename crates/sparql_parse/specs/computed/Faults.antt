-- Carries proofs only: the faults of a token that the grammar allows, computed of it and of those before it.
use Rattle.std.specs.Prelude.{ℕ, Bool, true, false, ◌&&◌, nat_lt, is_none, if◌then◌else◌, List, [], ◌∷◌, ◌++◌, length, Option, Some, None}
use Rattle.query_tokens.specs.declared.token.TokenKind.{TokenKind}
use Rattle.query_tokens.specs.declared.token.TokenKind.TheVariants as kinds
use Rattle.alg_model.specs.Limits.{max_variables, max_triple_patterns, max_optionals, max_groups, max_open_groups}
use Rattle.sparql_parse.specs.declared.fault.QueryFault.{QueryFault}
use Rattle.sparql_parse.specs.declared.fault.QueryFault.TheVariants as faults
use Rattle.query_grammar.specs.declared.syntax.Role.{Role}
use Rattle.query_grammar.specs.declared.syntax.Role.TheVariants as roles
use Rattle.query_grammar.specs.Roles.{Labelled, count_of, is_open, open_groups}
use Rattle.query_values.specs.reading.Values.{prefix_of}
use Rattle.sparql_parse.specs.Faults.{is_object, is_optional}
use Rattle.sparql_parse.specs.computed.Names.{Namespace, names_of, namespaces_of, namespace_of}

-- a prefix that is used as an IRI, or as the front of one, has to be declared before
abbrev pub uses_prefix : TokenKind → Role → Bool
uses_prefix kind roles.Declared = false
uses_prefix kinds.Prefix role = true
uses_prefix kinds.Prefixed role = true
uses_prefix _ role = false

abbrev pub is_unknown : List Namespace → Labelled → Bool
is_unknown namespaces l = uses_prefix l.token.kind l.role && is_none (namespace_of namespaces (prefix_of l.token))

-- how many there are of what has a limit
pub record Counts : Type 0 where
  pub names : ℕ
  pub objects : ℕ
  pub optionals : ℕ
  pub depth : ℕ
  pub groups : ℕ

abbrev pub counts_of : List Labelled → Counts
counts_of labelled = record {
  names = length (names_of labelled);
  objects = count_of is_object labelled;
  optionals = count_of is_optional labelled;
  depth = open_groups labelled;
  groups = count_of is_open labelled;
}

-- the first limit that is passed, in the order in which they are looked at, at a token that begins with this byte
abbrev pub limit_among : ℕ → Counts → Option QueryFault
limit_among at counts =
    if nat_lt max_variables counts.names then Some (faults.TooManyVariables at)
    else if nat_lt max_triple_patterns counts.objects then Some (faults.TooManyPatterns at)
    else if nat_lt max_optionals counts.optionals then Some (faults.TooManyOptionals at)
    else if nat_lt max_open_groups counts.depth then Some (faults.TooDeep at)
    else if nat_lt max_groups counts.groups then Some (faults.TooManyGroups at)
    else None

-- a prefix comes before the limits
abbrev pub fault_among : List Namespace → Labelled → Counts → Option QueryFault
fault_among namespaces l counts =
    if is_unknown namespaces l then Some (faults.UnknownPrefix l.token.at) else limit_among l.token.at counts

-- the fault of a token after some others, none of which has one: prefixes are declared before it, and it counts itself
unfoldable pub fault_of : List Labelled → Labelled → Option QueryFault
fault_of before l = fault_among (namespaces_of before) l (counts_of (before ++ l ∷ []))
