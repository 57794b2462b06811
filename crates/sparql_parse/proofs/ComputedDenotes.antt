-- Which query a text denotes, and which fault it has, with the values that are computed of its tokens.
use Rattle.std.specs.Prelude.{◌≡◌, ℕ, List, [], ◌∷◌, ◌++◌, map, length, Some, None}
use Rattle.std.specs.Str.{IsUtf8, IsValidUpTo}
use Rattle.query_tokens.specs.Token.{Lexeme}
use Rattle.query_tokens.specs.Tokens.{AreTokens}
use Rattle.alg_model.specs.Query.{AbstractQuery}
use Rattle.sparql_parse.specs.declared.fault.QueryFault.{QueryFault}
use Rattle.sparql_parse.specs.declared.fault.QueryFault.TheVariants as faults
use Rattle.query_grammar.specs.Roles.{Labelled, tokens_of}
use Rattle.query_grammar.specs.Tree.{Syntax}
use Rattle.query_grammar.specs.Grammar.{IsQuery, HasFaultAt}
use Rattle.sparql_parse.specs.computed.Names.{names_of}
use Rattle.sparql_parse.specs.computed.Faults.{fault_of}
use Rattle.sparql_parse.specs.computed.Meaning.{scope_of, pattern_of, columns_of}
use Rattle.sparql_parse.specs.Denotes.{BeginsSo, grammar_fault}

-- no token has a fault of its prefix or of a limit
abbrev pub HasNoFaults : List Labelled → Type 0
HasNoFaults labelled = (before after : List Labelled) (l : Labelled) → labelled ≡ before ++ l ∷ after → fault_of before l ≡ None

-- a query is what a syntax tree means
pub record IsMeantBy (tree : Syntax) (labelled : List Labelled) (query : AbstractQuery) : Type 0 where
  pub names : query.names ≡ names_of labelled
  pub pattern : query.pattern ≡ pattern_of (scope_of labelled) tree.group
  pub columns : map (λ column. column.0) query.columns ≡ columns_of (scope_of labelled) query.pattern tree.columns
  pub distinct : query.distinct ≡ tree.distinct

-- the text denotes the query
pub record Denotes (text : List ℕ) (query : AbstractQuery) : Type 0 where
  pub utf8 : IsUtf8 text
  pub tokens : List Lexeme
  pub labelled : List Labelled
  pub tree : Syntax
  pub are_tokens : AreTokens text tokens
  pub same_tokens : tokens_of labelled ≡ tokens
  pub is_query : IsQuery tree labelled
  pub no_faults : HasNoFaults labelled
  pub meant : IsMeantBy tree labelled query

-- The token has a fault of its prefix or of a limit, those before it have none, and up to it the tokens begin a query.
pub record HasOwnFault (tokens : List Lexeme) (fault : QueryFault) : Type 0 where
  pub before : List Labelled
  pub token : Labelled
  pub after : List Lexeme
  pub split : tokens ≡ tokens_of (before ++ token ∷ []) ++ after
  pub begins : BeginsSo (before ++ token ∷ [])
  pub none_before : HasNoFaults before
  pub is_fault : fault_of before token ≡ Some fault

-- The grammar does not go on at a token, or at the end of the text, and no token before has a fault.
pub record HasGrammarFault (text : List ℕ) (tokens : List Lexeme) (fault : QueryFault) : Type 0 where
  pub before : List Labelled
  pub after : List Lexeme
  pub split : tokens ≡ tokens_of before ++ after
  pub begins : BeginsSo before
  pub none_before : HasNoFaults before
  pub at : HasFaultAt tokens (length before)
  pub is_fault : fault ≡ grammar_fault (length text) after

-- the text has the fault: after its longest front that is UTF-8, where that is not the whole, or the first among its tokens
pub data IsFaultOf (text : List ℕ) (fault : QueryFault) : Type 0 where
  not_utf8 : (good : ℕ) → IsValidUpTo text good → fault ≡ faults.Syntax good → IsFaultOf text fault
  of_token : (tokens : List Lexeme) → IsUtf8 text → AreTokens text tokens → HasOwnFault tokens fault → IsFaultOf text fault
  of_grammar : (tokens : List Lexeme) → IsUtf8 text → AreTokens text tokens → HasGrammarFault text tokens fault → IsFaultOf text fault
