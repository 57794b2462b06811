-- The terminal symbols of the grammar of queries, which a token is. SPARQL 1.1 Query, section 19.8.
use Rattle.std.specs.Prelude.{◌==◌, ℕ, if◌then◌else◌, List, codes}
use Rattle.std.specs.Cmp.Lexicographic.{pointwise}
use Rattle.std.specs.Str.{str_eq_ignore_ascii_case}
use Rattle.query_tokens.specs.declared.token.TokenKind.{TokenKind}
use Rattle.query_tokens.specs.declared.token.TokenKind.TheVariants as kinds
use Rattle.query_tokens.specs.Token.{Lexeme}
use Rattle.query_grammar.specs.declared.terminal.Terminal.{Terminal}
use Rattle.query_grammar.specs.declared.terminal.Terminal.TheVariants.{PrefixWord, SelectWord, DistinctWord, WhereWord, OptionalWord, A, Boolean, Variable, Iri, Prefixed, Prefix, Quoted, Tag, Number, Open, Close, Stop, Semicolon, Comma, Star, Carets, Other}

-- a word is read without case, except `a`
abbrev pub word_terminal : List ℕ → Terminal
word_terminal text =
    if pointwise ◌==◌ text (codes "a") then A
    else if str_eq_ignore_ascii_case text (codes "PREFIX") then PrefixWord
    else if str_eq_ignore_ascii_case text (codes "SELECT") then SelectWord
    else if str_eq_ignore_ascii_case text (codes "DISTINCT") then DistinctWord
    else if str_eq_ignore_ascii_case text (codes "WHERE") then WhereWord
    else if str_eq_ignore_ascii_case text (codes "OPTIONAL") then OptionalWord
    else if str_eq_ignore_ascii_case text (codes "true") then Boolean
    else if str_eq_ignore_ascii_case text (codes "false") then Boolean
    else Other

-- the signs that stand in the grammar
abbrev pub sign_terminal : List ℕ → Terminal
sign_terminal text =
    if pointwise ◌==◌ text (codes "{") then Open
    else if pointwise ◌==◌ text (codes "}") then Close
    else if pointwise ◌==◌ text (codes ".") then Stop
    else if pointwise ◌==◌ text (codes ";") then Semicolon
    else if pointwise ◌==◌ text (codes ",") then Comma
    else if pointwise ◌==◌ text (codes "*") then Star
    else if pointwise ◌==◌ text (codes "^^") then Carets
    else Other

-- the terminal symbol of a text of this kind
abbrev pub terminal_of_text : TokenKind → List ℕ → Terminal
terminal_of_text kinds.Iri text = Iri
terminal_of_text kinds.Prefix text = Prefix
terminal_of_text kinds.Prefixed text = Prefixed
terminal_of_text kinds.Variable text = Variable
terminal_of_text kinds.Quoted text = Quoted
terminal_of_text kinds.Tag text = Tag
terminal_of_text kinds.Integer text = Number
terminal_of_text kinds.Decimal text = Number
terminal_of_text kinds.Double text = Number
terminal_of_text kinds.Word text = word_terminal text
terminal_of_text kinds.Blank text = Other
terminal_of_text kinds.Sign text = sign_terminal text
terminal_of_text kinds.Quotes text = Other
terminal_of_text kinds.Bad text = Other

-- the terminal symbol that a token is
unfoldable pub terminal_of : Lexeme → Terminal
terminal_of token = terminal_of_text token.kind token.text
