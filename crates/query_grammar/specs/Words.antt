-- The words and signs with which a part of SPARQL 1.1 begins that the grammar of this project leaves out, with the
-- texts by which they are named. What stands only further inside of such a part, as NOT, AS, BY and `)`, is not here.
-- SPARQL 1.1 Query, section 19.8, and SPARQL 1.1 Update, section 3.
use Rattle.std.specs.Prelude.{◌==◌, ℕ, List, [], ◌∷◌, Option, Some, None, find, codes}
use Rattle.std.specs.Cmp.Lexicographic.{pointwise}
use Rattle.std.specs.Str.{str_eq_ignore_ascii_case}
use Rattle.query_tokens.specs.declared.token.TokenKind.TheVariants as kinds
use Rattle.query_tokens.specs.declared.token.TokenKind.{TokenKind}
use Rattle.query_tokens.specs.Token.{Lexeme}
use Rattle.query_grammar.specs.declared.words.Word.{Word}
use Rattle.query_grammar.specs.declared.words.Word.TheVariants as words

-- the text by which a word is named
abbrev pub word_text : Word → List ℕ
word_text words.Add = codes "ADD"
word_text words.Ask = codes "ASK"
word_text words.Base = codes "BASE"
word_text words.Bind = codes "BIND"
word_text words.Clear = codes "CLEAR"
word_text words.Construct = codes "CONSTRUCT"
word_text words.Copy = codes "COPY"
word_text words.Create = codes "CREATE"
word_text words.Delete = codes "DELETE"
word_text words.Describe = codes "DESCRIBE"
word_text words.Drop = codes "DROP"
word_text words.Filter = codes "FILTER"
word_text words.From = codes "FROM"
word_text words.Graph = codes "GRAPH"
word_text words.Group = codes "GROUP"
word_text words.Having = codes "HAVING"
word_text words.Insert = codes "INSERT"
word_text words.Limit = codes "LIMIT"
word_text words.Load = codes "LOAD"
word_text words.Minus = codes "MINUS"
word_text words.Move = codes "MOVE"
word_text words.Offset = codes "OFFSET"
word_text words.Order = codes "ORDER"
word_text words.Reduced = codes "REDUCED"
word_text words.Select = codes "SELECT"
word_text words.Service = codes "SERVICE"
word_text words.Union = codes "UNION"
word_text words.Values = codes "VALUES"
word_text words.With = codes "WITH"
word_text words.RoundOpen = codes "("
word_text words.SquareOpen = codes "["
word_text words.Slash = codes "/"
word_text words.Bar = codes "|"
word_text words.Caret = codes "^"
word_text words.Plus = codes "+"
word_text words.Star = codes "*"
word_text words.Question = codes "?"
word_text words.Bang = codes "!"
word_text words.ThreeDouble = codes "\"\"\""
word_text words.ThreeSingle = codes "'''"
word_text words.Blank = codes "_:"

-- the keywords
abbrev pub keywords : List Word
keywords =
    words.Add ∷ words.Ask ∷ words.Base ∷ words.Bind ∷ words.Clear ∷ words.Construct ∷ words.Copy ∷
    words.Create ∷ words.Delete ∷ words.Describe ∷ words.Drop ∷ words.Filter ∷ words.From ∷ words.Graph ∷
    words.Group ∷ words.Having ∷ words.Insert ∷ words.Limit ∷ words.Load ∷ words.Minus ∷ words.Move ∷
    words.Offset ∷ words.Order ∷ words.Reduced ∷ words.Select ∷ words.Service ∷ words.Union ∷ words.Values ∷
    words.With ∷ []

-- the signs
abbrev pub signs : List Word
signs =
    words.RoundOpen ∷ words.SquareOpen ∷ words.Slash ∷ words.Bar ∷ words.Caret ∷ words.Plus ∷ words.Star ∷
    words.Question ∷ words.Bang ∷ []

-- the marks with which long strings begin
abbrev pub quotes : List Word
quotes =
    words.ThreeDouble ∷ words.ThreeSingle ∷ []

-- the word that a text of this kind is: keywords are read without case
abbrev pub word_of_text : TokenKind → List ℕ → Option Word
word_of_text kinds.Word text = find (λ word. str_eq_ignore_ascii_case text (word_text word)) keywords
word_of_text kinds.Sign text = find (λ word. pointwise ◌==◌ text (word_text word)) signs
word_of_text kinds.Quotes text = find (λ word. pointwise ◌==◌ text (word_text word)) quotes
word_of_text kinds.Blank text = Some words.Blank
word_of_text _ text = None

-- the word that a token is
unfoldable pub unsupported_word : Lexeme → Option Word
unsupported_word token = word_of_text token.kind token.text
