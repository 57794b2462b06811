-- Which tokens are of a terminal symbol: their kinds, and the words `true` and `false`.
use Rattle.std.proofs.Common.{◌≡◌, inl, inr, ℕ, Bool, true, false, ◌==◌, if◌then◌else◌, List, [], ◌∷◌, Option, Some, None, refl, ap}
use Rattle.std.specs.Prelude.{codes}
use Rattle.std.specs.Cmp.Lexicographic.{pointwise}
use Rattle.std.specs.Str.{str_eq_ignore_ascii_case}
use Rattle.query_tokens.specs.Token.{Lexeme}
use Rattle.query_tokens.specs.declared.token.TokenKind.{TokenKind}
use Rattle.query_tokens.specs.declared.token.TokenKind.TheVariants as kinds
use Rattle.query_grammar.specs.declared.terminal.Terminal.{Terminal}
use Rattle.query_grammar.specs.declared.terminal.Terminal.TheVariants as terminals
use Rattle.query_grammar.specs.Terminals.{word_terminal, sign_terminal, terminal_of_text, terminal_of}
use Rattle.query_values.proofs.SpelledTokens.{IsNumberKind, IsBooleanText}

-- the kind of the tokens of a terminal symbol that is of one kind
abbrev pub own_kind : Terminal → Option TokenKind
own_kind terminals.Iri = Some kinds.Iri
own_kind terminals.Prefix = Some kinds.Prefix
own_kind terminals.Prefixed = Some kinds.Prefixed
own_kind terminals.Variable = Some kinds.Variable
own_kind terminals.Quoted = Some kinds.Quoted
own_kind terminals.Tag = Some kinds.Tag
own_kind _ = None

-- whether it is that of numbers
abbrev is_number : Terminal → Bool
is_number terminals.Number = true
is_number _ = false

-- whether it is that of `true` and `false`
abbrev is_boolean : Terminal → Bool
is_boolean terminals.Boolean = true
is_boolean _ = false

-- the first choice whose test passes, or the last
abbrev choice : List (Bool × Terminal) → Terminal → Terminal
choice [] last = last
choice (c ∷ cs) last = if c.0 then c.1 else choice cs last

-- a value that all choices have
abbrev AllHave : {X : Type 0} → (Terminal → X) → X → List (Bool × Terminal) → Type 0
AllHave f x [] = Unit {0}
AllHave f x (c ∷ cs) = (f c.1 ≡ x) × AllHave f x cs

-- a choice between two that have a value has it
chosen : {X : Type 0} (f : Terminal → X) (x : X) (b : Bool) (s t : Terminal) → f s ≡ x → f t ≡ x → f (if b then s else t) ≡ x
chosen f x true s t h k = h
chosen f x false s t h k = k

-- a choice among some that have a value has it
choice-has : {X : Type 0} (f : Terminal → X) (x : X) (cs : List (Bool × Terminal)) (last : Terminal) → f last ≡ x → AllHave f x cs → f (choice cs last) ≡ x
choice-has f x [] last e all = e
choice-has f x (c ∷ cs) last e (first, others) = chosen f x c.0 c.1 (choice cs last) first (choice-has f x cs last e others)

-- the signs with their texts
abbrev signs : List ℕ → List (Bool × Terminal)
signs text =
    (pointwise ◌==◌ text (codes "{"), terminals.Open)
    ∷ (pointwise ◌==◌ text (codes "}"), terminals.Close)
    ∷ (pointwise ◌==◌ text (codes "."), terminals.Stop)
    ∷ (pointwise ◌==◌ text (codes ";"), terminals.Semicolon)
    ∷ (pointwise ◌==◌ text (codes ","), terminals.Comma)
    ∷ (pointwise ◌==◌ text (codes "*"), terminals.Star)
    ∷ (pointwise ◌==◌ text (codes "^^"), terminals.Carets)
    ∷ []

-- the words before `true` and `false`
abbrev words : List ℕ → List (Bool × Terminal)
words text =
    (pointwise ◌==◌ text (codes "a"), terminals.A)
    ∷ (str_eq_ignore_ascii_case text (codes "PREFIX"), terminals.PrefixWord)
    ∷ (str_eq_ignore_ascii_case text (codes "SELECT"), terminals.SelectWord)
    ∷ (str_eq_ignore_ascii_case text (codes "DISTINCT"), terminals.DistinctWord)
    ∷ (str_eq_ignore_ascii_case text (codes "WHERE"), terminals.WhereWord)
    ∷ (str_eq_ignore_ascii_case text (codes "OPTIONAL"), terminals.OptionalWord)
    ∷ []

-- `true`, `false` or another word
abbrev booleans : List ℕ → Terminal
booleans text =
    if str_eq_ignore_ascii_case text (codes "true") then terminals.Boolean
    else if str_eq_ignore_ascii_case text (codes "false") then terminals.Boolean
    else terminals.Other

-- what both have, the choice between them has
booleans-have : {X : Type 0} (f : Terminal → X) (x : X) (text : List ℕ) → f terminals.Boolean ≡ x → f terminals.Other ≡ x → f (booleans text) ≡ x
booleans-have f x text h k =
    chosen f x (str_eq_ignore_ascii_case text (codes "true")) terminals.Boolean (if str_eq_ignore_ascii_case text (codes "false") then terminals.Boolean else terminals.Other) h
    (chosen f x (str_eq_ignore_ascii_case text (codes "false")) terminals.Boolean terminals.Other h k)

-- a word is of no one kind of terminal symbol
word-kind : (text : List ℕ) → own_kind (word_terminal text) ≡ None
word-kind text = choice-has own_kind None (words text) (booleans text) (booleans-have own_kind None text refl refl) (refl, (refl, (refl, (refl, (refl, (refl, tt))))))

-- a sign is of none either
sign-kind : (text : List ℕ) → own_kind (sign_terminal text) ≡ None
sign-kind text = choice-has own_kind None (signs text) terminals.Other refl (refl, (refl, (refl, (refl, (refl, (refl, (refl, tt)))))))

-- a word is no number
word-no_number : (text : List ℕ) → is_number (word_terminal text) ≡ false
word-no_number text = choice-has is_number false (words text) (booleans text) (booleans-have is_number false text refl refl) (refl, (refl, (refl, (refl, (refl, (refl, tt))))))

-- a sign is no number
sign-no_number : (text : List ℕ) → is_number (sign_terminal text) ≡ false
sign-no_number text = choice-has is_number false (signs text) terminals.Other refl (refl, (refl, (refl, (refl, (refl, (refl, (refl, tt)))))))

-- a sign is no truth value
sign-no_boolean : (text : List ℕ) → is_boolean (sign_terminal text) ≡ false
sign-no_boolean text = choice-has is_boolean false (signs text) terminals.Other refl (refl, (refl, (refl, (refl, (refl, (refl, (refl, tt)))))))

-- a text whose terminal symbol is of one kind is of that kind
text-kind : (kind own : TokenKind) (text : List ℕ) → own_kind (terminal_of_text kind text) ≡ Some own → kind ≡ own
text-kind kinds.Word own text e = let none = word-kind text in absurd (cc)
text-kind kinds.Sign own text e = let none = sign-kind text in absurd (cc)
text-kind _ own text e = cc

-- a token of a terminal symbol of one kind is of that kind
pub terminal_of-kind : (token : Lexeme) (own : TokenKind) → own_kind (terminal_of token) ≡ Some own → token.kind ≡ own
unfolding terminal_of
terminal_of-kind token own e = text-kind token.kind own token.text e

-- a text that is a number is of a kind of numbers
text-number : (kind : TokenKind) (text : List ℕ) → is_number (terminal_of_text kind text) ≡ true → IsNumberKind kind
text-number kinds.Integer text e = inl refl
text-number kinds.Decimal text e = inr (inl refl)
text-number kinds.Double text e = inr (inr refl)
text-number kinds.Word text e = let no = word-no_number text in absurd (cc)
text-number kinds.Sign text e = let no = sign-no_number text in absurd (cc)
text-number _ text e = absurd (cc)

-- a number is an integer, a decimal or a double
pub terminal_of-number : (token : Lexeme) → terminal_of token ≡ terminals.Number → IsNumberKind token.kind
unfolding terminal_of
terminal_of-number token e = text-number token.kind token.text (ap is_number e)

-- the test of a choice that is a truth value, where the choices before it are none
passes : (cs : List (Bool × Terminal)) (last : Terminal) → AllHave is_boolean false cs → is_boolean (choice cs last) ≡ true → is_boolean last ≡ true
passes [] last all e = e
passes (c ∷ cs) last (first, others) e =
    elim c.0 as (λ b. is_boolean (if b then c.1 else choice cs last) ≡ true → is_boolean last ≡ true) [
      | true ↦ λ is. absurd (cc)
      | false ↦ λ is. passes cs last others is
    ] e

-- it is `true` or it is `false`
which : (text : List ℕ) (b c : Bool) → str_eq_ignore_ascii_case text (codes "true") ≡ b → str_eq_ignore_ascii_case text (codes "false") ≡ c →
    is_boolean (if b then terminals.Boolean else if c then terminals.Boolean else terminals.Other) ≡ true → IsBooleanText text
which text true c is other e = inl is
which text false true is other e = inr other
which text false false is other e = absurd (cc)

-- a word that is a truth value is `true` or `false`
word-boolean : (text : List ℕ) → is_boolean (word_terminal text) ≡ true → IsBooleanText text
word-boolean text e =
    which text (str_eq_ignore_ascii_case text (codes "true")) (str_eq_ignore_ascii_case text (codes "false")) refl refl
    (passes (words text) (booleans text) (refl, (refl, (refl, (refl, (refl, (refl, tt)))))) e)

-- a text that is a truth value is such a word
text-boolean : (kind : TokenKind) (text : List ℕ) → is_boolean (terminal_of_text kind text) ≡ true → (kind ≡ kinds.Word) × IsBooleanText text
text-boolean kinds.Word text e = (refl, word-boolean text e)
text-boolean kinds.Sign text e = let no = sign-no_boolean text in absurd (cc)
text-boolean _ text e = absurd (cc)

-- a truth value is the word `true` or `false`
pub terminal_of-boolean : (token : Lexeme) → terminal_of token ≡ terminals.Boolean → (token.kind ≡ kinds.Word) × IsBooleanText token.text
unfolding terminal_of
terminal_of-boolean token e = text-boolean token.kind token.text (ap is_boolean e)

-- a tag is of the kind of tags
pub terminal_of-tag : (token : Lexeme) → terminal_of token ≡ terminals.Tag → token.kind ≡ kinds.Tag
terminal_of-tag token e = terminal_of-kind token kinds.Tag (ap own_kind e)

-- a variable is of the kind of variables
pub terminal_of-variable : (token : Lexeme) → terminal_of token ≡ terminals.Variable → token.kind ≡ kinds.Variable
terminal_of-variable token e = terminal_of-kind token kinds.Variable (ap own_kind e)
