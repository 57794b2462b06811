-- The names of a query are texts.
use Rattle.std.proofs.Common.{◌≡◌, ℕ, zero, suc, true, false, if◌then◌else◌, List, [], ◌∷◌, ◌++◌, fold, refl, sym, ◌∙◌, ap, subst, arith}
use Rattle.std.specs.Prelude.{All}
use Rattle.std.specs.List.{list_any}
use Rattle.std.specs.Str.{IsUtf8, chars}
use Rattle.std.proofs.lemmas.Bool.{and_parts}
use Rattle.std.proofs.lemmas.Str.{scalars-chars}
use Rattle.std.proofs.lemmas.List.Elements.{All-append}
use lib.Utf8.{scalar, scalars}
use Rattle.query_tokens.specs.Token.{Lexeme, IsToken}
use Rattle.query_tokens.specs.declared.token.TokenKind.{TokenKind}
use Rattle.query_tokens.specs.declared.token.TokenKind.TheVariants as kinds
use Rattle.query_grammar.specs.declared.terminal.Terminal.{Terminal}
use Rattle.query_grammar.specs.declared.terminal.Terminal.TheVariants as terminals
use Rattle.query_grammar.specs.Terminals.{terminal_of}
use Rattle.query_grammar.specs.Roles.{Labelled}
use Rattle.query_values.specs.reading.Values.{IsSpelled, name_of}
use Rattle.sparql_parse.specs.computed.Names.{is_text, with_name, names_after, names_of}
use Rattle.query_values.proofs.SpelledValues.{name_of-spells}
use Rattle.sparql_parse.proofs.TokenTerminals.{terminal_of-variable}

-- the name of a variable is a text
pub variable-text : (token : Lexeme) → IsSpelled token → token.kind ≡ kinds.Variable → IsUtf8 (name_of token)
variable-text token spelled kind =
    let (mark, name, is_mark, rule, text) = subst (λ (k : TokenKind). IsToken k (chars token.text)) kind spelled.rule in
    let all : scalars (mark ∷ name) ≡ true = ap scalars (sym text) ∙ scalars-chars token.text spelled.utf8 in
    (name, ((and_parts (scalar mark) (scalars name) all).1, sym (name_of-spells token mark name spelled.utf8 is_mark text)))

-- each token is spelled
abbrev pub AreSpelled : List Labelled → Type 0
AreSpelled [] = Unit {0}
AreSpelled (l ∷ ls) = IsSpelled l.token × AreSpelled ls

one-text : (name : List ℕ) → IsUtf8 name → All IsUtf8 (name ∷ [])
one-text name h zero d lt = h
one-text name h (suc k) d lt = absurd (omega arith)

with_name-texts : (names : List (List ℕ)) (name : List ℕ) → All IsUtf8 names → IsUtf8 name → All IsUtf8 (with_name names name)
with_name-texts names name all here =
    elim (list_any (is_text name) names) as (λ b. All IsUtf8 (if b then names else names ++ name ∷ [])) [ true ↦ all | false ↦ All-append IsUtf8 names (name ∷ []) all (one-text name here) ]

names_after-texts : (names : List (List ℕ)) (terminal : Terminal) (token : Lexeme) → All IsUtf8 names → (terminal ≡ terminals.Variable → IsUtf8 (name_of token)) → All IsUtf8 (names_after names terminal token)
names_after-texts names terminals.Variable token all here = with_name-texts names (name_of token) all (here refl)
names_after-texts names _ token all here = all

fold-texts : (names : List (List ℕ)) (ls : List Labelled) → All IsUtf8 names → AreSpelled ls → All IsUtf8 (fold (λ ns l. names_after ns (terminal_of l.token) l.token) names ls)
fold-texts names [] all spelled = all
fold-texts names (l ∷ ls) all (first, rest) =
    fold-texts (names_after names (terminal_of l.token) l.token) ls
    (names_after-texts names (terminal_of l.token) l.token all (λ e. variable-text l.token first (terminal_of-variable l.token e))) rest

none-texts : All IsUtf8 []
none-texts k d lt = absurd (omega arith)

pub names-texts : (labelled : List Labelled) → AreSpelled labelled → All IsUtf8 (names_of labelled)
unfolding names_of
names-texts labelled spelled = fold-texts [] labelled none-texts spelled
