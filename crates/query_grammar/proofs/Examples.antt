-- Worked examples, by computation: terminals, words, a query of the grammar, and runs of the push parser.
use Rattle.std.proofs.Common.{◌≡◌, ℕ, false, List, [], ◌∷◌, ◌++◌, Some, None, codes, refl, inr}
use Rattle.query_tokens.specs.declared.token.TokenKind.TheVariants as kinds
use Rattle.query_tokens.specs.declared.token.TokenKind.{TokenKind}
use Rattle.query_tokens.specs.Token.{Lexeme}
use Rattle.query_grammar.specs.declared.terminal.Terminal.TheVariants as terminals
use Rattle.query_grammar.specs.declared.syntax.Role.TheVariants as roles
use Rattle.query_grammar.specs.Terminals.{terminal_of}
use Rattle.query_grammar.specs.Roles.{Labelled, tokens_of, with_role}
use Rattle.query_grammar.specs.Tree.{VariableNode, Same, EndOfGroup, AllColumns, Syntax}
use Rattle.query_grammar.specs.Grammar.{IsQuery, none}
use Rattle.query_grammar.specs.declared.expect.Expect.TheVariants as expects
use Rattle.query_grammar.specs.Expecting.{start, ended, state_of, next_step, read_tokens}
use Rattle.query_grammar.specs.declared.words.Word.TheVariants as words
use Rattle.query_grammar.specs.Words.{unsupported_word}

abbrev token : TokenKind → List ℕ → Lexeme
token kind text = record { kind = kind; text = text; at = 0 }

keyword_in_lower_case : terminal_of (token kinds.Word (codes "seLECT")) ≡ terminals.SelectWord
unfolding terminal_of
keyword_in_lower_case = refl

capital_a : terminal_of (token kinds.Word (codes "A")) ≡ terminals.Other
unfolding terminal_of
capital_a = refl

small_a : terminal_of (token kinds.Word (codes "a")) ≡ terminals.A
unfolding terminal_of
small_a = refl

two_carets : terminal_of (token kinds.Sign (codes "^^")) ≡ terminals.Carets
unfolding terminal_of
two_carets = refl

filter_is_a_word : unsupported_word (token kinds.Word (codes "filter")) ≡ Some words.Filter
unfolding unsupported_word
filter_is_a_word = refl

where_is_no_word : unsupported_word (token kinds.Word (codes "where")) ≡ None
unfolding unsupported_word
where_is_no_word = refl

any_blank_node_label : unsupported_word (token kinds.Blank (codes "_:b")) ≡ Some words.Blank
unfolding unsupported_word
any_blank_node_label = refl

-- SELECT * { ?s ?p ?o }
abbrev select : Lexeme
select = token kinds.Word (codes "SELECT")

abbrev star : Lexeme
star = token kinds.Sign (codes "*")

abbrev brace : Lexeme
brace = token kinds.Sign (codes "{")

abbrev end_brace : Lexeme
end_brace = token kinds.Sign (codes "}")

abbrev variable : List ℕ → Lexeme
variable name = token kinds.Variable name

abbrev s : Lexeme
s = variable (codes "?s")

abbrev p : Lexeme
p = variable (codes "?p")

abbrev o : Lexeme
o = variable (codes "?o")

abbrev one_triple : Same
one_triple = record { subject = VariableNode s; properties = record { verb = VariableNode p; objects = VariableNode o ∷ [] } ∷ [] }

abbrev one_triple_tree : Syntax
one_triple_tree = record { declarations = []; distinct = false; columns = AllColumns; group = record { block = one_triple ∷ []; elements = EndOfGroup } }

abbrev one_triple_labelled : List Labelled
one_triple_labelled =
    with_role roles.Keyword select ∷ with_role roles.AllColumns star ∷ with_role roles.Open brace ∷
    with_role roles.Subject s ∷ with_role roles.Verb p ∷ with_role roles.Object o ∷ with_role roles.Close end_brace ∷ []

one_triple_is_query : IsQuery one_triple_tree one_triple_labelled
unfolding terminal_of
one_triple_is_query = record {
  spelled = (
    _,
    refl,
    (
      _,
      (select, (refl, refl)),
      (
        _,
        refl,
        (
          _,
          (star, (refl, refl)),
          (
            _,
            inr refl,
            (
              _,
              (brace, (refl, refl)),
              (
                _,
                (
                  _,
                  (
                    _,
                    (_, (refl, refl), (_, (_, (refl, refl), (_, (refl, refl), refl)), none _)),
                    inr refl,
                  ),
                  refl,
                ),
                (end_brace, (refl, refl)),
              ),
            ),
          ),
        ),
      ),
    ),
  );
}

-- the push parser reads it to its end, in these roles
one_triple_is_read : read_tokens start (tokens_of one_triple_labelled) ≡ Some (record { labelled = one_triple_labelled; state = ended })
unfolding read_tokens next_step terminal_of
one_triple_is_read = refl

-- without the last brace it stands after an object, with one group open
an_open_group : read_tokens start (select ∷ star ∷ brace ∷ s ∷ p ∷ o ∷ []) ≡
    Some (record {
      labelled =
          with_role roles.Keyword select ∷ with_role roles.AllColumns star ∷ with_role roles.Open brace ∷
          with_role roles.Subject s ∷ with_role roles.Verb p ∷ with_role roles.Object o ∷ [];
      state = state_of expects.AfterObject 1;
    })
unfolding read_tokens next_step terminal_of
an_open_group = refl

-- a brace too many is not read
a_brace_too_many : read_tokens start (tokens_of one_triple_labelled ++ end_brace ∷ []) ≡ None
unfolding read_tokens next_step terminal_of
a_brace_too_many = refl

-- nor is a subject after OPTIONAL
optional_wants_a_group : read_tokens start (select ∷ star ∷ brace ∷ token kinds.Word (codes "OPTIONAL") ∷ s ∷ []) ≡ None
unfolding read_tokens next_step terminal_of
optional_wants_a_group = refl
