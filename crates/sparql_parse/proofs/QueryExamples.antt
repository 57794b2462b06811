-- Worked examples: names, prefixes, faults of tokens, and whole texts.
use Rattle.std.proofs.Common.{◌≡◌, false, ℕ, List, [], ◌∷◌, Some, Ok, Err, codes, refl}
use Rattle.query_tokens.specs.declared.token.TokenKind.TheVariants as kinds
use Rattle.query_tokens.specs.declared.token.TokenKind.{TokenKind}
use Rattle.query_tokens.specs.Token.{Lexeme}
use Rattle.query_grammar.specs.declared.syntax.Role.{Role}
use Rattle.query_grammar.specs.declared.syntax.Role.TheVariants as roles
use Rattle.query_grammar.specs.Terminals.{terminal_of}
use Rattle.query_grammar.specs.Roles.{Labelled, with_role}
use Rattle.query_grammar.specs.Expecting.{next_step}
use Rattle.query_grammar.specs.Words.{unsupported_word}
use Rattle.query_grammar.specs.declared.words.Word.TheVariants as words
use Rattle.alg_model.specs.Pattern.{Bgp}
use Rattle.query_values.specs.reading.Values.{name_of}
use Rattle.sparql_parse.specs.declared.fault.QueryFault.TheVariants as faults
use Rattle.sparql_parse.specs.computed.Names.{names_of, namespace_with, namespace_of, declarations_of}
use Rattle.sparql_parse.specs.computed.Faults.{fault_of}
use Rattle.sparql_parse.specs.computed.Building.{step}
use Rattle.sparql_parse.specs.computed.Reading.{and_then, first, read_on, read_next, query_of, query_at_end}

abbrev token : Role → TokenKind → List ℕ → Labelled
token role kind text = with_role role (record { kind = kind; text = text; at = 7 })

names_in_the_order_of_the_text :
    names_of (token roles.Column kinds.Variable (codes "?b") ∷ token roles.Subject kinds.Variable (codes "?a") ∷ token roles.Object kinds.Variable (codes "$b") ∷ []) ≡ codes "b" ∷ codes "a" ∷ []
unfolding names_of terminal_of name_of
names_in_the_order_of_the_text = refl

a_later_declaration_replaces_an_earlier_one :
    namespace_of (namespace_with (codes "p") (codes "one:") ∷ namespace_with (codes "p") (codes "two:") ∷ []) (codes "p") ≡ Some (codes "two:")
a_later_declaration_replaces_an_earlier_one = refl

a_prefix_without_a_declaration : fault_of [] (token roles.Subject kinds.Prefix (codes "p:")) ≡ Some (faults.UnknownPrefix 7)
unfolding fault_of declarations_of
a_prefix_without_a_declaration = refl

-- tokens, up to their end or to the first fault
abbrev at : ℕ → TokenKind → List ℕ → Lexeme
at place kind text = record { kind = kind; text = text; at = place }

-- SELECT * { }
the_empty_group :
    and_then (query_at_end 12) (read_on first (at 0 kinds.Word (codes "SELECT") ∷ at 7 kinds.Sign (codes "*") ∷ at 9 kinds.Sign (codes "{") ∷ at 11 kinds.Sign (codes "}") ∷ []))
    ≡ Ok (record { names = []; pattern = Bgp []; columns = []; distinct = false })
unfolding read_on read_next next_step terminal_of fault_of names_of declarations_of query_of step
the_empty_group = refl

-- SELECT * {
an_open_group : and_then (query_at_end 10) (read_on first (at 0 kinds.Word (codes "SELECT") ∷ at 7 kinds.Sign (codes "*") ∷ at 9 kinds.Sign (codes "{") ∷ [])) ≡ Err (faults.Syntax 10)
unfolding read_on read_next next_step terminal_of fault_of names_of declarations_of
an_open_group = refl

-- SELECT * { filter %
the_first_fault_counts :
    read_on first (at 0 kinds.Word (codes "SELECT") ∷ at 7 kinds.Sign (codes "*") ∷ at 9 kinds.Sign (codes "{") ∷ at 11 kinds.Word (codes "filter") ∷ at 18 kinds.Bad (codes "%") ∷ []) ≡ Err (faults.Unsupported 11 words.Filter)
unfolding read_on read_next next_step terminal_of unsupported_word fault_of names_of declarations_of
the_first_fault_counts = refl
