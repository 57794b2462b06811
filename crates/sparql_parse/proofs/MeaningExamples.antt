-- Worked examples of the rules: groups, columns, names, numbers, and the fault of a token.
use Rattle.std.proofs.Common.{◌≡◌, inr, inl, ℕ, ◌==◌, List, [], ◌∷◌, length, codes, refl, sym, ap, subst, arith, length-append}
use Rattle.std.specs.Str.{chars}
use Rattle.rdf_text.specs.Classes.{is_sparql_label_first, is_sparql_pn_chars_u, is_pn_chars_base}
use Rattle.rdf_text.specs.Marks.{question_mark}
use Rattle.query_tokens.specs.Token.{Lexeme}
use Rattle.query_tokens.specs.Variables.{IsVariableName}
use Rattle.query_tokens.specs.declared.token.TokenKind.{TokenKind}
use Rattle.query_tokens.specs.declared.token.TokenKind.TheVariants as kinds
use Rattle.query_grammar.specs.declared.syntax.Role.TheVariants as roles
use Rattle.query_grammar.specs.Roles.{with_role}
use Rattle.query_grammar.specs.Tree.{EndOfGroup, Element, OptionalGroup, NestedGroup}
use Rattle.query_values.specs.Iris.{SpellsPrefix}
use Rattle.query_values.specs.Variables.{SpellsVariable}
use Rattle.query_values.proofs.TokenLaws.{ascii_chars}
use Rattle.sparql_parse.specs.declared.fault.QueryFault.TheVariants as faults
use Rattle.sparql_parse.specs.Causes.{cause_text}
use Rattle.sparql_parse.specs.Declarations.{IsDeclared}
use Rattle.sparql_parse.specs.Faults.{HasFault}
use Rattle.sparql_parse.specs.Names.{first_of_each, HasNumber}
use Rattle.sparql_parse.specs.Translation.{translated, NodeBgp, NodeJoin, NodeLeftJoin}

-- a token at byte 7
abbrev token : TokenKind → List ℕ → Lexeme
token kind text = record { kind = kind; text = text; at = 7 }

-- `{ OPTIONAL { } }`
an_optional_group : translated (record { block = []; elements = Element OptionalGroup [] EndOfGroup [] EndOfGroup }) ≡ NodeLeftJoin (NodeBgp []) (NodeBgp [])
an_optional_group = refl

-- `{ { OPTIONAL { } } }`: the OPTIONAL stays in its group
an_optional_group_in_a_group : translated (record { block = []; elements = Element NestedGroup [] (Element OptionalGroup [] EndOfGroup [] EndOfGroup) [] EndOfGroup }) ≡ NodeJoin (NodeBgp []) (NodeLeftJoin (NodeBgp []) (NodeBgp []))
an_optional_group_in_a_group = refl

-- 3, 1, 3, 2, 1
each_in_the_order_of_first_occurrence : first_of_each ◌==◌ (3 ∷ 1 ∷ 3 ∷ 2 ∷ 1 ∷ []) ≡ 3 ∷ 1 ∷ 2 ∷ []
each_in_the_order_of_first_occurrence = refl

-- `?x` and `$x` have the name x
a_name : IsVariableName (chars (codes "x"))
unfolding is_sparql_label_first is_sparql_pn_chars_u is_pn_chars_base
a_name = subst IsVariableName (sym (ascii_chars (codes "x") refl)) (0x78, [], refl, refl, refl)

-- the mark is no part of the name
a_variable : SpellsVariable (token kinds.Variable (codes "?x")) (codes "x")
a_variable = record { kind = refl; mark = question_mark; is_mark = refl; is_name = a_name; spelled = refl }

-- the second of the names is that of the variable with the number 1
a_number : HasNumber (codes "s" ∷ codes "x" ∷ []) (token kinds.Variable (codes "?x")) 1
a_number = record { name = codes "x"; spelled = a_variable; listed = refl }

-- `:` is used as an IRI, and nothing is declared
the_empty_prefix : SpellsPrefix (token kinds.Prefix (codes ":")) []
the_empty_prefix = record { kind = refl; label = inl refl; spelled = ascii_chars (codes ":") refl }

-- no token declares anything
nothing_declared : ¬ IsDeclared [] []
nothing_declared (iri, d) =
    let split = d.split in
    absurd (omega (arith, ap length split, length-append d.before (with_role roles.Declared d.label ∷ with_role roles.Namespace d.namespace ∷ d.after)))

-- so `:` has a fault
an_undeclared_prefix : HasFault [] (with_role roles.Subject (token kinds.Prefix (codes ":"))) (faults.UnknownPrefix 7)
an_undeclared_prefix = inl ((λ same. cc, ([], [], inr (the_empty_prefix, refl), nothing_declared)), refl)

-- too deep
the_words_of_a_fault : cause_text (faults.TooDeep 7) ≡ codes "too deep"
the_words_of_a_fault = refl
