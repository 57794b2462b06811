-- Worked examples: groups, blocks and columns.
use Rattle.std.proofs.Common.{◌≡◌, [], ◌∷◌, map, refl}
use Rattle.query_tokens.specs.Token.{Lexeme}
use Rattle.query_grammar.specs.Tree.{Node, TypeNode, Same, EndOfGroup, Element, OptionalGroup, NestedGroup}
use Rattle.alg_model.specs.Pattern.{Bgp, Join, LeftJoin, triple_patterns}
use Rattle.sparql_parse.specs.computed.Meaning.{Scope, each_first, pattern_of}

abbrev nothing : Scope
nothing = record { names = []; namespaces = [] }

-- `{ OPTIONAL { } }`
an_optional_group : pattern_of nothing (record { block = []; elements = Element OptionalGroup [] EndOfGroup [] EndOfGroup }) ≡ LeftJoin (Bgp []) (Bgp [])
an_optional_group = refl

-- `{ { OPTIONAL { } } }`: the OPTIONAL stays in its group
an_optional_group_in_a_group : pattern_of nothing (record { block = []; elements = Element NestedGroup [] (Element OptionalGroup [] EndOfGroup [] EndOfGroup) [] EndOfGroup }) ≡ Join (Bgp []) (LeftJoin (Bgp []) (Bgp []))
an_optional_group_in_a_group = refl

abbrev a_node : Lexeme → Node
a_node token = TypeNode token

abbrev one_same : Lexeme → Same
one_same t = record { subject = a_node t; properties = (record { verb = a_node t; objects = a_node t ∷ a_node t ∷ [] }) ∷ [] }

-- two objects before a group and two in it, which is OPTIONAL
numbers_go_on_in_groups : (t : Lexeme) →
    map (λ triple. triple.number) (triple_patterns (pattern_of nothing (record { block = one_same t ∷ []; elements = Element OptionalGroup (one_same t ∷ []) EndOfGroup [] EndOfGroup }))) ≡ 1 ∷ 2 ∷ 3 ∷ 4 ∷ []
numbers_go_on_in_groups t = refl

columns_in_the_order_of_the_text : each_first (3 ∷ 1 ∷ 3 ∷ 2 ∷ 1 ∷ []) ≡ 3 ∷ 1 ∷ 2 ∷ []
columns_in_the_order_of_the_text = refl
