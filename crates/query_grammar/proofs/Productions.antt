-- Each production of the grammar is read by its rule of the push parser, and grows its part of the tree.
use Rattle.std.proofs.Common.{◌≡◌, ℕ, suc, Bool, true, false, List, [], ◌∷◌, refl, ap}
use Rattle.query_tokens.specs.Token.{Lexeme}
use Rattle.query_grammar.specs.declared.terminal.Terminal.TheVariants as terminals
use Rattle.query_grammar.specs.declared.syntax.Role.TheVariants as roles
use Rattle.query_grammar.specs.declared.expect.Expect.TheVariants as expects
use Rattle.query_grammar.specs.Roles.{Labelled}
use Rattle.query_grammar.specs.Tree.{Node, VariableNode, IriNode, StringNode, TaggedNode, TypedNode, NumberNode, BooleanNode, TypeNode, Property, Same, Elements, EndOfGroup, Element, OptionalGroup, NestedGroup, Group, Declaration, Columns, AllColumns, Variables, Syntax}
use Rattle.query_grammar.specs.Grammar.{◌▸◌, Many, none, more, Keyword, IsNode, IsVerb, AreMoreObjects, AreObjects, IsProperty, AreMoreProperties, AreProperties, IsSame, AreMoreSames, IsBlock, InBraces, AreElements, IsGroup, AreMoreVariables, AreVariables, AreColumns, IsDistinct, IsDeclaration, IsPrologue, SpellsQuery, IsQuery}
use Rattle.query_grammar.specs.Expecting.{prologue_step, declared_prefix_step, namespace_step, projection_step, columns_step, more_columns_step, where_step, group_step, block_step, element_step, after_element_step, verb_step, object_step, datatype_step, after_subject_string_step, after_objects_step, after_object_step, after_object_string_step, after_semicolon_step, outside, start, ended}
use Rattle.query_grammar.proofs.Remainders.{Suffix, NoSuffix, TagSuffix, TypeSuffix, head_of, no_head, Remainder, left, group_of, property_of, same_of, nothing_left, remainder_of, tree_left}
use Rattle.query_grammar.proofs.Weakenings.{columns-projection, group-where, where-more_columns, group-element, element-block, block-after_element, verb-after_string, element-after_objects, after_objects-after_object, after_object-after_string, after_objects-after_semicolon, verb-after_semicolon}
use Rattle.query_grammar.proofs.Carrying.{Reads, On, At, Carries, c-then, c-or, c-before, c-after, c-nothing, c-never, c-maybe, weaken, at_state, c-token-at, c-token, c-some, c-keyword}

-- what is left in a group, with the elements, the groups round it and the head of another remainder
abbrev inside : Suffix → List Node → List Property → List Same → Remainder → Remainder
inside suffix objects properties block q = left suffix objects properties block q.elements q.outer q.head

object-carries : (n : ℕ) (node : Node) (os : List Node) (ps : List Property) (block : List Same) (q : Remainder) →
    Carries (IsNode roles.Object node) (On (object_step n) (inside NoSuffix (node ∷ os) ps block q)) (On (after_object_step n) (inside NoSuffix os ps block q))
object-carries n (VariableNode token) os ps block q =
    c-token (object_step n) terminals.Variable roles.Object token expects.AfterObject n (inside NoSuffix os ps block q) refl
object-carries n (IriNode token) os ps block q =
    c-or (c-token (object_step n) terminals.Iri roles.Object token expects.AfterObject n (inside NoSuffix os ps block q) refl)
    (c-or (c-token (object_step n) terminals.Prefixed roles.Object token expects.AfterObject n (inside NoSuffix os ps block q) refl)
    (c-token (object_step n) terminals.Prefix roles.Object token expects.AfterObject n (inside NoSuffix os ps block q) refl))
object-carries n (StringNode token) os ps block q =
    c-after (weaken (inside NoSuffix os ps block q) (after_object-after_string n))
    (c-token (object_step n) terminals.Quoted roles.Object token expects.AfterObjectString n (inside NoSuffix os ps block q) refl)
object-carries n (TaggedNode token tag) os ps block q =
    c-then (c-token (object_step n) terminals.Quoted roles.Object token expects.AfterObjectString n (inside (TagSuffix tag) os ps block q) refl)
    (c-token (after_object_string_step n) terminals.Tag roles.Tag tag expects.AfterObject n (inside NoSuffix os ps block q) refl)
object-carries n (TypedNode token iri) os ps block q =
    c-then (c-token (object_step n) terminals.Quoted roles.Object token expects.AfterObjectString n (inside (TypeSuffix iri) os ps block q) refl)
    (c-then (c-keyword (after_object_string_step n) terminals.Carets expects.ObjectDatatype n (inside (TypeSuffix iri) os ps block q) refl)
    (c-or (c-token (datatype_step expects.AfterObject n) terminals.Iri roles.Datatype iri expects.AfterObject n (inside NoSuffix os ps block q) refl)
    (c-or (c-token (datatype_step expects.AfterObject n) terminals.Prefixed roles.Datatype iri expects.AfterObject n (inside NoSuffix os ps block q) refl)
    (c-token (datatype_step expects.AfterObject n) terminals.Prefix roles.Datatype iri expects.AfterObject n (inside NoSuffix os ps block q) refl))))
object-carries n (NumberNode token) os ps block q =
    c-token (object_step n) terminals.Number roles.Object token expects.AfterObject n (inside NoSuffix os ps block q) refl
object-carries n (BooleanNode token) os ps block q =
    c-token (object_step n) terminals.Boolean roles.Object token expects.AfterObject n (inside NoSuffix os ps block q) refl
object-carries n (TypeNode token) os ps block q = c-never

subject-carries : (n : ℕ) (node : Node) (ps : List Property) (block : List Same) (q : Remainder) →
    Carries (IsNode roles.Subject node) (On (block_step n) (inside NoSuffix [] [] (same_of node ps ∷ block) q)) (On (verb_step n) (inside NoSuffix [] ps block q))
subject-carries n (VariableNode token) ps block q =
    c-token (block_step n) terminals.Variable roles.Subject token expects.Verb n (inside NoSuffix [] ps block q) refl
subject-carries n (IriNode token) ps block q =
    c-or (c-token (block_step n) terminals.Iri roles.Subject token expects.Verb n (inside NoSuffix [] ps block q) refl)
    (c-or (c-token (block_step n) terminals.Prefixed roles.Subject token expects.Verb n (inside NoSuffix [] ps block q) refl)
    (c-token (block_step n) terminals.Prefix roles.Subject token expects.Verb n (inside NoSuffix [] ps block q) refl))
subject-carries n (StringNode token) ps block q =
    c-after (weaken (inside NoSuffix [] ps block q) (verb-after_string n))
    (c-token (block_step n) terminals.Quoted roles.Subject token expects.AfterSubjectString n (inside NoSuffix [] ps block q) refl)
subject-carries n (TaggedNode token tag) ps block q =
    c-then (c-token (block_step n) terminals.Quoted roles.Subject token expects.AfterSubjectString n (inside (TagSuffix tag) [] ps block q) refl)
    (c-token (after_subject_string_step n) terminals.Tag roles.Tag tag expects.Verb n (inside NoSuffix [] ps block q) refl)
subject-carries n (TypedNode token iri) ps block q =
    c-then (c-token (block_step n) terminals.Quoted roles.Subject token expects.AfterSubjectString n (inside (TypeSuffix iri) [] ps block q) refl)
    (c-then (c-keyword (after_subject_string_step n) terminals.Carets expects.SubjectDatatype n (inside (TypeSuffix iri) [] ps block q) refl)
    (c-or (c-token (datatype_step expects.Verb n) terminals.Iri roles.Datatype iri expects.Verb n (inside NoSuffix [] ps block q) refl)
    (c-or (c-token (datatype_step expects.Verb n) terminals.Prefixed roles.Datatype iri expects.Verb n (inside NoSuffix [] ps block q) refl)
    (c-token (datatype_step expects.Verb n) terminals.Prefix roles.Datatype iri expects.Verb n (inside NoSuffix [] ps block q) refl))))
subject-carries n (NumberNode token) ps block q =
    c-token (block_step n) terminals.Number roles.Subject token expects.Verb n (inside NoSuffix [] ps block q) refl
subject-carries n (BooleanNode token) ps block q =
    c-token (block_step n) terminals.Boolean roles.Subject token expects.Verb n (inside NoSuffix [] ps block q) refl
subject-carries n (TypeNode token) ps block q = c-never

verb-carries : (n : ℕ) (node : Node) (os : List Node) (ps : List Property) (block : List Same) (q : Remainder) →
    Carries (IsVerb node) (On (verb_step n) (inside NoSuffix [] (property_of node os ∷ ps) block q)) (On (object_step n) (inside NoSuffix os ps block q))
verb-carries n (VariableNode token) os ps block q =
    c-token (verb_step n) terminals.Variable roles.Verb token expects.Object n (inside NoSuffix os ps block q) refl
verb-carries n (IriNode token) os ps block q =
    c-or (c-token (verb_step n) terminals.Iri roles.Verb token expects.Object n (inside NoSuffix os ps block q) refl)
    (c-or (c-token (verb_step n) terminals.Prefixed roles.Verb token expects.Object n (inside NoSuffix os ps block q) refl)
    (c-token (verb_step n) terminals.Prefix roles.Verb token expects.Object n (inside NoSuffix os ps block q) refl))
verb-carries n (TypeNode token) os ps block q =
    c-token (verb_step n) terminals.A roles.Verb token expects.Object n (inside NoSuffix os ps block q) refl
verb-carries n (StringNode token) os ps block q = c-never
verb-carries n (TaggedNode token tag) os ps block q = c-never
verb-carries n (TypedNode token iri) os ps block q = c-never
verb-carries n (NumberNode token) os ps block q = c-never
verb-carries n (BooleanNode token) os ps block q = c-never

more_objects-carry : (n : ℕ) (nodes : List Node) (ps : List Property) (block : List Same) (q : Remainder) →
    Carries (AreMoreObjects nodes) (On (after_object_step n) (inside NoSuffix nodes ps block q)) (On (after_objects_step n) (inside NoSuffix [] ps block q))
more_objects-carry n [] ps block q = c-nothing (weaken (inside NoSuffix [] ps block q) (after_objects-after_object n))
more_objects-carry n (node ∷ nodes) ps block q =
    c-then (c-keyword (after_object_step n) terminals.Comma expects.Object n (inside NoSuffix (node ∷ nodes) ps block q) refl)
    (c-then (object-carries n node nodes ps block q) (more_objects-carry n nodes ps block q))

objects-carry : (n : ℕ) (nodes : List Node) (ps : List Property) (block : List Same) (q : Remainder) →
    Carries (AreObjects nodes) (On (object_step n) (inside NoSuffix nodes ps block q)) (On (after_objects_step n) (inside NoSuffix [] ps block q))
objects-carry n [] ps block q = c-never
objects-carry n (node ∷ nodes) ps block q = c-then (object-carries n node nodes ps block q) (more_objects-carry n nodes ps block q)

property-carries : (n : ℕ) (property : Property) (ps : List Property) (block : List Same) (q : Remainder) →
    Carries (IsProperty property) (On (verb_step n) (inside NoSuffix [] (property ∷ ps) block q)) (On (after_objects_step n) (inside NoSuffix [] ps block q))
property-carries n property ps block q =
    c-then (verb-carries n property.verb property.objects ps block q) (objects-carry n property.objects ps block q)

semicolons-from : (n : ℕ) (ps : List Property) (block : List Same) (q : Remainder) (from to : List Labelled) →
    Many (Keyword terminals.Semicolon) from to → On (after_semicolon_step n) (inside NoSuffix [] ps block q) to → On (after_semicolon_step n) (inside NoSuffix [] ps block q) from
semicolons-from n ps block q from _ (none _) on = on
semicolons-from n ps block q from _ (more _ middle to semicolon rest) on =
    (c-keyword (after_semicolon_step n) terminals.Semicolon expects.AfterSemicolon n (inside NoSuffix [] ps block q) refl).carry from middle semicolon
    (semicolons-from n ps block q middle to rest on)

semicolons-carry : (n : ℕ) (ps : List Property) (block : List Same) (q : Remainder) →
    Carries (Many (Keyword terminals.Semicolon)) (On (after_semicolon_step n) (inside NoSuffix [] ps block q)) (On (after_semicolon_step n) (inside NoSuffix [] ps block q))
semicolons-carry n ps block q = record { carry = semicolons-from n ps block q }

last_semicolons-from : (n : ℕ) (block : List Same) (q : Remainder) (from to : List Labelled) →
    Many (Keyword terminals.Semicolon) from to → On (after_objects_step n) (inside NoSuffix [] [] block q) to → On (after_objects_step n) (inside NoSuffix [] [] block q) from
last_semicolons-from n block q from _ (none _) on = on
last_semicolons-from n block q from _ (more _ middle to semicolon rest) on =
    (c-keyword (after_objects_step n) terminals.Semicolon expects.AfterSemicolon n (inside NoSuffix [] [] block q) refl).carry from middle semicolon
    (semicolons-from n [] block q middle to rest (weaken (inside NoSuffix [] [] block q) (after_objects-after_semicolon n) to on))

more_properties-carry : (n : ℕ) (ps : List Property) (block : List Same) (q : Remainder) →
    Carries (AreMoreProperties ps) (On (after_objects_step n) (inside NoSuffix [] ps block q)) (On (after_objects_step n) (inside NoSuffix [] [] block q))
more_properties-carry n [] block q = record { carry = last_semicolons-from n block q }
more_properties-carry n (property ∷ ps) block q =
    c-then
    (c-then (c-keyword (after_objects_step n) terminals.Semicolon expects.AfterSemicolon n (inside NoSuffix [] (property ∷ ps) block q) refl) (semicolons-carry n (property ∷ ps) block q))
    (c-then (c-before (weaken (inside NoSuffix [] (property ∷ ps) block q) (verb-after_semicolon n)) (property-carries n property ps block q))
    (more_properties-carry n ps block q))

properties-carry : (n : ℕ) (ps : List Property) (block : List Same) (q : Remainder) →
    Carries (AreProperties ps) (On (verb_step n) (inside NoSuffix [] ps block q)) (On (after_objects_step n) (inside NoSuffix [] [] block q))
properties-carry n [] block q = c-never
properties-carry n (property ∷ ps) block q = c-then (property-carries n property ps block q) (more_properties-carry n ps block q)

same-carries : (n : ℕ) (same : Same) (block : List Same) (q : Remainder) →
    Carries (IsSame same) (On (block_step n) (inside NoSuffix [] [] (same ∷ block) q)) (On (after_objects_step n) (inside NoSuffix [] [] block q))
same-carries n same block q = c-then (subject-carries n same.subject same.properties block q) (properties-carry n same.properties block q)

more_sames-carry : (n : ℕ) (block : List Same) (q : Remainder) →
    Carries (AreMoreSames block) (On (after_objects_step n) (inside NoSuffix [] [] block q)) (On (element_step n) (inside NoSuffix [] [] [] q))
more_sames-carry n [] q =
    c-maybe (c-after (weaken (inside NoSuffix [] [] [] q) (element-block n))
    (c-keyword (after_objects_step n) terminals.Stop expects.Block n (inside NoSuffix [] [] [] q) refl))
    (weaken (inside NoSuffix [] [] [] q) (element-after_objects n))
more_sames-carry n (same ∷ block) q =
    c-then (c-keyword (after_objects_step n) terminals.Stop expects.Block n (inside NoSuffix [] [] (same ∷ block) q) refl)
    (c-then (same-carries n same block q) (more_sames-carry n block q))

block-carries : (n : ℕ) (block : List Same) (q : Remainder) →
    Carries (IsBlock block) (On (block_step n) (inside NoSuffix [] [] block q)) (On (element_step n) (inside NoSuffix [] [] [] q))
block-carries n [] q = c-nothing (weaken (inside NoSuffix [] [] [] q) (element-block n))
block-carries n (same ∷ block) q = c-then (same-carries n same block q) (more_sames-carry n block q)

-- what is left at the end of a group's block: its elements
abbrev at_elements : Elements → List Group → Remainder
at_elements elements outer = left NoSuffix [] [] [] elements outer no_head

abbrev at_block : List Same → Elements → List Group → Remainder
at_block block elements outer = left NoSuffix [] [] block elements outer no_head

braces-carry : (n : ℕ) (block : List Same) (elements : Elements) (next : List Same) (rest : Elements) (outer : List Group) →
    Carries (AreElements elements) (On (element_step (suc n)) (at_elements elements (group_of next rest ∷ outer))) (On (element_step (suc n)) (at_elements EndOfGroup (group_of next rest ∷ outer))) →
    Carries (InBraces (IsBlock block ▸ AreElements elements)) (On (group_step n) (at_elements (Element NestedGroup block elements next rest) outer)) (At (outside n) (at_block next rest outer))
braces-carry n block elements next rest outer inner =
    c-then (c-some terminals.Open roles.Open (λ token. c-token (group_step n) terminals.Open roles.Open token expects.Block (suc n) (at_block block elements (group_of next rest ∷ outer)) refl))
    (c-then (c-then (block-carries (suc n) block (at_elements elements (group_of next rest ∷ outer))) inner)
    (c-some terminals.Close roles.Close (λ token. c-token-at (element_step (suc n)) terminals.Close roles.Close token (outside n) (at_block next rest outer) refl)))

elements-carry : (n : ℕ) (elements : Elements) (outer : List Group) →
    Carries (AreElements elements) (On (element_step (suc n)) (at_elements elements outer)) (On (element_step (suc n)) (at_elements EndOfGroup outer))
elements-carry n EndOfGroup outer = c-nothing (λ ls on. on)
elements-carry n (Element OptionalGroup block elements next rest) outer =
    c-then (c-some terminals.OptionalWord roles.Optional (λ token. c-token (element_step (suc n)) terminals.OptionalWord roles.Optional token expects.Group (suc n) (at_elements (Element NestedGroup block elements next rest) outer) refl))
    (c-then (c-after (at_state expects.AfterElement (suc n) (at_block next rest outer))
    (braces-carry (suc n) block elements next rest outer (elements-carry (suc n) elements (group_of next rest ∷ outer))))
    (c-then (c-maybe (c-keyword (after_element_step (suc n)) terminals.Stop expects.Block (suc n) (at_block next rest outer) refl)
    (weaken (at_block next rest outer) (block-after_element (suc n))))
    (c-then (block-carries (suc n) next (at_elements rest outer)) (elements-carry n rest outer))))
elements-carry n (Element NestedGroup block elements next rest) outer =
    c-then (c-before (weaken (at_elements (Element NestedGroup block elements next rest) outer) (group-element (suc n)))
    (c-after (at_state expects.AfterElement (suc n) (at_block next rest outer))
    (braces-carry (suc n) block elements next rest outer (elements-carry (suc n) elements (group_of next rest ∷ outer)))))
    (c-then (c-maybe (c-keyword (after_element_step (suc n)) terminals.Stop expects.Block (suc n) (at_block next rest outer) refl)
    (weaken (at_block next rest outer) (block-after_element (suc n))))
    (c-then (block-carries (suc n) next (at_elements rest outer)) (elements-carry n rest outer)))

-- what is left before the group of a query, whose head is left as told
abbrev at_head : Group → List Declaration → Bool → Columns → Remainder
at_head group declarations distinct columns =
    left NoSuffix [] [] [] (Element NestedGroup group.block group.elements [] EndOfGroup) [] (head_of declarations distinct columns)

group-carries : (group : Group) → Carries (IsGroup group) (On (group_step 0) (at_head group [] false (Variables []))) (At ended nothing_left)
group-carries group =
    braces-carry 0 group.block group.elements [] EndOfGroup []
    (elements-carry 0 group.elements (group_of [] EndOfGroup ∷ []))

more_variables-carry : (group : Group) (tokens : List Lexeme) →
    Carries (AreMoreVariables tokens) (On (more_columns_step 0) (at_head group [] false (Variables tokens))) (On (where_step 0) (at_head group [] false (Variables [])))
more_variables-carry group [] = c-nothing (weaken (at_head group [] false (Variables [])) (where-more_columns 0))
more_variables-carry group (token ∷ tokens) =
    c-then (c-token (more_columns_step 0) terminals.Variable roles.Column token expects.MoreColumns 0 (at_head group [] false (Variables tokens)) refl)
    (more_variables-carry group tokens)

variables-carry : (group : Group) (tokens : List Lexeme) →
    Carries (AreVariables tokens) (On (columns_step 0) (at_head group [] false (Variables tokens))) (On (where_step 0) (at_head group [] false (Variables [])))
variables-carry group [] = c-never
variables-carry group (token ∷ tokens) =
    c-then (c-token (columns_step 0) terminals.Variable roles.Column token expects.MoreColumns 0 (at_head group [] false (Variables tokens)) refl)
    (more_variables-carry group tokens)

columns-carry : (group : Group) (columns : Columns) →
    Carries (AreColumns columns) (On (columns_step 0) (at_head group [] false columns)) (On (where_step 0) (at_head group [] false (Variables [])))
columns-carry group AllColumns =
    c-some terminals.Star roles.AllColumns (λ token. c-token (columns_step 0) terminals.Star roles.AllColumns token expects.WhereOrGroup 0 (at_head group [] false (Variables [])) refl)
columns-carry group (Variables tokens) = variables-carry group tokens

distinct-carries : (group : Group) (distinct : Bool) (columns : Columns) →
    Carries (IsDistinct distinct) (On (projection_step 0) (at_head group [] distinct columns)) (On (columns_step 0) (at_head group [] false columns))
distinct-carries group true columns =
    c-some terminals.DistinctWord roles.Distinct (λ token. c-token (projection_step 0) terminals.DistinctWord roles.Distinct token expects.Columns 0 (at_head group [] false columns) refl)
distinct-carries group false columns = c-nothing (weaken (at_head group [] false columns) (columns-projection 0))

declaration-carries : (group : Group) (declaration : Declaration) (declarations : List Declaration) (distinct : Bool) (columns : Columns) →
    Carries (IsDeclaration declaration) (On (prologue_step 0) (at_head group (declaration ∷ declarations) distinct columns)) (On (prologue_step 0) (at_head group declarations distinct columns))
declaration-carries group declaration declarations distinct columns =
    c-then (c-keyword (prologue_step 0) terminals.PrefixWord expects.DeclaredPrefix 0 (at_head group (declaration ∷ declarations) distinct columns) refl)
    (c-then (c-token (declared_prefix_step 0) terminals.Prefix roles.Declared declaration.prefix expects.Namespace 0
    (left (TypeSuffix declaration.iri) [] [] [] (Element NestedGroup group.block group.elements [] EndOfGroup) [] (head_of declarations distinct columns)) refl)
    (c-token (namespace_step 0) terminals.Iri roles.Namespace declaration.iri expects.Prologue 0 (at_head group declarations distinct columns) refl))

prologue-carries : (group : Group) (declarations : List Declaration) (distinct : Bool) (columns : Columns) →
    Carries (IsPrologue declarations) (On (prologue_step 0) (at_head group declarations distinct columns)) (On (prologue_step 0) (at_head group [] distinct columns))
prologue-carries group [] distinct columns = c-nothing (λ ls on. on)
prologue-carries group (declaration ∷ declarations) distinct columns =
    c-then (declaration-carries group declaration declarations distinct columns) (prologue-carries group declarations distinct columns)

query-carries : (tree : Syntax) → Carries (SpellsQuery tree) (On (prologue_step 0) (at_head tree.group tree.declarations tree.distinct tree.columns)) (At ended nothing_left)
query-carries tree =
    c-then (prologue-carries tree.group tree.declarations tree.distinct tree.columns)
    (c-then (c-keyword (prologue_step 0) terminals.SelectWord expects.Projection 0 (at_head tree.group [] tree.distinct tree.columns) refl)
    (c-then (distinct-carries tree.group tree.distinct tree.columns)
    (c-then (columns-carry tree.group tree.columns)
    (c-then (c-maybe (c-keyword (where_step 0) terminals.WhereWord expects.Group 0 (at_head tree.group [] false (Variables [])) refl)
    (weaken (at_head tree.group [] false (Variables [])) (group-where 0)))
    (group-carries tree.group)))))

nothing-after : At ended nothing_left []
unfolding remainder_of
nothing-after = record { reads = refl; grown = refl }

query-at : (tree : Syntax) (labelled : List Labelled) → IsQuery tree labelled → At start (at_head tree.group tree.declarations tree.distinct tree.columns) labelled
query-at tree labelled query =
    at_state expects.Prologue 0 (at_head tree.group tree.declarations tree.distinct tree.columns) labelled
    ((query-carries tree).carry labelled [] query.spelled nothing-after)

-- a query is read to its end, in its roles
pub query-reads : (tree : Syntax) (labelled : List Labelled) → IsQuery tree labelled → Reads ended start labelled
query-reads tree labelled query = (query-at tree labelled query).reads

-- the labelled tokens of a query determine its tree
pub query-tree : (tree : Syntax) (labelled : List Labelled) → IsQuery tree labelled → tree_left (remainder_of labelled) ≡ tree
query-tree tree labelled query = ap (λ left. tree_left left) (query-at tree labelled query).grown
