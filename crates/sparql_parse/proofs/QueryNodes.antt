-- The nodes of a query whose tokens are good have places, and its columns have numbers.
use Rattle.std.proofs.Common.{◌≡◌, ◌≢◌, ◌⊎◌, inl, inr, true, false, Bool, List, [], ◌∷◌, ◌++◌, map, subst}
use Rattle.std.specs.List.{flat_map}
use Rattle.query_tokens.specs.Token.{Lexeme}
use Rattle.query_grammar.specs.declared.terminal.Terminal.{Terminal}
use Rattle.query_grammar.specs.declared.terminal.Terminal.TheVariants as terminals
use Rattle.query_grammar.specs.declared.syntax.Role.{Role}
use Rattle.query_grammar.specs.declared.syntax.Role.TheVariants as roles
use Rattle.query_grammar.specs.Terminals.{terminal_of}
use Rattle.query_grammar.specs.Roles.{Labelled, with_role}
use Rattle.query_grammar.specs.Tree.{Node, VariableNode, IriNode, StringNode, TaggedNode, TypedNode, NumberNode, BooleanNode, TypeNode, Property, Same, ElementKind, Elements, EndOfGroup, Element, OptionalGroup, NestedGroup, Group, Declaration, Columns, AllColumns, Variables, Syntax}
use Rattle.query_grammar.specs.Grammar.{Spelling, ◌▸◌, Nothing, Never, Maybe, Many, none, more, Token, SomeToken, Keyword, IsIri, IsNode, IsVerb, AreMoreObjects, AreObjects, IsProperty, AreMoreProperties, AreProperties, IsSame, AreMoreSames, IsBlock, InBraces, AreElements, IsGroup, AreMoreVariables, AreColumns, IsDistinct, IsPrologue, SpellsQuery}
use Rattle.query_values.specs.reading.Values.{name_of}
use Rattle.sparql_parse.specs.computed.Meaning.{Scope, number_of}
use Rattle.sparql_parse.specs.Translation.{NodeTriple, triples_of_property, triples_of_same, triples_of_block}
use Rattle.sparql_parse.specs.OneByOne.{OneByOne}
use Rattle.sparql_parse.specs.Names.{HasNumber}
use Rattle.sparql_parse.specs.Translation.{NodePattern, NodeBgp, NodeJoin, NodeLeftJoin, with_block, with_element, with_elements, translated}
use Rattle.sparql_parse.proofs.NodeLaws.{Agrees, IsGood, HasPlace, number-of, variable-place, iri-place, string-place, tagged-place, typed-place, number-place, boolean-place, type-place}

-- each of some tokens is good
abbrev pub AreGood : Scope → List Labelled → Type 0
AreGood scope [] = Unit {0}
AreGood scope (l ∷ ls) = IsGood scope l × AreGood scope ls

module _ (tokens : List Labelled) (scope : Scope) (agrees : Agrees tokens scope) where
  -- the node has a place
  abbrev Place : Node → Type 0
  Place node = HasPlace tokens scope agrees node

  -- a symbol of the grammar, of whose tokens this is known, and which leaves good tokens
  record Gives (symbol : Spelling) (X : Type 0) : Type 0 where
    give : (from to : List Labelled) → symbol from to → AreGood scope from → X × AreGood scope to

  -- one symbol after another
  g-then : {A B : Spelling} {X Y : Type 0} → Gives A X → Gives B Y → Gives (A ▸ B) (X × Y)
  g-then first second = record {
    give = λ from to (middle, a, b) good.
        let (x, rest) = first.give from middle a good in
        let (y, others) = second.give middle to b rest in
        ((x, y), others);
  }

  -- what follows from what is known
  g-map : {A : Spelling} {X Y : Type 0} → (X → Y) → Gives A X → Gives A Y
  g-map change gives = record { give = λ from to a good. let (x, rest) = gives.give from to a good in (change x, rest) }

  -- no token
  g-nothing : {X : Type 0} → X → Gives Nothing X
  g-nothing x = record { give = λ from to e good. (x, subst (AreGood scope) e good) }

  -- no spelling
  g-never : {X : Type 0} → Gives Never X
  g-never = record { give = λ from to impossible good. absurd impossible }

  -- a good token of a terminal symbol
  abbrev IsA : Terminal → Role → Lexeme → Type 0
  IsA terminal role token = IsGood scope (with_role role token) × (terminal_of token ≡ terminal)

  -- one token
  g-token : (terminal : Terminal) (role : Role) (token : Lexeme) → Gives (Token terminal role token) (IsA terminal role token)
  g-token terminal role token = record { give = λ from to (e, split) good. let (first, rest) = subst (AreGood scope) split good in ((first, e), rest) }

  -- some token, of which nothing is kept
  g-some : (terminal : Terminal) (role : Role) → Gives (SomeToken terminal role) (Unit {0})
  g-some terminal role = record { give = λ from to (token, (e, split)) good. let (first, rest) = subst (AreGood scope) split good in (tt, rest) }

  -- once or not at all
  g-maybe : {A : Spelling} {X : Type 0} → Gives A X → Gives (Maybe A) (Unit {0})
  g-maybe gives = record {
    give = λ from to either good.
        elim either [
          | inl a ↦ (let (x, rest) = gives.give from to a good in (tt, rest))
          | inr e ↦ (tt, subst (AreGood scope) e good)
        ];
  }

  -- any number of signs leave good tokens
  many-good : (terminal : Terminal) (from to : List Labelled) → Many (Keyword terminal) from to → AreGood scope from → AreGood scope to
  many-good terminal from to (none same) good = good
  many-good terminal from to (more start middle end first rest) good =
      many-good terminal middle end rest ((g-some terminal roles.Keyword).give start middle first good).1

  -- any number of signs
  g-many : (terminal : Terminal) → Gives (Many (Keyword terminal)) (Unit {0})
  g-many terminal = record { give = λ from to many good. (tt, many-good terminal from to many good) }

  -- nodes
  g-iri : (role : Role) → role ≢ roles.Declared → (token : Lexeme) → Gives (IsIri role token) (Place (IriNode token))
  g-iri role used token = record {
    give = λ from to either good.
        elim either [
          | inl a ↦ (let ((is, e), rest) = (g-token terminals.Iri role token).give from to a good in (iri-place tokens scope agrees role token used is (inl e), rest))
          | inr (inl a) ↦ (let ((is, e), rest) = (g-token terminals.Prefixed role token).give from to a good in (iri-place tokens scope agrees role token used is (inr (inl e)), rest))
          | inr (inr a) ↦ (let ((is, e), rest) = (g-token terminals.Prefix role token).give from to a good in (iri-place tokens scope agrees role token used is (inr (inr e)), rest))
        ];
  }

  -- a good token that is an IRI of any spelling
  abbrev IsDatatype : Lexeme → Type 0
  IsDatatype token = IsGood scope (with_role roles.Datatype token) × ((terminal_of token ≡ terminals.Iri) ⊎ ((terminal_of token ≡ terminals.Prefixed) ⊎ (terminal_of token ≡ terminals.Prefix)))

  -- the IRI of a datatype
  g-datatype : (token : Lexeme) → Gives (IsIri roles.Datatype token) (IsDatatype token)
  g-datatype token = record {
    give = λ from to either good.
        elim either [
          | inl a ↦ (let ((is, e), rest) = (g-token terminals.Iri roles.Datatype token).give from to a good in ((is, inl e), rest))
          | inr (inl a) ↦ (let ((is, e), rest) = (g-token terminals.Prefixed roles.Datatype token).give from to a good in ((is, inr (inl e)), rest))
          | inr (inr a) ↦ (let ((is, e), rest) = (g-token terminals.Prefix roles.Datatype token).give from to a good in ((is, inr (inr e)), rest))
        ];
  }

  -- a subject or an object
  g-node : (role : Role) → role ≢ roles.Declared → (node : Node) → Gives (IsNode role node) (Place node)
  g-node role used (VariableNode token) = g-map (λ (is, e). variable-place tokens scope agrees role token is e) (g-token terminals.Variable role token)
  g-node role used (IriNode token) = g-iri role used token
  g-node role used (StringNode token) = g-map (λ (is, e). string-place tokens scope agrees token is.spelled e) (g-token terminals.Quoted role token)
  g-node role used (TaggedNode token mark) =
      g-map (λ ((is, e), (mark_is, t)). tagged-place tokens scope agrees token mark is.spelled e mark_is.spelled t) (g-then (g-token terminals.Quoted role token) (g-token terminals.Tag roles.Tag mark))
  g-node role used (TypedNode token name) =
      g-map (λ ((is, e), (carets, (name_is, t))). typed-place tokens scope agrees token name is.spelled e name_is t) (g-then (g-token terminals.Quoted role token) (g-then (g-some terminals.Carets roles.Keyword) (g-datatype name)))
  g-node role used (NumberNode token) = g-map (λ (is, e). number-place tokens scope agrees token e) (g-token terminals.Number role token)
  g-node role used (BooleanNode token) = g-map (λ (is, e). boolean-place tokens scope agrees token e) (g-token terminals.Boolean role token)
  g-node role used (TypeNode token) = g-never

  -- a verb
  g-verb : (node : Node) → Gives (IsVerb node) (Place node)
  g-verb (VariableNode token) = g-map (λ (is, e). variable-place tokens scope agrees roles.Verb token is e) (g-token terminals.Variable roles.Verb token)
  g-verb (IriNode token) = g-iri roles.Verb (λ same. cc) token
  g-verb (TypeNode token) = g-map (λ (is, e). type-place tokens scope agrees token) (g-token terminals.A roles.Verb token)
  g-verb (StringNode token) = g-never
  g-verb (TaggedNode token mark) = g-never
  g-verb (TypedNode token name) = g-never
  g-verb (NumberNode token) = g-never
  g-verb (BooleanNode token) = g-never

  -- lists of nodes
  abbrev Places : List Node → Type 0
  Places [] = Unit {0}
  Places (node ∷ nodes) = Place node × Places nodes

  -- an object is no declaration
  object_role : roles.Object ≢ roles.Declared
  object_role = λ same. cc

  -- objects, each after a comma
  g-more_objects : (nodes : List Node) → Gives (AreMoreObjects nodes) (Places nodes)
  g-more_objects [] = g-nothing tt
  g-more_objects (node ∷ nodes) =
      g-map (λ (comma, (first, others)). (first, others)) (g-then (g-some terminals.Comma roles.Keyword) (g-then (g-node roles.Object object_role node) (g-more_objects nodes)))

  -- objects
  g-objects : (nodes : List Node) → Gives (AreObjects nodes) (Places nodes)
  g-objects [] = g-never
  g-objects (node ∷ nodes) = g-then (g-node roles.Object object_role node) (g-more_objects nodes)

  -- a verb and its objects have places
  abbrev PropertyPlaces : Property → Type 0
  PropertyPlaces property = Place property.verb × Places property.objects

  -- a verb with its objects
  g-property : (property : Property) → Gives (IsProperty property) (PropertyPlaces property)
  g-property property = g-then (g-verb property.verb) (g-objects property.objects)

  -- each of some verbs and their objects have places
  abbrev PropertiesPlaces : List Property → Type 0
  PropertiesPlaces [] = Unit {0}
  PropertiesPlaces (property ∷ properties) = PropertyPlaces property × PropertiesPlaces properties

  -- verbs with their objects, each after semicolons
  g-more_properties : (properties : List Property) → Gives (AreMoreProperties properties) (PropertiesPlaces properties)
  g-more_properties [] = g-map (λ many. tt) (g-many terminals.Semicolon)
  g-more_properties (property ∷ properties) =
      g-map (λ (semicolons, (first, others)). (first, others))
      (g-then (g-then (g-some terminals.Semicolon roles.Keyword) (g-many terminals.Semicolon)) (g-then (g-property property) (g-more_properties properties)))

  -- verbs with their objects
  g-properties : (properties : List Property) → Gives (AreProperties properties) (PropertiesPlaces properties)
  g-properties [] = g-never
  g-properties (property ∷ properties) = g-then (g-property property) (g-more_properties properties)

  -- a subject, its verbs and their objects have places
  abbrev SamePlaces : Same → Type 0
  SamePlaces same = Place same.subject × PropertiesPlaces same.properties

  -- a subject with its verbs and their objects
  g-same : (same : Same) → Gives (IsSame same) (SamePlaces same)
  g-same same = g-then (g-node roles.Subject (λ e. cc) same.subject) (g-properties same.properties)

  -- the nodes of a block have places
  abbrev BlockPlaces : List Same → Type 0
  BlockPlaces [] = Unit {0}
  BlockPlaces (same ∷ block) = SamePlaces same × BlockPlaces block

  -- subjects, each after a full stop
  g-more_sames : (block : List Same) → Gives (AreMoreSames block) (BlockPlaces block)
  g-more_sames [] = g-map (λ stop. tt) (g-maybe (g-some terminals.Stop roles.Keyword))
  g-more_sames (same ∷ block) =
      g-map (λ (stop, (first, others)). (first, others)) (g-then (g-some terminals.Stop roles.Keyword) (g-then (g-same same) (g-more_sames block)))

  -- a block
  g-block : (block : List Same) → Gives (IsBlock block) (BlockPlaces block)
  g-block [] = g-nothing tt
  g-block (same ∷ block) = g-then (g-same same) (g-more_sames block)

  -- what is in braces
  g-braces : {A : Spelling} {X : Type 0} → Gives A X → Gives (InBraces A) X
  g-braces gives = g-map (λ (first, (x, last)). x) (g-then (g-some terminals.Open roles.Open) (g-then gives (g-some terminals.Close roles.Close)))

  -- the nodes of elements have places
  abbrev ElementsPlaces : Elements → Type 0
  ElementsPlaces EndOfGroup = Unit {0}
  ElementsPlaces (Element kind block elements next rest) = (BlockPlaces block × ElementsPlaces elements) × (BlockPlaces next × ElementsPlaces rest)

  -- the elements of a group
  g-elements : (elements : Elements) → Gives (AreElements elements) (ElementsPlaces elements)
  g-elements EndOfGroup = g-nothing tt
  g-elements (Element OptionalGroup block elements next rest) =
      g-map (λ (word, (inside, (stop, others))). (inside, others))
      (g-then (g-some terminals.OptionalWord roles.Optional) (g-then (g-braces (g-then (g-block block) (g-elements elements))) (g-then (g-maybe (g-some terminals.Stop roles.Keyword)) (g-then (g-block next) (g-elements rest)))))
  g-elements (Element NestedGroup block elements next rest) =
      g-map (λ (inside, (stop, others)). (inside, others))
      (g-then (g-braces (g-then (g-block block) (g-elements elements))) (g-then (g-maybe (g-some terminals.Stop roles.Keyword)) (g-then (g-block next) (g-elements rest))))

  -- the nodes of a group have places
  abbrev GroupPlaces : Group → Type 0
  GroupPlaces group = BlockPlaces group.block × ElementsPlaces group.elements

  -- a group
  g-group : (group : Group) → Gives (IsGroup group) (GroupPlaces group)
  g-group group = g-braces (g-then (g-block group.block) (g-elements group.elements))

  -- the columns
  abbrev Numbered : List Lexeme → Type 0
  Numbered ts = OneByOne (HasNumber scope.names) ts (map (λ token. number_of scope.names (name_of token)) ts)

  -- a column
  g-column : (token : Lexeme) → Gives (Token terminals.Variable roles.Column token) (HasNumber scope.names token (number_of scope.names (name_of token)))
  g-column token = g-map (λ (is, e). number-of tokens scope agrees (with_role roles.Column token) is e) (g-token terminals.Variable roles.Column token)

  -- columns in a row
  g-more_variables : (ts : List Lexeme) → Gives (AreMoreVariables ts) (Numbered ts)
  g-more_variables [] = g-nothing tt
  g-more_variables (token ∷ ts) = g-then (g-column token) (g-more_variables ts)

  -- the columns have numbers
  abbrev pub ColumnNumbers : Columns → Type 0
  ColumnNumbers AllColumns = Unit {0}
  ColumnNumbers (Variables ts) = Numbered ts

  -- the columns
  g-columns : (columns : Columns) → Gives (AreColumns columns) (ColumnNumbers columns)
  g-columns AllColumns = g-some terminals.Star roles.AllColumns
  g-columns (Variables []) = g-never
  g-columns (Variables (token ∷ ts)) = g-then (g-column token) (g-more_variables ts)

  -- DISTINCT, or nothing
  g-distinct : (distinct : Bool) → Gives (IsDistinct distinct) (Unit {0})
  g-distinct true = g-some terminals.DistinctWord roles.Distinct
  g-distinct false = g-nothing tt

  -- the declarations
  g-prologue : (declarations : List Declaration) → Gives (IsPrologue declarations) (Unit {0})
  g-prologue [] = g-nothing tt
  g-prologue (declaration ∷ declarations) =
      g-map (λ x. tt)
      (g-then (g-then (g-some terminals.PrefixWord roles.Keyword) (g-then (g-token terminals.Prefix roles.Declared declaration.prefix) (g-token terminals.Iri roles.Namespace declaration.iri))) (g-prologue declarations))

  -- a whole query
  g-query : (tree : Syntax) → Gives (SpellsQuery tree) (ColumnNumbers tree.columns × GroupPlaces tree.group)
  g-query tree =
      g-map (λ (prologue, (select, (distinct, (columns, (where_word, group))))). (columns, group))
      (g-then (g-prologue tree.declarations) (g-then (g-some terminals.SelectWord roles.Keyword) (g-then (g-distinct tree.distinct) (g-then (g-columns tree.columns) (g-then (g-maybe (g-some terminals.WhereWord roles.Keyword)) (g-group tree.group))))))

  -- triples
  pub record TriplePlaces (t : NodeTriple) : Type 0 where
    pub subject : Place t.subject
    pub verb : Place t.verb
    pub object : Place t.object

  -- the nodes of some triples have places
  abbrev pub TriplesPlaces : List NodeTriple → Type 0
  TriplesPlaces [] = Unit {0}
  TriplesPlaces (t ∷ ts) = TriplePlaces t × TriplesPlaces ts

  -- the nodes of triples in two parts
  triples-append : (ts us : List NodeTriple) → TriplesPlaces ts → TriplesPlaces us → TriplesPlaces (ts ++ us)
  triples-append [] us front back = back
  triples-append (t ∷ ts) us (first, rest) back = (first, triples-append ts us rest back)

  -- the triples of a subject, a verb and objects
  object-triples : (subject verb : Node) (objects : List Node) → Place subject → Place verb → Places objects → TriplesPlaces (map (λ (object : Node). record { subject = subject; verb = verb; object = object }) objects)
  object-triples subject verb [] s v all = tt
  object-triples subject verb (object ∷ objects) s v (first, others) = (record { subject = s; verb = v; object = first }, object-triples subject verb objects s v others)

  -- the triples of a subject, verbs and their objects
  property-triples : (subject : Node) (properties : List Property) → Place subject → PropertiesPlaces properties → TriplesPlaces (flat_map (triples_of_property subject) properties)
  property-triples subject [] s all = tt
  property-triples subject (property ∷ properties) s ((verb, objects), others) =
      triples-append (triples_of_property subject property) (flat_map (triples_of_property subject) properties) (object-triples subject property.verb property.objects s verb objects) (property-triples subject properties s others)

  -- the triples of a block
  block-triples : (block : List Same) → BlockPlaces block → TriplesPlaces (triples_of_block block)
  block-triples [] all = tt
  block-triples (same ∷ block) ((subject, properties), others) =
      triples-append (triples_of_same same) (triples_of_block block) (property-triples same.subject same.properties subject properties) (block-triples block others)

  -- patterns
  abbrev pub PatternPlaces : NodePattern → Type 0
  PatternPlaces (NodeBgp ts) = TriplesPlaces ts
  PatternPlaces (NodeJoin left right) = PatternPlaces left × PatternPlaces right
  PatternPlaces (NodeLeftJoin left right) = PatternPlaces left × PatternPlaces right

  -- a pattern with a block
  with_block-places : (pattern : NodePattern) (block : List Same) → PatternPlaces pattern → BlockPlaces block → PatternPlaces (with_block pattern block)
  with_block-places pattern [] p all = p
  with_block-places pattern (same ∷ block) p all = (p, block-triples (same ∷ block) all)

  -- a pattern with an element
  with_element-places : (kind : ElementKind) (pattern inner : NodePattern) → PatternPlaces pattern → PatternPlaces inner → PatternPlaces (with_element kind pattern inner)
  with_element-places OptionalGroup pattern inner p q = (p, q)
  with_element-places NestedGroup pattern inner p q = (p, q)

  -- a pattern with elements
  with_elements-places : (pattern : NodePattern) (elements : Elements) → PatternPlaces pattern → ElementsPlaces elements → PatternPlaces (with_elements pattern elements)
  with_elements-places pattern EndOfGroup p all = p
  with_elements-places pattern (Element kind block elements next rest) p ((first, deep), (after, others)) =
      let inner = with_elements (with_block (NodeBgp []) block) elements in
      let inside = with_elements-places (with_block (NodeBgp []) block) elements (with_block-places (NodeBgp []) block tt first) deep in
      let both = with_element kind pattern inner in
      with_elements-places (with_block both next) rest (with_block-places both next (with_element-places kind pattern inner p inside) after) others

  -- a query whose tokens are good: its columns have numbers, and the nodes of its group have places
  pub query-places : (tree : Syntax) (labelled : List Labelled) → SpellsQuery tree labelled [] → AreGood scope labelled → ColumnNumbers tree.columns × PatternPlaces (translated tree.group)
  query-places tree labelled spelled good =
      let ((columns, group), rest) = (g-query tree).give labelled [] spelled good in
      (columns, with_elements-places (with_block (NodeBgp []) tree.group.block) tree.group.elements (with_block-places (NodeBgp []) tree.group.block tt group.0) group.1)
