-- The places of nodes are those that are computed.
use Rattle.std.proofs.Common.{◌≡◌, ◌≢◌, ◌⊎◌, inl, inr, ℕ, true, List, [], ◌++◌, Some, None, refl, sym, ap, subst, ◌∙◌, append-nil}
use Rattle.std.specs.List.{list_any}
use Rattle.std.specs.Option.{is_some, option_map_or}
use Rattle.bm_term.specs.Canonical.{RdfTerm, iri, plain, tagged, literal_of, canonical_text}
use Rattle.query_tokens.specs.Token.{Lexeme}
use Rattle.query_tokens.specs.declared.token.TokenKind.{TokenKind}
use Rattle.query_tokens.specs.declared.token.TokenKind.TheVariants as kinds
use Rattle.query_grammar.specs.declared.terminal.Terminal.{Terminal}
use Rattle.query_grammar.specs.declared.terminal.Terminal.TheVariants as terminals
use Rattle.query_grammar.specs.declared.syntax.Role.{Role}
use Rattle.query_grammar.specs.declared.syntax.Role.TheVariants as roles
use Rattle.query_grammar.specs.Terminals.{terminal_of}
use Rattle.query_grammar.specs.Roles.{Labelled, with_role}
use Rattle.query_grammar.specs.Tree.{Node, VariableNode, IriNode, StringNode, TaggedNode, TypedNode, NumberNode, BooleanNode, TypeNode}
use Rattle.alg_model.specs.declared.pattern.Place.{Place}
use Rattle.alg_model.specs.declared.pattern.Place.TheVariants as places
use Rattle.query_values.specs.reading.Values.{IsSpelled, iri_of, prefix_of, local_of, lexical_of, tag_of, name_of, plain_literal, number_literal, boolean_literal}
use Rattle.sparql_parse.specs.computed.Names.{namespace_of, is_text}
use Rattle.sparql_parse.specs.computed.Meaning.{Scope, number_of, namespace_at, iri_of_kind, iri_in, place_of}
use Rattle.query_values.specs.Iris.{SpellsIri, SpellsPrefixedName}
use Rattle.query_values.specs.Literals.{SpellsLexical}
use Rattle.sparql_parse.specs.Declarations.{StandsFor}
use Rattle.sparql_parse.specs.Names.{HasNumber}
use Rattle.sparql_parse.specs.Places.{IsIriOf, IsTermOf, IsTermPlace, IsPlaceOf}
use Rattle.sparql_parse.specs.Places as places_of
use Rattle.query_values.proofs.SpelledTokens.{SpellsIri-is, iri_of-spelled, SpellsPrefix-is, prefix_of-spelled, prefixed-spelled, SpellsPrefixed-prefix, SpellsPrefixed-local, name_of-spelled, SpellsLexical-is, lexical_of-spelled, SpellsTag-is, tag_of-spelled, SpellsNumber-is, number-spelled, SpellsBoolean-is, boolean-spelled}
use Rattle.sparql_parse.proofs.NumberLaws.{Differ, HasNumber-is, number_of-listed}
use Rattle.sparql_parse.proofs.TokenTerminals.{own_kind, terminal_of-kind, terminal_of-number, terminal_of-boolean}

-- what is computed of the declarations and the names is what they are
pub record Agrees (tokens : List Labelled) (scope : Scope) : Type 0 where
  pub found : (prefix iri : List ℕ) → StandsFor tokens prefix iri → namespace_of scope.namespaces prefix ≡ Some iri
  pub stands : (prefix iri : List ℕ) → namespace_of scope.namespaces prefix ≡ Some iri → StandsFor tokens prefix iri
  pub differ : Differ scope.names

-- the context of the rules
abbrev pub context_with : List Labelled → Scope → places_of.Context
context_with tokens scope = record { tokens = tokens; names = scope.names }

-- a token that may stand in a triple pattern: it is spelled, its prefix is declared, and its name is listed
pub record IsGood (scope : Scope) (l : Labelled) : Type 0 where
  pub spelled : IsSpelled l.token
  pub known : l.role ≢ roles.Declared → (l.token.kind ≡ kinds.Prefix) ⊎ (l.token.kind ≡ kinds.Prefixed) → is_some (namespace_of scope.namespaces (prefix_of l.token)) ≡ true
  pub listed : terminal_of l.token ≡ terminals.Variable → list_any (is_text (name_of l.token)) scope.names ≡ true

module _ (tokens : List Labelled) (scope : Scope) (agrees : Agrees tokens scope) where
  -- the IRI of a prefix that is declared
  namespace-is : (prefix namespace : List ℕ) → StandsFor tokens prefix namespace → namespace_at scope prefix ≡ namespace
  namespace-is prefix namespace stands = ap (λ o. option_map_or (λ (i : List ℕ). i) o []) (agrees.found prefix namespace stands)

  -- a prefix that is found stands for its IRI
  namespace-stands : (prefix : List ℕ) → is_some (namespace_of scope.namespaces prefix) ≡ true → StandsFor tokens prefix (namespace_at scope prefix)
  namespace-stands prefix some =
      elim (namespace_of scope.namespaces prefix) as (λ o. namespace_of scope.namespaces prefix ≡ o → is_some o ≡ true → StandsFor tokens prefix (option_map_or (λ (i : List ℕ). i) o [])) [
        | Some i ↦ λ is t. agrees.stands prefix i is
        | None ↦ λ is t. absurd (cc)
      ] refl some

  -- an IRI of any spelling
  name-is : (token : Lexeme) (prefix local namespace : List ℕ) → SpellsPrefixedName token prefix local → StandsFor tokens prefix namespace → iri_in scope token ≡ namespace ++ local
  name-is token prefix local namespace (inl s) stands =
      ap (λ (k : TokenKind). iri_of_kind scope k token) s.kind
      ∙ ap (λ p. namespace_at scope p ++ local_of token) (SpellsPrefixed-prefix token prefix local s)
      ∙ ap (λ n. n ++ local_of token) (namespace-is prefix namespace stands)
      ∙ ap (λ l. namespace ++ l) (SpellsPrefixed-local token prefix local s)
  name-is token prefix local namespace (inr (s, empty)) stands =
      ap (λ (k : TokenKind). iri_of_kind scope k token) s.kind
      ∙ ap (namespace_at scope) (SpellsPrefix-is token prefix s)
      ∙ namespace-is prefix namespace stands
      ∙ sym (append-nil namespace)
      ∙ ap (λ l. namespace ++ l) (sym empty)

  -- an IRI of any spelling is the one that is computed
  iri-is : (token : Lexeme) (characters : List ℕ) → IsIriOf tokens token characters → characters ≡ iri_in scope token
  iri-is token characters (IsIriOf.in_brackets s) = sym (ap (λ (k : TokenKind). iri_of_kind scope k token) s.kind ∙ SpellsIri-is token characters s)
  iri-is token characters (IsIriOf.by_prefix prefix local namespace s stands is) = is ∙ sym (name-is token prefix local namespace s stands)

  -- the terminal symbols of IRIs
  abbrev IsIriTerminal : Terminal → Type 0
  IsIriTerminal t = (t ≡ terminals.Iri) ⊎ ((t ≡ terminals.Prefixed) ⊎ (t ≡ terminals.Prefix))

  -- a good token spells the IRI that is computed
  pub iri-of : (l : Labelled) → IsGood scope l → l.role ≢ roles.Declared → IsIriTerminal (terminal_of l.token) → IsIriOf tokens l.token (iri_in scope l.token)
  iri-of l good used (inl e) =
      let kind : l.token.kind ≡ kinds.Iri = terminal_of-kind l.token kinds.Iri (ap own_kind e) in
      let same : iri_in scope l.token ≡ iri_of l.token = ap (λ (k : TokenKind). iri_of_kind scope k l.token) kind in
      IsIriOf.in_brackets (subst (SpellsIri l.token) (sym same) (iri_of-spelled l.token good.spelled kind))
  iri-of l good used (inr (inl e)) =
      let kind : l.token.kind ≡ kinds.Prefixed = terminal_of-kind l.token kinds.Prefixed (ap own_kind e) in
      IsIriOf.by_prefix (prefix_of l.token) (local_of l.token) (namespace_at scope (prefix_of l.token)) (inl (prefixed-spelled l.token good.spelled kind))
      (namespace-stands (prefix_of l.token) (good.known used (inr kind))) (ap (λ (k : TokenKind). iri_of_kind scope k l.token) kind)
  iri-of l good used (inr (inr e)) =
      let kind : l.token.kind ≡ kinds.Prefix = terminal_of-kind l.token kinds.Prefix (ap own_kind e) in
      IsIriOf.by_prefix (prefix_of l.token) [] (namespace_at scope (prefix_of l.token)) (inr (prefix_of-spelled l.token good.spelled kind, refl))
      (namespace-stands (prefix_of l.token) (good.known used (inl kind))) (ap (λ (k : TokenKind). iri_of_kind scope k l.token) kind ∙ sym (append-nil (namespace_at scope (prefix_of l.token))))

  -- a place that a node has is the one that is computed
  abbrev at_term : (place : Place) (term computed : RdfTerm) → place ≡ places.Term (canonical_text term) → term ≡ computed → place ≡ places.Term (canonical_text computed)
  at_term place term computed is same = is ∙ ap (λ t. places.Term (canonical_text t)) same

  -- a place that a node has is the one that is computed
  pub place-is : (node : Node) (place : Place) → IsPlaceOf (context_with tokens scope) node place → place ≡ place_of scope node
  place-is (VariableNode token) place (n, has, is) = is ∙ ap (λ m. places.Var (record { 0 = m })) (sym (HasNumber-is scope.names token n agrees.differ has))
  place-is (IriNode token) place (term, (characters, i, same), is) = at_term place term (iri (iri_in scope token)) is (same ∙ ap iri (iri-is token characters i))
  place-is (StringNode token) place (term, (lexical, s, same), is) = at_term place term (plain_literal token) is (same ∙ ap plain (sym (SpellsLexical-is token lexical s)))
  place-is (TaggedNode token mark) place (term, (lexical, tag, s, t, same), is) =
      at_term place term (tagged (lexical_of token) (tag_of mark)) is (same ∙ ap (λ x. tagged x tag) (sym (SpellsLexical-is token lexical s)) ∙ ap (tagged (lexical_of token)) (sym (SpellsTag-is mark tag t)))
  place-is (TypedNode token name) place (term, (lexical, datatype, s, i, same), is) =
      at_term place term (literal_of (lexical_of token) (iri_in scope name)) is (same ∙ ap (λ x. literal_of x datatype) (sym (SpellsLexical-is token lexical s)) ∙ ap (literal_of (lexical_of token)) (iri-is name datatype i))
  place-is (NumberNode token) place (term, s, is) = at_term place term (number_literal token) is (SpellsNumber-is token term s)
  place-is (BooleanNode token) place (term, s, is) = at_term place term (boolean_literal token) is (SpellsBoolean-is token term s)
  place-is (TypeNode token) place (term, same, is) = at_term place term _ is same

  -- a node whose tokens are good has the place that is computed
  abbrev pub HasPlace : Node → Type 0
  HasPlace node = IsPlaceOf (context_with tokens scope) node (place_of scope node)

  -- a variable that is good has the number that is computed
  pub number-of : (l : Labelled) → IsGood scope l → terminal_of l.token ≡ terminals.Variable → HasNumber scope.names l.token (number_of scope.names (name_of l.token))
  number-of l good e = record {
    name = name_of l.token;
    spelled = name_of-spelled l.token good.spelled (terminal_of-kind l.token kinds.Variable (ap own_kind e));
    listed = number_of-listed scope.names (name_of l.token) (good.listed e);
  }

  -- the place of a variable
  pub variable-place : (role : Role) (token : Lexeme) → IsGood scope (with_role role token) → terminal_of token ≡ terminals.Variable → HasPlace (VariableNode token)
  variable-place role token good e = (number_of scope.names (name_of token), number-of (with_role role token) good e, refl)

  -- the place of an IRI
  pub iri-place : (role : Role) (token : Lexeme) → role ≢ roles.Declared → IsGood scope (with_role role token) → IsIriTerminal (terminal_of token) → HasPlace (IriNode token)
  iri-place role token used good e = (iri (iri_in scope token), (iri_in scope token, iri-of (with_role role token) good used e, refl), refl)

  -- a string spells its lexical form
  string-of : (token : Lexeme) → IsSpelled token → terminal_of token ≡ terminals.Quoted → SpellsLexical token (lexical_of token)
  string-of token spelled e = lexical_of-spelled token spelled (terminal_of-kind token kinds.Quoted (ap own_kind e))

  -- the place of a string
  pub string-place : (token : Lexeme) → IsSpelled token → terminal_of token ≡ terminals.Quoted → HasPlace (StringNode token)
  string-place token spelled e = (plain_literal token, (lexical_of token, string-of token spelled e, refl), refl)

  -- the place of a string with a tag
  pub tagged-place : (token mark : Lexeme) → IsSpelled token → terminal_of token ≡ terminals.Quoted → IsSpelled mark → terminal_of mark ≡ terminals.Tag → HasPlace (TaggedNode token mark)
  tagged-place token mark spelled e mark_spelled t =
      (tagged (lexical_of token) (tag_of mark), (lexical_of token, tag_of mark, string-of token spelled e, tag_of-spelled mark mark_spelled (terminal_of-kind mark kinds.Tag (ap own_kind t)), refl), refl)

  -- the place of a string with a datatype
  pub typed-place : (token name : Lexeme) → IsSpelled token → terminal_of token ≡ terminals.Quoted → IsGood scope (with_role roles.Datatype name) → IsIriTerminal (terminal_of name) → HasPlace (TypedNode token name)
  typed-place token name spelled e good t =
      let used : roles.Datatype ≢ roles.Declared = λ same. cc in
      (literal_of (lexical_of token) (iri_in scope name), (lexical_of token, iri_in scope name, string-of token spelled e, iri-of (with_role roles.Datatype name) good used t, refl), refl)

  -- the place of a number
  pub number-place : (token : Lexeme) → terminal_of token ≡ terminals.Number → HasPlace (NumberNode token)
  number-place token e = (number_literal token, number-spelled token (terminal_of-number token e), refl)

  -- the place of `true` or `false`
  pub boolean-place : (token : Lexeme) → terminal_of token ≡ terminals.Boolean → HasPlace (BooleanNode token)
  boolean-place token e = let (kind, word) = terminal_of-boolean token e in (boolean_literal token, boolean-spelled token kind word, refl)

  -- the place of the word `a`
  pub type-place : (token : Lexeme) → HasPlace (TypeNode token)
  type-place token = (_, refl, refl)
