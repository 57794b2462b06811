-- The faults of a token that the grammar allows: a prefix without a declaration, and the limits of a query, which are
-- this project's own. A fault is one of the token and of those before it.
use Rattle.std.specs.Prelude.{◌≡◌, ◌≢◌, ℕ, Bool, true, false, ◌<◌, ◌⊎◌, List, [], ◌∷◌, ◌++◌, length}
use Rattle.alg_model.specs.Limits.{max_variables, max_triple_patterns, max_optionals, max_groups, max_open_groups}
use Rattle.sparql_parse.specs.declared.fault.QueryFault.{QueryFault}
use Rattle.sparql_parse.specs.declared.fault.QueryFault.TheVariants as faults
use Rattle.query_grammar.specs.declared.syntax.Role.{Role}
use Rattle.query_grammar.specs.declared.syntax.Role.TheVariants as roles
use Rattle.query_grammar.specs.Roles.{Labelled, count_of, is_open, open_groups}
use Rattle.query_values.specs.Iris.{SpellsPrefixedName}
use Rattle.sparql_parse.specs.Declarations.{IsDeclared}
use Rattle.sparql_parse.specs.Names.{AreNames}

-- the first token of an object, of which there is one for each triple pattern
abbrev pub is_object : Role → Bool
is_object roles.Object = true
is_object _ = false

-- the word OPTIONAL
abbrev pub is_optional : Role → Bool
is_optional roles.Optional = true
is_optional _ = false

-- the token is a prefixed name that is used as an IRI, and its prefix is not declared before it
abbrev pub HasUnknownPrefix : List Labelled → Labelled → Type 0
HasUnknownPrefix before l =
    (l.role ≢ roles.Declared) × ((prefix local : List ℕ) × SpellsPrefixedName l.token prefix local × ¬ IsDeclared before prefix)

-- there are more names than may be
abbrev pub HasTooManyNames : List Labelled → Type 0
HasTooManyNames tokens = (names : List (List ℕ)) × AreNames tokens names × (max_variables < length names)

-- this, if the claim holds, and else the other
abbrev pub IfHolds : Type 0 → Type 0 → Type 0 → Type 0
IfHolds Claim This Other = (Claim × This) ⊎ (¬ Claim × Other)

-- The fault of a token after others, none of which has one: the first of these that holds. The token counts itself.
abbrev pub HasFault : List Labelled → Labelled → QueryFault → Type 0
HasFault before l fault =
    let tokens = before ++ l ∷ [] in
    let at = l.token.at in
    IfHolds (HasUnknownPrefix before l) (fault ≡ faults.UnknownPrefix at)
    (IfHolds (HasTooManyNames tokens) (fault ≡ faults.TooManyVariables at)
    (IfHolds (max_triple_patterns < count_of is_object tokens) (fault ≡ faults.TooManyPatterns at)
    (IfHolds (max_optionals < count_of is_optional tokens) (fault ≡ faults.TooManyOptionals at)
    (IfHolds (max_open_groups < open_groups tokens) (fault ≡ faults.TooDeep at)
    ((max_groups < count_of is_open tokens) × (fault ≡ faults.TooManyGroups at))))))
