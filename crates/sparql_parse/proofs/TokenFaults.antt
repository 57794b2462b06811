-- The fault of a token is the one that is computed.
use Rattle.std.proofs.Common.{◌≡◌, ◌≢◌, ◌⊎◌, inl, inr, ℕ, ◌<◌, Bool, true, false, nat_lt, if◌then◌else◌, List, [], ◌∷◌, ◌++◌, length, Option, Some, None, refl, sym, ap, subst, ◌∙◌, arith}
use Rattle.std.specs.Option.{is_none}
use Rattle.std.proofs.lemmas.Bool.{and_parts}
use Rattle.std.specs.Cmp.Derive.{both_true}
use Rattle.std.proofs.lemmas.Bool.Decides.{nat_tests}
use Rattle.query_tokens.specs.Token.{Lexeme}
use Rattle.query_tokens.specs.declared.token.TokenKind.{TokenKind}
use Rattle.query_tokens.specs.declared.token.TokenKind.TheVariants as kinds
use Rattle.query_grammar.specs.declared.syntax.Role.{Role}
use Rattle.query_grammar.specs.declared.syntax.Role.TheVariants as roles
use Rattle.query_grammar.specs.Roles.{Labelled, count_of, is_open, open_groups}
use Rattle.query_values.specs.reading.Values.{IsSpelled, prefix_of, local_of}
use Rattle.alg_model.specs.Limits.{max_variables, max_triple_patterns, max_optionals, max_groups, max_open_groups}
use Rattle.sparql_parse.specs.declared.fault.QueryFault.{QueryFault}
use Rattle.sparql_parse.specs.declared.fault.QueryFault.TheVariants as faults
use Rattle.sparql_parse.specs.computed.Names.{namespace_of, names_of}
use Rattle.sparql_parse.specs.Faults.{is_object, is_optional}
use Rattle.sparql_parse.specs.computed.Faults.{uses_prefix, is_unknown, counts_of, fault_of, fault_among}
use Rattle.sparql_parse.specs.computed.Names.{namespaces_of}
use Rattle.query_values.specs.Iris.{SpellsPrefixedName}
use Rattle.sparql_parse.specs.Faults.{HasUnknownPrefix, HasTooManyNames, IfHolds, HasFault}
use Rattle.query_values.proofs.SpelledTokens.{prefix_of-spelled, prefixed-spelled, SpellsPrefixedName-prefix}
use Rattle.sparql_parse.proofs.DeclarationLaws.{AreProper, AreProper-front, AreProper-back, namespace_of-none, not-declared-none}
use Rattle.sparql_parse.proofs.NameRelations.{AreNames-is, names_of-are}

-- a test that decides a claim
pub record Tells (test : Bool) (Claim : Type 0) : Type 0 where
  pub yes : test ≡ true → Claim
  pub no : test ≡ false → ¬ Claim

-- a choice by a test gives the fault
abbrev Chosen : Bool → Option QueryFault → Option QueryFault → QueryFault → Type 0
Chosen test this other fault = (if test then this else other) ≡ Some fault

-- what holds first is what the test chooses
holds-chosen : (test : Bool) (Claim This Other : Type 0) (this other : Option QueryFault) (fault : QueryFault) → Tells test Claim →
    (This → this ≡ Some fault) → (Other → other ≡ Some fault) → IfHolds Claim This Other → Chosen test this other fault
holds-chosen true Claim This Other this other fault tells t o (inl (c, h)) = t h
holds-chosen true Claim This Other this other fault tells t o (inr (n, h)) = absurd (n (tells.yes refl))
holds-chosen false Claim This Other this other fault tells t o (inl (c, h)) = absurd (tells.no refl c)
holds-chosen false Claim This Other this other fault tells t o (inr (n, h)) = o h

-- what the test chooses is what holds first
chosen-holds : (test : Bool) (Claim This Other : Type 0) (this other : Option QueryFault) (fault : QueryFault) → Tells test Claim →
    (this ≡ Some fault → This) → (other ≡ Some fault → Other) → Chosen test this other fault → IfHolds Claim This Other
chosen-holds true Claim This Other this other fault tells t o h = inl (tells.yes refl, t h)
chosen-holds false Claim This Other this other fault tells t o h = inr (tells.no refl, o h)

-- the prefix of a token
role-unused : (kind : TokenKind) → uses_prefix kind roles.Declared ≡ false
role-unused kinds.Prefix = refl
role-unused kinds.Prefixed = refl
role-unused _ = refl

-- a token that uses a prefix is a prefix or a prefixed name
uses-kind : (kind : TokenKind) (role : Role) → uses_prefix kind role ≡ true → (kind ≡ kinds.Prefix) ⊎ (kind ≡ kinds.Prefixed)
uses-kind kinds.Prefix role e = inl refl
uses-kind kinds.Prefixed role e = inr refl
uses-kind _ roles.Declared e = absurd (cc)
uses-kind _ _ e = absurd (cc)

-- a prefix that is not declared there is used
prefix-uses : (role : Role) → role ≢ roles.Declared → uses_prefix kinds.Prefix role ≡ true
prefix-uses roles.Declared used = absurd (used refl)
prefix-uses _ used = refl

-- and so is a prefixed name
prefixed-uses : (role : Role) → role ≢ roles.Declared → uses_prefix kinds.Prefixed role ≡ true
prefixed-uses roles.Declared used = absurd (used refl)
prefixed-uses _ used = refl

-- a token that uses a prefix, by the test
pub uses : (kind : TokenKind) (role : Role) → role ≢ roles.Declared → (kind ≡ kinds.Prefix) ⊎ (kind ≡ kinds.Prefixed) → uses_prefix kind role ≡ true
uses kind role used (inl e) = ap (λ (k : TokenKind). uses_prefix k role) e ∙ prefix-uses role used
uses kind role used (inr e) = ap (λ (k : TokenKind). uses_prefix k role) e ∙ prefixed-uses role used

-- a token that uses a prefix spells a prefixed name
name-spelled : (token : Lexeme) → IsSpelled token → (token.kind ≡ kinds.Prefix) ⊎ (token.kind ≡ kinds.Prefixed) → (local : List ℕ) × SpellsPrefixedName token (prefix_of token) local
name-spelled token spelled (inl kind) = ([], inr (prefix_of-spelled token spelled kind, refl))
name-spelled token spelled (inr kind) = (local_of token, inl (prefixed-spelled token spelled kind))

-- a prefixed name is a prefix or a prefixed name by its kind
name-kind : (token : Lexeme) (prefix local : List ℕ) → SpellsPrefixedName token prefix local → (token.kind ≡ kinds.Prefix) ⊎ (token.kind ≡ kinds.Prefixed)
name-kind token prefix local (inl s) = inr s.kind
name-kind token prefix local (inr (s, empty)) = inl s.kind

-- what is missing is nothing
none-is : (o : Option (List ℕ)) → is_none o ≡ true → o ≡ None
none-is None e = refl
none-is (Some i) e = absurd (cc)

-- what is not missing is not nothing
some-other : (o : Option (List ℕ)) → (is_none o ≡ false) → o ≡ None → ⊥
some-other o e none = let both : is_none o ≡ true = ap is_none none in cc

module _ (before : List Labelled) (l : Labelled) (proper : AreProper (before ++ l ∷ [])) where
  -- where the test says so, the prefix is unknown
  unknown-yes : is_unknown (namespaces_of before) l ≡ true → HasUnknownPrefix before l
  unknown-yes e =
      let (uses_one, none) = and_parts (uses_prefix l.token.kind l.role) (is_none (namespace_of (namespaces_of before) (prefix_of l.token))) e in
      let (first, end) = AreProper-back before (l ∷ []) proper in
      let (local, name) = name-spelled l.token first.spelled (uses-kind l.token.kind l.role uses_one) in (
        λ role. (let same : uses_prefix l.token.kind l.role ≡ false = ap (uses_prefix l.token.kind) role ∙ role-unused l.token.kind in cc),
        (prefix_of l.token, local, name, namespace_of-none before (prefix_of l.token) (none-is (namespace_of (namespaces_of before) (prefix_of l.token)) none)),
      )

  -- where it does not, the prefix is known
  unknown-no : is_unknown (namespaces_of before) l ≡ false → ¬ HasUnknownPrefix before l
  unknown-no e (used, (prefix, local, name, not)) =
      let uses_one : uses_prefix l.token.kind l.role ≡ true = uses l.token.kind l.role used (name-kind l.token prefix local name) in
      let none : namespace_of (namespaces_of before) prefix ≡ None = not-declared-none before prefix (AreProper-front before (l ∷ []) proper) not in
      let here : namespace_of (namespaces_of before) (prefix_of l.token) ≡ None = ap (namespace_of (namespaces_of before)) (SpellsPrefixedName-prefix l.token prefix local name) ∙ none in
      let both : is_unknown (namespaces_of before) l ≡ true = both_true uses_one (ap is_none here) in
      cc

  -- the test of a prefix decides
  unknown-tells : Tells (is_unknown (namespaces_of before) l) (HasUnknownPrefix before l)
  unknown-tells = record { yes = unknown-yes; no = unknown-no }

  -- the test of a limit decides
  number-tells : (limit count : ℕ) → Tells (nat_lt limit count) (limit < count)
  number-tells limit count = record { yes = λ e. grind (arith, nat_tests); no = λ e lt. grind (arith, nat_tests) }

  -- the test of the number of names decides
  names-tells : Tells (nat_lt max_variables (length (names_of (before ++ l ∷ [])))) (HasTooManyNames (before ++ l ∷ []))
  names-tells =
      let tokens = before ++ l ∷ [] in
      let tells = number-tells max_variables (length (names_of tokens)) in
      record {
        yes = λ e. (names_of tokens, names_of-are tokens proper, tells.yes e);
        no = λ e (names, are, many). tells.no e (subst (λ (ns : List (List ℕ)). max_variables < length ns) (AreNames-is tokens names are) many);
      }

  -- the fault that is computed
  abbrev the_fault : Option QueryFault
  the_fault = fault_among (namespaces_of before) l (counts_of (before ++ l ∷ []))

  -- each choice, by its claim
  last-chosen : (limit count : ℕ) (f fault : QueryFault) → (limit < count) × (fault ≡ f) → Chosen (nat_lt limit count) (Some f) None fault
  last-chosen limit count f fault (many, is) = let yes : nat_lt limit count ≡ true = grind (arith, nat_tests) in ap (λ b. if b then Some f else None) yes ∙ ap Some (sym is)

  -- the last choice
  chosen-last : (limit count : ℕ) (f fault : QueryFault) → Chosen (nat_lt limit count) (Some f) None fault → (limit < count) × (fault ≡ f)
  chosen-last limit count f fault e =
      elim (nat_lt limit count) as (λ b. nat_lt limit count ≡ b → Chosen b (Some f) None fault → (limit < count) × (fault ≡ f)) [
        | true ↦ λ is same. ((number-tells limit count).yes is, cc)
        | false ↦ λ is same. absurd (cc)
      ] refl e

  -- a fault is the one that is given
  this-some : (f fault : QueryFault) → fault ≡ f → Some f ≡ Some fault
  this-some f fault is = ap Some (sym is)

  -- and the other way round
  some-this : (f fault : QueryFault) → Some f ≡ Some fault → fault ≡ f
  some-this f fault e = cc

  -- the fault of a token by its prefix and its counts
  fault_of-is : fault_of before l ≡ the_fault
  unfolding fault_of
  fault_of-is = refl

  -- a fault that the token has is the one that is computed
  pub HasFault-is : (fault : QueryFault) → HasFault before l fault → fault_of before l ≡ Some fault
  HasFault-is fault has =
      let tokens = before ++ l ∷ [] in
      let at = l.token.at in
      fault_of-is ∙ holds-chosen _ _ _ _ _ _ fault unknown-tells (this-some (faults.UnknownPrefix at) fault)
      (holds-chosen _ _ _ _ _ _ fault names-tells (this-some (faults.TooManyVariables at) fault)
      (holds-chosen _ _ _ _ _ _ fault (number-tells max_triple_patterns (count_of is_object tokens)) (this-some (faults.TooManyPatterns at) fault)
      (holds-chosen _ _ _ _ _ _ fault (number-tells max_optionals (count_of is_optional tokens)) (this-some (faults.TooManyOptionals at) fault)
      (holds-chosen _ _ _ _ _ _ fault (number-tells max_open_groups (open_groups tokens)) (this-some (faults.TooDeep at) fault)
      (last-chosen max_groups (count_of is_open tokens) (faults.TooManyGroups at) fault))))) has

  -- and the one that is computed is one that it has
  pub is-HasFault : (fault : QueryFault) → fault_of before l ≡ Some fault → HasFault before l fault
  is-HasFault fault is =
      let tokens = before ++ l ∷ [] in
      let at = l.token.at in
      chosen-holds _ _ _ _ _ _ fault unknown-tells (some-this (faults.UnknownPrefix at) fault)
      (chosen-holds _ _ _ _ _ _ fault names-tells (some-this (faults.TooManyVariables at) fault)
      (chosen-holds _ _ _ _ _ _ fault (number-tells max_triple_patterns (count_of is_object tokens)) (some-this (faults.TooManyPatterns at) fault)
      (chosen-holds _ _ _ _ _ _ fault (number-tells max_optionals (count_of is_optional tokens)) (some-this (faults.TooManyOptionals at) fault)
      (chosen-holds _ _ _ _ _ _ fault (number-tells max_open_groups (open_groups tokens)) (some-this (faults.TooDeep at) fault)
      (chosen-last max_groups (count_of is_open tokens) (faults.TooManyGroups at) fault))))) (sym fault_of-is ∙ is)
