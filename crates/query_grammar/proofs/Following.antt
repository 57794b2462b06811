-- What a state of the push parser stands for: the symbols of the grammar that make what is left a query.
use Rattle.std.proofs.Common.{◌≡◌, ℕ, zero, suc, List, [], ◌∷◌, Option, Some, None, subst}
use Rattle.query_tokens.specs.Token.{Lexeme}
use Rattle.query_grammar.specs.declared.terminal.Terminal.{Terminal}
use Rattle.query_grammar.specs.declared.terminal.Terminal.TheVariants as terminals
use Rattle.query_grammar.specs.declared.syntax.Role.TheVariants as roles
use Rattle.query_grammar.specs.declared.expect.Expect.{Expect}
use Rattle.query_grammar.specs.declared.expect.Expect.TheVariants as expects
use Rattle.query_grammar.specs.declared.expect.Step.{Step}
use Rattle.query_grammar.specs.Terminals.{terminal_of}
use Rattle.query_grammar.specs.Roles.{Labelled, with_role}
use Rattle.query_grammar.specs.Tree.{Property, Elements, EndOfGroup, Element, OptionalGroup, NestedGroup, Group, Declaration, Columns, AllColumns, Variables}
use Rattle.query_grammar.specs.Grammar.{Spelling, ◌▸◌, Nothing, Never, Many, Maybe, Token, SomeToken, Keyword, IsIri, AreMoreObjects, AreObjects, IsProperty, AreMoreProperties, AreProperties, AreMoreSames, IsBlock, InBraces, AreElements, AreMoreVariables, AreColumns, IsDistinct, IsPrologue}
use Rattle.query_grammar.specs.Expecting.{step_at}
use Rattle.query_grammar.proofs.Remainders.{Suffix, NoSuffix, TagSuffix, TypeSuffix, Remainder, group_of, grow}

-- after the '}' of a group, round which n are open: what is left of each
abbrev pub Outside : ℕ → List Group → Spelling
Outside zero outer = Nothing
Outside (suc n) [] = Never
Outside (suc n) (group ∷ outer) =
    Maybe (Keyword terminals.Stop) ▸ IsBlock group.block ▸ AreElements group.elements ▸ SomeToken terminals.Close roles.Close ▸ Outside n outer

-- after a block, in a group round which n are open: the elements, the '}', and what is left of the groups round it
abbrev pub Rest : ℕ → Remainder → Spelling
Rest n r = AreElements r.elements ▸ SomeToken terminals.Close roles.Close ▸ Outside n r.outer

abbrev pub IsDatatype : Suffix → Spelling
IsDatatype NoSuffix = Never
IsDatatype (TagSuffix tag) = Never
IsDatatype (TypeSuffix iri) = IsIri roles.Datatype iri

abbrev pub IsSuffix : Suffix → Spelling
IsSuffix NoSuffix = Nothing
IsSuffix (TagSuffix tag) = Token terminals.Tag roles.Tag tag
IsSuffix (TypeSuffix iri) = Keyword terminals.Carets ▸ IsIri roles.Datatype iri

-- after a semicolon
abbrev pub AfterSemicolon : List Property → Spelling
AfterSemicolon [] = Many (Keyword terminals.Semicolon)
AfterSemicolon (property ∷ properties) = Many (Keyword terminals.Semicolon) ▸ IsProperty property ▸ AreMoreProperties properties

abbrev pub AfterSubject : ℕ → Remainder → Spelling
AfterSubject n r = AreProperties r.properties ▸ AreMoreSames r.block ▸ Rest n r

abbrev pub AfterObjects : ℕ → Remainder → Spelling
AfterObjects n r = AreMoreProperties r.properties ▸ AreMoreSames r.block ▸ Rest n r

-- a group as the first of the elements that are left
abbrev pub NestedFirst : Elements → ℕ → List Group → Spelling
NestedFirst EndOfGroup n outer = Never
NestedFirst (Element OptionalGroup block elements next rest) n outer = Never
NestedFirst (Element NestedGroup block elements next rest) n outer = InBraces (IsBlock block ▸ AreElements elements) ▸ Outside n (group_of next rest ∷ outer)

abbrev pub WhereOrGroup : ℕ → Remainder → Spelling
WhereOrGroup n r = Maybe (Keyword terminals.WhereWord) ▸ NestedFirst r.elements n r.outer

abbrev pub MoreColumns : Columns → Spelling
MoreColumns AllColumns = Never
MoreColumns (Variables tokens) = AreMoreVariables tokens

abbrev pub Selection : ℕ → Remainder → Spelling
Selection n r = AreColumns r.head.columns ▸ WhereOrGroup n r

abbrev pub Projection : ℕ → Remainder → Spelling
Projection n r = IsDistinct r.head.distinct ▸ Selection n r

abbrev pub Prologue : ℕ → Remainder → List Declaration → Spelling
Prologue n r declarations = IsPrologue declarations ▸ Keyword terminals.SelectWord ▸ Projection n r

abbrev pub DeclaredPrefix : ℕ → Remainder → List Declaration → Spelling
DeclaredPrefix n r [] = Never
DeclaredPrefix n r (declaration ∷ declarations) =
    Token terminals.Prefix roles.Declared declaration.prefix ▸ Token terminals.Iri roles.Namespace declaration.iri ▸ Prologue n r declarations

abbrev pub Namespace : ℕ → Remainder → Suffix → Spelling
Namespace n r NoSuffix = Never
Namespace n r (TagSuffix tag) = Never
Namespace n r (TypeSuffix iri) = Token terminals.Iri roles.Namespace iri ▸ Prologue n r r.head.declarations

-- the tokens are spelled so to their end, in a group; nothing is said where no group is open
abbrev pub InGroup : (ℕ → Spelling) → ℕ → List Labelled → Type 0
InGroup symbol zero ls = Unit {0}
InGroup symbol (suc n) ls = symbol n ls []

-- what makes the tokens the rest of a query, where this is expected and so many groups are open
abbrev pub Follows : Expect → ℕ → Remainder → List Labelled → Type 0
Follows expects.Prologue n r ls = Prologue n r r.head.declarations ls []
Follows expects.DeclaredPrefix n r ls = DeclaredPrefix n r r.head.declarations ls []
Follows expects.Namespace n r ls = Namespace n r r.suffix ls []
Follows expects.Projection n r ls = Projection n r ls []
Follows expects.Columns n r ls = Selection n r ls []
Follows expects.MoreColumns n r ls = (MoreColumns r.head.columns ▸ WhereOrGroup n r) ls []
Follows expects.WhereOrGroup n r ls = WhereOrGroup n r ls []
Follows expects.Group n r ls = NestedFirst r.elements n r.outer ls []
Follows expects.Block n r ls = InGroup (λ n. IsBlock r.block ▸ Rest n r) n ls
Follows expects.AfterElement n r ls = InGroup (λ n. Maybe (Keyword terminals.Stop) ▸ IsBlock r.block ▸ Rest n r) n ls
Follows expects.AfterSubjectString n r ls = InGroup (λ n. IsSuffix r.suffix ▸ AfterSubject n r) n ls
Follows expects.SubjectDatatype n r ls = InGroup (λ n. IsDatatype r.suffix ▸ AfterSubject n r) n ls
Follows expects.Verb n r ls = InGroup (λ n. AfterSubject n r) n ls
Follows expects.Object n r ls = InGroup (λ n. AreObjects r.objects ▸ AfterObjects n r) n ls
Follows expects.AfterObjectString n r ls = InGroup (λ n. IsSuffix r.suffix ▸ AreMoreObjects r.objects ▸ AfterObjects n r) n ls
Follows expects.ObjectDatatype n r ls = InGroup (λ n. IsDatatype r.suffix ▸ AreMoreObjects r.objects ▸ AfterObjects n r) n ls
Follows expects.AfterObject n r ls = InGroup (λ n. AreMoreObjects r.objects ▸ AfterObjects n r) n ls
Follows expects.AfterSemicolon n r ls = InGroup (λ n. AfterSemicolon r.properties ▸ AreMoreSames r.block ▸ Rest n r) n ls
Follows expects.End n r ls = ls ≡ []

-- what holds of a step, if there is one
abbrev pub OnStep : Option Step → (Step → Type 0) → Type 0
OnStep None claim = Unit {0}
OnStep (Some step) claim = claim step

-- a token that is read makes of the rest of a query the rest before it
abbrev pub Grows : Expect → ℕ → Terminal → Lexeme → Remainder → List Labelled → Type 0
Grows expect n terminal token r ls =
    OnStep (step_at expect n terminal) (λ step. Follows step.state.expect step.state.groups r ls →
    Follows expect n (grow step.role terminal token r) (with_role step.role token ∷ ls))

-- a token in front, where it is of its terminal symbol
abbrev pub Front : Terminal → Lexeme → Type 0
Front terminal token = terminal_of token ≡ terminal

pub on-step : (o : Option Step) (claim : Step → Type 0) (step : Step) → o ≡ Some step → OnStep o claim → claim step
on-step o claim step is holds = let P : Option Step → Type 0 = λ p. OnStep p claim in subst P is holds
