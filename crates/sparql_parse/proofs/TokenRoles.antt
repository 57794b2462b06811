-- The tokens of a query are spelled, and those of declarations are prefixes and IRIs.
use Rattle.std.proofs.Common.{◌≡◌, inl, inr, ℕ, zero, suc, Bool, true, false, All, List, [], ◌∷◌, Option, Some, None, refl, sym, ap, subst, ◌∙◌, arith}
use Rattle.std.proofs.lemmas.Bool.{and_parts}
use Rattle.std.specs.List.{list_all}
use Rattle.query_tokens.specs.Token.{Lexeme}
use Rattle.query_tokens.specs.declared.token.TokenKind.{TokenKind}
use Rattle.query_tokens.specs.declared.token.TokenKind.TheVariants as kinds
use Rattle.query_grammar.specs.declared.terminal.Terminal.{Terminal}
use Rattle.query_grammar.specs.declared.terminal.Terminal.TheVariants as terminals
use Rattle.query_grammar.specs.declared.syntax.Role.{Role}
use Rattle.query_grammar.specs.declared.syntax.Role.TheVariants as roles
use Rattle.query_grammar.specs.declared.expect.Expect.{Expect}
use Rattle.query_grammar.specs.declared.expect.Expect.TheVariants as expects
use Rattle.query_grammar.specs.declared.expect.State.{State}
use Rattle.query_grammar.specs.declared.expect.Step.{Step}
use Rattle.query_grammar.specs.Terminals.{terminal_of, terminal_of_text}
use Rattle.query_grammar.specs.Roles.{Labelled, tokens_of}
use Rattle.query_grammar.specs.Expecting.{step_at, next_step}
use Rattle.query_grammar.proofs.Carrying.{Reads, step_of}
use Rattle.query_values.specs.reading.Values.{IsSpelled}
use Rattle.query_values.specs.reading.Values.{IsSpelledOrBad}
use Rattle.sparql_parse.proofs.DeclarationLaws.{IsProper, AreProper}
use Rattle.sparql_parse.proofs.TokenTerminals.{own_kind, terminal_of-kind}

-- all terminal symbols
abbrev every : List Terminal
every =
    terminals.PrefixWord ∷ terminals.SelectWord ∷ terminals.DistinctWord ∷ terminals.WhereWord ∷ terminals.OptionalWord ∷
    terminals.A ∷ terminals.Boolean ∷ terminals.Variable ∷ terminals.Iri ∷ terminals.Prefixed ∷ terminals.Prefix ∷
    terminals.Quoted ∷ terminals.Tag ∷ terminals.Number ∷ terminals.Open ∷ terminals.Close ∷ terminals.Stop ∷
    terminals.Semicolon ∷ terminals.Comma ∷ terminals.Star ∷ terminals.Carets ∷ terminals.Other ∷ []

-- a test that all pass is passed by the first
all-at : (p : Terminal → Bool) (ts : List Terminal) (t : Terminal) → list_all p (t ∷ ts) ≡ true → p t ≡ true
all-at p ts t e = (and_parts (p t) (list_all p ts) e).0

-- and by the rest
all-rest : (p : Terminal → Bool) (ts : List Terminal) (t : Terminal) → list_all p (t ∷ ts) ≡ true → list_all p ts ≡ true
all-rest p ts t e = (and_parts (p t) (list_all p ts) e).1

-- the place of a terminal symbol in the list of all
abbrev place : Terminal → ℕ
place terminals.PrefixWord = 0
place terminals.SelectWord = 1
place terminals.DistinctWord = 2
place terminals.WhereWord = 3
place terminals.OptionalWord = 4
place terminals.A = 5
place terminals.Boolean = 6
place terminals.Variable = 7
place terminals.Iri = 8
place terminals.Prefixed = 9
place terminals.Prefix = 10
place terminals.Quoted = 11
place terminals.Tag = 12
place terminals.Number = 13
place terminals.Open = 14
place terminals.Close = 15
place terminals.Stop = 16
place terminals.Semicolon = 17
place terminals.Comma = 18
place terminals.Star = 19
place terminals.Carets = 20
place terminals.Other = 21

-- the terminal symbol at a place
abbrev nth : ℕ → List Terminal → Terminal
nth n [] = terminals.Other
nth zero (t ∷ ts) = t
nth (suc n) (t ∷ ts) = nth n ts

-- each terminal symbol is at its place
nth-place : (t : Terminal) → nth (place t) every ≡ t
nth-place t =
    elim t as (λ x. nth (place x) every ≡ x) [ terminals.PrefixWord ↦ refl | terminals.SelectWord ↦ refl | terminals.DistinctWord ↦ refl | terminals.WhereWord ↦ refl | terminals.OptionalWord ↦ refl | terminals.A ↦ refl | terminals.Boolean ↦ refl | terminals.Variable ↦ refl | terminals.Iri ↦ refl | terminals.Prefixed ↦ refl | terminals.Prefix ↦ refl | terminals.Quoted ↦ refl | terminals.Tag ↦ refl | terminals.Number ↦ refl | terminals.Open ↦ refl | terminals.Close ↦ refl | terminals.Stop ↦ refl | terminals.Semicolon ↦ refl | terminals.Comma ↦ refl | terminals.Star ↦ refl | terminals.Carets ↦ refl | terminals.Other ↦ refl ]

-- a test that all pass is passed at each place
nth-all : (p : Terminal → Bool) (n : ℕ) (ts : List Terminal) → p terminals.Other ≡ true → list_all p ts ≡ true → p (nth n ts) ≡ true
nth-all p n [] other all = other
nth-all p zero (t ∷ ts) other all = all-at p ts t all
nth-all p (suc n) (t ∷ ts) other all = nth-all p n ts other (all-rest p ts t all)

-- what holds of all of them by a test holds of each
for_every : (p : Terminal → Bool) → p terminals.Other ≡ true → list_all p every ≡ true → (t : Terminal) → p t ≡ true
for_every p other all t = sym (ap p (nth-place t)) ∙ nth-all p (place t) every other all

-- the roles of a declaration, with the terminal symbols of its tokens
abbrev fits_role : Role → Terminal → Bool
fits_role roles.Declared terminals.Prefix = true
fits_role roles.Declared _ = false
fits_role roles.Namespace terminals.Iri = true
fits_role roles.Namespace _ = false
fits_role _ _ = true

-- a token that is read has a terminal symbol that fits its role
abbrev fits : Option Step → Terminal → Bool
fits None t = true
fits (Some step) t = fits_role step.role t

-- so it is wherever the query is
step_at-fits : (e : Expect) (n : ℕ) (t : Terminal) → fits (step_at e n t) t ≡ true
step_at-fits expects.Prologue n t = for_every (λ x. fits (step_at expects.Prologue n x) x) refl refl t
step_at-fits expects.DeclaredPrefix n t = for_every (λ x. fits (step_at expects.DeclaredPrefix n x) x) refl refl t
step_at-fits expects.Namespace n t = for_every (λ x. fits (step_at expects.Namespace n x) x) refl refl t
step_at-fits expects.Projection n t = for_every (λ x. fits (step_at expects.Projection n x) x) refl refl t
step_at-fits expects.Columns n t = for_every (λ x. fits (step_at expects.Columns n x) x) refl refl t
step_at-fits expects.MoreColumns n t = for_every (λ x. fits (step_at expects.MoreColumns n x) x) refl refl t
step_at-fits expects.WhereOrGroup n t = for_every (λ x. fits (step_at expects.WhereOrGroup n x) x) refl refl t
step_at-fits expects.Group n t = for_every (λ x. fits (step_at expects.Group n x) x) refl refl t
step_at-fits expects.Block n t = for_every (λ x. fits (step_at expects.Block n x) x) refl refl t
step_at-fits expects.AfterElement n t = for_every (λ x. fits (step_at expects.AfterElement n x) x) refl refl t
step_at-fits expects.AfterSubjectString n t = for_every (λ x. fits (step_at expects.AfterSubjectString n x) x) refl refl t
step_at-fits expects.SubjectDatatype n t = for_every (λ x. fits (step_at expects.SubjectDatatype n x) x) refl refl t
step_at-fits expects.Verb n t = for_every (λ x. fits (step_at expects.Verb n x) x) refl refl t
step_at-fits expects.Object n t = for_every (λ x. fits (step_at expects.Object n x) x) refl refl t
step_at-fits expects.AfterObjectString n t = for_every (λ x. fits (step_at expects.AfterObjectString n x) x) refl refl t
step_at-fits expects.ObjectDatatype n t = for_every (λ x. fits (step_at expects.ObjectDatatype n x) x) refl refl t
step_at-fits expects.AfterObject n t = for_every (λ x. fits (step_at expects.AfterObject n x) x) refl refl t
step_at-fits expects.AfterSemicolon n t = for_every (λ x. fits (step_at expects.AfterSemicolon n x) x) refl refl t
step_at-fits expects.End n t = refl

-- so it is of each token that is read
next-fits : (s next : State) (t : Terminal) (role : Role) → next_step s t ≡ Some (step_of next role) → fits_role role t ≡ true
unfolding next_step
next-fits s next t role e = sym (ap (λ o. fits o t) e) ∙ step_at-fits s.expect s.groups t

-- a prefix that is declared is of the terminal symbol of prefixes
label-terminal : (t : Terminal) → fits_role roles.Declared t ≡ true → t ≡ terminals.Prefix
label-terminal terminals.Prefix e = refl
label-terminal _ e = absurd (cc)

-- its IRI is of that of IRIs
iri-terminal : (t : Terminal) → fits_role roles.Namespace t ≡ true → t ≡ terminals.Iri
iri-terminal terminals.Iri e = refl
iri-terminal _ e = absurd (cc)

-- a token that is read is no bad one
other-unread : (e : Expect) (n : ℕ) → step_at e n terminals.Other ≡ None
other-unread e n =
    elim e as (λ x. step_at x n terminals.Other ≡ None) [ expects.Prologue ↦ refl | expects.DeclaredPrefix ↦ refl | expects.Namespace ↦ refl | expects.Projection ↦ refl | expects.Columns ↦ refl | expects.MoreColumns ↦ refl | expects.WhereOrGroup ↦ refl | expects.Group ↦ refl | expects.Block ↦ refl | expects.AfterElement ↦ refl | expects.AfterSubjectString ↦ refl | expects.SubjectDatatype ↦ refl | expects.Verb ↦ refl | expects.Object ↦ refl | expects.AfterObjectString ↦ refl | expects.ObjectDatatype ↦ refl | expects.AfterObject ↦ refl | expects.AfterSemicolon ↦ refl | expects.End ↦ refl ]

-- a bad token is of no terminal symbol, so it is not read
bad-unread : (s : State) (token : Lexeme) → token.kind ≡ kinds.Bad → next_step s (terminal_of token) ≡ None
unfolding next_step terminal_of
bad-unread s token bad = ap (λ (k : TokenKind). step_at s.expect s.groups (terminal_of_text k token.text)) bad ∙ other-unread s.expect s.groups

-- a token that is read is spelled
pub read-spelled : (s : State) (token : Lexeme) (step : Step) → next_step s (terminal_of token) ≡ Some step → IsSpelledOrBad token → IsSpelled token
read-spelled s token step is (inl bad) = let both : None ≡ Some step = sym (bad-unread s token bad) ∙ is in absurd (cc)
read-spelled s token step is (inr spelled) = spelled

-- the tokens of a text that are read in some roles are spelled, and of declarations as they have to be
pub reads-proper : (ls : List Labelled) (last s : State) → Reads last s ls → All IsSpelledOrBad (tokens_of ls) → AreProper ls
reads-proper [] last s e all = tt
reads-proper (l ∷ ls) last s (next, is, rest) all =
    let fit = next-fits s next (terminal_of l.token) l.role is in
    let first : IsProper l = record {
      spelled = read-spelled s l.token (step_of next l.role) is (all 0 l.token (omega arith));
      label = λ role. terminal_of-kind l.token kinds.Prefix (ap own_kind (label-terminal (terminal_of l.token) (subst (λ (r : Role). fits_role r (terminal_of l.token) ≡ true) role fit)));
      iri = λ role. terminal_of-kind l.token kinds.Iri (ap own_kind (iri-terminal (terminal_of l.token) (subst (λ (r : Role). fits_role r (terminal_of l.token) ≡ true) role fit)));
    } in
    (first, reads-proper ls last next rest (λ k d below. all (suc k) d (omega arith)))
