-- How many triple patterns there are: at most as many as objects.
use Rattle.std.proofs.Common.{◌≡◌, ℕ, zero, suc, ◌+◌, ◌≤◌, Bool, List, [], ◌∷◌, take, Option, Some, None, refl, sym, ap, arith}
use Rattle.query_tokens.specs.Token.{Lexeme}
use Rattle.query_grammar.specs.declared.terminal.Terminal.{Terminal}
use Rattle.query_grammar.specs.declared.syntax.Role.{Role}
use Rattle.query_grammar.specs.declared.syntax.Role.TheVariants as roles
use Rattle.query_grammar.specs.Terminals.{terminal_of}
use Rattle.query_grammar.specs.Roles.{Labelled, count_of}
use Rattle.query_grammar.specs.Tree.{Node}
use Rattle.query_grammar.proofs.Counts.{one_if, count-cons}
use Rattle.sparql_parse.specs.Faults.{is_object}
use Rattle.sparql_parse.specs.computed.Meaning.{Scope}
use Rattle.sparql_parse.specs.computed.Building.{State, Body, OpenGroup, step, in_role, built, with_object, body_of, closed, closed_groups, amended, waiting, next_settled}

pub with_object-next : (scope : Scope) (subject verb : Node) (body : Body) (object : Option Node) → (with_object scope subject verb body object).next ≡ body.next + waiting object
with_object-next scope subject verb body None = omega arith
with_object-next scope subject verb body (Some object) = refl

closed_groups-next : (groups : List OpenGroup) (b : Body) → (closed_groups groups b).next ≡ b.next
closed_groups-next [] b = refl
closed_groups-next (g ∷ []) b = refl
closed_groups-next (g ∷ outer ∷ gs) b = refl

amended-next : (f : Node → Node) (s : State) (object : Option Node) → s.object ≡ object → next_settled (amended f s object) ≡ next_settled s
amended-next f s None e = refl
amended-next f s (Some object) e = ap (λ (o : Option Node). s.body.next + waiting o) (sym e)

in_role-next : (scope : Scope) (s : State) (role : Role) (terminal : Terminal) (token : Lexeme) → next_settled (in_role scope s role terminal token) ≤ next_settled s + one_if (is_object role)
in_role-next scope s roles.Distinct terminal token = omega arith
in_role-next scope s roles.AllColumns terminal token = omega arith
in_role-next scope s roles.Column terminal token = omega arith
in_role-next scope s roles.Optional terminal token = omega arith
in_role-next scope s roles.Open terminal token = omega (arith, with_object-next scope s.subject s.verb s.body s.object)
in_role-next scope s roles.Close terminal token = omega (arith, with_object-next scope s.subject s.verb s.body s.object, closed_groups-next (body_of scope s).groups (body_of scope s))
in_role-next scope s roles.Subject terminal token = omega (arith, with_object-next scope s.subject s.verb s.body s.object)
in_role-next scope s roles.Verb terminal token = omega (arith, with_object-next scope s.subject s.verb s.body s.object)
in_role-next scope s roles.Object terminal token = omega (arith, with_object-next scope s.subject s.verb s.body s.object)
in_role-next scope s roles.Tag terminal token = omega (arith, amended-next (Rattle.sparql_parse.specs.computed.Building.with_tag terminal token) s s.object refl)
in_role-next scope s roles.Datatype terminal token = omega (arith, amended-next (Rattle.sparql_parse.specs.computed.Building.with_datatype terminal token) s s.object refl)
in_role-next scope s roles.Keyword terminal token = omega arith
in_role-next scope s roles.Declared terminal token = omega arith
in_role-next scope s roles.Namespace terminal token = omega arith

step-next : (scope : Scope) (s : State) (l : Labelled) → next_settled (step scope s l) ≤ next_settled s + one_if (is_object l.role)
unfolding step
step-next scope s l = in_role-next scope s l.role (terminal_of l.token) l.token

-- some of the tokens
count-take : (p : Role → Bool) (ls : List Labelled) (i : ℕ) → count_of p (take i ls) ≤ count_of p ls
count-take p [] zero = omega arith
count-take p [] (suc i) = omega arith
count-take p (l ∷ ls) zero = omega arith
count-take p (l ∷ ls) (suc i) =
    let rest = count-take p ls i in
    let taken = count-cons p l (take i ls) in
    let all = count-cons p l ls in
    omega arith

pub built-next : (scope : Scope) (s : State) (ls : List Labelled) → next_settled (built scope s ls) ≤ next_settled s + count_of is_object ls
built-next scope s [] = omega arith
built-next scope s (l ∷ ls) =
    let rest = built-next scope (step scope s l) ls in
    let here = step-next scope s l in
    let count = count-cons is_object l ls in
    omega arith

-- the number of the next triple pattern after some of the tokens
pub next-bound : (scope : Scope) (s : State) (ls : List Labelled) (i : ℕ) → (built scope s (take i ls)).body.next ≤ next_settled s + count_of is_object ls
next-bound scope s ls i =
    let a = built-next scope s (take i ls) in
    let b = count-take is_object ls i in
    omega arith
