-- The variables of what a syntax tree means are below the number of names.
use Rattle.std.proofs.Common.{◌≡◌, ℕ, zero, suc, ◌<◌, Bool, true, false, cond, nat_lt, List, [], ◌∷◌, ◌++◌, length, Option, Some, None, refl, subst, arith}
use Rattle.std.specs.Prelude.{All}
use Rattle.std.specs.List.{flat_map, position_or_len}
use Rattle.std.specs.Option.{option_map_or}
use Rattle.std.proofs.lemmas.Bool.Decides.{nat_tests}
use Rattle.query_tokens.specs.Token.{Lexeme}
use Rattle.query_grammar.specs.declared.terminal.Terminal.{Terminal}
use Rattle.query_grammar.specs.declared.terminal.Terminal.TheVariants as terminals
use Rattle.query_grammar.specs.declared.syntax.Role.{Role}
use Rattle.query_grammar.specs.declared.syntax.Role.TheVariants as roles
use Rattle.query_grammar.specs.Terminals.{terminal_of}
use Rattle.query_grammar.specs.Roles.{Labelled}
use Rattle.query_grammar.specs.Tree.{Node, VariableNode, IriNode, StringNode, TaggedNode, TypedNode, NumberNode, BooleanNode, TypeNode, Syntax}
use Rattle.query_grammar.specs.Grammar.{IsQuery}
use Rattle.alg_model.specs.declared.pattern.TriplePat.{TriplePat}
use Rattle.alg_model.specs.Pattern.{Algebra, place_vars, triple_vars, vars_of}
use Rattle.query_values.specs.reading.Values.{name_of}
use Rattle.sparql_parse.specs.computed.Names.{is_text}
use Rattle.sparql_parse.specs.computed.Meaning.{Scope, number_of, place_of, pattern_of}
use Rattle.sparql_parse.specs.Translation.{NodeTriple}
use Rattle.sparql_parse.specs.computed.Building.{State, Body, OpenGroup, step, in_role, built, start, with_object, body_of, closed_groups, amended, in_innermost, joined_block, pattern_so_far, combined, pattern_at, with_tag, with_tag_text, with_iri, with_datatype, node_of}
use Rattle.sparql_parse.proofs.Queries.{query-built}

-- all numbers are below n
abbrev pub AreBelow : ℕ → List ℕ → Type 0
AreBelow n [] = Unit {0}
AreBelow n (x ∷ xs) = (x < n) × AreBelow n xs

pub AreBelow-All : (n : ℕ) (xs : List ℕ) → AreBelow n xs → All (λ x. x < n) xs
AreBelow-All n [] h k d lt = absurd (omega arith)
AreBelow-All n (x ∷ xs) (first, rest) zero d lt = first
AreBelow-All n (x ∷ xs) (first, rest) (suc k) d lt = AreBelow-All n xs rest k d (omega arith)

pub AreBelow-append : (n : ℕ) (xs ys : List ℕ) → AreBelow n xs → AreBelow n ys → AreBelow n (xs ++ ys)
AreBelow-append n [] ys front back = back
AreBelow-append n (x ∷ xs) ys (first, rest) back = (first, AreBelow-append n xs ys rest back)

AreBelow-front : (n : ℕ) (xs ys : List ℕ) → AreBelow n (xs ++ ys) → AreBelow n xs
AreBelow-front n [] ys h = tt
AreBelow-front n (x ∷ xs) ys (first, rest) = (first, AreBelow-front n xs ys rest)

AreBelow-back : (n : ℕ) (xs ys : List ℕ) → AreBelow n (xs ++ ys) → AreBelow n ys
AreBelow-back n [] ys h = h
AreBelow-back n (x ∷ xs) ys (first, rest) = AreBelow-back n xs ys rest

-- the number of a name, where there are names
found-below : (b : Bool) (k n : ℕ) → (b ≡ true → k < n) → 0 < n → option_map_or (λ m. m) (cond b (Some k) None) 0 < n
found-below true k n h some = h refl
found-below false k n h some = some

passed : (k n : ℕ) → nat_lt k n ≡ true → k < n
passed k n e = grind (arith, nat_tests)

pub number_of-below : (names : List (List ℕ)) (name : List ℕ) → 0 < length names → number_of names name < length names
number_of-below names name some =
    let k = position_or_len (is_text name) names in
    found-below (nat_lt k (length names)) k (length names) (λ e. passed k (length names) e) some

-- a node is no variable, or there are names
abbrev pub NodeFine : ℕ → Node → Type 0
NodeFine n (VariableNode token) = 0 < n
NodeFine n _ = Unit {0}

place-below : (scope : Scope) (node : Node) → NodeFine (length scope.names) node → AreBelow (length scope.names) (place_vars (place_of scope node))
place-below scope (VariableNode token) fine = (number_of-below scope.names (name_of token) fine, tt)
place-below scope (IriNode token) fine = tt
place-below scope (StringNode token) fine = tt
place-below scope (TaggedNode token tag) fine = tt
place-below scope (TypedNode token iri) fine = tt
place-below scope (NumberNode token) fine = tt
place-below scope (BooleanNode token) fine = tt
place-below scope (TypeNode token) fine = tt

-- a token is no variable, or there are names
abbrev pub IsFine : ℕ → Labelled → Type 0
IsFine n l = terminal_of l.token ≡ terminals.Variable → 0 < n

abbrev pub AreFine : ℕ → List Labelled → Type 0
AreFine n [] = Unit {0}
AreFine n (l ∷ ls) = IsFine n l × AreFine n ls

node_of-fine : (n : ℕ) (terminal : Terminal) (token : Lexeme) → (terminal ≡ terminals.Variable → 0 < n) → NodeFine n (node_of terminal token)
node_of-fine n terminals.Variable token h = h refl
node_of-fine n terminals.Iri token h = tt
node_of-fine n terminals.Prefixed token h = tt
node_of-fine n terminals.Prefix token h = tt
node_of-fine n terminals.Quoted token h = tt
node_of-fine n terminals.Number token h = tt
node_of-fine n terminals.Boolean token h = tt
node_of-fine n _ token h = tt

with_tag_text-fine : (n : ℕ) (tag : Lexeme) (node : Node) → NodeFine n node → NodeFine n (with_tag_text tag node)
with_tag_text-fine n tag (StringNode token) h = tt
with_tag_text-fine n tag _ h = h

with_tag-fine : (n : ℕ) (terminal : Terminal) (tag : Lexeme) (node : Node) → NodeFine n node → NodeFine n (with_tag terminal tag node)
with_tag-fine n terminals.Tag tag node h = with_tag_text-fine n tag node h
with_tag-fine n _ tag node h = h

with_iri-fine : (n : ℕ) (iri : Lexeme) (node : Node) → NodeFine n node → NodeFine n (with_iri iri node)
with_iri-fine n iri (StringNode token) h = tt
with_iri-fine n iri _ h = h

with_datatype-fine : (n : ℕ) (terminal : Terminal) (iri : Lexeme) (node : Node) → NodeFine n node → NodeFine n (with_datatype terminal iri node)
with_datatype-fine n terminals.Iri iri node h = with_iri-fine n iri node h
with_datatype-fine n terminals.Prefixed iri node h = with_iri-fine n iri node h
with_datatype-fine n terminals.Prefix iri node h = with_iri-fine n iri node h
with_datatype-fine n _ iri node h = h

-- what is built so far
abbrev ObjectFine : ℕ → Option Node → Type 0
ObjectFine n (Some object) = NodeFine n object
ObjectFine n None = Unit {0}

abbrev block_vars : List TriplePat → List ℕ
block_vars block = flat_map triple_vars block

abbrev GroupsBelow : ℕ → List OpenGroup → Type 0
GroupsBelow n [] = Unit {0}
GroupsBelow n (g ∷ gs) = AreBelow n (vars_of g.pattern) × AreBelow n (block_vars g.block) × GroupsBelow n gs

pub record BodyBelow (n : ℕ) (b : Body) : Type 0 where
  pub groups : GroupsBelow n b.groups
  pub whole : AreBelow n (vars_of b.whole)

pub record StateFine (n : ℕ) (s : State) : Type 0 where
  pub body : BodyBelow n s.body
  pub subject : NodeFine n s.subject
  pub verb : NodeFine n s.verb
  pub object : ObjectFine n s.object

joined_block-below : (n : ℕ) (p : Algebra) (b : List TriplePat) → AreBelow n (vars_of p) → AreBelow n (block_vars b) → AreBelow n (vars_of (joined_block p b))
joined_block-below n p [] h k = h
joined_block-below n p (t ∷ ts) h k = AreBelow-append n (vars_of p) (block_vars (t ∷ ts)) h k

combined-below : (n : ℕ) (optional : Bool) (l r : Algebra) → AreBelow n (vars_of l) → AreBelow n (vars_of r) → AreBelow n (vars_of (combined optional l r))
combined-below n true l r h k = AreBelow-append n (vars_of l) (vars_of r) h k
combined-below n false l r h k = AreBelow-append n (vars_of l) (vars_of r) h k

block-push : (n : ℕ) (block : List TriplePat) (t : TriplePat) → AreBelow n (block_vars block) → AreBelow n (triple_vars t) → AreBelow n (block_vars (block ++ t ∷ []))
block-push n [] t h k = AreBelow-append n (triple_vars t) [] k tt
block-push n (x ∷ xs) t h k =
    AreBelow-append n (triple_vars x) (block_vars (xs ++ t ∷ [])) (AreBelow-front n (triple_vars x) (block_vars xs) h) (block-push n xs t (AreBelow-back n (triple_vars x) (block_vars xs) h) k)

in_innermost-below : (n : ℕ) (t : TriplePat) (gs : List OpenGroup) → GroupsBelow n gs → AreBelow n (triple_vars t) → GroupsBelow n (in_innermost t gs)
in_innermost-below n t [] h k = tt
in_innermost-below n t (g ∷ gs) (pattern, block, rest) k = (pattern, block-push n g.block t block k, rest)

pattern_at-below : (scope : Scope) (m : ℕ) (t : NodeTriple) → NodeFine (length scope.names) t.subject → NodeFine (length scope.names) t.verb → NodeFine (length scope.names) t.object →
    AreBelow (length scope.names) (triple_vars (pattern_at scope m t))
pattern_at-below scope m t a b c =
    let n = length scope.names in
    let s = place_vars (place_of scope t.subject) in
    let v = place_vars (place_of scope t.verb) in
    let o = place_vars (place_of scope t.object) in
    AreBelow-append n (s ++ v) o (AreBelow-append n s v (place-below scope t.subject a) (place-below scope t.verb b)) (place-below scope t.object c)

with_object-below : (scope : Scope) (subject verb : Node) (b : Body) (object : Option Node) → NodeFine (length scope.names) subject → NodeFine (length scope.names) verb → ObjectFine (length scope.names) object →
    BodyBelow (length scope.names) b → BodyBelow (length scope.names) (with_object scope subject verb b object)
with_object-below scope subject verb b None x y z h = h
with_object-below scope subject verb b (Some object) x y z h =
    let t : NodeTriple = record { subject = subject; verb = verb; object = object } in
    record { groups = in_innermost-below (length scope.names) (pattern_at scope b.next t) b.groups h.groups (pattern_at-below scope b.next t x y z); whole = h.whole }

closed_groups-below : (n : ℕ) (groups : List OpenGroup) (b : Body) → GroupsBelow n groups → BodyBelow n b → BodyBelow n (closed_groups groups b)
closed_groups-below n [] b h below = below
closed_groups-below n (g ∷ []) b (pattern, block, rest) below = record { groups = tt; whole = joined_block-below n g.pattern g.block pattern block }
closed_groups-below n (g ∷ outer ∷ gs) b (pattern, block, (outer_pattern, outer_block, rest)) below =
    let both = combined-below n g.optional (pattern_so_far outer) (pattern_so_far g) (joined_block-below n outer.pattern outer.block outer_pattern outer_block) (joined_block-below n g.pattern g.block pattern block) in
    record { groups = (both, tt, rest); whole = below.whole }

body_of-below : (scope : Scope) (s : State) → StateFine (length scope.names) s → BodyBelow (length scope.names) (body_of scope s)
body_of-below scope s fine = with_object-below scope s.subject s.verb s.body s.object fine.subject fine.verb fine.object fine.body

amended-fine : (n : ℕ) (f : Node → Node) (s : State) (object : Option Node) → ((node : Node) → NodeFine n node → NodeFine n (f node)) → s.object ≡ object → StateFine n s → StateFine n (amended f s object)
amended-fine n f s None keeps e fine = record { body = fine.body; subject = keeps s.subject fine.subject; verb = fine.verb; object = fine.object }
amended-fine n f s (Some object) keeps e fine =
    record { body = fine.body; subject = fine.subject; verb = fine.verb; object = keeps object (subst (ObjectFine n) e fine.object) }

in_role-fine : (scope : Scope) (s : State) (role : Role) (terminal : Terminal) (token : Lexeme) → (terminal ≡ terminals.Variable → 0 < length scope.names) → StateFine (length scope.names) s →
    StateFine (length scope.names) (in_role scope s role terminal token)
in_role-fine scope s roles.Distinct terminal token h fine = record { body = fine.body; subject = fine.subject; verb = fine.verb; object = fine.object }
in_role-fine scope s roles.AllColumns terminal token h fine = record { body = fine.body; subject = fine.subject; verb = fine.verb; object = fine.object }
in_role-fine scope s roles.Column terminal token h fine = record { body = fine.body; subject = fine.subject; verb = fine.verb; object = fine.object }
in_role-fine scope s roles.Optional terminal token h fine = record { body = fine.body; subject = fine.subject; verb = fine.verb; object = fine.object }
in_role-fine scope s roles.Open terminal token h fine =
    let b = body_of-below scope s fine in
    record { body = record { groups = (tt, tt, b.groups); whole = b.whole }; subject = fine.subject; verb = fine.verb; object = tt }
in_role-fine scope s roles.Close terminal token h fine =
    let b = body_of-below scope s fine in
    record { body = closed_groups-below (length scope.names) (body_of scope s).groups (body_of scope s) b.groups b; subject = fine.subject; verb = fine.verb; object = tt }
in_role-fine scope s roles.Subject terminal token h fine =
    record { body = body_of-below scope s fine; subject = node_of-fine (length scope.names) terminal token h; verb = fine.verb; object = tt }
in_role-fine scope s roles.Verb terminal token h fine =
    record { body = body_of-below scope s fine; subject = fine.subject; verb = node_of-fine (length scope.names) terminal token h; object = tt }
in_role-fine scope s roles.Object terminal token h fine =
    record { body = body_of-below scope s fine; subject = fine.subject; verb = fine.verb; object = node_of-fine (length scope.names) terminal token h }
in_role-fine scope s roles.Tag terminal token h fine = amended-fine (length scope.names) (with_tag terminal token) s s.object (with_tag-fine (length scope.names) terminal token) refl fine
in_role-fine scope s roles.Datatype terminal token h fine = amended-fine (length scope.names) (with_datatype terminal token) s s.object (with_datatype-fine (length scope.names) terminal token) refl fine
in_role-fine scope s roles.Keyword terminal token h fine = fine
in_role-fine scope s roles.Declared terminal token h fine = fine
in_role-fine scope s roles.Namespace terminal token h fine = fine

step-fine : (scope : Scope) (s : State) (l : Labelled) → IsFine (length scope.names) l → StateFine (length scope.names) s → StateFine (length scope.names) (step scope s l)
unfolding step
step-fine scope s l h fine = in_role-fine scope s l.role (terminal_of l.token) l.token h fine

built-fine : (scope : Scope) (s : State) (ls : List Labelled) → AreFine (length scope.names) ls → StateFine (length scope.names) s → StateFine (length scope.names) (built scope s ls)
built-fine scope s [] all fine = fine
built-fine scope s (l ∷ ls) (first, rest) fine = built-fine scope (step scope s l) ls rest (step-fine scope s l first fine)

-- the variables of a query's pattern
pub pattern-vars : (scope : Scope) (tree : Syntax) (labelled : List Labelled) → IsQuery tree labelled → AreFine (length scope.names) labelled → AreBelow (length scope.names) (vars_of (pattern_of scope tree.group))
pattern-vars scope tree labelled query all =
    let first : StateFine (length scope.names) start = record { body = record { groups = tt; whole = tt }; subject = tt; verb = tt; object = tt } in
    let last = built-fine scope start labelled all first in
    subst (λ (p : Algebra). AreBelow (length scope.names) (vars_of p)) (query-built scope tree labelled query).pattern last.body.whole
