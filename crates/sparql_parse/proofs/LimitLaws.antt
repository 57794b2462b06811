-- The limits of what a syntax tree means: triple patterns are numbered from 1 in the order of the text, at most as
-- many as objects, and at most as many elements are optional as there are OPTIONALs.
use Rattle.std.proofs.Common.{◌≡◌, ℕ, ◌+◌, ◌≤◌, Bool, true, false, List, [], ◌∷◌, ◌++◌, map, length, Option, Some, None, refl, ap, subst, arith, length-append}
use Rattle.std.specs.List.{range_with_len}
use Rattle.query_tokens.specs.Token.{Lexeme}
use Rattle.query_grammar.specs.declared.terminal.Terminal.{Terminal}
use Rattle.query_grammar.specs.declared.syntax.Role.{Role}
use Rattle.query_grammar.specs.declared.syntax.Role.TheVariants as roles
use Rattle.query_grammar.specs.Terminals.{terminal_of}
use Rattle.query_grammar.specs.Roles.{Labelled, count_of}
use Rattle.query_grammar.specs.Tree.{Node, Same, Elements, EndOfGroup, Element, OptionalGroup, NestedGroup, Group, Syntax}
use Rattle.query_grammar.specs.Grammar.{IsQuery}
use Rattle.query_grammar.proofs.Counts.{one_if, count-cons}
use Rattle.alg_model.specs.declared.pattern.TriplePat.{TriplePat}
use Rattle.alg_model.specs.Pattern.{Algebra, Join, LeftJoin, triple_patterns, optional_parts}
use Rattle.sparql_parse.specs.Faults.{is_object, is_optional}
use Rattle.sparql_parse.specs.computed.Meaning.{Scope, Translated, patterns_from, empty_group, with_block, with_elements, pattern_of}
use Rattle.sparql_parse.specs.Translation.{NodeTriple, triples_of_block}
use Rattle.sparql_parse.specs.computed.Building.{State, Body, OpenGroup, step, in_role, built, start, with_object, body_of, closed_groups, amended, in_innermost, joined_block, pattern_so_far, combined, with_tag, with_datatype}
use Rattle.sparql_parse.proofs.Counting.{built-next}
use Rattle.sparql_parse.proofs.Queries.{query-built, query-next}

-- numbered in a row from m on
abbrev pub AreNumbered : ℕ → List TriplePat → Type 0
AreNumbered m [] = Unit {0}
AreNumbered m (t ∷ ts) = (t.number ≡ m) × AreNumbered (m + 1) ts

AreNumbered-append : (m : ℕ) (xs ys : List TriplePat) → AreNumbered m xs → AreNumbered (m + length xs) ys → AreNumbered m (xs ++ ys)
AreNumbered-append m [] ys front back = let e : m + length {A = TriplePat} [] ≡ m = omega arith in subst (λ (n : ℕ). AreNumbered n ys) e back
AreNumbered-append m (x ∷ xs) ys (first, rest) back =
    let e : m + length (x ∷ xs) ≡ (m + 1) + length xs = omega arith in
    (first, AreNumbered-append (m + 1) xs ys rest (subst (λ (n : ℕ). AreNumbered n ys) e back))

pub AreNumbered-range : (m : ℕ) (ts : List TriplePat) → AreNumbered m ts → map (λ t. t.number) ts ≡ range_with_len m (length ts)
AreNumbered-range m [] h = refl
AreNumbered-range m (t ∷ ts) (first, rest) = let e = AreNumbered-range (m + 1) ts rest in cc

patterns_from-numbered : (scope : Scope) (n : ℕ) (ts : List NodeTriple) → AreNumbered n (patterns_from scope n ts)
patterns_from-numbered scope n [] = tt
patterns_from-numbered scope n (t ∷ ts) = (refl, patterns_from-numbered scope (n + 1) ts)

length-patterns_from : (scope : Scope) (n : ℕ) (ts : List NodeTriple) → length (patterns_from scope n ts) ≡ length ts
length-patterns_from scope n [] = refl
length-patterns_from scope n (t ∷ ts) = let e = length-patterns_from scope (n + 1) ts in omega arith

-- the triple patterns of a group so far are numbered from m on, up to the next number
pub record IsNumbered (m : ℕ) (g : Translated) : Type 0 where
  pub numbers : AreNumbered m (triple_patterns g.pattern)
  pub next : g.next ≡ m + length (triple_patterns g.pattern)

empty-numbered : (n : ℕ) → IsNumbered n (empty_group n)
empty-numbered n = record { numbers = tt; next = omega arith }

-- what is put after a group
after-numbered : (m : ℕ) (g : Translated) (ts : List TriplePat) → IsNumbered m g → AreNumbered g.next ts → AreNumbered m (triple_patterns g.pattern ++ ts)
after-numbered m g ts is back = AreNumbered-append m (triple_patterns g.pattern) ts is.numbers (subst (λ (n : ℕ). AreNumbered n ts) is.next back)

module _ (scope : Scope) where
  block-numbered : (m : ℕ) (g : Translated) (block : List Same) → IsNumbered m g → IsNumbered m (with_block scope g block)
  block-numbered m g [] is = is
  block-numbered m g (same ∷ block) is =
      let ts = triples_of_block (same ∷ block) in
      let ps = patterns_from scope g.next ts in
      let a = length-append (triple_patterns g.pattern) ps in
      let b = length-patterns_from scope g.next ts in
      record { numbers = after-numbered m g ps is (patterns_from-numbered scope g.next ts); next = omega (arith, is.next, a, b) }

  element-numbered : (m : ℕ) (g inner : Translated) → IsNumbered m g → IsNumbered g.next inner → AreNumbered m (triple_patterns g.pattern ++ triple_patterns inner.pattern) × (inner.next ≡ m + length (triple_patterns g.pattern ++ triple_patterns inner.pattern))
  element-numbered m g inner outer_is inner_is =
      let a = length-append (triple_patterns g.pattern) (triple_patterns inner.pattern) in
      (after-numbered m g (triple_patterns inner.pattern) outer_is inner_is.numbers, omega (arith, outer_is.next, inner_is.next, a))

  elements-numbered : (m : ℕ) (g : Translated) (elements : Elements) → IsNumbered m g → IsNumbered m (with_elements scope g elements)
  elements-numbered m g EndOfGroup is = is
  elements-numbered m g (Element OptionalGroup block elements next rest) is =
      let inner = with_elements scope (with_block scope (empty_group g.next) block) elements in
      let deep = elements-numbered g.next (with_block scope (empty_group g.next) block) elements (block-numbered g.next (empty_group g.next) block (empty-numbered g.next)) in
      let both = element-numbered m g inner is deep in
      let after : Translated = record { pattern = LeftJoin g.pattern inner.pattern; next = inner.next } in
      elements-numbered m (with_block scope after next) rest (block-numbered m after next (record { numbers = both.0; next = both.1 }))
  elements-numbered m g (Element NestedGroup block elements next rest) is =
      let inner = with_elements scope (with_block scope (empty_group g.next) block) elements in
      let deep = elements-numbered g.next (with_block scope (empty_group g.next) block) elements (block-numbered g.next (empty_group g.next) block (empty-numbered g.next)) in
      let both = element-numbered m g inner is deep in
      let after : Translated = record { pattern = Join g.pattern inner.pattern; next = inner.next } in
      elements-numbered m (with_block scope after next) rest (block-numbered m after next (record { numbers = both.0; next = both.1 }))

  pub group-numbered : (group : Group) → IsNumbered 1 (with_elements scope (with_block scope (empty_group 1) group.block) group.elements)
  group-numbered group = elements-numbered 1 (with_block scope (empty_group 1) group.block) group.elements (block-numbered 1 (empty_group 1) group.block (empty-numbered 1))

-- OPTIONALs: those of the patterns so far, the open groups that are OPTIONAL, and one that is read before its group
abbrev group_optionals : OpenGroup → ℕ
group_optionals g = optional_parts g.pattern + one_if g.optional

abbrev groups_optionals : List OpenGroup → ℕ
groups_optionals [] = 0
groups_optionals (g ∷ gs) = group_optionals g + groups_optionals gs

abbrev body_optionals : Body → ℕ
body_optionals b = groups_optionals b.groups + optional_parts b.whole

abbrev optionals : State → ℕ
optionals s = body_optionals s.body + one_if s.optional

optional_parts-joined_block : (p : Algebra) (b : List TriplePat) → optional_parts (joined_block p b) ≡ optional_parts p
optional_parts-joined_block p [] = refl
optional_parts-joined_block p (t ∷ ts) = omega arith

optional_parts-combined : (optional : Bool) (l r : Algebra) → optional_parts (combined optional l r) ≡ optional_parts l + optional_parts r + one_if optional
optional_parts-combined true l r = refl
optional_parts-combined false l r = omega arith

in_innermost-optionals : (t : TriplePat) (gs : List OpenGroup) → groups_optionals (in_innermost t gs) ≡ groups_optionals gs
in_innermost-optionals t [] = refl
in_innermost-optionals t (g ∷ gs) = refl

with_object-optionals : (scope : Scope) (subject verb : Node) (b : Body) (object : Option Node) → body_optionals (with_object scope subject verb b object) ≡ body_optionals b
with_object-optionals scope subject verb b None = refl
with_object-optionals scope subject verb b (Some object) = ap (λ (n : ℕ). n + optional_parts b.whole) (in_innermost-optionals _ b.groups)

closed_groups-optionals : (groups : List OpenGroup) (b : Body) → b.groups ≡ groups → body_optionals (closed_groups groups b) ≤ body_optionals b
closed_groups-optionals [] b e = omega arith
closed_groups-optionals (g ∷ []) b e =
    let h = ap groups_optionals e in
    let p = optional_parts-joined_block g.pattern g.block in
    omega (arith, h, p)
closed_groups-optionals (g ∷ outer ∷ gs) b e =
    let h = ap groups_optionals e in
    let p = optional_parts-joined_block g.pattern g.block in
    let q = optional_parts-joined_block outer.pattern outer.block in
    let r = optional_parts-combined g.optional (pattern_so_far outer) (pattern_so_far g) in
    omega (arith, h, p, q, r)

amended-optionals : (f : Node → Node) (s : State) (object : Option Node) → optionals (amended f s object) ≡ optionals s
amended-optionals f s None = refl
amended-optionals f s (Some object) = refl

in_role-optionals : (scope : Scope) (s : State) (role : Role) (terminal : Terminal) (token : Lexeme) → optionals (in_role scope s role terminal token) ≤ optionals s + one_if (is_optional role)
in_role-optionals scope s roles.Distinct terminal token = omega arith
in_role-optionals scope s roles.AllColumns terminal token = omega arith
in_role-optionals scope s roles.Column terminal token = omega arith
in_role-optionals scope s roles.Optional terminal token = omega arith
in_role-optionals scope s roles.Open terminal token = omega (arith, with_object-optionals scope s.subject s.verb s.body s.object)
in_role-optionals scope s roles.Close terminal token =
    omega (arith, with_object-optionals scope s.subject s.verb s.body s.object, closed_groups-optionals (body_of scope s).groups (body_of scope s) refl)
in_role-optionals scope s roles.Subject terminal token = omega (arith, with_object-optionals scope s.subject s.verb s.body s.object)
in_role-optionals scope s roles.Verb terminal token = omega (arith, with_object-optionals scope s.subject s.verb s.body s.object)
in_role-optionals scope s roles.Object terminal token = omega (arith, with_object-optionals scope s.subject s.verb s.body s.object)
in_role-optionals scope s roles.Tag terminal token = omega (arith, amended-optionals (with_tag terminal token) s s.object)
in_role-optionals scope s roles.Datatype terminal token = omega (arith, amended-optionals (with_datatype terminal token) s s.object)
in_role-optionals scope s roles.Keyword terminal token = omega arith
in_role-optionals scope s roles.Declared terminal token = omega arith
in_role-optionals scope s roles.Namespace terminal token = omega arith

step-optionals : (scope : Scope) (s : State) (l : Labelled) → optionals (step scope s l) ≤ optionals s + one_if (is_optional l.role)
unfolding step
step-optionals scope s l = in_role-optionals scope s l.role (terminal_of l.token) l.token

built-optionals : (scope : Scope) (s : State) (ls : List Labelled) → optionals (built scope s ls) ≤ optionals s + count_of is_optional ls
built-optionals scope s [] = omega arith
built-optionals scope s (l ∷ ls) =
    let rest = built-optionals scope (step scope s l) ls in
    let here = step-optionals scope s l in
    let count = count-cons is_optional l ls in
    omega arith

pub pattern-optionals : (scope : Scope) (tree : Syntax) (labelled : List Labelled) → IsQuery tree labelled → optional_parts (pattern_of scope tree.group) ≤ count_of is_optional labelled
pattern-optionals scope tree labelled query =
    let a = built-optionals scope start labelled in
    let b = ap optional_parts (query-built scope tree labelled query).pattern in
    omega (arith, a, b)

pub pattern-triples : (scope : Scope) (tree : Syntax) (labelled : List Labelled) → IsQuery tree labelled → length (triple_patterns (pattern_of scope tree.group)) ≤ count_of is_object labelled
pattern-triples scope tree labelled query =
    let is = group-numbered scope tree.group in
    let a = built-next scope start labelled in
    let b = query-next scope tree labelled query in
    omega (arith, is.next, a, b)
