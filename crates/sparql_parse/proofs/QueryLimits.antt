-- A query without faults keeps the limits.
use Rattle.std.proofs.Common.{◌≡◌, ℕ, ◌≤◌, ◌<◌, true, false, if◌then◌else◌, List, [], ◌∷◌, ◌++◌, fold, length, sym, subst, arith, length-append, ◌==◌}
use Rattle.std.specs.List.{list_any}
use Rattle.query_tokens.specs.Token.{Lexeme}
use Rattle.query_grammar.specs.declared.terminal.Terminal.{Terminal}
use Rattle.query_grammar.specs.declared.terminal.Terminal.TheVariants as terminals
use Rattle.query_grammar.specs.Terminals.{terminal_of}
use Rattle.query_grammar.specs.Roles.{Labelled, count_of}
use Rattle.query_grammar.specs.Tree.{Syntax}
use Rattle.query_grammar.specs.Grammar.{IsQuery}
use Rattle.alg_model.specs.Pattern.{vars_of, triple_patterns}
use Rattle.alg_model.specs.Limits.{PatternKeepsLimits}
use Rattle.query_values.specs.reading.Values.{name_of}
use Rattle.sparql_parse.specs.computed.Names.{is_text, with_name, names_after, names_of}
use Rattle.sparql_parse.specs.Faults.{is_object, is_optional}
use Rattle.sparql_parse.specs.computed.Meaning.{Scope, with_number, pattern_of}
use Rattle.sparql_parse.proofs.LimitLaws.{AreNumbered-range, group-numbered, pattern-optionals, pattern-triples}
use Rattle.sparql_parse.proofs.VarLaws.{AreBelow, AreBelow-All, AreBelow-append, AreFine, pattern-vars}

-- names only become more, and a variable makes one
with_name-grows : (names : List (List ℕ)) (name : List ℕ) → length names ≤ length (with_name names name)
with_name-grows names name =
    elim (list_any (is_text name) names) as (λ b. length names ≤ length (if b then names else names ++ name ∷ [])) [
      | true ↦ omega arith
      | false ↦ omega (arith, length-append names (name ∷ []))
    ]

with_name-some : (names : List (List ℕ)) (name : List ℕ) → 0 < length (with_name names name)
with_name-some [] name = omega arith
with_name-some (first ∷ names) name = let h = with_name-grows (first ∷ names) name in omega arith

names_after-grows : (names : List (List ℕ)) (terminal : Terminal) (token : Lexeme) → length names ≤ length (names_after names terminal token)
names_after-grows names terminals.Variable token = with_name-grows names (name_of token)
names_after-grows names _ token = omega arith

names_after-some : (names : List (List ℕ)) (terminal : Terminal) (token : Lexeme) → terminal ≡ terminals.Variable → 0 < length (names_after names terminal token)
names_after-some names terminal token e =
    subst (λ (t : Terminal). 0 < length (names_after names t token)) (sym e) (with_name-some names (name_of token))

abbrev after : List (List ℕ) → Labelled → List (List ℕ)
after names l = names_after names (terminal_of l.token) l.token

fold-grows : (names : List (List ℕ)) (ls : List Labelled) → length names ≤ length (fold after names ls)
fold-grows names [] = omega arith
fold-grows names (l ∷ ls) =
    let here = names_after-grows names (terminal_of l.token) l.token in
    let rest = fold-grows (after names l) ls in
    omega arith

fold-fine : (n : ℕ) (names : List (List ℕ)) (ls : List Labelled) → length (fold after names ls) ≤ n → AreFine n ls
fold-fine n names [] within = tt
fold-fine n names (l ∷ ls) within =
    let grows = fold-grows (after names l) ls in
    (λ e. let some = names_after-some names (terminal_of l.token) l.token e in omega arith, fold-fine n (after names l) ls within)

pub names-fine : (ls : List Labelled) → AreFine (length (names_of ls)) ls
unfolding names_of
names-fine ls = fold-fine (length (fold after [] ls)) [] ls (omega arith)

pub pattern-limits : (scope : Scope) (tree : Syntax) (labelled : List Labelled) → IsQuery tree labelled → AreFine (length scope.names) labelled →
    count_of is_object labelled ≤ 256 → count_of is_optional labelled ≤ 63 → PatternKeepsLimits (length scope.names) (pattern_of scope tree.group)
pattern-limits scope tree labelled query fine objects optionals =
    let a = pattern-optionals scope tree labelled query in
    let b = pattern-triples scope tree labelled query in
    let pattern = pattern_of scope tree.group in
    record {
      vars_below = AreBelow-All (length scope.names) (vars_of pattern) (pattern-vars scope tree labelled query fine);
      few_optional = omega arith;
      few_triples = omega arith;
      numbered = AreNumbered-range 1 (triple_patterns pattern) (group-numbered scope tree.group).numbers;
    }

-- columns are put once
with_number-below : (n : ℕ) (xs : List ℕ) (x : ℕ) → AreBelow n xs → x < n → AreBelow n (with_number xs x)
with_number-below n xs x h lt =
    elim (list_any (λ m. m == x) xs) as (λ b. AreBelow n (if b then xs else xs ++ x ∷ [])) [ true ↦ h | false ↦ AreBelow-append n xs (x ∷ []) h (lt, tt) ]

pub fold-below : (n : ℕ) (xs ys : List ℕ) → AreBelow n xs → AreBelow n ys → AreBelow n (fold with_number xs ys)
fold-below n xs [] h k = h
fold-below n xs (y ∷ ys) h (first, rest) = fold-below n (with_number xs y) ys (with_number-below n xs y h first) rest
