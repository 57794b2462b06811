-- The columns of a query are below the number of its names, and differ.
use Rattle.std.proofs.Common.{◌≡◌, ◌≢◌, ℕ, ◌<◌, Bool, true, false, if◌then◌else◌, List, [], ◌∷◌, ◌++◌, map, fold, length, get_or, refl, sym, ◌∙◌, ap, subst, arith, ◌==◌}
use Rattle.std.specs.Prelude.{All, AllPairs}
use Rattle.std.specs.List.{list_any}
use Rattle.std.proofs.Math.ListN.{get_or-map}
use Rattle.std.proofs.lemmas.Bool.Decides.{nat_tests}
use Rattle.std.proofs.lemmas.List.{length-map}
use Rattle.std.proofs.lemmas.List.Folds.{list_any_at}
use Rattle.std.proofs.lemmas.List.Quantifiers.{all_pairs_push}
use Rattle.query_tokens.specs.Token.{Lexeme}
use Rattle.query_grammar.specs.declared.terminal.Terminal.{Terminal}
use Rattle.query_grammar.specs.declared.terminal.Terminal.TheVariants as terminals
use Rattle.query_grammar.specs.declared.syntax.Role.{Role}
use Rattle.query_grammar.specs.declared.syntax.Role.TheVariants as roles
use Rattle.query_grammar.specs.Roles.{Labelled}
use Rattle.query_grammar.specs.Tree.{Declaration, Columns, AllColumns, Variables, Syntax}
use Rattle.query_grammar.specs.Grammar.{IsQuery, Spelling, Token, AreColumns, IsDistinct, IsPrologue, SpellsQuery}
use Rattle.alg_model.specs.declared.var.Var.{Var}
use Rattle.alg_model.specs.Pattern.{Algebra, vars_of}
use Rattle.query_values.specs.reading.Values.{name_of}
use Rattle.sparql_parse.specs.computed.Meaning.{Scope, number_of, with_number, pattern_of, columns_of}
use Rattle.sparql_parse.proofs.QueryLimits.{fold-below}
use Rattle.sparql_parse.proofs.VarLaws.{AreBelow, AreFine, number_of-below, pattern-vars}

-- each number is put once
equal_test : (a b : ℕ) → a ≡ b → (a == b) ≡ true
equal_test a b e = grind (arith, nat_tests)

not_there : (xs : List ℕ) (x k d : ℕ) → list_any (λ m. m == x) xs ≡ false → k < length xs → get_or xs k d ≢ x
not_there xs x k d none lt same =
    let found = list_any_at (λ m. m == x) xs k d lt (equal_test (get_or xs k d) x same) in
    let both : true ≡ false = sym found ∙ none in
    cc

with_number-differ : (xs : List ℕ) (x : ℕ) → AllPairs (λ a b. a ≢ b) xs → AllPairs (λ a b. a ≢ b) (with_number xs x)
with_number-differ xs x h =
    let cases : (b : Bool) → list_any (λ m. m == x) xs ≡ b → AllPairs (λ (a c : ℕ). a ≢ c) (if b then xs else xs ++ x ∷ []) =
    λ b. elim b as (λ c. list_any (λ m. m == x) xs ≡ c → AllPairs (λ (a e : ℕ). a ≢ e) (if c then xs else xs ++ x ∷ [])) [
      | true ↦ λ e. h
      | false ↦ λ e. all_pairs_push (λ (a c : ℕ). a ≢ c) xs x h (λ k d lt. not_there xs x k d e lt)
    ] in
    cases (list_any (λ m. m == x) xs) refl

fold-differ : (xs ys : List ℕ) → AllPairs (λ a b. a ≢ b) xs → AllPairs (λ a b. a ≢ b) (fold with_number xs ys)
fold-differ xs [] h = h
fold-differ xs (y ∷ ys) h = fold-differ (with_number xs y) ys (with_number-differ xs y h)

none-differ : AllPairs {X = ℕ} (λ a b. a ≢ b) []
none-differ i j d lt within = absurd (omega arith)

pub columns-differ : (scope : Scope) (pattern : Algebra) (columns : Columns) → AllPairs (λ a b. a ≢ b) (columns_of scope pattern columns)
columns-differ scope pattern AllColumns = fold-differ [] (vars_of pattern) none-differ
columns-differ scope pattern (Variables tokens) = fold-differ [] (map (λ token. number_of scope.names (name_of token)) tokens) none-differ

-- where there are names, each variable has a number
numbers-below : (scope : Scope) (tokens : List Lexeme) → 0 < length scope.names → AreBelow (length scope.names) (map (λ token. number_of scope.names (name_of token)) tokens)
numbers-below scope [] some = tt
numbers-below scope (token ∷ tokens) some = (number_of-below scope.names (name_of token) some, numbers-below scope tokens some)

-- tokens that are left after a symbol are fine
abbrev Keeps : ℕ → Spelling → Type 0
Keeps n symbol = (from to : List Labelled) → symbol from to → AreFine n from → AreFine n to

token-keeps : (n : ℕ) (terminal : Terminal) (role : Role) (token : Lexeme) (from to : List Labelled) → Token terminal role token from to → AreFine n from → (terminal ≡ terminals.Variable → 0 < n) × AreFine n to
token-keeps n terminal role token from to (is, from_is) fine =
    let (first, rest) = subst (AreFine n) from_is fine in
    (λ e. first (is ∙ e), rest)

prologue-keeps : (n : ℕ) (declarations : List Declaration) → Keeps n (IsPrologue declarations)
prologue-keeps n [] from to e fine = subst (AreFine n) e fine
prologue-keeps n (declaration ∷ declarations) from to (a, (b, (word, one), (c, two, three)), rest) fine =
    let first = (token-keeps n terminals.PrefixWord roles.Keyword word from b one fine).1 in
    let second = (token-keeps n terminals.Prefix roles.Declared declaration.prefix b c two first).1 in
    let third = (token-keeps n terminals.Iri roles.Namespace declaration.iri c a three second).1 in
    prologue-keeps n declarations a to rest third

distinct-keeps : (n : ℕ) (distinct : Bool) → Keeps n (IsDistinct distinct)
distinct-keeps n true from to (token, is) fine = (token-keeps n terminals.DistinctWord roles.Distinct token from to is fine).1
distinct-keeps n false from to e fine = subst (AreFine n) e fine

columns-below-at : (scope : Scope) (pattern : Algebra) (columns : Columns) (from to : List Labelled) → AreColumns columns from to → AreFine (length scope.names) from →
    AreBelow (length scope.names) (vars_of pattern) → AreBelow (length scope.names) (columns_of scope pattern columns)
columns-below-at scope pattern AllColumns from to is fine vars = fold-below (length scope.names) [] (vars_of pattern) tt vars
columns-below-at scope pattern (Variables []) from to is fine vars = absurd is
columns-below-at scope pattern (Variables (token ∷ tokens)) from to (middle, one, rest) fine vars =
    let some = (token-keeps (length scope.names) terminals.Variable roles.Column token from middle one fine).0 refl in
    fold-below (length scope.names) [] (map (λ t. number_of scope.names (name_of t)) (token ∷ tokens)) tt (numbers-below scope (token ∷ tokens) some)

spelled-columns : (scope : Scope) (pattern : Algebra) (tree : Syntax) (labelled : List Labelled) → SpellsQuery tree labelled [] → AreFine (length scope.names) labelled →
    AreBelow (length scope.names) (vars_of pattern) → AreBelow (length scope.names) (columns_of scope pattern tree.columns)
spelled-columns scope pattern tree labelled (a, prologue, (b, (word, select), (c, distinct, (e, columns, rest)))) fine vars =
    let n = length scope.names in
    let one = prologue-keeps n tree.declarations labelled a prologue fine in
    let two = (token-keeps n terminals.SelectWord roles.Keyword word a b select one).1 in
    let three = distinct-keeps n tree.distinct b c distinct two in
    columns-below-at scope pattern tree.columns c e columns three vars

pub columns-below : (scope : Scope) (tree : Syntax) (labelled : List Labelled) → IsQuery tree labelled → AreFine (length scope.names) labelled →
    AreBelow (length scope.names) (columns_of scope (pattern_of scope tree.group) tree.columns)
columns-below scope tree labelled query fine =
    spelled-columns scope (pattern_of scope tree.group) tree labelled query.spelled fine (pattern-vars scope tree labelled query fine)

-- of variables by their numbers
pub vars-below : (n : ℕ) (vars : List Var) → All (λ x. x < n) (map (λ v. v.0) vars) → All (λ v. v.0 < n) vars
vars-below n vars h k d lt =
    let inside : k < length (map (λ (v : Var). v.0) vars) = rw length-map lt in
    subst (λ (x : ℕ). x < n) (get_or-map (λ (v : Var). v.0) vars k d) (h k d.0 inside)

pub vars-differ : (vars : List Var) → AllPairs (λ a b. a ≢ b) (map (λ v. v.0) vars) → AllPairs (λ a b. a ≢ b) vars
vars-differ vars h i j d lt within same =
    let inside : j < length (map (λ (v : Var). v.0) vars) = rw length-map within in
    h i j d.0 lt inside (get_or-map (λ (v : Var). v.0) vars i d ∙ ap (λ (v : Var). v.0) same ∙ sym (get_or-map (λ (v : Var). v.0) vars j d))
