-- The columns by the numbers of their variables are those that are computed.
use Rattle.std.proofs.Common.{◌≡◌, ℕ, ◌==◌, List, [], ◌∷◌, map, refl, sym, ap, ◌∙◌}
use Rattle.query_tokens.specs.Token.{Lexeme}
use Rattle.query_grammar.specs.Roles.{Labelled}
use Rattle.query_grammar.specs.Tree.{Columns, AllColumns, Variables}
use Rattle.alg_model.specs.Pattern.{Algebra}
use Rattle.query_values.specs.reading.Values.{name_of}
use Rattle.sparql_parse.specs.computed.Meaning.{Scope, number_of, columns_of}
use Rattle.sparql_parse.specs.OneByOne.{OneByOne}
use Rattle.sparql_parse.specs.Names.{HasNumber, first_of_each}
use Rattle.sparql_parse.specs.Translation.{AreColumnsOf}
use Rattle.sparql_parse.proofs.NumberLaws.{Differ, HasNumber-is}
use Rattle.sparql_parse.proofs.NodeLaws.{Agrees}
use Rattle.sparql_parse.proofs.QueryNodes.{ColumnNumbers}

-- the numbers of variables are those that are computed
numbers-are : (scope : Scope) (tokens : List Lexeme) (numbers : List ℕ) → Differ scope.names → OneByOne (HasNumber scope.names) tokens numbers → numbers ≡ map (λ token. number_of scope.names (name_of token)) tokens
numbers-are scope [] [] differ each = refl
numbers-are scope [] (n ∷ numbers) differ each = absurd each
numbers-are scope (token ∷ tokens) [] differ each = absurd each
numbers-are scope (token ∷ tokens) (n ∷ numbers) differ (first, others) =
    ap (λ m. m ∷ numbers) (sym (HasNumber-is scope.names token n differ first)) ∙ ap (λ ns. number_of scope.names (name_of token) ∷ ns) (numbers-are scope tokens numbers differ others)

-- columns are those that are computed
pub AreColumnsOf-are : (scope : Scope) (pattern : Algebra) (columns : Columns) (numbers : List ℕ) → Differ scope.names → AreColumnsOf scope.names pattern columns numbers → numbers ≡ columns_of scope pattern columns
AreColumnsOf-are scope pattern AllColumns numbers differ is = is
AreColumnsOf-are scope pattern (Variables tokens) numbers differ (ns, each, is) = is ∙ ap (first_of_each ◌==◌) (numbers-are scope tokens ns differ each)

-- and those that are computed are columns
pub columns_of-are : (tokens : List Labelled) (scope : Scope) (agrees : Agrees tokens scope) (pattern : Algebra) (columns : Columns) → ColumnNumbers tokens scope agrees columns → AreColumnsOf scope.names pattern columns (columns_of scope pattern columns)
columns_of-are tokens scope agrees pattern AllColumns each = refl
columns_of-are tokens scope agrees pattern (Variables ts) each = (map (λ token. number_of scope.names (name_of token)) ts, each, refl)
