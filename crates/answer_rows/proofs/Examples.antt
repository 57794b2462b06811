-- Worked examples.
use Rattle.std.proofs.Common.{◌≡◌, ◌≢◌, ℕ, zero, suc, ◌<◌, List, [], ◌∷◌, get_or, All, AllPairs, IsUtf8, IsAscii, Some, None, true, false, codes, refl, sym, ◌∙◌, ap, arith, lit≤, lit<}
use Rattle.std.proofs.lemmas.List.Elements.{All-nil, All-cons}
use Rattle.std.proofs.lemmas.Str.{IsUtf8-from_ascii}
use Rattle.bm_term.proofs.Elements.{Contains-single}
use Rattle.alg_model.proofs.Lists.{AllPairs-append, AllPairs-option}
use Rattle.alg_model.specs.declared.var.Var.{Var}
use Rattle.alg_model.specs.declared.query.Query.{Query}
use Rattle.alg_model.specs.Pattern.{Bgp, algebra_of}
use Rattle.alg_model.specs.Row.{Row}
use Rattle.alg_model.specs.Answers.{arranged}
use Rattle.alg_model.specs.Limits.{KeepsLimits, PatternKeepsLimits}
use Rattle.answer_rows.specs.TextTable.{bound_last}
use Rattle.answer_rows.specs.held.Flat.{in_rows}

abbrev a : List ℕ
a = codes "<a>"

abbrev b : List ℕ
b = codes "<b>"

abbrev var : ℕ → Var
var n = record { 0 = n }

-- ---- rows in one list

two_rows : in_rows 2 2 (a ∷ b ∷ b ∷ a ∷ []) ≡ (a ∷ b ∷ []) ∷ (b ∷ a ∷ []) ∷ []
two_rows = refl

-- rows without cells
no_cells : in_rows 0 2 (let none : List (List ℕ) = [] in none) ≡ [] ∷ [] ∷ []
no_cells = refl

-- ---- a cell is bound in the last row, and the first row stays

second_cell : bound_last 1 b ((Some a ∷ None ∷ []) ∷ (None ∷ None ∷ []) ∷ []) ≡ (Some a ∷ None ∷ []) ∷ (None ∷ Some b ∷ []) ∷ []
second_cell = refl

-- ---- the answers: the second column before the first, unbound before bound

rows : List (Row (List ℕ))
rows = (Some a ∷ Some b ∷ []) ∷ (Some b ∷ None ∷ []) ∷ (Some a ∷ Some b ∷ []) ∷ (Some b ∷ Some a ∷ []) ∷ []

both_columns : arranged (var 1 ∷ var 0 ∷ []) false rows ≡ (None ∷ Some b ∷ []) ∷ (Some a ∷ Some b ∷ []) ∷ (Some b ∷ Some a ∷ []) ∷ (Some b ∷ Some a ∷ []) ∷ []
unfolding rows
both_columns = refl

-- DISTINCT looks at what is left of the rows
one_column : arranged (var 0 ∷ []) true rows ≡ (Some a ∷ []) ∷ (Some b ∷ []) ∷ []
unfolding rows
one_column = refl

-- ---- a query that keeps the limits

ascii_letter : (letter : ℕ) → letter < 128 → IsAscii (letter ∷ [])
ascii_letter letter low zero = low
ascii_letter letter low (suc i) = lit< tt

one_letter : (letter : ℕ) → letter < 128 → IsUtf8 (letter ∷ [])
one_letter letter low = IsUtf8-from_ascii (letter ∷ []) (ascii_letter letter low)

x_is_not_y : codes "x" ≢ codes "y"
x_is_not_y same = let letters : ◌≡◌ {A = ℕ} 120 121 = ap (λ name. get_or name 0 0) same in omega arith

abbrev names : List (List ℕ)
names = codes "x" ∷ codes "y" ∷ []

names_are_text : All IsUtf8 names
names_are_text = All-cons IsUtf8 (codes "x") (codes "y" ∷ []) (one_letter 120 (lit< tt)) (All-cons IsUtf8 (codes "y") [] (one_letter 121 (lit< tt)) (All-nil IsUtf8))

names_differ : AllPairs (λ first second. first ≢ second) names
names_differ =
    AllPairs-append (λ first second. first ≢ second) (codes "x" ∷ []) (codes "y" ∷ []) (AllPairs-option (λ first second. first ≢ second) (Some (codes "x"))) (AllPairs-option (λ first second. first ≢ second) (Some (codes "y")))
    (λ first second hx hy same. x_is_not_y (Contains-single (codes "x") first hx ∙ same ∙ sym (Contains-single (codes "y") second hy)))

empty_keeps : PatternKeepsLimits 2 (Bgp [])
empty_keeps = record { vars_below = λ k d within. absurd (omega arith); few_optional = lit≤ tt; few_triples = lit≤ tt; numbered = refl }

-- two names, no triple pattern, and the second column
pub two_names : (query : Query) → query.names ≡ names → query.columns ≡ var 1 ∷ [] → algebra_of query.pattern ≡ Bgp [] → KeepsLimits query
two_names query named columns pattern = record {
  few_names = rw named (lit≤ tt);
  names_are_text = rw named names_are_text;
  names_differ = rw named names_differ;
  pattern = rw (named, pattern) empty_keeps;
  columns_below = rw (named, columns) (All-cons (λ column. column.0 < 2) (var 1) [] (lit< tt) (All-nil (λ column. column.0 < 2)));
  columns_differ = rw columns (AllPairs-option (λ first second. first ≢ second) (Some (var 1)));
}
