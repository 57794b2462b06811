-- Carries proofs only: rows of places in a term table, as names of the rows of a pattern over a graph.
use Rattle.std.specs.Prelude.{ℕ, ◌<◌, List, length, map, Option, IfSome, IsPermutation}
use Rattle.alg_model.specs.Eval.{as_terms, eval}
use Rattle.alg_model.specs.Pattern.{Algebra}
use Rattle.bm_term.specs.declared.triple.Triple.{Triple}
use Rattle.engine_laws.specs.Terms.{text_at, RowsHaveTexts}
use Rattle.naming_laws.specs.Naming.{named_row}
use Rattle.pattern_tree.specs.FlatTable.{FlatTable}
use Rattle.term_numbers.specs.Numbering.{Terms, term_table}

-- a value that is bound is the place of a term
abbrev pub HasText : Terms → Option ℕ → Type 0
HasText terms cell = IfSome cell (λ value. value < length (term_table terms))

-- the rows name the rows of the pattern over the graph, each as often as there
pub record IsBestOf (terms : Terms) (graph : List Triple) (n : ℕ) (pattern : Algebra) (table : FlatTable) : Type 0 where
  pub texts : RowsHaveTexts terms table.rows
  pub bag : IsPermutation (eval as_terms n pattern graph) (map (named_row (text_at terms)) table.rows)
