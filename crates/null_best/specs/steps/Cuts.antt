-- Carries proofs only: a row that is cut to some variables, and rows that extend others, by their cells.
use Rattle.std.specs.Prelude.{ℕ, ◌/◌, ◌%◌, ◌==◌, if◌then◌else◌, List, [], ◌∷◌}
use Rattle.alg_model.specs.Row.{Extends, BindsMore}
use Rattle.pattern_tree.specs.FlatTable.{row_of}

-- the cells of the variables of a set, whose bits begin with that of the first cell, and all others unbound
abbrev pub cut_to : ℕ → List ℕ → List ℕ
cut_to set [] = []
cut_to set (cell ∷ cells) = (if set % 2 == 1 then cell else 0) ∷ cut_to (set / 2) cells

-- a row extends another with more variables
pub record Improves (large small : List ℕ) : Type 0 where
  pub extends : Extends (row_of large) (row_of small)
  pub more : BindsMore (row_of large) (row_of small)
