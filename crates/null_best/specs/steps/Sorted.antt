-- Carries proofs only: rows in order.
use Rattle.std.specs.Prelude.{◌≡◌, ◌↔◌, ℕ, List, map, Contains}
use Rattle.std.specs.List.Sorted.{IsStrictlySortedBy}
use Rattle.alg_model.specs.Row.{Row}
use Rattle.pattern_tree.specs.FlatTable.{row_of}
use Rattle.null_best.specs.steps.Keys.{key_cmp}

-- rows whose cells ascend, each row once
pub record AreAscending (rows : List (Row ℕ)) : Type 0 where
  pub keys : List (List ℕ)
  pub are : map row_of keys ≡ rows
  pub ascends : IsStrictlySortedBy key_cmp keys

-- lists that have the same rows
pub record HaveSameRows (rows others : List (Row ℕ)) : Type 0 where
  pub same : (row : Row ℕ) → Contains rows row ↔ Contains others row
