-- How rows of the two sides of a pattern make a row of the pattern. SPARQL 1.1 Query, section 18.5.
use Rattle.std.specs.Prelude.{◌≡◌, ◌≢◌, Bool, Some}
use Rattle.alg_model.specs.Row.{Row, merged}

-- the merge of two rows, one of each kind, which are compatible
pub record IsMergeOf {V : Type 0} (same : V → V → Bool) (P Q : Row V → Type 0) (row : Row V) : Type 0 where
  pub left : Row V
  pub right : Row V
  pub is_left : P left
  pub is_right : Q right
  pub merge : merged same left right ≡ Some row

-- a row of the first kind that is compatible with none of the second
pub record IsAlone {V : Type 0} (same : V → V → Bool) (P Q : Row V → Type 0) (row : Row V) : Type 0 where
  pub is : P row
  pub no_partner : (other merge : Row V) → Q other → merged same row other ≢ Some merge
