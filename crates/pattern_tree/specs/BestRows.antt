-- Best-match, after Atre: of some rows, those that no other row extends.
use Rattle.std.specs.Prelude.{◌≢◌, ◌↔◌, List, AllPairs, Contains}
use Rattle.alg_model.specs.Row.{Row, Extends, BindsMore}

-- a row of the list extends this one, and binds more
pub record IsExtended {V : Type 0} (rows : List (Row V)) (row : Row V) : Type 0 where
  pub other : Row V
  pub listed : Contains rows other
  pub extends : Extends other row
  pub more : BindsMore other row

-- each different row once, except a row that another row extends with more variables
pub record AreBest {V : Type 0} (rows best : List (Row V)) : Type 0 where
  pub exactly : (row : Row V) → Contains best row ↔ (Contains rows row × ¬ IsExtended rows row)
  pub once : AllPairs (λ r s. r ≢ s) best
