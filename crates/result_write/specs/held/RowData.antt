-- Carries proofs only: the object of a row, as data that are sent to the writer of JSON.
use Rattle.std.specs.Prelude.{◌≡◌, ℕ, List, [], ◌∷◌, Option, None, Some, slice_index_or}
use Rattle.serde.specs.Event.{Log, Logs, field_key}
use Rattle.serde.specs.declared.name.Case.TheVariants.{AsIs}
use Rattle.serde_json.specs.Data.{Data, object, Members, no_members, member}
use Rattle.serde_json.specs.Events.{SendsValue}
use Rattle.alg_model.specs.Row.{Row}
use Rattle.result_write.specs.held.Written.{cell_data}

-- a member in front of others, where the cell is bound
abbrev pub with_bound : List ℕ → Option (List ℕ) → Members → Members
with_bound name None members = members
with_bound name (Some text) members = member name (cell_data text) members

abbrev pub bound_data : Row (List ℕ) → List (List ℕ × ℕ) → Members
bound_data row [] = no_members
bound_data row (column ∷ columns) = with_bound column.0 (slice_index_or row column.1 None) (bound_data row columns)

unfoldable pub row_data : Row (List ℕ) → List (List ℕ × ℕ) → Data
row_data row columns = object (bound_data row columns)

-- a member is sent
pub record SendsMember (name : List ℕ) (value : Data) (old new : Log) : Type 0 where
  pub named : Log
  pub key : Logs old named (field_key name AsIs)
  pub sent : SendsValue value named new

-- so where the cell is bound, and nothing else
abbrev pub SendsBound : List ℕ → Option (List ℕ) → Log → Log → Type 0
SendsBound name None old new = new ≡ old
SendsBound name (Some text) old new = SendsMember name (cell_data text) old new
