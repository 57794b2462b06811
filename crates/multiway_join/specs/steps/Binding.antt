-- Carries proofs only: what a pair binds in a row of cells. A cell is 0 where its variable is unbound, and else v + 1 for
-- the value v.
use Rattle.std.specs.Prelude.{ℕ, ◌+◌, ◌<◌, ◌==◌, if◌then◌else◌, List, [], Contains, Option, Some, None, slice_get, slice_index, slice_set}
use Rattle.std.specs.List.{filter_map}
use Rattle.alg_model.specs.declared.pattern.TriplePat.{TriplePat}
use Rattle.alg_model.specs.Pattern.{triple_vars}
use Rattle.pattern_rel.specs.Folds.{IsUsable}
use Rattle.pattern_rel.specs.Left.{pairs_left}
use Rattle.pruning_laws.specs.Shown.{entry_of}
use Rattle.tree_relations.specs.declared.prepared.Entry.{Entry}
use Rattle.tree_relations.specs.declared.prepared.Prepared.{Prepared}
use Rattle.tree_relations.specs.declared.prepared.SidePlace.{SidePlace}
use Rattle.tree_relations.specs.Fits.{IsEntryAt}
use Rattle.tree_relations.specs.Prepared.{count_of}
use Rattle.tree_relations.specs.Readings.{value_of, lists_left}

-- the cell is put where none is, stays where it is, and can't be put where another is
abbrev pub put_cell : ℕ → ℕ → List ℕ → Option (List ℕ)
put_cell var cell row =
    if slice_index row var == 0 then Some (slice_set row var cell)
    else if slice_index row var == cell then Some row
    else None

-- the row with what the number at a side gives its variable, if it agrees with what is bound
abbrev pub bind_side : Prepared → Option SidePlace → ℕ → List ℕ → Option (List ℕ)
bind_side prepared None n row = Some row
bind_side prepared (Some place) n row = put_cell place.var.0 (value_of prepared place.kind n + 1) row

abbrev pub bind_next : Prepared → Option SidePlace → ℕ → Option (List ℕ) → Option (List ℕ)
bind_next prepared side n None = None
bind_next prepared side n (Some row) = bind_side prepared side n row

-- the row with what both numbers of a pair give
abbrev pub bind_pair : Prepared → Entry → List ℕ → ℕ × ℕ → Option (List ℕ)
bind_pair prepared e row pair = bind_next prepared e.second pair.1 (bind_side prepared e.first pair.0 row)

-- the rows by which the pairs left of a triple pattern continue a row
abbrev pub continued_by : Prepared → Option Entry → List (ℕ × ℕ) → List ℕ → List (List ℕ)
continued_by prepared None pairs row = []
continued_by prepared (Some e) pairs row = filter_map (bind_pair prepared e row) pairs

abbrev pub continued_row : Prepared → TriplePat → List ℕ → List (List ℕ)
continued_row prepared pattern row = continued_by prepared (slice_get prepared.entries (entry_of pattern)) (lists_left prepared (entry_of pattern)) row

-- the variable of a side has a cell
abbrev pub HasCell : ℕ → Option SidePlace → Type 0
HasCell width None = Unit {0}
HasCell width (Some place) = place.var.0 < width

-- the number at a side is one of its place
abbrev pub HasNumber : Prepared → Option SidePlace → ℕ → Type 0
HasNumber prepared None n = Unit {0}
HasNumber prepared (Some place) n = n < count_of prepared place.kind

-- the cell at a side of a row, and the row with another cell there
abbrev pub cell_at : Option SidePlace → List ℕ → ℕ
cell_at None row = 0
cell_at (Some place) row = slice_index row place.var.0

abbrev pub with_cell : Option SidePlace → ℕ → List ℕ → List ℕ
with_cell None cell row = row
with_cell (Some place) cell row = slice_set row place.var.0 cell

-- a triple pattern can be joined: its entry is there, and its variables have cells
pub record CanJoin (prepared : Prepared) (width : ℕ) (pattern : TriplePat) : Type 0 where
  pub entry : Entry
  pub at : IsEntryAt prepared pattern entry
  pub below : (var : ℕ) → Contains (triple_vars pattern) var → var < width

-- a relation can be walked for rows of so many cells
pub record IsReady (prepared : Prepared) (width : ℕ) (e : Entry) : Type 0 where
  pub firsts : IsUsable prepared.pool e.rel.first
  pub seconds : IsUsable prepared.pool e.rel.second
  pub first_cell : HasCell width e.first
  pub second_cell : HasCell width e.second
  pub numbers : (pair : ℕ × ℕ) → Contains (pairs_left prepared.pool e.rel) pair → HasNumber prepared e.first pair.0 × HasNumber prepared e.second pair.1
