-- Rows, which SPARQL calls solution mappings: compatible rows, and their merge. SPARQL 1.1 Query, section 18.3.
-- A row is a list with one cell for each variable, in order of number: the variable's value, or nothing.
-- When two values are the same is told by a test, so that a value may be a text or a number.
use Rattle.std.specs.Prelude.{◌≡◌, ℕ, Bool, true, not, if◌then◌else◌, List, ◌++◌, map, filter, replicate, Option, Some, None, IsSome, slice_set, slice_index_or}
use Rattle.std.specs.List.{list_all, list_any, zip, flat_map, filter_map}

abbrev pub Row : Type 0 → Type 0
Row V = List (Option V)

-- what a row binds a variable to (section 18.1.8)
abbrev pub binding : {V : Type 0} → Row V → ℕ → Option V
binding row var = slice_index_or row var None

-- the row of n cells that binds nothing
abbrev pub unbound : (V : Type 0) → ℕ → Row V
unbound V n = replicate n None

-- the row of n cells that binds one variable
abbrev pub single : {V : Type 0} → ℕ → ℕ → V → Row V
single {V} n var value = slice_set (unbound V n) var (Some value)

-- two cells that are both bound are bound to the same value
abbrev pub cells_agree : {V : Type 0} → (V → V → Bool) → Option V → Option V → Bool
cells_agree same (Some v) (Some w) = same v w
cells_agree same (Some v) None = true
cells_agree same None cell = true

-- rows that agree on each variable that both bind
abbrev pub are_compatible : {V : Type 0} → (V → V → Bool) → Row V → Row V → Bool
are_compatible same r s = list_all (λ cells. cells_agree same cells.0 cells.1) (zip r s)

-- the first that is bound
abbrev pub merge_cells : {V : Type 0} → Option V → Option V → Option V
merge_cells (Some v) cell = Some v
merge_cells None cell = cell

-- what either row binds
abbrev pub merge : {V : Type 0} → Row V → Row V → Row V
merge r s = map (λ cells. merge_cells cells.0 cells.1) (zip r s)

-- the merge of two rows, where they are compatible
abbrev pub merged : {V : Type 0} → (V → V → Bool) → Row V → Row V → Option (Row V)
merged same r s = if are_compatible same r s then Some (merge r s) else None

-- two rows as one, where both are there and compatible
abbrev pub both_rows : {V : Type 0} → (V → V → Bool) → Option (Row V) → Option (Row V) → Option (Row V)
both_rows same (Some r) (Some s) = merged same r s
both_rows same (Some r) None = None
both_rows same None s = None

-- Join: the merges of compatible rows, one of each side
abbrev pub join : {V : Type 0} → (V → V → Bool) → List (Row V) → List (Row V) → List (Row V)
join same left right = flat_map (λ r. filter_map (merged same r) right) left

-- the rows of the left side that are compatible with no row of the right side
abbrev pub without_partner : {V : Type 0} → (V → V → Bool) → List (Row V) → List (Row V) → List (Row V)
without_partner same left right = filter (λ r. not (list_any (are_compatible same r) right)) left

-- LeftJoin: the Join, and the rows of the left side that have no partner
abbrev pub left_join : {V : Type 0} → (V → V → Bool) → List (Row V) → List (Row V) → List (Row V)
left_join same left right = join same left right ++ without_partner same left right

-- a row binds all that another binds, with the same values. It is no word of SPARQL's, but that of pattern trees:
-- Pérez, Arenas and Gutierrez
abbrev pub Extends : {V : Type 0} → Row V → Row V → Type 0
Extends {V} row other = (var : ℕ) (value : V) → binding other var ≡ Some value → binding row var ≡ Some value

-- it binds a variable that the other does not bind
abbrev pub BindsMore : {V : Type 0} → Row V → Row V → Type 0
BindsMore row other = (var : ℕ) × IsSome (binding row var) × (binding other var ≡ None)
