-- A tree of patterns as passes see it: triple patterns and nodes by number, and items of any kind in place of triples.
use Rattle.std.specs.Prelude.{◌≡◌, ◌⊎◌, ◌<◌, ℕ, List, [], ◌∷◌, length, slice_index, slice_index_or}

-- a variable of a triple pattern, and the value that it has in an item
pub record Column (V X : Type 0) : Type 0 where
  pub variable : ℕ
  pub value : X → V

-- the columns of each triple pattern, the node of each, and the parent of each node; that of node 0 is not read
pub record Scene (V X : Type 0) : Type 0 where
  pub patterns : List (List (Column V X))
  pub nodes : List ℕ
  pub parents : List ℕ

abbrev pub columns_at : {V X : Type 0} → Scene V X → ℕ → List (Column V X)
columns_at scene p = slice_index_or scene.patterns p []

abbrev pub node_of : {V X : Type 0} → Scene V X → ℕ → ℕ
node_of scene p = slice_index scene.nodes p

abbrev pub parent_in : {V X : Type 0} → Scene V X → ℕ → ℕ
parent_in scene k = slice_index scene.parents k

-- some of the columns is of the variable
abbrev pub ColumnsHave : {V X : Type 0} → List (Column V X) → ℕ → Type 0
ColumnsHave [] v = ⊥
ColumnsHave (column ∷ columns) v = (column.variable ≡ v) ⊎ ColumnsHave columns v

-- and gives it this value in the item
abbrev pub ColumnsGive : {V X : Type 0} → List (Column V X) → X → ℕ → V → Type 0
ColumnsGive [] t v x = ⊥
ColumnsGive (column ∷ columns) t v x = ((column.variable ≡ v) × (column.value t ≡ x)) ⊎ ColumnsGive columns t v x

-- the triple pattern has the variable
unfoldable pub Has : {V X : Type 0} → Scene V X → ℕ → ℕ → Type 0
Has scene p v = ColumnsHave (columns_at scene p) v

-- in the item it gives the variable this value
unfoldable pub Gives : {V X : Type 0} → Scene V X → ℕ → X → ℕ → V → Type 0
Gives scene p t v x = ColumnsGive (columns_at scene p) t v x

-- the node is the other, or stands above it
pub data IsAtOrAbove (parents : List ℕ) (m : ℕ) : ℕ → Type 0 where
  here : IsAtOrAbove parents m m
  above : {k : ℕ} → 0 < k → IsAtOrAbove parents m (slice_index parents k) → IsAtOrAbove parents m k

-- the triple pattern is there, and stands in the node
abbrev pub StandsIn : {V X : Type 0} → Scene V X → ℕ → ℕ → Type 0
StandsIn scene p k = (p < length scene.patterns) × (node_of scene p ≡ k)

-- it is there, and stands in the node of the other or above
pub record Governs {V X : Type 0} (scene : Scene V X) (p q : ℕ) : Type 0 where
  pub exists : p < length scene.patterns
  pub above : IsAtOrAbove scene.parents (node_of scene p) (node_of scene q)
