-- The flat rows of a tree over the relations that are prepared for it, as rows of values.
use Rattle.std.specs.Prelude.{◌≡◌, ℕ, Bool, List, length, Contains, IsTrue}
use Rattle.alg_model.specs.declared.pattern.Place.TheVariants as places
use Rattle.alg_model.specs.declared.pattern.TriplePat.{TriplePat}
use Rattle.pattern_tree.specs.FlatTable.{FlatTable}
use Rattle.pattern_tree.specs.Standing.{StandsAt}
use Rattle.pattern_tree.specs.Tree.{TreeNode}
use Rattle.pruning_laws.specs.Shown.{entry_of, shown}
use Rattle.tree_relations.specs.declared.prepared.PlaceKind.{PlaceKind}
use Rattle.tree_relations.specs.declared.prepared.Prepared.{Prepared}
use Rattle.tree_relations.specs.Fits.{place_at}
use Rattle.tree_relations.specs.Readings.{NumberTriple, part_at, as_numbers, lists_left, IsReading}
use Rattle.multiway_join.specs.FlatRows.{flat_rows_of}
use Rattle.multiway_join.specs.JoinOrder.{IsJoinOrder}

-- how many pairs are left of a triple pattern
abbrev pub count_left : Prepared → TriplePat → ℕ
count_left prepared pattern = length (lists_left prepared (entry_of pattern))

-- where a triple pattern of the tree has a term, the triples of its pairs have values that stand for it
abbrev pub HaveTerms : (ℕ → List ℕ → Bool) → (ℕ → ℕ × ℕ → NumberTriple) → Prepared → List TreeNode → Type 0
HaveTerms stands_for triple prepared tree = (k : ℕ) (pattern : TriplePat) (kind : PlaceKind) (text : List ℕ) (pair : ℕ × ℕ) → StandsAt tree k pattern →
    place_at kind pattern ≡ places.Term text → Contains (lists_left prepared (entry_of pattern)) pair → IsTrue (stands_for (part_at kind (triple (entry_of pattern) pair)) text)

-- The rows are the flat rows of the tree in its join order. So they are whatever triples the pairs left stand for, since
-- these triples have the values of the pairs at variables, and at terms values that stand for them.
pub record AreFlatRows (prepared : Prepared) (tree : List TreeNode) (n : ℕ) (table : FlatTable) : Type 0 where
  pub vars : table.vars ≡ n
  pub ordered : List TreeNode
  pub in_order : IsJoinOrder (count_left prepared) tree ordered
  pub rows : (stands_for : ℕ → List ℕ → Bool) (triple : ℕ → ℕ × ℕ → NumberTriple) → IsReading prepared triple → HaveTerms stands_for triple prepared tree →
      table.rows ≡ flat_rows_of (as_numbers stands_for) n (shown triple (lists_left prepared)) ordered
