-- How a tree grows, one part of the pattern after another. It carries proofs, and nothing public rests on it.
use Rattle.std.specs.Prelude.{ℕ, zero, suc, List, [], ◌∷◌, ◌++◌, length, Option, Some}
use Rattle.alg_model.specs.declared.pattern.TriplePat.{TriplePat}
use Rattle.alg_model.specs.Pattern.{Algebra, Bgp, Join, LeftJoin}
use Rattle.pattern_tree.specs.Tree.{TreeNode}

-- a node with some triple patterns more
abbrev pub extended : TreeNode → List TriplePat → TreeNode
extended node patterns = record { parent = node.parent; patterns = node.patterns ++ patterns }

-- the nodes with some triple patterns more at one of them
abbrev pub put : List TreeNode → ℕ → List TriplePat → List TreeNode
put [] k patterns = []
put (node ∷ nodes) zero patterns = extended node patterns ∷ nodes
put (node ∷ nodes) (suc k) patterns = node ∷ put nodes k patterns

-- a node without triple patterns
abbrev pub fresh : Option ℕ → TreeNode
fresh parent = record { parent = parent; patterns = [] }

-- the nodes with those of a part, whose root is one of them
abbrev pub grown : List TreeNode → ℕ → Algebra → List TreeNode
grown nodes root (Bgp patterns) = put nodes root patterns
grown nodes root (Join left right) = grown (grown nodes root left) root right
grown nodes root (LeftJoin left right) =
    let before = grown nodes root left in
    grown (before ++ fresh (Some root) ∷ []) (length before) right
