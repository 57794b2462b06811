-- When a scene shows a tree of patterns: its triple patterns are those of the tree, by their place in the text, and its
-- items stand for triples.
use Rattle.std.proofs.Common.{◌≡◌, ◌↔◌, ℕ, ◌<◌, List, length, Some, Contains}
use Rattle.std.specs.Prelude.{slice_get, slice_index}
use Rattle.alg_model.specs.declared.pattern.TriplePat.{TriplePat}
use Rattle.alg_model.specs.Eval.{Interpretation}
use Rattle.alg_model.specs.Pattern.{triple_vars}
use Rattle.pattern_tree.specs.Consistent.{TakesValue}
use Rattle.pattern_tree.specs.Standing.{StandsAt}
use Rattle.pattern_tree.specs.Tree.{TreeNode}
use Rattle.pruning_laws.specs.Scene.{Scene, Has, Gives, StandsIn}
use Rattle.pruning_laws.specs.Shown.{entry_of}

pub record Shows {V X Y : Type 0} (interpretation : Interpretation V X) (tree : List TreeNode) (scene : Scene V Y) (triple : ℕ → Y → X) : Type 0 where
  pub pattern_at : ℕ → TriplePat
  pub stands : (p k : ℕ) → StandsIn scene p k → StandsAt tree k (pattern_at p)
  pub entry_at : (p k : ℕ) → StandsIn scene p k → entry_of (pattern_at p) ≡ p
  pub found : (k : ℕ) (pattern : TriplePat) → StandsAt tree k pattern → StandsIn scene (entry_of pattern) k
  pub at_entry : (k : ℕ) (pattern : TriplePat) → StandsAt tree k pattern → pattern_at (entry_of pattern) ≡ pattern
  pub nodes : length scene.parents ≡ length tree
  pub first : (k : ℕ) → 0 < k → slice_index scene.parents k < k
  pub parent : (k parent : ℕ) (node : TreeNode) → slice_get tree k ≡ Some node → node.parent ≡ Some parent → (0 < k) × (slice_index scene.parents k ≡ parent)
  pub hangs : (k : ℕ) (node : TreeNode) → 0 < k → slice_get tree k ≡ Some node → node.parent ≡ Some (slice_index scene.parents k)
  pub has : (p v : ℕ) → p < length scene.patterns → Has scene p v ↔ Contains (triple_vars (pattern_at p)) v
  pub gives : (p : ℕ) (t : Y) (v : ℕ) (x : V) → p < length scene.patterns → Gives scene p t v x ↔ TakesValue interpretation (pattern_at p) (triple p t) v x
