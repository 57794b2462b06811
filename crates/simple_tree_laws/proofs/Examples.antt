-- A worked example, by computation: a tree of three nodes as the test for simple trees takes it.
use Rattle.std.proofs.Common.{◌≡◌, ℕ, List, [], ◌∷◌, Option, Some, None, codes, refl}
use Rattle.alg_model.specs.declared.pattern.Place.TheVariants as places
use Rattle.alg_model.specs.declared.pattern.TriplePat.{TriplePat}
use Rattle.pattern_tree.specs.Tree.{TreeNode}
use Rattle.simple_tree_laws.specs.TreeSets.{parents_of, ends_of, sets_in}

abbrev triple : ℕ → ℕ → ℕ → TriplePat
triple v w number = record { subject = places.Var (record { 0 = v }); predicate = places.Term (codes "<p>"); object = places.Var (record { 0 = w }); number = number }

abbrev node : Option ℕ → List TriplePat → TreeNode
node parent patterns = record { parent = parent; patterns = patterns }

-- a root of two triple patterns, a child of one, and a child of that child
abbrev tree : List TreeNode
tree = node None (triple 0 1 1 ∷ triple 1 2 2 ∷ []) ∷ node (Some 0) (triple 2 3 3 ∷ []) ∷ node (Some 1) (triple 3 4 4 ∷ []) ∷ []

parents_are : parents_of tree ≡ 0 ∷ 0 ∷ 1 ∷ []
parents_are = refl

ends_are : ends_of tree ≡ 2 ∷ 3 ∷ 4 ∷ []
ends_are = refl

sets_are : sets_in tree ≡ 3 ∷ 6 ∷ 12 ∷ 24 ∷ []
sets_are = refl
