-- Lists by the place of a triple pattern in the text, as a family of lists for triple patterns: items of any kind stand
-- for triples. The triple patterns of a text are numbered from 1.
use Rattle.std.specs.Prelude.{◌≡◌, ℕ, ◌-◌, Bool, List, map, filter, Contains}
use Rattle.alg_model.specs.declared.pattern.TriplePat.{TriplePat}
use Rattle.alg_model.specs.Eval.{Interpretation}
use Rattle.pattern_tree.specs.Consistent.{IsGreatestConsistent}
use Rattle.pattern_tree.specs.Solution.{Family}
use Rattle.pattern_tree.specs.Tree.{TreeNode}

-- the place of a triple pattern in the text, from 0
abbrev pub entry_of : TriplePat → ℕ
entry_of pattern = pattern.number - 1

-- the family that lists stand for
abbrev pub shown : {X Y : Type 0} → (ℕ → Y → X) → (ℕ → List Y) → Family X
shown triple lists pattern = map (triple (entry_of pattern)) (lists (entry_of pattern))

-- what is left of lists: they stand for the greatest consistent family, and each keeps the order of the other
pub record AreLeftOf {V X Y : Type 0} (interpretation : Interpretation V X) (tree : List TreeNode) (triple : ℕ → Y → X) (whole left : ℕ → List Y) : Type 0 where
  pub greatest : IsGreatestConsistent interpretation tree (shown triple whole) (shown triple left)
  pub in_order : (p : ℕ) → (test : Y → Bool) × (left p ≡ filter test (whole p))

-- no two items of a list stand for one triple
abbrev pub TellItems : {X Y : Type 0} → (ℕ → Y → X) → (ℕ → List Y) → Type 0
TellItems {X} {Y} triple lists = (p : ℕ) (s t : Y) → Contains (lists p) s → Contains (lists p) t → triple p s ≡ triple p t → s ≡ t
