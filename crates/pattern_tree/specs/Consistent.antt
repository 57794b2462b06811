-- Consistent families, of which pruning leaves the greatest: where a triple is listed, each value that it gives a
-- variable is found in all lists of its node and of the nodes above that have the variable. It is the notion of arc
-- consistency, with the emptiness of lists handed down the tree.
use Rattle.std.specs.Prelude.{◌≡◌, ◌⊎◌, ℕ, Bool, List, [], filter, Contains}
use Rattle.alg_model.specs.declared.pattern.TriplePat.{TriplePat}
use Rattle.alg_model.specs.Pattern.{IsVar, triple_vars}
use Rattle.alg_model.specs.Eval.{Interpretation}
use Rattle.pattern_tree.specs.Tree.{TreeNode}
use Rattle.pattern_tree.specs.Solution.{Family}
use Rattle.pattern_tree.specs.Standing.{StandsAt, IsWithin}

-- the triple pattern has the variable at a place where the triple has the value
abbrev pub TakesValue : {V X : Type 0} → Interpretation V X → TriplePat → X → ℕ → V → Type 0
TakesValue interpretation pattern triple var value =
    (IsVar pattern.subject var × (value ≡ interpretation.subject triple))
    ⊎ ((IsVar pattern.predicate var × (value ≡ interpretation.predicate triple))
    ⊎ (IsVar pattern.object var × (value ≡ interpretation.object triple)))

-- A value that a variable takes in the list of a triple pattern is taken in the list of each triple pattern of the same
-- node, or of a node above, that has the variable. Where a list is empty, so are all lists of its node and of the nodes
-- below.
pub record IsConsistent {V X : Type 0} (interpretation : Interpretation V X) (tree : List TreeNode) (family : Family X) : Type 0 where
  pub values : (k above : ℕ) (pattern other : TriplePat) (triple : X) (var : ℕ) (value : V) →
      StandsAt tree k pattern → StandsAt tree above other → IsWithin tree above k →
      Contains (family pattern) triple → TakesValue interpretation pattern triple var value → Contains (triple_vars other) var →
      (found : X) × Contains (family other) found × TakesValue interpretation other found var value
  pub emptied : (k above : ℕ) (pattern other : TriplePat) → StandsAt tree k pattern → StandsAt tree above other → IsWithin tree above k →
      family other ≡ [] → family pattern ≡ []

-- each triple that the family lists for a triple pattern of the tree is listed by the other
abbrev pub IsPartOf : {X : Type 0} → List TreeNode → Family X → Family X → Type 0
IsPartOf {X} tree family whole =
    (k : ℕ) (pattern : TriplePat) (triple : X) → StandsAt tree k pattern → Contains (family pattern) triple → Contains (whole pattern) triple

-- it is consistent, part of the whole, and has each consistent family that is part of the whole
pub record IsGreatestConsistent {V X : Type 0} (interpretation : Interpretation V X) (tree : List TreeNode) (whole family : Family X) : Type 0 where
  pub within : IsPartOf tree family whole
  pub consistent : IsConsistent interpretation tree family
  pub greatest : (other : Family X) → IsPartOf tree other whole → IsConsistent interpretation tree other → IsPartOf tree other family

-- what is left of the lists of a family, each in the order that the other has
pub record IsLeftOf {V X : Type 0} (interpretation : Interpretation V X) (tree : List TreeNode) (whole left : Family X) : Type 0 where
  pub greatest : IsGreatestConsistent interpretation tree whole left
  pub in_order : (k : ℕ) (pattern : TriplePat) → StandsAt tree k pattern → (test : X → Bool) × (left pattern ≡ filter test (whole pattern))
