-- Two passes over each node of a tree, from the root down. The members are the triple patterns and the variables of the
-- node; a triple pattern holds items, and a variable values.
use Rattle.std.specs.Prelude.{◌≡◌, ℕ, zero, suc, Bool, false, List, slice_index, ◌==◌}
use Rattle.std.specs.Int.{bit_at}
use Rattle.join_graph.specs.declared.steps.Step.TheVariants.{Pattern, Variable}
use Rattle.join_graph.specs.Members.{Member}
use Rattle.pruning_laws.specs.Passes.{two_passes}
use Rattle.pruning_laws.specs.Scene.{Scene, Has, Gives, StandsIn, Governs, node_of, parent_in}

-- for each triple pattern, the items that it holds
abbrev pub Holding : Type 0 → Type 1
Holding X = ℕ → X → Type 0

-- it holds some item
abbrev pub IsFilled : {X : Type 0} → Holding X → ℕ → Type 0
IsFilled {X} family p = (t : X) × family p t

-- it holds an item that gives the variable the value
abbrev pub Occurs : {V X : Type 0} → Scene V X → Holding X → ℕ → ℕ → V → Type 0
Occurs {V} {X} scene family p v x = (t : X) × family p t × Gives scene p t v x

-- what members hold
pub data Item (V X : Type 0) : Type 0 where
  Triple : X → Item V X
  Value : V → Item V X

-- an item of a triple pattern agrees with the value that it gives a variable
abbrev pub agrees : {V X : Type 0} → Scene V X → Member → Item V X → Member → Item V X → Type 0
agrees scene (Pattern p) (Triple t) (Variable v) (Value x) = Gives scene p t v x
agrees scene (Variable v) (Value x) (Pattern p) (Triple t) = Gives scene p t v x
agrees scene (Pattern p) (Triple t) (Variable v) (Triple s) = ⊥
agrees scene (Pattern p) (Value x) (Variable v) i = ⊥
agrees scene (Pattern p) i (Pattern q) j = ⊥
agrees scene (Variable v) (Value x) (Pattern p) (Value y) = ⊥
agrees scene (Variable v) (Triple t) (Pattern p) i = ⊥
agrees scene (Variable v) i (Variable w) j = ⊥

-- the members hold these items and these values
abbrev pub holding : {V X : Type 0} → Holding X → (ℕ → V → Type 0) → Member → Item V X → Type 0
holding family values (Pattern p) (Triple t) = family p t
holding family values (Pattern p) (Value x) = ⊥
holding family values (Variable v) (Value x) = values v x
holding family values (Variable v) (Triple t) = ⊥

-- the items that the triple patterns hold
abbrev pub items_of : {V X : Type 0} → (Member → Item V X → Type 0) → Holding X
items_of held p t = held (Pattern p) (Triple t)

-- the values that a variable of a node begins with: those that occur in each triple pattern of the parent that has it
abbrev pub first_values : {V X : Type 0} → Scene V X → Holding X → ℕ → ℕ → V → Type 0
first_values scene family zero v x = Unit {0}
first_values scene family (suc k) v x = (p : ℕ) → StandsIn scene p (parent_in scene (suc k)) → Has scene p v → Occurs scene family p v x

-- a node is emptied where a triple pattern of it, or of a node above, holds nothing
abbrev pub emptied : {V X : Type 0} → Scene V X → ℕ → Holding X → Holding X
emptied scene k family p t = family p t × (node_of scene p ≡ k → (q : ℕ) → Governs scene q p → IsFilled family q)

-- what the members hold after two passes over the pairs of a node
abbrev pub at_end : {V X : Type 0} → Scene V X → ℕ → List (Member × Member) → Holding X → Member → Item V X → Type 0
at_end scene k pairs family = two_passes (agrees scene) pairs (holding family (first_values scene family k))

-- what two passes over a node leave
abbrev pub node_passes : {V X : Type 0} → Scene V X → ℕ → List (Member × Member) → Holding X → Holding X
node_passes scene k pairs family = emptied scene k (items_of (at_end scene k pairs family))

-- and over the first nodes, one after the other
abbrev pub tree_passes : {V X : Type 0} → Scene V X → (ℕ → List (Member × Member)) → ℕ → Holding X → Holding X
tree_passes scene pairs zero family = family
tree_passes scene pairs (suc k) family = node_passes scene k (pairs k) (tree_passes scene pairs k family)

-- a triple pattern is near each of its variables
abbrev pub are_near : List ℕ → Member → Member → Bool
are_near sets (Pattern p) (Variable v) = bit_at (slice_index sets p) v == 1
are_near sets (Variable v) (Pattern p) = bit_at (slice_index sets p) v == 1
are_near sets (Pattern p) (Pattern q) = false
are_near sets (Variable v) (Variable w) = false
