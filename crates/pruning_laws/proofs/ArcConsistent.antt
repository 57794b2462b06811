-- Arc consistency of a scene, and what is asked of scenes and of what their triple patterns hold.
use Rattle.std.proofs.Common.{◌≡◌, inl, inr, ℕ, ◌<◌, ◌≤◌, List, [], ◌∷◌, length, Contains, refl, sym, subst, arith}
use Rattle.pruning_laws.specs.Scene.{Column, Scene, columns_at, node_of, parent_in, ColumnsHave, ColumnsGive, Has, Gives, IsAtOrAbove, here, above, StandsIn, Governs}
use Rattle.pruning_laws.specs.TreePasses.{Holding, IsFilled, Occurs}

-- what lists hold
abbrev pub listed : {X : Type 0} → (ℕ → List X) → Holding X
listed lists p t = Contains (lists p) t

-- each item of the one is held by the other
abbrev pub LiesWithin : {X : Type 0} → Holding X → Holding X → Type 0
LiesWithin {X} less more = (p : ℕ) (t : X) → less p t → more p t

-- a value that occurs in a triple pattern occurs in each of its node, or of a node above, that has the variable; and
-- where a triple pattern holds an item, so do those
pub record IsArcConsistent {V X : Type 0} (scene : Scene V X) (family : Holding X) : Type 0 where
  pub values : (p q v : ℕ) (x : V) → Governs scene p q → Has scene p v → Occurs scene family q v x → Occurs scene family p v x
  pub filled : (p q : ℕ) → Governs scene p q → IsFilled family q → IsFilled family p

-- it is arc consistent, within the whole, and has each arc-consistent list within the whole
pub record IsGreatest {V X : Type 0} (scene : Scene V X) (all family : Holding X) : Type 0 where
  pub consistent : IsArcConsistent scene family
  pub within : LiesWithin family all
  pub largest : (each : ℕ → List X) → IsArcConsistent scene (listed each) → LiesWithin (listed each) all → LiesWithin (listed each) family

-- one node is consistent with itself, with its parent, and with whether those above it hold something
pub record IsSettled {V X : Type 0} (scene : Scene V X) (family : Holding X) (k : ℕ) : Type 0 where
  pub beside : (p q v : ℕ) (x : V) → StandsIn scene p k → StandsIn scene q k → Has scene p v → Occurs scene family q v x → Occurs scene family p v x
  pub under : (p q v : ℕ) (x : V) → 0 < k → StandsIn scene p (parent_in scene k) → StandsIn scene q k → Has scene p v → Has scene q v → Occurs scene family q v x → Occurs scene family p v x
  pub filled : (p q : ℕ) → StandsIn scene q k → Governs scene p q → IsFilled family q → IsFilled family p

-- an item that is held gives a variable one value
abbrev pub GivesOne : {V X : Type 0} → Scene V X → Holding X → Type 0
GivesOne {V} {X} scene family = (p : ℕ) (t : X) (v : ℕ) (x y : V) → family p t → Gives scene p t v x → Gives scene p t v y → x ≡ y

-- what holds an item is a triple pattern of the scene
abbrev pub Fits : {V X : Type 0} → Scene V X → Holding X → Type 0
Fits {V} {X} scene family = (p : ℕ) (t : X) → family p t → p < length scene.patterns

-- some triple pattern of the node has the variable
abbrev pub HasHere : {V X : Type 0} → Scene V X → ℕ → ℕ → Type 0
HasHere scene k v = (r : ℕ) × StandsIn scene r k × Has scene r v

-- parents come first, each triple pattern stands in a node, and a variable of a node that stands in a node above its
-- parent stands in the parent
pub record IsTree {V X : Type 0} (scene : Scene V X) : Type 0 where
  pub parents_first : (k : ℕ) → 0 < k → parent_in scene k < k
  pub placed : (p : ℕ) → p < length scene.patterns → node_of scene p < length scene.parents
  pub come_down : (p q v : ℕ) → p < length scene.patterns → q < length scene.patterns → 0 < node_of scene q →
      IsAtOrAbove scene.parents (node_of scene p) (parent_in scene (node_of scene q)) → Has scene p v → Has scene q v → HasHere scene (parent_in scene (node_of scene q)) v

module _ {V X : Type 0} where
  columns_give : (columns : List (Column V X)) (v : ℕ) → ColumnsHave columns v → (t : X) → (x : V) × ColumnsGive columns t v x
  columns_give [] v has t = absurd has
  columns_give (column ∷ columns) v (inl is) t = (column.value t, inl (is, refl))
  columns_give (column ∷ columns) v (inr later) t = let some = columns_give columns v later t in (some.0, inr some.1)

  columns_have : (columns : List (Column V X)) (t : X) (v : ℕ) (x : V) → ColumnsGive columns t v x → ColumnsHave columns v
  columns_have [] t v x gives = absurd gives
  columns_have (column ∷ columns) t v x (inl is) = inl is.0
  columns_have (column ∷ columns) t v x (inr later) = inr (columns_have columns t v x later)

module _ {V X : Type 0} (scene : Scene V X) where
  -- a triple pattern that has a variable gives it a value in each item
  pub gives_some : (p v : ℕ) → Has scene p v → (t : X) → (x : V) × Gives scene p t v x
  unfolding Has Gives
  gives_some p v has t = columns_give (columns_at scene p) v has t

  -- and what it gives a value it has
  pub has_given : (p : ℕ) (t : X) (v : ℕ) (x : V) → Gives scene p t v x → Has scene p v
  unfolding Has Gives
  has_given p t v x gives = columns_have (columns_at scene p) t v x gives

  -- a triple pattern of a node governs those of nodes below
  pub governs_from : (p q m k : ℕ) → StandsIn scene p m → node_of scene q ≡ k → IsAtOrAbove scene.parents m k → Governs scene p q
  governs_from p q m k stands is way = record {
    exists = stands.0;
    above = subst (λ m. IsAtOrAbove scene.parents m (node_of scene q)) (sym stands.1) (subst (λ k. IsAtOrAbove scene.parents m k) (sym is) way);
  }

  -- two of one node are governed by the same
  pub governs_same : (r p q : ℕ) → node_of scene p ≡ node_of scene q → Governs scene r p → Governs scene r q
  governs_same r p q same governs = record { exists = governs.exists; above = subst (λ k. IsAtOrAbove scene.parents (node_of scene r) k) same governs.above }

  -- what is above has no greater number
  pub above_low : ((k : ℕ) → 0 < k → parent_in scene k < k) → (m k : ℕ) → IsAtOrAbove scene.parents m k → m ≤ k
  above_low first m k here = omega arith
  above_low first m k (above positive way) = let low = above_low first m (parent_in scene k) way in omega (arith, low, first k positive)
