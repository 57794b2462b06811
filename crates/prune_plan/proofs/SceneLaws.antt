-- Passes over a scene look at its own triple patterns alone, so they leave the same of families that are the same there.
use Rattle.std.proofs.Common.{◌↔◌, ℕ, zero, suc, ◌<◌, List, length}
use Rattle.join_graph.specs.declared.steps.Step.TheVariants.{Pattern, Variable}
use Rattle.join_graph.specs.Members.{Member}
use Rattle.pruning_laws.specs.Scene.{Scene}
use Rattle.pruning_laws.specs.TreePasses.{Holding, Item, Triple, Value, agrees, holding, first_values, at_end, node_passes}
use Rattle.pruning_laws.proofs.PassLaws.{OfEach}
use Rattle.prune_plan.proofs.PassesSame.{two_passes-same}

module _ {V X : Type 0} (scene : Scene V X) where
  -- the families are the same at the triple patterns of the scene
  abbrev pub AreSameIn : Holding X → Holding X → Type 0
  AreSameIn family other = (i : ℕ) (t : X) → i < length scene.patterns → family i t ↔ other i t

  -- a triple pattern of the scene, or a variable
  abbrev pub IsLow : Member → Type 0
  IsLow (Pattern i) = i < length scene.patterns
  IsLow (Variable v) = Unit {0}

  first_to : (family other : Holding X) → AreSameIn family other → (k v : ℕ) (x : V) → first_values scene family k v x → first_values scene other k v x
  first_to family other same zero v x h = tt
  first_to family other same (suc k) v x h = λ p stands has. let o = h p stands has in (o.0, (same p o.0 stands.0).0 o.1, o.2)

  turned : (family other : Holding X) → AreSameIn family other → AreSameIn other family
  turned family other same i t low = ((same i t low).1, (same i t low).0)

  module _ (k : ℕ) (pairs : List (Member × Member)) (low : OfEach (λ m n. IsLow m × IsLow n) pairs) (family other : Holding X) (same : AreSameIn family other) where
    begin : (m : Member) (i : Item V X) → IsLow m → holding family (first_values scene family k) m i ↔ holding other (first_values scene other k) m i
    begin (Pattern p) (Triple t) here = same p t here
    begin (Pattern p) (Value x) here = (λ h. h, λ h. h)
    begin (Variable v) (Triple t) here = (λ h. h, λ h. h)
    begin (Variable v) (Value x) here = (λ h. first_to family other same k v x h, λ h. first_to other family (turned family other same) k v x h)

    ends_same : (i : ℕ) (t : X) → i < length scene.patterns → at_end scene k pairs family (Pattern i) (Triple t) ↔ at_end scene k pairs other (Pattern i) (Triple t)
    ends_same i t here =
        two_passes-same (agrees scene) (agrees scene) IsLow (λ m i. Unit {0}) (λ m n i j a b c d. (λ h. h, λ h. h)) pairs low
        (holding family (first_values scene family k)) (holding other (first_values scene other k)) (λ m i a h. tt) begin (Pattern i) (Triple t) here

    pub node_same : AreSameIn (node_passes scene k pairs family) (node_passes scene k pairs other)
    node_same i t here = (
      λ h. ((ends_same i t here).0 h.0, λ is q governs. (let f = h.1 is q governs in (f.0, (ends_same q f.0 governs.exists).0 f.1))),
      λ h. ((ends_same i t here).1 h.0, λ is q governs. (let f = h.1 is q governs in (f.0, (ends_same q f.0 governs.exists).1 f.1))),
    )
