-- What is settled node by node is arc consistent, since the variables of a node that stand above it stand in its parent.
use Rattle.std.proofs.Common.{◌≡◌, ◌↔◌, ℕ, ◌<◌, ◌≤◌, length, refl, sym, subst, arith}
use Rattle.pruning_laws.specs.Scene.{Scene, node_of, parent_in, Has, IsAtOrAbove, here, above, StandsIn}
use Rattle.pruning_laws.specs.TreePasses.{Holding, Occurs}
use Rattle.pruning_laws.proofs.ArcConsistent.{IsArcConsistent, IsSettled, Fits, IsTree, has_given, above_low}

module _ {V X : Type 0} (scene : Scene V X) where
  module _ (family : Holding X) (tree : IsTree scene) (fits : Fits scene family) (settled : (k : ℕ) → k < length scene.parents → IsSettled scene family k) where
    -- by the way up from a node, one parent after the other
    rises : (p v : ℕ) (x : V) (k : ℕ) → p < length scene.patterns → Has scene p v → IsAtOrAbove scene.parents (node_of scene p) k →
        (q : ℕ) → StandsIn scene q k → Occurs scene family q v x → Occurs scene family p v x
    rises p v x k exists has here q stands occurs =
        (settled (node_of scene p) (tree.placed p exists)).beside p q v x (exists, refl) stands has occurs
    rises p v x k exists has (above positive way) q stands occurs =
        let has_q = has_given scene q occurs.0 v x occurs.2 in
        let up = tree.come_down p q v exists stands.0 (subst (λ k. 0 < k) (sym stands.1) positive)
        (subst (λ k. IsAtOrAbove scene.parents (node_of scene p) (parent_in scene k)) (sym stands.1) way) has has_q in
        let up_stands : StandsIn scene up.0 (parent_in scene k) = subst (λ k. StandsIn scene up.0 (parent_in scene k)) stands.1 up.1 in
        let small = subst (λ k. k < length scene.parents) stands.1 (tree.placed q stands.0) in
        let there = (settled k small).under up.0 q v x positive up_stands stands up.2 has_q occurs in
        rises p v x (parent_in scene k) exists has way up.0 up_stands there

    pub consistent_from_settled : IsArcConsistent scene family
    consistent_from_settled = record {
      values = λ p q v x governs has occurs. rises p v x (node_of scene q) governs.exists has governs.above q (fits q occurs.0 occurs.1, refl) occurs;
      filled = λ p q governs f. (settled (node_of scene q) (tree.placed q (fits q f.0 f.1))).filled p q (fits q f.0 f.1, refl) governs f;
    }

  -- a node stays settled where the triple patterns up to it hold the same
  pub settled_same : (tree : IsTree scene) (family other : Holding X) (k : ℕ) → ((p : ℕ) (t : X) → node_of scene p ≤ k → family p t ↔ other p t) → IsSettled scene family k → IsSettled scene other k
  settled_same tree family other k same settled = record {
    beside = λ p q v x in_p in_q has occurs. to v x p (at_most p in_p.1) (settled.beside p q v x in_p in_q has (from v x q (at_most q in_q.1) occurs));
    under = λ p q v x positive in_p in_q has has' occurs.
        to v x p (let low = tree.parents_first k positive in omega (arith, low, in_p.1)) (settled.under p q v x positive in_p in_q has has' (from v x q (at_most q in_q.1) occurs));
    filled = λ p q in_q governs f.
        let low : node_of scene p ≤ k = subst (λ k. node_of scene p ≤ k) in_q.1 (above_low scene tree.parents_first (node_of scene p) (node_of scene q) governs.above) in
        let found = settled.filled p q in_q governs (f.0, (same q f.0 (at_most q in_q.1)).1 f.1) in
        (found.0, (same p found.0 low).0 found.1);
  } where
    at_most : (p : ℕ) → node_of scene p ≡ k → node_of scene p ≤ k
    at_most p is = omega (arith, is)

    to : (v : ℕ) (x : V) (p : ℕ) → node_of scene p ≤ k → Occurs scene family p v x → Occurs scene other p v x
    to v x p low o = (o.0, (same p o.0 low).0 o.1, o.2)

    from : (v : ℕ) (x : V) (p : ℕ) → node_of scene p ≤ k → Occurs scene other p v x → Occurs scene family p v x
    from v x p low o = (o.0, (same p o.0 low).1 o.1, o.2)
