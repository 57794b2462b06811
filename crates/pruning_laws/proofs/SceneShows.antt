-- The scene of a pattern that keeps the limits shows its tree.
use Rattle.std.proofs.Common.{◌≡◌, ◌↔◌, inl, inr, ℕ, zero, suc, ◌+◌, ◌-◌, ◌<◌, ◌++◌, List, [], ◌∷◌, length, map, get_or, Some, Contains, refl, sym, ◌∙◌, ap, subst, arith}
use Rattle.std.specs.Prelude.{slice_get, slice_index}
use Rattle.std.proofs.lemmas.Bool.{cases_lt}
use Rattle.std.proofs.lemmas.List.{get_or_append_left, get_or-append_right, get_or-map, get_or_past, length-append, length-map}
use Rattle.std.proofs.lemmas.List.Elements.{Contains-get_or}
use Rattle.alg_model.specs.declared.pattern.Place.TheVariants as places
use Rattle.alg_model.specs.declared.pattern.TriplePat.{TriplePat}
use Rattle.alg_model.specs.Eval.{Interpretation}
use Rattle.alg_model.specs.Limits.{PatternKeepsLimits}
use Rattle.alg_model.specs.Pattern.{Algebra, Bgp, Join, LeftJoin, triple_vars, triple_patterns}
use Rattle.pattern_tree.specs.Consistent.{TakesValue}
use Rattle.pattern_tree.specs.Standing.{StandsAt}
use Rattle.pattern_tree.specs.Tree.{TreeNode, root_patterns, moved_parent, nodes_below, tree_of}
use Rattle.pattern_tree.proofs.Connected.{stands_by, left_joined, right_joined, left_optional, right_optional, hung_place, node_there}
use Rattle.pattern_tree.proofs.Nodes.{below-HasParent}
use Rattle.pattern_tree.proofs.Numbered.{AreNumberedFrom, numbered_patterns, one_place}
use Rattle.pattern_tree.proofs.RootedSets.{root_has_none}
use Rattle.pattern_tree.proofs.Standing.{root_stands, stands-listed}
use Rattle.pruning_laws.specs.Scene.{Scene, columns_at, Has, Gives}
use Rattle.pruning_laws.specs.SceneOf.{columns_of, nodes_in, number_of, scene_of, ReadsAs}
use Rattle.pruning_laws.specs.Shown.{entry_of}
use Rattle.pruning_laws.proofs.Columns.{has-columns, gives-columns, length-columns, columns_at-text}
use Rattle.pruning_laws.proofs.Shows.{Shows}

-- ---- the node of each triple pattern

length-nodes : (pattern : Algebra) → length (nodes_in pattern) ≡ length (triple_patterns pattern)
length-nodes (Bgp list) = length-map list (λ pattern. 0)
length-nodes (Join left right) =
    let moved = map (moved_parent (length (nodes_below left))) (nodes_in right) in
    omega (arith, length-append (nodes_in left) moved, length-map (nodes_in right) (moved_parent (length (nodes_below left))), length-append (triple_patterns left) (triple_patterns right), length-nodes left, length-nodes right)
length-nodes (LeftJoin left right) =
    let moved = map (hung_place left right) (nodes_in right) in
    omega (arith, length-append (nodes_in left) moved, length-map (nodes_in right) (hung_place left right), length-append (triple_patterns left) (triple_patterns right), length-nodes left, length-nodes right)

-- of two parts
parts : (tree : List TreeNode) (ns ms : List ℕ) (ps qs : List TriplePat) (move : ℕ → ℕ) (d : TriplePat) → length ns ≡ length ps → length ms ≡ length qs →
    ((p : ℕ) → p < length ps → StandsAt tree (get_or ns p 0) (get_or ps p d)) → ((p : ℕ) → p < length qs → StandsAt tree (move (get_or ms p 0)) (get_or qs p d)) →
    (p : ℕ) → p < length (ps ++ qs) → StandsAt tree (get_or (ns ++ map move ms) p 0) (get_or (ps ++ qs) p d)
parts tree ns ms ps qs move d same_left same_right left right p low = elim (cases_lt p (length ps)) as (λ _. StandsAt tree (get_or (ns ++ map move ms) p 0) (get_or (ps ++ qs) p d)) [
  | inl front ↦ rw (get_or_append_left ns (map move ms) 0 p (omega (arith, front, same_left)), get_or_append_left ps qs d p front) (left p front)
  | inr past ↦
      let within : p - length ps < length qs = omega (arith, low, past, length-append ps qs) in
      rw (get_or-append_right ns (map move ms) (length ps) p 0 same_left past, get_or-append_right ps qs (length ps) p d refl past, get_or-map move ms (p - length ps) 0 0 (omega (arith, within, same_right)))
      (right (p - length ps) within)
]

stands_there : (pattern : Algebra) (d : TriplePat) (p : ℕ) → p < length (triple_patterns pattern) → StandsAt (tree_of pattern) (get_or (nodes_in pattern) p 0) (get_or (triple_patterns pattern) p d)
stands_there (Bgp list) d p low =
    subst (λ k. StandsAt (tree_of (Bgp list)) k (get_or list p d)) (sym (get_or-map (λ pattern. 0) list p d 0 low))
    (root_stands (Bgp list) (get_or list p d) (Contains-get_or list p d low))
stands_there (Join left right) d p low =
    let whole = tree_of (Join left right) in
    let move = moved_parent (length (nodes_below left)) in
    parts whole (nodes_in left) (nodes_in right) (triple_patterns left) (triple_patterns right) move d (length-nodes left) (length-nodes right)
    (λ p low. stands_by (tree_of left) whole (λ k. k) (get_or (nodes_in left) p 0) (get_or (triple_patterns left) p d) (left_joined left right) (stands_there left d p low))
    (λ p low. stands_by (tree_of right) whole move (get_or (nodes_in right) p 0) (get_or (triple_patterns right) p d) (right_joined left right) (stands_there right d p low)) p low
stands_there (LeftJoin left right) d p low =
    let whole = tree_of (LeftJoin left right) in
    let move = hung_place left right in
    parts whole (nodes_in left) (nodes_in right) (triple_patterns left) (triple_patterns right) move d (length-nodes left) (length-nodes right)
    (λ p low. stands_by (tree_of left) whole (λ k. k) (get_or (nodes_in left) p 0) (get_or (triple_patterns left) p d) (left_optional left right) (stands_there left d p low))
    (λ p low. stands_by (tree_of right) whole move (get_or (nodes_in right) p 0) (get_or (triple_patterns right) p d) (right_optional left right) (stands_there right d p low)) p low

-- ---- numbers and parents

number_at : (first : ℕ) (list : List TriplePat) (p : ℕ) (d : TriplePat) → AreNumberedFrom first list → p < length list → (get_or list p d).number ≡ first + p
number_at first [] p d are low = absurd (omega (arith, low))
number_at first (q ∷ list) zero d are low = are.0 ∙ (let e : first ≡ first + 0 = omega arith in e)
number_at first (q ∷ list) (suc p) d are low = number_at (suc first) list p d are.1 (omega (arith, low)) ∙ (let e : suc first + p ≡ first + suc p = omega arith in e)

parent_at : (tree : List TreeNode) (k : ℕ) (node : TreeNode) → slice_get tree k ≡ Some node → slice_index (map (λ node. number_of node.parent) tree) k ≡ number_of node.parent
parent_at [] k node is = cc
parent_at (root ∷ tree) zero node is = let same : root ≡ node = cc in ap (λ node. number_of node.parent) same
parent_at (root ∷ tree) (suc k) node is = parent_at tree k node is

-- what stands for no triple pattern
abbrev pub no_pattern : TriplePat
no_pattern = record { subject = places.Term []; predicate = places.Term []; object = places.Term []; number = 0 }

module _ {V X Y : Type 0} (interpretation : Interpretation V X) (readings : ℕ → Interpretation V Y) (triple : ℕ → Y → X) (reads : ReadsAs interpretation readings triple) (n : ℕ) (pattern : Algebra) (keeps : PatternKeepsLimits n pattern) where
  abbrev list : List TriplePat
  list = triple_patterns pattern

  abbrev scene : Scene V Y
  scene = scene_of readings pattern

  abbrev at : ℕ → TriplePat
  at p = get_or list p no_pattern

  numbers : AreNumberedFrom 1 list
  numbers = numbered_patterns n pattern keeps

  in_text : (p : ℕ) → p < length scene.patterns → p < length list
  in_text p low = let e = length-columns readings 0 list in omega (arith, low, e)

  entry : (p : ℕ) → p < length list → entry_of (at p) ≡ p
  entry p low = let e = number_at 1 list p no_pattern numbers low in omega (arith, e)

  columns : (p : ℕ) → p < length list → columns_at scene p ≡ columns_of (readings p) (at p)
  columns p low = columns_at-text readings 0 list p no_pattern low ∙ ap (λ i. columns_of (readings i) (at p)) (let e : 0 + p ≡ p = omega arith in e)

  -- where a triple pattern of the tree stands in the text
  record HasEntry (k : ℕ) (part : TriplePat) : Type 0 where
    low : entry_of part < length list
    is : at (entry_of part) ≡ part
    node : get_or (nodes_in pattern) (entry_of part) 0 ≡ k

  entry_for : (k : ℕ) (part : TriplePat) → StandsAt (tree_of pattern) k part → HasEntry k part
  entry_for k part stands =
      let c = stands-listed pattern k part stands in
      let i = c.0 in
      let same : at i ≡ part = get_or_same list i no_pattern part c.1 ∙ c.2 in
      let e : entry_of part ≡ i = sym (ap entry_of same) ∙ entry i c.1 in
      let one = one_place 1 pattern numbers (get_or (nodes_in pattern) i 0) k (at i) part (stands_there pattern no_pattern i c.1) stands (ap (λ p. p.number) same) in
      record {
        low = subst (λ i. i < length list) (sym e) c.1;
        is = ap at e ∙ same;
        node = ap (λ i. get_or (nodes_in pattern) i 0) e ∙ one.0;
      } where
        get_or_same : (xs : List TriplePat) (i : ℕ) (d e : TriplePat) → i < length xs → get_or xs i d ≡ get_or xs i e
        get_or_same [] i d e low = absurd (omega (arith, low))
        get_or_same (x ∷ xs) zero d e low = refl
        get_or_same (x ∷ xs) (suc i) d e low = get_or_same xs i d e (omega (arith, low))

  -- it stands in the text at its place
  pub text_at : (k : ℕ) (part : TriplePat) → StandsAt (tree_of pattern) k part → (entry_of part < length list) × (get_or list (entry_of part) no_pattern ≡ part)
  text_at k part stands = let e = entry_for k part stands in (e.low, e.is)

  parents_first : (k : ℕ) → 0 < k → slice_index scene.parents k < k
  parents_first zero positive = absurd (omega (arith, positive))
  parents_first (suc k) positive = elim (cases_lt (suc k) (length (tree_of pattern))) as (λ _. slice_index scene.parents (suc k) < suc k) [
    | inl low ↦
        let node = node_there (tree_of pattern) (suc k) low in
        let up = below-HasParent pattern k node.0 node.1 in
        let e : slice_index scene.parents (suc k) ≡ up.parent = parent_at (tree_of pattern) (suc k) node.0 node.1 ∙ ap number_of up.is in
        let small = up.low in
        omega (arith, e, small)
    | inr past ↦
        let e = get_or_past scene.parents (suc k) 0 (omega (arith, past, length-map (tree_of pattern) (λ node. number_of node.parent))) in
        omega (arith, e)
  ]

  parent_is : (k parent : ℕ) (node : TreeNode) → slice_get (tree_of pattern) k ≡ Some node → node.parent ≡ Some parent → (0 < k) × (slice_index scene.parents k ≡ parent)
  parent_is zero parent node is has = root_has_none (root_patterns pattern) node parent is has
  parent_is (suc k) parent node is has = (omega arith, parent_at (tree_of pattern) (suc k) node is ∙ ap number_of has)

  hangs_from : (k : ℕ) (node : TreeNode) → 0 < k → slice_get (tree_of pattern) k ≡ Some node → node.parent ≡ Some (slice_index scene.parents k)
  hangs_from zero node positive is = absurd (omega (arith, positive))
  hangs_from (suc k) node positive is =
      let up = below-HasParent pattern k node is in
      up.is ∙ ap (λ parent. Some parent) (sym (parent_at (tree_of pattern) (suc k) node is ∙ ap number_of up.is))

  has_is : (p v : ℕ) → p < length scene.patterns → Has scene p v ↔ Contains (triple_vars (at p)) v
  unfolding Has
  has_is p v low = rw (columns p (in_text p low)) (has-columns (readings p) (at p) v)

  gives_is : (p : ℕ) (t : Y) (v : ℕ) (x : V) → p < length scene.patterns → Gives scene p t v x ↔ TakesValue interpretation (at p) (triple p t) v x
  unfolding Gives
  gives_is p t v x low = rw (columns p (in_text p low)) (gives-columns interpretation (readings p) (at p) t (triple p t) (reads.subject p t) (reads.predicate p t) (reads.object p t) v x)

  pub scene_shows : Shows interpretation (tree_of pattern) (scene_of readings pattern) triple
  scene_shows = record {
    pattern_at = at;
    stands = λ p k stands. subst (λ k. StandsAt (tree_of pattern) k (at p)) stands.1 (stands_there pattern no_pattern p (in_text p stands.0));
    entry_at = λ p k stands. entry p (in_text p stands.0);
    found = λ k part stands. (let e = entry_for k part stands in (subst (λ n. entry_of part < n) (sym (length-columns readings 0 list)) e.low, e.node));
    at_entry = λ k part stands. (entry_for k part stands).is;
    nodes = length-map (tree_of pattern) (λ node. number_of node.parent);
    first = parents_first;
    parent = parent_is;
    hangs = hangs_from;
    has = has_is;
    gives = gives_is;
  }
