-- The triple patterns of a rooted set of nodes are a choice, up to their order and how often they stand there; and each
-- choice is that of a rooted set.
use Rattle.std.proofs.Common.{◌≡◌, ℕ, zero, suc, ◌+◌, ◌<◌, ◌≤◌, ◌++◌, inl, inr, Bool, true, false, if◌then◌else◌, List, [], ◌∷◌, length, map, Option, Some, None, Contains, IsTrue, refl, sym, ◌∙◌, ap, subst, arith, append-nil, append_assoc}
use Rattle.std.specs.Prelude.{slice_get}
use Rattle.std.proofs.lemmas.List.Elements.{Contains-append_left, Contains-append_right, Contains-append_cases}
use Rattle.alg_model.specs.declared.pattern.TriplePat.{TriplePat}
use Rattle.alg_model.specs.Pattern.{Algebra, Bgp, Join, LeftJoin}
use Rattle.pattern_tree.specs.Tree.{TreeNode, root_patterns, moved_parent, moved_option, moved, hung_parent, hung, nodes_below, tree_of, IsRooted, patterns_of}
use Rattle.pattern_tree.proofs.Choices.{IsChoice}
use Rattle.pattern_tree.proofs.Nodes.{at_front, at_back, at_either, at_map, from_map, below-HasParent, patterns_of-same, patterns_of-none, patterns_of-append, patterns_of-moved, patterns_of-hung, mixed, mixed-front, mixed-back}

-- ---- lists with the same items

pub record HasSame (xs ys : List TriplePat) : Type 0 where
  pub to : (p : TriplePat) → Contains xs p → Contains ys p
  pub from : (p : TriplePat) → Contains ys p → Contains xs p

pub HasSame-refl : (xs : List TriplePat) → HasSame xs xs
HasSame-refl xs = record { to = λ p at. at; from = λ p at. at }

pub HasSame-trans : (xs ys zs : List TriplePat) → HasSame xs ys → HasSame ys zs → HasSame xs zs
HasSame-trans xs ys zs a b = record { to = λ p at. b.to p (a.to p at); from = λ p at. a.from p (b.from p at) }

pub HasSame-append : (xs ys us vs : List TriplePat) → HasSame xs us → HasSame ys vs → HasSame (xs ++ ys) (us ++ vs)
HasSame-append xs ys us vs a b = record {
  to = λ p at. elim (Contains-append_cases xs ys p at) as (λ _. Contains (us ++ vs) p) [ inl l ↦ Contains-append_left us vs p (a.to p l) | inr r ↦ Contains-append_right us vs p (b.to p r) ];
  from = λ p at. elim (Contains-append_cases us vs p at) as (λ _. Contains (xs ++ ys) p) [ inl l ↦ Contains-append_left xs ys p (a.from p l) | inr r ↦ Contains-append_right xs ys p (b.from p r) ];
}

-- four lists, of which the middle ones are exchanged
exchanged_to : (a b c d : List TriplePat) (p : TriplePat) → Contains ((a ++ b) ++ (c ++ d)) p → Contains ((a ++ c) ++ (b ++ d)) p
exchanged_to a b c d p at = elim (Contains-append_cases (a ++ b) (c ++ d) p at) as (λ _. Contains ((a ++ c) ++ (b ++ d)) p) [
  | inl first ↦ elim (Contains-append_cases a b p first) as (λ _. Contains ((a ++ c) ++ (b ++ d)) p) [
    | inl x ↦ Contains-append_left (a ++ c) (b ++ d) p (Contains-append_left a c p x)
    | inr x ↦ Contains-append_right (a ++ c) (b ++ d) p (Contains-append_left b d p x)
  ]
  | inr second ↦ elim (Contains-append_cases c d p second) as (λ _. Contains ((a ++ c) ++ (b ++ d)) p) [
    | inl x ↦ Contains-append_left (a ++ c) (b ++ d) p (Contains-append_right a c p x)
    | inr x ↦ Contains-append_right (a ++ c) (b ++ d) p (Contains-append_right b d p x)
  ]
]

HasSame-exchanged : (a b c d : List TriplePat) → HasSame ((a ++ b) ++ (c ++ d)) ((a ++ c) ++ (b ++ d))
HasSame-exchanged a b c d = record { to = exchanged_to a b c d; from = exchanged_to a c b d }

-- three lists, grouped the other way
HasSame-grouped : (a b c : List TriplePat) → HasSame ((a ++ b) ++ c) (a ++ (b ++ c))
HasSame-grouped a b c = subst (HasSame ((a ++ b) ++ c)) (append_assoc a b c) (HasSame-refl ((a ++ b) ++ c))

-- ---- a rooted set, part by part

-- the root of a tree has no parent
pub root_has_none : {A : Type 0} (patterns : List TriplePat) (node : TreeNode) (parent : ℕ) → Some (record { parent = None; patterns = patterns }) ≡ Some node → node.parent ≡ Some parent → A
root_has_none patterns node parent is has =
    let root : record { parent = None; patterns = patterns } ≡ node = cc in
    let none : None ≡ node.parent = ap (λ node. node.parent) root in
    absurd (let e : None ≡ Some parent = none ∙ has in cc)

-- a set is rooted in a tree where it is at the nodes below the root
rooted_from_below : (pattern : Algebra) (set : ℕ → Bool) → IsTrue (set 0) →
    ((k parent : ℕ) (node : TreeNode) → slice_get (nodes_below pattern) k ≡ Some node → node.parent ≡ Some parent → IsTrue (set (suc k)) → IsTrue (set parent)) → IsRooted (tree_of pattern) set
rooted_from_below pattern set root parents = record { root = root; parents = each } where
  each : (k parent : ℕ) (node : TreeNode) → slice_get (tree_of pattern) k ≡ Some node → node.parent ≡ Some parent → IsTrue (set k) → IsTrue (set parent)
  each zero parent node is has at = root_has_none (root_patterns pattern) node parent is has
  each (suc k) parent node is has at = parents k parent node is has at

-- the set of the right side of a Join
abbrev right_set : ℕ → (ℕ → Bool) → ℕ → Bool
right_set d set zero = set 0
right_set d set (suc k) = set (suc (k + d))

-- at a parent that is moved
at_moved : (d : ℕ) (set : ℕ → Bool) (parent : ℕ) → set (moved_parent d parent) ≡ right_set d set parent
at_moved d set zero = refl
at_moved d set (suc k) = refl

rooted_left : (left : Algebra) (others : List TreeNode) (set : ℕ → Bool) → IsTrue (set 0) →
    ((k parent : ℕ) (node : TreeNode) → slice_get (nodes_below left ++ others) k ≡ Some node → node.parent ≡ Some parent → IsTrue (set (suc k)) → IsTrue (set parent)) → IsRooted (tree_of left) set
rooted_left left others set root parents = rooted_from_below left set root (λ k parent node is. parents k parent node (at_front (nodes_below left) others k node is))

rooted_joined : (left right : Algebra) (set : ℕ → Bool) → IsRooted (tree_of (Join left right)) set → IsRooted (tree_of right) (right_set (length (nodes_below left)) set)
rooted_joined left right set rooted =
    let d = length (nodes_below left) in
    rooted_from_below right (right_set d set) rooted.root (λ k parent node is has at.
    let there = at_back (nodes_below left) (map (moved d) (nodes_below right)) k ∙ at_map (moved d) (nodes_below right) k node is in
    let moved_has : (moved d node).parent ≡ Some (moved_parent d parent) = ap (moved_option d) has in
    subst IsTrue (at_moved d set parent) (rooted.parents (suc (k + d)) (moved_parent d parent) (moved d node) there moved_has at))

-- the set of the right side of a LeftJoin
abbrev hung_set : ℕ → (ℕ → Bool) → ℕ → Bool
hung_set d set k = set (suc (k + d))

rooted_hung : (left right : Algebra) (set : ℕ → Bool) → IsRooted (tree_of (LeftJoin left right)) set → IsTrue (hung_set (length (nodes_below left)) set 0) → IsRooted (tree_of right) (hung_set (length (nodes_below left)) set)
rooted_hung left right set rooted root =
    let d = length (nodes_below left) in
    record {
      root = root;
      parents = λ k parent node is has at.
          let there = at_back (nodes_below left) (map (hung d) (tree_of right)) k ∙ at_map (hung d) (tree_of right) k node is in
          let hung_has : (hung d node).parent ≡ Some (suc (parent + d)) = ap (λ parent. Some (hung_parent d parent)) has in
          rooted.parents (suc (k + d)) (suc (parent + d)) (hung d node) there hung_has at;
    }

-- where the root of the right side is out, all its nodes are
out_of : (left right : Algebra) (set : ℕ → Bool) → IsRooted (tree_of (LeftJoin left right)) set → hung_set (length (nodes_below left)) set 0 ≡ false →
    (bound k : ℕ) → k < bound → k < length (tree_of right) → hung_set (length (nodes_below left)) set k ≡ false
out_of left right set rooted out zero k low within = absurd (omega arith)
out_of left right set rooted out (suc bound) zero low within = out
out_of left right set rooted out (suc bound) (suc k) low within =
    let d = length (nodes_below left) in
    let node = node_at (nodes_below right) k (omega arith) in
    let has = below-HasParent right k node.0 node.1 in
    let earlier = out_of left right set rooted out bound has.parent (let le = has.low in omega arith) (let le = has.low in omega arith) in
    let there = at_back (nodes_below left) (map (hung d) (tree_of right)) (suc k) ∙ at_map (hung d) (tree_of right) (suc k) node.0 node.1 in
    let hung_has : (hung d node.0).parent ≡ Some (suc (has.parent + d)) = ap (λ parent. Some (hung_parent d parent)) has.is in
    false_from_not (hung_set d set (suc k)) (λ at.
    let up = rooted.parents (suc (suc k + d)) (suc (has.parent + d)) (hung d node.0) there hung_has at in
    cc) where
      node_at : (nodes : List TreeNode) (k : ℕ) → k < length nodes → (node : TreeNode) × (slice_get nodes k ≡ Some node)
      node_at [] k low = absurd (omega arith)
      node_at (node ∷ nodes) zero low = (node, refl)
      node_at (node ∷ nodes) (suc k) low = node_at nodes k (omega arith)

      false_from_not : (b : Bool) → (b ≡ true → ⊥) → b ≡ false
      false_from_not true h = absurd (h refl)
      false_from_not false h = refl

-- the triple patterns of a rooted set
rooted_patterns : (pattern : Algebra) (set : ℕ → Bool) → IsTrue (set 0) → patterns_of (tree_of pattern) set ≡ root_patterns pattern ++ patterns_of (nodes_below pattern) (λ k. set (suc k))
rooted_patterns pattern set root = ap (λ b. (if b then root_patterns pattern else []) ++ patterns_of (nodes_below pattern) (λ k. set (suc k))) root

-- ---- from sets to choices

pub record ChoosesSame (pattern : Algebra) (set : ℕ → Bool) : Type 0 where
  pub list : List TriplePat
  pub choice : IsChoice pattern list
  pub same : HasSame list (patterns_of (tree_of pattern) set)

pub choice_from_set : (pattern : Algebra) (set : ℕ → Bool) → IsRooted (tree_of pattern) set → ChoosesSame pattern set
choice_from_set (Bgp patterns) set rooted = record {
  list = patterns;
  choice = refl;
  same = subst (HasSame patterns) (sym (rooted_patterns (Bgp patterns) set rooted.root ∙ append-nil patterns)) (HasSame-refl patterns);
}
choice_from_set (Join left right) set rooted =
    let d = length (nodes_below left) in
    let others = map (moved d) (nodes_below right) in
    let a = choice_from_set left set (rooted_left left others set rooted.root (λ k. rooted.parents (suc k))) in
    let b = choice_from_set right (right_set d set) (rooted_joined left right set rooted) in
    let pl = patterns_of (nodes_below left) (λ k. set (suc k)) in
    let pr = patterns_of (nodes_below right) (λ k. set (suc (k + d))) in
    let same_a = subst (HasSame a.list) (rooted_patterns left set rooted.root) a.same in
    let same_b = subst (HasSame b.list) (rooted_patterns right (right_set d set) rooted.root) b.same in
    let below : patterns_of (nodes_below left ++ others) (λ k. set (suc k)) ≡ pl ++ pr =
    patterns_of-append (nodes_below left) others (λ k. set (suc k)) ∙ ap (λ list. pl ++ list) (patterns_of-moved d (nodes_below right) (λ k. set (suc (k + d)))) in
    let whole = rooted_patterns (Join left right) set rooted.root ∙ ap (λ list. (root_patterns left ++ root_patterns right) ++ list) below in
    record {
      list = a.list ++ b.list;
      choice = record { first = a.list; second = b.list; is_first = a.choice; is_second = b.choice; both = refl };
      same = subst (HasSame (a.list ++ b.list)) (sym whole)
          (HasSame-trans (a.list ++ b.list) ((root_patterns left ++ pl) ++ (root_patterns right ++ pr)) ((root_patterns left ++ root_patterns right) ++ (pl ++ pr))
          (HasSame-append a.list b.list (root_patterns left ++ pl) (root_patterns right ++ pr) same_a same_b)
          (HasSame-exchanged (root_patterns left) pl (root_patterns right) pr));
    }
choice_from_set (LeftJoin left right) set rooted =
    let d = length (nodes_below left) in
    let others = map (hung d) (tree_of right) in
    let a = choice_from_set left set (rooted_left left others set rooted.root (λ k. rooted.parents (suc k))) in
    let pl = patterns_of (nodes_below left) (λ k. set (suc k)) in
    let same_a = subst (HasSame a.list) (rooted_patterns left set rooted.root) a.same in
    let pr = patterns_of (tree_of right) (hung_set d set) in
    let below : patterns_of (nodes_below left ++ others) (λ k. set (suc k)) ≡ pl ++ pr =
    patterns_of-append (nodes_below left) others (λ k. set (suc k)) ∙ ap (λ list. pl ++ list) (patterns_of-hung d (tree_of right) (hung_set d set)) in
    let whole : patterns_of (tree_of (LeftJoin left right)) set ≡ root_patterns left ++ (pl ++ pr) =
    rooted_patterns (LeftJoin left right) set rooted.root ∙ ap (λ list. root_patterns left ++ list) below in
    elim (hung_set d set 0) as (λ b. hung_set d set 0 ≡ b → ChoosesSame (LeftJoin left right) set) [
      | true ↦ λ root.
          let b = choice_from_set right (hung_set d set) (rooted_hung left right set rooted root) in
          record {
            list = a.list ++ b.list;
            choice = inr (record { first = a.list; second = b.list; is_first = a.choice; is_second = b.choice; both = refl });
            same = subst (HasSame (a.list ++ b.list)) (sym whole)
                (HasSame-trans (a.list ++ b.list) ((root_patterns left ++ pl) ++ pr) (root_patterns left ++ (pl ++ pr))
                (HasSame-append a.list b.list (root_patterns left ++ pl) pr same_a b.same)
                (HasSame-grouped (root_patterns left) pl pr));
          }
      | false ↦ λ out.
          let empty : pr ≡ [] = patterns_of-none (tree_of right) (hung_set d set) (λ k low. out_of left right set rooted out (suc k) k (omega arith) low) in
          let short : patterns_of (tree_of (LeftJoin left right)) set ≡ root_patterns left ++ pl = whole ∙ ap (λ list. root_patterns left ++ (pl ++ list)) empty ∙ ap (λ list. root_patterns left ++ list) (append-nil pl) in
          record { list = a.list; choice = inl a.choice; same = subst (HasSame a.list) (sym short) same_a }
    ] refl

-- ---- from choices to sets

pub record HasSet (pattern : Algebra) (list : List TriplePat) : Type 0 where
  pub set : ℕ → Bool
  pub rooted : IsRooted (tree_of pattern) set
  pub same : HasSame list (patterns_of (tree_of pattern) set)

-- a node of the left side, where its set is mixed with another
mixed_left : (left : Algebra) (sl t : ℕ → Bool) → IsRooted (tree_of left) sl → (k parent : ℕ) (node : TreeNode) → k < length (nodes_below left) → slice_get (nodes_below left) k ≡ Some node → node.parent ≡ Some parent →
    IsTrue (mixed (length (nodes_below left)) sl t (suc k)) → IsTrue (mixed (length (nodes_below left)) sl t parent)
mixed_left left sl t rooted k parent node low is has at =
    let d = length (nodes_below left) in
    let h = below-HasParent left k node is in
    let one : h.parent ≡ parent = (let first = h.is in cc) in
    let before : parent ≤ d = (let le = h.low in omega arith) in
    let mine = rooted.parents (suc k) parent node is has (sym (mixed-front d sl t (suc k) (omega arith)) ∙ at) in
    mixed-front d sl t parent before ∙ mine

-- the triple patterns of the left side in the mixed set
mixed_patterns : (left : Algebra) (sl t : ℕ → Bool) → patterns_of (nodes_below left) (λ k. mixed (length (nodes_below left)) sl t (suc k)) ≡ patterns_of (nodes_below left) (λ k. sl (suc k))
mixed_patterns left sl t = patterns_of-same (nodes_below left) (λ k. mixed (length (nodes_below left)) sl t (suc k)) (λ k. sl (suc k)) (λ k low. mixed-front (length (nodes_below left)) sl t (suc k) (omega arith))

-- and those after it
mixed_others : (d : ℕ) (nodes : List TreeNode) (sl t : ℕ → Bool) → patterns_of nodes (λ k. mixed d sl t (suc (k + d))) ≡ patterns_of nodes t
mixed_others d nodes sl t = patterns_of-same nodes (λ k. mixed d sl t (suc (k + d))) t (λ k _. mixed-back d sl t k)

-- a set that is rooted in both sides of a Join
joined_rooted : (left right : Algebra) (sl sr : ℕ → Bool) → IsRooted (tree_of left) sl → IsRooted (tree_of right) sr → IsRooted (tree_of (Join left right)) (mixed (length (nodes_below left)) sl (λ j. sr (suc j)))
joined_rooted left right sl sr rooted_l rooted_r =
    let d = length (nodes_below left) in
    let t : ℕ → Bool = λ j. sr (suc j) in
    let root : IsTrue (mixed d sl t 0) = mixed-front d sl t 0 (omega arith) ∙ rooted_l.root in
    rooted_from_below (Join left right) (mixed d sl t) root (λ k parent node is has at.
    elim (at_either (nodes_below left) (map (moved d) (nodes_below right)) k node is) as (λ _. IsTrue (mixed d sl t parent)) [
      | inl front ↦ mixed_left left sl t rooted_l k parent node front.0 front.1 has at
      | inr back ↦
          let from = from_map (moved d) (nodes_below right) back.0 node back.2 in
          let h = below-HasParent right back.0 from.0 from.1 in
          let there : IsTrue (sr (suc back.0)) = sym (mixed-back d sl t back.0) ∙ ap (λ k. mixed d sl t (suc k)) (sym back.1) ∙ at in
          let up = rooted_r.parents (suc back.0) h.parent from.0 from.1 h.is there in
          let same : Some (moved_parent d h.parent) ≡ Some parent = sym (ap (moved_option d) h.is) ∙ ap (λ node. node.parent) from.2 ∙ has in
          let one : moved_parent d h.parent ≡ parent = cc in
          subst (λ parent. IsTrue (mixed d sl t parent)) one (moved_up d h.parent root up)
    ]) where
      moved_up : (d q : ℕ) → IsTrue (mixed d sl (λ j. sr (suc j)) 0) → IsTrue (sr q) → IsTrue (mixed d sl (λ j. sr (suc j)) (moved_parent d q))
      moved_up d zero root up = root
      moved_up d (suc q) root up = mixed-back d sl (λ j. sr (suc j)) q ∙ up

-- a set that is rooted in the left side of a LeftJoin, and has no node of the right side
alone_rooted : (left right : Algebra) (sl : ℕ → Bool) → IsRooted (tree_of left) sl → IsRooted (tree_of (LeftJoin left right)) (mixed (length (nodes_below left)) sl (λ j. false))
alone_rooted left right sl rooted_l =
    let d = length (nodes_below left) in
    let t : ℕ → Bool = λ j. false in
    rooted_from_below (LeftJoin left right) (mixed d sl t) (mixed-front d sl t 0 (omega arith) ∙ rooted_l.root) (λ k parent node is has at.
    elim (at_either (nodes_below left) (map (hung d) (tree_of right)) k node is) as (λ _. IsTrue (mixed d sl t parent)) [
      | inl front ↦ mixed_left left sl t rooted_l k parent node front.0 front.1 has at
      | inr back ↦
          let wrong : false ≡ true = sym (mixed-back d sl t back.0) ∙ ap (λ k. mixed d sl t (suc k)) (sym back.1) ∙ at in
          absurd (cc)
    ])

-- a set that is rooted in both sides of a LeftJoin
hung_rooted : (left right : Algebra) (sl sr : ℕ → Bool) → IsRooted (tree_of left) sl → IsRooted (tree_of right) sr → IsRooted (tree_of (LeftJoin left right)) (mixed (length (nodes_below left)) sl sr)
hung_rooted left right sl sr rooted_l rooted_r =
    let d = length (nodes_below left) in
    let root : IsTrue (mixed d sl sr 0) = mixed-front d sl sr 0 (omega arith) ∙ rooted_l.root in
    rooted_from_below (LeftJoin left right) (mixed d sl sr) root (λ k parent node is has at.
    elim (at_either (nodes_below left) (map (hung d) (tree_of right)) k node is) as (λ _. IsTrue (mixed d sl sr parent)) [
      | inl front ↦ mixed_left left sl sr rooted_l k parent node front.0 front.1 has at
      | inr back ↦
          let from = from_map (hung d) (tree_of right) back.0 node back.2 in
          let there : IsTrue (sr back.0) = sym (mixed-back d sl sr back.0) ∙ ap (λ k. mixed d sl sr (suc k)) (sym back.1) ∙ at in
          let same : Some (hung_parent d from.0.parent) ≡ Some parent = ap (λ node. node.parent) from.2 ∙ has in
          let one : hung_parent d from.0.parent ≡ parent = cc in
          subst (λ parent. IsTrue (mixed d sl sr parent)) one (hung_up d from.0.parent root (λ q is_q. rooted_r.parents back.0 q from.0 from.1 is_q there))
    ]) where
      hung_up : (d : ℕ) (parent : Option ℕ) → IsTrue (mixed d sl sr 0) → ((q : ℕ) → parent ≡ Some q → IsTrue (sr q)) → IsTrue (mixed d sl sr (hung_parent d parent))
      hung_up d None root up = root
      hung_up d (Some q) root up = mixed-back d sl sr q ∙ up q refl

-- each choice is that of a rooted set
pub set_from_choice : (pattern : Algebra) (list : List TriplePat) → IsChoice pattern list → HasSet pattern list
set_from_choice (Bgp patterns) list is = record {
  set = λ k. true;
  rooted = rooted_from_below (Bgp patterns) (λ k. true) refl (λ k parent node is has at. refl);
  same = subst (HasSame list) (is ∙ sym (append-nil patterns)) (HasSame-refl list);
}
set_from_choice (Join left right) list is =
    let d = length (nodes_below left) in
    let others = map (moved d) (nodes_below right) in
    let a = set_from_choice left is.first is.is_first in
    let b = set_from_choice right is.second is.is_second in
    let t : ℕ → Bool = λ j. b.set (suc j) in
    let set = mixed d a.set t in
    let rooted = joined_rooted left right a.set b.set a.rooted b.rooted in
    let pl = patterns_of (nodes_below left) (λ k. a.set (suc k)) in
    let pr = patterns_of (nodes_below right) t in
    let below : patterns_of (nodes_below left ++ others) (λ k. set (suc k)) ≡ pl ++ pr =
    patterns_of-append (nodes_below left) others (λ k. set (suc k))
    ∙ ap (λ front. front ++ patterns_of others (λ k. set (suc (k + d)))) (mixed_patterns left a.set t)
    ∙ ap (λ back. pl ++ back) (patterns_of-moved d (nodes_below right) (λ k. set (suc (k + d))) ∙ mixed_others d (nodes_below right) a.set t) in
    let whole = rooted_patterns (Join left right) set rooted.root ∙ ap (λ list. (root_patterns left ++ root_patterns right) ++ list) below in
    let same_a = subst (HasSame is.first) (rooted_patterns left a.set a.rooted.root) a.same in
    let same_b = subst (HasSame is.second) (rooted_patterns right b.set b.rooted.root) b.same in
    record {
      set = set;
      rooted = rooted;
      same = subst (λ list. HasSame list (patterns_of (tree_of (Join left right)) set)) (sym is.both)
          (subst (HasSame (is.first ++ is.second)) (sym whole)
          (HasSame-trans (is.first ++ is.second) ((root_patterns left ++ pl) ++ (root_patterns right ++ pr)) ((root_patterns left ++ root_patterns right) ++ (pl ++ pr))
          (HasSame-append is.first is.second (root_patterns left ++ pl) (root_patterns right ++ pr) same_a same_b)
          (HasSame-exchanged (root_patterns left) pl (root_patterns right) pr)));
    }
set_from_choice (LeftJoin left right) list (inl is) =
    let d = length (nodes_below left) in
    let others = map (hung d) (tree_of right) in
    let a = set_from_choice left list is in
    let t : ℕ → Bool = λ j. false in
    let set = mixed d a.set t in
    let rooted = alone_rooted left right a.set a.rooted in
    let pl = patterns_of (nodes_below left) (λ k. a.set (suc k)) in
    let empty : patterns_of (tree_of right) t ≡ [] = patterns_of-none (tree_of right) t (λ k low. refl) in
    let below : patterns_of (nodes_below left ++ others) (λ k. set (suc k)) ≡ pl =
    patterns_of-append (nodes_below left) others (λ k. set (suc k))
    ∙ ap (λ front. front ++ patterns_of others (λ k. set (suc (k + d)))) (mixed_patterns left a.set t)
    ∙ ap (λ back. pl ++ back) (patterns_of-hung d (tree_of right) (λ k. set (suc (k + d))) ∙ mixed_others d (tree_of right) a.set t ∙ empty)
    ∙ append-nil pl in
    let whole = rooted_patterns (LeftJoin left right) set rooted.root ∙ ap (λ list. root_patterns left ++ list) below in
    record {
      set = set;
      rooted = rooted;
      same = subst (HasSame list) (sym whole) (subst (HasSame list) (rooted_patterns left a.set a.rooted.root) a.same);
    }
set_from_choice (LeftJoin left right) list (inr is) =
    let d = length (nodes_below left) in
    let others = map (hung d) (tree_of right) in
    let a = set_from_choice left is.first is.is_first in
    let b = set_from_choice right is.second is.is_second in
    let set = mixed d a.set b.set in
    let rooted = hung_rooted left right a.set b.set a.rooted b.rooted in
    let pl = patterns_of (nodes_below left) (λ k. a.set (suc k)) in
    let pr = patterns_of (tree_of right) b.set in
    let below : patterns_of (nodes_below left ++ others) (λ k. set (suc k)) ≡ pl ++ pr =
    patterns_of-append (nodes_below left) others (λ k. set (suc k))
    ∙ ap (λ front. front ++ patterns_of others (λ k. set (suc (k + d)))) (mixed_patterns left a.set b.set)
    ∙ ap (λ back. pl ++ back) (patterns_of-hung d (tree_of right) (λ k. set (suc (k + d))) ∙ mixed_others d (tree_of right) a.set b.set) in
    let whole = rooted_patterns (LeftJoin left right) set rooted.root ∙ ap (λ list. root_patterns left ++ list) below in
    let same_a = subst (HasSame is.first) (rooted_patterns left a.set a.rooted.root) a.same in
    record {
      set = set;
      rooted = rooted;
      same = subst (λ list. HasSame list (patterns_of (tree_of (LeftJoin left right)) set)) (sym is.both)
          (subst (HasSame (is.first ++ is.second)) (sym whole)
          (HasSame-trans (is.first ++ is.second) ((root_patterns left ++ pl) ++ pr) (root_patterns left ++ (pl ++ pr))
          (HasSame-append is.first is.second (root_patterns left ++ pl) pr same_a b.same)
          (HasSame-grouped (root_patterns left) pl pr)));
    }
