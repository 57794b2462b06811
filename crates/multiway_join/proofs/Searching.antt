-- The search: how much work is left, and the rows that are listed one after the other.
use Rattle.std.proofs.Common.{◌≡◌, ℕ, zero, suc, ◌<◌, arith, if◌then◌else◌, ◌+◌, ◌*◌, ◌++◌, Bool, true, false, List, [], ◌∷◌, map, length, flat_map, All, Contains, Option, Some, None, refl, sym, ◌∙◌, ap, subst, append-nil}
use Rattle.std.proofs.lemmas.Grind.{flat_map-append}
use Rattle.std.proofs.lemmas.List.Elements.{All-head, All-tail}
use Rattle.std.proofs.lemmas.List.{map-append, append_assoc}
use Rattle.bm_term.proofs.Elements.{Contains-tail}
use Rattle.std.specs.List.{cons_option, filter_map}
use Rattle.pattern_tree.specs.FlatTable.{FlatTable, row_of}
use Rattle.alg_model.specs.declared.pattern.TriplePat.{TriplePat}
use Rattle.pattern_tree.specs.Tree.{TreeNode}
use Rattle.tree_relations.specs.declared.prepared.Prepared.{Prepared}
use Rattle.multiway_join.specs.declared.order.JoinNode.{JoinNode}
use Rattle.multiway_join.specs.declared.order.JoinPattern.{JoinPattern}
use Rattle.multiway_join.specs.steps.Search.{Lists, ListsPair, ListsAll, as_node, patterns_in, holds_parent, cells_from, cells_within}

-- how many steps deep the search of some nodes goes at most
abbrev pub work_of : List JoinNode → ℕ
work_of [] = 0
work_of (node ∷ nodes) = 5 + 3 * length node.patterns.items + work_of nodes

-- ---- rows that are listed one after the other

pub lists_none : (t : FlatTable) → Lists [] t t
lists_none t = record { vars = refl; rows = sym (append-nil t.rows) }

pub lists_then : (xs ys : List (List ℕ)) (a b c : FlatTable) → Lists xs a b → Lists ys b c → Lists (xs ++ ys) a c
lists_then xs ys a b c one two = record {
  vars = two.vars ∙ one.vars;
  rows = two.rows ∙ ap (λ rows. rows ++ map row_of ys) one.rows ∙ append_assoc a.rows (map row_of xs) (map row_of ys) ∙ ap (λ rows. a.rows ++ rows) (sym (map-append row_of xs ys));
}

-- the rows of one row more
pub lists_more : (live : List ℕ → List (List ℕ)) (done : List (List ℕ)) (row : List ℕ) (any : Bool) (a b c : FlatTable) → ListsAll live done any a b → Lists (live row) b c → ListsAll live (done ++ row ∷ []) true a c
lists_more live [] row any a b c before more = (refl, subst (λ (rows : List (List ℕ)). Lists rows a c) (sym (append-nil (live row))) (lists_then [] (live row) a b c before.1 more))
lists_more live (r ∷ rs) row any a b c before more = (
  refl,
  subst (λ (rows : List (List ℕ)). Lists rows a c) (sym (flat_map-append live (r ∷ rs) (row ∷ []) ∙ ap (λ (rows : List (List ℕ)). flat_map live (r ∷ rs) ++ rows) (append-nil (live row))))
      (lists_then (flat_map live (r ∷ rs)) (live row) a b c before.1 more),
)

-- and of none more
lists_same : (live : List ℕ → List (List ℕ)) (done : List (List ℕ)) (any : Bool) (a b c : FlatTable) → ListsAll live done any a b → Lists [] b c → ListsAll live done any a c
lists_same live [] any a b c before more = (before.0, lists_then [] [] a b c before.1 more)
lists_same live (r ∷ rs) any a b c before more =
    (before.0, subst (λ (rows : List (List ℕ)). Lists rows a c) (append-nil (flat_map live (r ∷ rs))) (lists_then (flat_map live (r ∷ rs)) [] a b c before.1 more))

-- Part of the way through the pairs that can agree: those that are still to come are pairs left, and the rows of those
-- before are listed.
pub record IsUnderWay (live : List ℕ → List (List ℕ)) (bind : ℕ × ℕ → Option (List ℕ)) (all pairs : List (ℕ × ℕ)) (any : Bool) (old now : FlatTable) : Type 0 where
  pub done : List (List ℕ)
  pub whole : done ++ filter_map bind pairs ≡ filter_map bind all
  pub left : (pair : ℕ × ℕ) → Contains pairs pair → Contains all pair
  pub listed : ListsAll live done any old now
  pub vars : now.vars ≡ old.vars

module _ (live : List ℕ → List (List ℕ)) (bind : ℕ × ℕ → Option (List ℕ)) (all : List (ℕ × ℕ)) (old : FlatTable) where
  pub starts : (pairs : List (ℕ × ℕ)) → filter_map bind pairs ≡ filter_map bind all → ((pair : ℕ × ℕ) → Contains pairs pair → Contains all pair) → IsUnderWay live bind all pairs false old old
  starts pairs whole left = record { done = []; whole = whole; left = left; listed = (refl, lists_none old); vars = refl }

  module _ (rest : List (ℕ × ℕ)) (pair : ℕ × ℕ) (any one : Bool) (now new : FlatTable) (before : IsUnderWay live bind all (pair ∷ rest) any old now) where
    still_left : (other : ℕ × ℕ) → Contains rest other → Contains all other
    still_left other at = before.left other (Contains-tail pair rest other at)

    -- a pair that the row does not agree with
    past_none : bind pair ≡ None → ListsPair live None one now new → (one ≡ false) × IsUnderWay live bind all rest any old new
    past_none is more = (
      more.0,
      record {
        done = before.done;
        whole = ap (λ (o : Option (List ℕ)). before.done ++ cons_option o (filter_map bind rest)) (sym is) ∙ before.whole;
        left = still_left;
        listed = lists_same live before.done any old now new before.listed more.1;
        vars = more.1.vars ∙ before.vars;
      },
    )

    -- and one that it agrees with
    past_some : (row : List ℕ) → bind pair ≡ Some row → ListsPair live (Some row) one now new → (one ≡ true) × IsUnderWay live bind all rest true old new
    past_some row is more = (
      more.0,
      record {
        done = before.done ++ row ∷ [];
        whole = append_assoc before.done (row ∷ []) (filter_map bind rest) ∙ ap (λ (o : Option (List ℕ)). before.done ++ cons_option o (filter_map bind rest)) (sym is) ∙ before.whole;
        left = still_left;
        listed = lists_more live before.done row any old now new before.listed more.1;
        vars = more.1.vars ∙ before.vars;
      },
    )

  pub steps_true : (pairs rest : List (ℕ × ℕ)) (pair : ℕ × ℕ) (any one : Bool) (now new : FlatTable) → pairs ≡ pair ∷ rest → IsUnderWay live bind all pairs any old now → ListsPair live (bind pair) one now new → one ≡ true →
      IsUnderWay live bind all rest true old new
  steps_true pairs rest pair any one now new is before more yes_one = by (bind pair) refl more
    where
      state : IsUnderWay live bind all (pair ∷ rest) any old now
      state = subst (λ (ps : List (ℕ × ℕ)). IsUnderWay live bind all ps any old now) is before

      by : (o : Option (List ℕ)) → bind pair ≡ o → ListsPair live o one now new → IsUnderWay live bind all rest true old new
      by None e more = absurd (let f = more.0 in cc)
      by (Some row) e more = (past_some rest pair any one now new state row e more).1

  pub steps_false : (pairs rest : List (ℕ × ℕ)) (pair : ℕ × ℕ) (any one : Bool) (now new : FlatTable) → pairs ≡ pair ∷ rest → IsUnderWay live bind all pairs any old now → ListsPair live (bind pair) one now new → one ≡ false →
      IsUnderWay live bind all rest any old new
  steps_false pairs rest pair any one now new is before more no_one = by (bind pair) refl more
    where
      state : IsUnderWay live bind all (pair ∷ rest) any old now
      state = subst (λ (ps : List (ℕ × ℕ)). IsUnderWay live bind all ps any old now) is before

      by : (o : Option (List ℕ)) → bind pair ≡ o → ListsPair live o one now new → IsUnderWay live bind all rest any old new
      by None e more = (past_none rest pair any one now new state e more).1
      by (Some row) e more = absurd (let f = more.0 in cc)

  pub ends_with : (any : Bool) (pairs : List (ℕ × ℕ)) (now : FlatTable) → pairs ≡ [] → IsUnderWay live bind all pairs any old now → ListsAll live (filter_map bind all) any old now
  ends_with any pairs now none before =
      let nothing : before.done ≡ filter_map bind all = sym (append-nil before.done) ∙ ap (λ (ps : List (ℕ × ℕ)). before.done ++ filter_map bind ps) (sym none) ∙ before.whole in
      subst (λ (rows : List (List ℕ)). ListsAll live rows any old now) nothing before.listed

-- ---- the first node and triple pattern, and the others

module _ (P : TreeNode → Type 0) (nodes rest : List JoinNode) (node : JoinNode) (are : nodes ≡ node ∷ rest) (all : All P (map as_node nodes)) where
  all_split : All P (as_node node ∷ map as_node rest)
  all_split = subst (λ (nodes : List JoinNode). All P (map as_node nodes)) are all

  pub first_node : P (as_node node)
  first_node = All-head P (as_node node) (map as_node rest) all_split

  pub rest_nodes : All P (map as_node rest)
  rest_nodes = All-tail P (as_node node) (map as_node rest) all_split

module _ (P : TriplePat → Type 0) (patterns rest : List JoinPattern) (pattern : JoinPattern) (are : patterns ≡ pattern ∷ rest) (all : All P (patterns_in patterns)) where
  all_split_patterns : All P (pattern.pattern.now ∷ patterns_in rest)
  all_split_patterns = subst (λ (patterns : List JoinPattern). All P (patterns_in patterns)) are all

  pub first_pattern : P pattern.pattern.now
  first_pattern = All-head P pattern.pattern.now (patterns_in rest) all_split_patterns

  pub rest_patterns : All P (patterns_in rest)
  rest_patterns = All-tail P pattern.pattern.now (patterns_in rest) all_split_patterns

-- ---- the first node's part in the whole

pub work_split : (nodes rest : List JoinNode) (node : JoinNode) (patterns : List JoinPattern) → nodes ≡ node ∷ rest → patterns ≡ node.patterns.items → work_of nodes ≡ 5 + 3 * length patterns + work_of rest
work_split nodes rest node patterns are is = ap work_of are ∙ ap (λ (ps : List JoinPattern). 5 + 3 * length ps + work_of rest) (sym is)

-- where its parent is matched, the node is tried
pub tried_cells : (p : Prepared) (nodes rest : List JoinNode) (node : JoinNode) (patterns : List JoinPattern) (k matched : ℕ) (row : List ℕ) → 0 < k → nodes ≡ node ∷ rest → patterns ≡ node.patterns.items → true ≡ holds_parent matched node.parent →
    cells_within p (patterns_in patterns) (map as_node rest) k matched row row ≡ cells_from p (map as_node nodes) k matched row
tried_cells p nodes rest node patterns zero matched row later are is holds = absurd (omega arith)
tried_cells p nodes rest node patterns (suc k) matched row later are is holds =
    ap (λ (ps : List JoinPattern). cells_within p (patterns_in ps) (map as_node rest) (suc k) matched row row) is
    ∙ ap (λ (b : Bool). if b then cells_within p (patterns_in node.patterns.items) (map as_node rest) (suc k) matched row row else cells_from p (map as_node rest) (suc (suc k)) matched row) holds
    ∙ ap (λ (ns : List JoinNode). cells_from p (map as_node ns) (suc k) matched row) (sym are)
