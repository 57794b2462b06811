-- Worked examples, by computation: four flat rows of a tree of two nodes, a chain of which the middle finds no match, and
-- two triple patterns in order.
use Rattle.std.proofs.Common.{◌≡◌, ℕ, ◌⊎◌, inl, inr, List, [], ◌∷◌, Option, Some, None, Contains, codes, refl, sym, subst, arith, if◌then◌else◌}
use Rattle.std.specs.Prelude.{◌==◌}
use Rattle.bm_term.specs.declared.triple.Triple.{Triple}
use Rattle.bm_term.proofs.Elements.{Contains-head, Contains-nil, Contains-single, Contains-cons_cases}
use Rattle.alg_model.specs.declared.pattern.Place.TheVariants as places
use Rattle.alg_model.specs.declared.pattern.TriplePat.{TriplePat}
use Rattle.alg_model.specs.Eval.{as_terms}
use Rattle.alg_model.specs.Pattern.{triple_vars}
use Rattle.alg_model.specs.Row.{Row}
use Rattle.pattern_tree.specs.Solution.{all_matches}
use Rattle.pattern_tree.specs.Tree.{TreeNode}
use Rattle.multiway_join.specs.FlatRows.{flat_rows_of}
use Rattle.multiway_join.specs.JoinOrder.{IsNoLater, AreInOrder}

-- ?v name ?w, as the triple pattern with a number
abbrev triple : ℕ → List ℕ → ℕ → ℕ → TriplePat
triple v name w number = record { subject = places.Var (record { 0 = v }); predicate = places.Term name; object = places.Var (record { 0 = w }); number = number }

abbrev fact : List ℕ → List ℕ → List ℕ → Triple
fact subject predicate object = record { subject = subject; predicate = predicate; object = object }

abbrev node : Option ℕ → List TriplePat → TreeNode
node parent patterns = record { parent = parent; patterns = patterns }

-- ---- ?x <a> ?u . ?w <c> ?v OPTIONAL { ?x <p> ?y . ?y <q> ?w }, with 0 to 4 for x, u, w, v and y

abbrev first : TriplePat
first = triple 0 (codes "a") 1 1

abbrev second : TriplePat
second = triple 2 (codes "c") 3 2

abbrev tree : List TreeNode
tree = node None (first ∷ second ∷ []) ∷ node (Some 0) (triple 0 (codes "p") 4 3 ∷ triple 4 (codes "q") 2 4 ∷ []) ∷ []

abbrev facts : List Triple
facts =
    fact (codes "x") (codes "a") (codes "u") ∷ fact (codes "1") (codes "c") (codes "v") ∷ fact (codes "2") (codes "c") (codes "v")
    ∷ fact (codes "x") (codes "p") (codes "5") ∷ fact (codes "x") (codes "p") (codes "6") ∷ fact (codes "5") (codes "q") (codes "1") ∷ fact (codes "6") (codes "q") (codes "2") ∷ []

abbrev row : List ℕ → Option (List ℕ) → Row (List ℕ)
row w y = Some (codes "x") ∷ Some (codes "u") ∷ Some w ∷ Some (codes "v") ∷ y ∷ []

-- each of the two rows of the root goes on with the value of ?y that fits it, and comes to a dead end with the other, where
-- ?y is unbound again: four flat rows, of which two are best
four_rows : flat_rows_of as_terms 5 (all_matches as_terms 5 facts) tree ≡
    row (codes "1") (Some (codes "5")) ∷ row (codes "1") None ∷ row (codes "2") None ∷ row (codes "2") (Some (codes "6")) ∷ []
four_rows = refl

-- ---- a node that finds no match: the node below it is not tried, and the node beside it is

abbrev chain : List TreeNode
chain = node None (triple 0 (codes "a") 1 1 ∷ []) ∷ node (Some 0) (triple 1 (codes "b") 2 2 ∷ []) ∷ node (Some 1) (triple 2 (codes "c") 3 3 ∷ []) ∷ node (Some 0) (triple 0 (codes "d") 3 4 ∷ []) ∷ []

passed_over : flat_rows_of as_terms 4 (all_matches as_terms 4 (fact (codes "x") (codes "a") (codes "u") ∷ fact (codes "z") (codes "c") (codes "t") ∷ fact (codes "x") (codes "d") (codes "s") ∷ [])) chain ≡
    (Some (codes "x") ∷ Some (codes "u") ∷ None ∷ Some (codes "s") ∷ []) ∷ []
passed_over = refl

-- where the root finds no match there is no row, and a root without triple patterns has the row that binds nothing
no_root : flat_rows_of as_terms 5 (all_matches as_terms 5 []) tree ≡ []
no_root = refl

empty_root : flat_rows_of as_terms 2 (all_matches as_terms 2 []) (node None [] ∷ []) ≡ (None ∷ None ∷ []) ∷ []
empty_root = refl

-- ---- the two triple patterns of the root in order, with lists of one and of two triples

abbrev counts : TriplePat → ℕ
counts pattern = if pattern.number == 1 then 1 else 2

in_order : AreInOrder counts [] (first ∷ second ∷ [])
in_order = (
  record { may = (Contains-head first (second ∷ []), λ other at shares. absurd (Contains-nil shares.0 shares.1)); least = λ other may. least other (Contains-cons_cases first (second ∷ []) other may.0) },
  (
    record {
      may = (Contains-head second [], λ other at shares. subst (λ pattern. (var : ℕ) × Contains (0 ∷ 1 ∷ []) var × Contains (triple_vars pattern) var) (sym (Contains-single second other at)) shares);
      least = λ other may. subst (IsNoLater counts second) (Contains-single second other may.0) (inr (refl, omega arith));
    },
    tt,
  ),
) where
  least : (other : TriplePat) → (first ≡ other) ⊎ Contains (second ∷ []) other → IsNoLater counts first other
  least other (inl is) = subst (IsNoLater counts first) is (inr (refl, omega arith))
  least other (inr later) = subst (IsNoLater counts first) (Contains-single second other later) (inl (omega arith))
