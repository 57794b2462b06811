-- A worked example, by computation: the flat rows of a simple tree whose lists are pruned.
use Rattle.std.proofs.Common.{◌≡◌, ℕ, List, [], ◌∷◌, Some, None, codes, refl, if◌then◌else◌}
use Rattle.std.specs.Prelude.{◌==◌}
use Rattle.bm_term.specs.declared.triple.Triple.{Triple}
use Rattle.alg_model.specs.declared.pattern.Place.TheVariants as places
use Rattle.alg_model.specs.declared.pattern.TriplePat.{TriplePat}
use Rattle.alg_model.specs.Eval.{as_terms}
use Rattle.pattern_tree.specs.Solution.{Family}
use Rattle.pattern_tree.specs.Tree.{TreeNode}
use Rattle.multiway_join.specs.FlatRows.{flat_rows_of}

abbrev triple : ℕ → List ℕ → ℕ → ℕ → TriplePat
triple v name w number = record { subject = places.Var (record { 0 = v }); predicate = places.Term name; object = places.Var (record { 0 = w }); number = number }

abbrev fact : List ℕ → List ℕ → List ℕ → Triple
fact subject predicate object = record { subject = subject; predicate = predicate; object = object }

-- ?0 <p> ?1 OPTIONAL { ?1 <q> ?2 . ?2 <r> ?3 }: the child is a chain that shares ?1
abbrev tree : List TreeNode
tree = record { parent = None; patterns = triple 0 (codes "p") 1 1 ∷ [] } ∷ record { parent = Some 0; patterns = triple 1 (codes "q") 2 2 ∷ triple 2 (codes "r") 3 3 ∷ [] } ∷ []

-- `b q d` is left out, since no `d r ..` is there
abbrev left : Family Triple
left pattern =
    if pattern.number == 1 then fact (codes "a") (codes "p") (codes "b") ∷ fact (codes "a") (codes "p") (codes "e") ∷ []
    else if pattern.number == 2 then fact (codes "b") (codes "q") (codes "c") ∷ []
    else fact (codes "c") (codes "r") (codes "f") ∷ []

-- two rows, each once, and neither extends the other
two_rows : flat_rows_of as_terms 4 left tree ≡
    (Some (codes "a") ∷ Some (codes "b") ∷ Some (codes "c") ∷ Some (codes "f") ∷ []) ∷ (Some (codes "a") ∷ Some (codes "e") ∷ None ∷ None ∷ []) ∷ []
two_rows = refl

-- with `b q d` in its list the row of `b` comes twice, and the one extends the other
abbrev unpruned : Family Triple
unpruned pattern = if pattern.number == 2 then fact (codes "b") (codes "q") (codes "c") ∷ fact (codes "b") (codes "q") (codes "d") ∷ [] else left pattern

three_rows : flat_rows_of as_terms 4 unpruned tree ≡
    (Some (codes "a") ∷ Some (codes "b") ∷ Some (codes "c") ∷ Some (codes "f") ∷ []) ∷ (Some (codes "a") ∷ Some (codes "b") ∷ None ∷ None ∷ []) ∷ (Some (codes "a") ∷ Some (codes "e") ∷ None ∷ None ∷ []) ∷ []
three_rows = refl
