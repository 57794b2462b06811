-- The order in which rows come does not matter to the arranged rows.
use Rattle.std.proofs.Common.{◌≡◌, ℕ, Bool, true, false, List, map, Contains, IsPermutation, IsSorted, refl, sym}
use Rattle.std.proofs.lemmas.List.Sorted.{IsPermutation-map, IsPermutation-trans, IsPermutation-sym, Contains-permutation}
use Rattle.bm_term.specs.SetOf.{set_of}
use Rattle.bm_term.proofs.Sets.{IsSetOf-set_of, one_set}
use Rattle.alg_model.specs.declared.var.Var.{Var}
use Rattle.alg_model.specs.Row.{Row}
use Rattle.alg_model.specs.Answers.{row_cmp, in_order, project, arranged}
use Rattle.alg_model.proofs.InOrder.{in_order-is, in_order-exactly}
use Rattle.alg_model.proofs.RowOrder.{row_cmp-total, row_cmp-exact}

abbrev Rows : Type 0
Rows = List (Row (List ℕ))

in_order-moved : (xs ys : Rows) → IsPermutation xs ys → in_order row_cmp xs ≡ in_order row_cmp ys
in_order-moved xs ys moved =
    let zs = in_order row_cmp ys in
    let is = (in_order-exactly row_cmp row_cmp-total row_cmp-exact ys zs).0 refl in
    sym (in_order-is row_cmp row_cmp-total row_cmp-exact xs zs (IsPermutation-trans xs ys zs moved is.0) is.1)

set_of-moved : (xs ys : Rows) → IsPermutation xs ys → set_of row_cmp xs ≡ set_of row_cmp ys
set_of-moved xs ys moved =
    let zs = set_of row_cmp ys in
    let is = (IsSetOf-set_of row_cmp row_cmp-total row_cmp-exact ys zs).1 refl in
    let back = IsPermutation-sym xs ys moved in
    sym (one_set row_cmp row_cmp-total row_cmp-exact xs zs (record {
      ascends = is.ascends;
      same = λ row. (λ at. Contains-permutation ys xs row back ((is.same row).0 at), λ at. (is.same row).1 (Contains-permutation xs ys row moved at));
    }))

-- the arranged rows of a list are those of the list in another order
pub arranged-moved : (columns : List Var) (distinct : Bool) (xs ys : Rows) → IsPermutation xs ys → arranged columns distinct xs ≡ arranged columns distinct ys
arranged-moved columns true xs ys moved = set_of-moved (map (project columns) xs) (map (project columns) ys) (IsPermutation-map (project columns) xs ys moved)
arranged-moved columns false xs ys moved = in_order-moved (map (project columns) xs) (map (project columns) ys) (IsPermutation-map (project columns) xs ys moved)
