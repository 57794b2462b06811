-- Rows that are put in order, or kept once, are rows of the list: what holds of each row holds of them.
use Rattle.std.proofs.Common.{ℕ, Bool, true, false, if◌then◌else◌, List, refl, All, Contains, get_or}
use Rattle.std.proofs.lemmas.List.Elements.{All-contains, Contains-get_or}
use Rattle.std.proofs.lemmas.List.Sorted.{All-permutation}
use Rattle.bm_term.specs.SetOf.{set_of}
use Rattle.bm_term.proofs.Sets.{IsSetOf-set_of}
use Rattle.alg_model.specs.Row.{Row}
use Rattle.alg_model.specs.Answers.{row_cmp, in_order}
use Rattle.alg_model.proofs.InOrder.{in_order-exactly}
use Rattle.alg_model.proofs.RowOrder.{row_cmp-total, row_cmp-exact}

-- in order
All-in_order : (P : Row (List ℕ) → Type 0) (rows : List (Row (List ℕ))) → All P rows → All P (in_order row_cmp rows)
All-in_order P rows all =
    All-permutation P rows (in_order row_cmp rows) ((in_order-exactly row_cmp row_cmp-total row_cmp-exact rows (in_order row_cmp rows)).0 refl).0 all

-- items of a list
All-within : {X : Type 0} (P : X → Type 0) (xs ys : List X) → ((x : X) → Contains ys x → Contains xs x) → All P xs → All P ys
All-within P xs ys within all k d lt = All-contains P xs (get_or ys k d) all (within (get_or ys k d) (Contains-get_or ys k d lt))

-- each once
All-set_of : (P : Row (List ℕ) → Type 0) (rows : List (Row (List ℕ))) → All P rows → All P (set_of row_cmp rows)
All-set_of P rows all =
    let set = (IsSetOf-set_of row_cmp row_cmp-total row_cmp-exact rows (set_of row_cmp rows)).1 refl in
    All-within P rows (set_of row_cmp rows) (λ row. (set.same row).0) all

-- either
pub All-arranged : (P : Row (List ℕ) → Type 0) (distinct : Bool) (rows : List (Row (List ℕ))) → All P rows → All P (if distinct then set_of row_cmp rows else in_order row_cmp rows)
All-arranged P true rows all = All-set_of P rows all
All-arranged P false rows all = All-in_order P rows all
