-- Rows, cell by cell.
use Rattle.std.proofs.Common.{◌≡◌, ◌⊎◌, inl, inr, ◌++◌, [], ◌∷◌, length, refl, arith}
use Rattle.std.proofs.lemmas.Grind.{common_steps}
use Rattle.alg_model.specs.Row.{Row, merge}

-- where one row has ended, nothing is left to merge
merge-ended : {V : Type 0} (r s : Row V) → (length r ≡ 0) ⊎ (length s ≡ 0) → merge r s ≡ []
merge-ended [] s h = refl
merge-ended (c ∷ r) [] h = refl
merge-ended (c ∷ r) (d ∷ s) (inl h) = absurd (omega arith)
merge-ended (c ∷ r) (d ∷ s) (inr h) = absurd (omega arith)

-- then what is done is all
pub merge_done : {V : Type 0} (done r s all : Row V) → done ++ merge r s ≡ all → (length r ≡ 0) ⊎ (length s ≡ 0) → done ≡ all
merge_done done r s all h ended = let e = merge-ended r s ended in grind (arith, common_steps)
