-- Laws of loops over the slices of a family: what holds of all slices holds of the first, and of those that are left.
use Rattle.std.proofs.Common.{◌≡◌, ◌↔◌, ℕ, zero, suc, ◌+◌, min, List, [], ◌∷◌, Some, length, get_or, drop, map, Contains, refl, sym, ap, ◌∙◌, subst, arith, length-append}
use Rattle.std.proofs.lemmas.List.{length-map, drop-map}
use Rattle.std.specs.List.{flat_map}
use Rattle.cube_slices.specs.Lines.{Line, line_of, pairs_of}
use Rattle.cube_slices.specs.Slices.{slice_lines, IsSlice}
use Rattle.run_rows.specs.declared.form.RowForm.{RowForm}
use Rattle.index_file.specs.Conditions.{AreSlices}
use Rattle.index_file.specs.Families.{triple_at, triples_from}
use Rattle.index_file.specs.Image.{slice_pairs}
use Rattle.index_file.specs.declared.family.Family.{Family}
use Rattle.index_file.specs.declared.family.Family.TheVariants.{So, Os, Ps, Po}
use Rattle.index_file.specs.steps.Rows.{LinesMatch, RowsMatch, ColumnsStand, LinesStand, PairsStand}

-- ---- a test of a list, item by item

-- it goes on where the first item passes
pub goes_on : {A B C D : Type 0} → A ↔ B → B ↔ (C × D) → C → A ↔ D
goes_on all step first = (λ a. (step.0 (all.0 a)).1, λ rest. all.1 (step.1 (first, rest)))

-- and fails where the first item does not
pub fails : {A B C D : Type 0} → A ↔ B → B ↔ (C × D) → (C → ⊥) → A → ⊥
fails all step not a = not (step.0 (all.0 a)).0

-- what holds of each of the four holds of a family
pub each_family : (P : Family → Type 0) → P So → P Os → P Ps → P Po → (f : Family) → P f
each_family P so os ps po So = so
each_family P so os ps po Os = os
each_family P so os ps po Ps = ps
each_family P so os ps po Po = po

-- ---- the first of what is left

pub AreSlices-first : (form : RowForm) (rows columns : ℕ) (left : List (List ℕ)) (s : List ℕ) (ss : List (List ℕ)) → left ≡ s ∷ ss → AreSlices form rows columns left ↔ (IsSlice form rows columns s × AreSlices form rows columns ss)
AreSlices-first form rows columns left s ss is =
    subst (λ xs. AreSlices form rows columns xs ↔ (IsSlice form rows columns s × AreSlices form rows columns ss)) (sym is) (λ are. are, λ are. are)

pub RowsMatch-first : (n : ℕ) (others left : List (List Line)) (ls : List Line) (lss : List (List Line)) → left ≡ ls ∷ lss → RowsMatch n others left ↔ (LinesMatch n others ls × RowsMatch (n + 1) others lss)
RowsMatch-first n others left ls lss is =
    subst (λ xs. RowsMatch n others xs ↔ (LinesMatch n others ls × RowsMatch (n + 1) others lss)) (sym is) (λ are. are, λ are. are)

pub LinesMatch-first : (n : ℕ) (others : List (List Line)) (left : List Line) (l : Line) (ls : List Line) → left ≡ l ∷ ls → LinesMatch n others left ↔ ((line_of n (get_or others l.row []) ≡ Some l.columns) × LinesMatch n others ls)
LinesMatch-first n others left l ls is =
    subst (λ xs. LinesMatch n others xs ↔ ((line_of n (get_or others l.row []) ≡ Some l.columns) × LinesMatch n others ls)) (sym is) (λ are. are, λ are. are)

pub PairsStand-first : (n : ℕ) (others left : List (List Line)) (ls : List Line) (lss : List (List Line)) → left ≡ ls ∷ lss → PairsStand n others left ↔ (LinesStand n others ls × PairsStand (n + 1) others lss)
PairsStand-first n others left ls lss is =
    subst (λ xs. PairsStand n others xs ↔ (LinesStand n others ls × PairsStand (n + 1) others lss)) (sym is) (λ are. are, λ are. are)

pub LinesStand-first : (n : ℕ) (others : List (List Line)) (left : List Line) (l : Line) (ls : List Line) → left ≡ l ∷ ls → LinesStand n others left ↔ (ColumnsStand n l.row others l.columns × LinesStand n others ls)
LinesStand-first n others left l ls is =
    subst (λ xs. LinesStand n others xs ↔ (ColumnsStand n l.row others l.columns × LinesStand n others ls)) (sym is) (λ are. are, λ are. are)

pub ColumnsStand-first : (n r : ℕ) (others : List (List Line)) (left : List ℕ) (c : ℕ) (cs : List ℕ) → left ≡ c ∷ cs → ColumnsStand n r others left ↔ (Contains (pairs_of (get_or others c [])) (n, r) × ColumnsStand n r others cs)
ColumnsStand-first n r others left c cs is =
    subst (λ xs. ColumnsStand n r others xs ↔ (Contains (pairs_of (get_or others c [])) (n, r) × ColumnsStand n r others cs)) (sym is) (λ are. are, λ are. are)

-- ---- one of the slices

-- the slice in a place is one
pub AreSlices-at : (form : RowForm) (rows columns i : ℕ) (s : List ℕ) (after ss : List (List ℕ)) → AreSlices form rows columns ss → drop i ss ≡ s ∷ after → IsSlice form rows columns s
AreSlices-at form rows columns i s after [] slices at = absurd (none i at)
  where
    none : (i : ℕ) → drop i [] ≡ s ∷ after → ⊥
    none zero is = cc
    none (suc i) is = cc
AreSlices-at form rows columns zero s after (t ∷ ts) slices at =
    let same : t ≡ s = cc in
    subst (IsSlice form rows columns) same slices.0
AreSlices-at form rows columns (suc i) s after (t ∷ ts) slices at = AreSlices-at form rows columns i s after ts slices.1 at

-- its lines are those in its place
pub lines_there : (form : RowForm) (i : ℕ) (s : List ℕ) (ss : List (List ℕ)) (ls : List Line) → drop i ss ≡ s ∷ drop (i + 1) ss → ls ≡ slice_lines form s → drop i (map (slice_lines form) ss) ≡ ls ∷ drop (i + 1) (map (slice_lines form) ss)
lines_there form i s ss ls at is =
    let f = slice_lines form in
    drop-map f i ss ∙ ap (map f) at ∙ (λ j. (sym is) j ∷ (sym (drop-map f (i + 1) ss)) j)

-- ---- counting

-- how many triples there are does not hang on the family
pub length-triples_from : (f : Family) (n : ℕ) (form : RowForm) (ss : List (List ℕ)) → length (triples_from f n (map (slice_pairs form) ss)) ≡ length (flat_map (slice_pairs form) ss)
length-triples_from f n form [] = refl
length-triples_from f n form (s ∷ ss) =
    let ps = slice_pairs form s in
    omega (arith, length-append (map (triple_at f n) ps) (triples_from f (n + 1) (map (slice_pairs form) ss)), length-map ps (triple_at f n), length-append ps (flat_map (slice_pairs form) ss), length-triples_from f (n + 1) form ss)

-- a sum that stops at a limit goes on by the pairs of the first slice
pub counts_on : (form : RowForm) (limit total pairs : ℕ) (left : List (List ℕ)) (s : List ℕ) (ss : List (List ℕ)) → left ≡ s ∷ ss → pairs ≡ length (slice_pairs form s)
    → min (min (total + pairs) limit + length (flat_map (slice_pairs form) ss)) limit ≡ min (total + length (flat_map (slice_pairs form) left)) limit
counts_on form limit total pairs left s ss is counted =
    let all = ap (λ xs. length (flat_map (slice_pairs form) xs)) is in
    omega (arith, all, length-append (slice_pairs form s) (flat_map (slice_pairs form) ss))
