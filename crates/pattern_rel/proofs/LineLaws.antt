-- Laws of what stands beside a number in lines.
use Rattle.std.proofs.Common.{◌≡◌, ◌≢◌, ℕ, ◌+◌, ◌<◌, List, [], ◌∷◌, length, ap, sym, ◌∙◌, inl, inr, arith, Bool, true, false, refl}
use Rattle.std.proofs.lemmas.Bool.{cases_eq, cases_Bool}
use Rattle.run_rows.specs.Row.{AscendsWithin}
use Rattle.cube_slices.specs.Lines.{Line, LinesAscend}
use Rattle.cube_slices.proofs.LineLaws.{line_of-here, line_of-other, line_of-below, LinesAscend-lower}
use Rattle.pattern_rel.specs.Shapes.{numbers_or_none, row_of, lines_that}

pub row_of-here : (n : ℕ) (l : Line) (ls : List Line) → l.row ≡ n → row_of n (l ∷ ls) ≡ l.columns
row_of-here n l ls same = ap numbers_or_none (line_of-here n l ls same)

pub row_of-other : (n : ℕ) (l : Line) (ls : List Line) → l.row ≢ n → row_of n (l ∷ ls) ≡ row_of n ls
row_of-other n l ls apart = ap numbers_or_none (line_of-other n l ls apart)

-- nothing is beside a number before the first
pub row_of-below : (n low rows columns : ℕ) (ls : List Line) → n < low → LinesAscend low rows columns ls → row_of n ls ≡ []
row_of-below n low rows columns ls below ascend = ap numbers_or_none (line_of-below n low rows columns ls below ascend)

-- what is beside a number ascends
pub row_of-ascends : (n low rows columns : ℕ) (ls : List Line) → LinesAscend low rows columns ls → AscendsWithin 0 columns (row_of n ls)
row_of-ascends n low rows columns [] ascend = tt
row_of-ascends n low rows columns (l ∷ ls) ascend =
    elim (cases_eq l.row n) [
      | inl same ↦ rw (row_of-here n l ls same) ascend.2.ascends
      | inr apart ↦ rw (row_of-other n l ls apart) (row_of-ascends n (l.row + 1) rows columns ls ascend.3)
    ]

-- ---- lines that pass a test

module _ (test : Line → Bool) (number : Line → ℕ) where
  pub ascend-that : (low rows columns : ℕ) (ls : List Line) → ((l : Line) → l.row < rows → test l ≡ true → number l < columns) → LinesAscend low rows columns ls → LinesAscend low rows columns (lines_that test number ls)
  ascend-that low rows columns [] small ascend = tt
  ascend-that low rows columns (l ∷ ls) small ascend =
      let behind = ascend-that (l.row + 1) rows columns ls small ascend.3 in
      elim (cases_Bool (test l)) [
        | inl passes ↦ rw passes (ascend.0, ascend.1, record { some = omega arith; ascends = (omega arith, small l ascend.1 passes, tt) }, behind)
        | inr fails ↦ rw fails (LinesAscend-lower low (l.row + 1) rows columns (lines_that test number ls) (omega (arith, ascend.0)) behind)
      ]

  -- no line of them is before the first
  row_of-that_below : (n low rows columns : ℕ) (ls : List Line) → n < low → LinesAscend low rows columns ls → row_of n (lines_that test number ls) ≡ []
  row_of-that_below n low rows columns [] below ascend = refl
  row_of-that_below n low rows columns (l ∷ ls) below ascend =
      let line : Line = record { row = l.row; columns = number l ∷ [] } in
      let behind = row_of-that_below n (l.row + 1) rows columns ls (omega (arith, ascend.0)) ascend.3 in
      elim (cases_Bool (test l)) [
        | inl passes ↦ rw passes (row_of-other n line (lines_that test number ls) (λ same. omega (arith, ascend.0)) ∙ behind)
        | inr fails ↦ rw fails behind
      ]

  -- a line of another number changes nothing
  row_of-that_other : (n : ℕ) (l : Line) (ls : List Line) → l.row ≢ n → row_of n (lines_that test number (l ∷ ls)) ≡ row_of n (lines_that test number ls)
  row_of-that_other n l ls apart =
      let line : Line = record { row = l.row; columns = number l ∷ [] } in
      elim (cases_Bool (test l)) [
        | inl passes ↦ rw passes (row_of-other n line (lines_that test number ls) apart)
        | inr fails ↦ rw fails refl
      ]

  -- a number whose row passes has one number beside it
  pub row_of-that_passes : (n low rows columns : ℕ) (l : Line) (ls : List Line) → LinesAscend low rows columns ls → l.row ≡ n → l.columns ≡ row_of n ls → 0 < length (row_of n ls) → test l ≡ true → row_of n (lines_that test number ls) ≡ number l ∷ []
  row_of-that_passes n low rows columns l [] ascend is are some passes = absurd (omega arith)
  row_of-that_passes n low rows columns l (k ∷ ks) ascend is are some passes =
      elim (cases_eq k.row n) [
        | inl same ↦
            let one : k ≡ l = λ i. record { row = (same ∙ sym is) i; columns = (sym (row_of-here n k ks same) ∙ sym are) i } in
            let test_k : test k ≡ true = ap test one ∙ passes in
            let line : Line = record { row = k.row; columns = number k ∷ [] } in
            rw test_k (row_of-here n line (lines_that test number ks) same ∙ ap (λ (m : Line). number m ∷ []) one)
        | inr apart ↦
            let skip = row_of-other n k ks apart in
            row_of-that_other n k ks apart ∙ row_of-that_passes n (k.row + 1) rows columns l ks ascend.3 is (are ∙ skip) (rw (← skip) some) passes
      ]

  -- a number whose row fails has nothing beside it
  pub row_of-that_fails : (n low rows columns : ℕ) (l : Line) (ls : List Line) → LinesAscend low rows columns ls → l.row ≡ n → l.columns ≡ row_of n ls → test l ≡ false → row_of n (lines_that test number ls) ≡ []
  row_of-that_fails n low rows columns l [] ascend is are fails = refl
  row_of-that_fails n low rows columns l (k ∷ ks) ascend is are fails =
      elim (cases_eq k.row n) [
        | inl same ↦
            let one : k ≡ l = λ i. record { row = (same ∙ sym is) i; columns = (sym (row_of-here n k ks same) ∙ sym are) i } in
            let test_k : test k ≡ false = ap test one ∙ fails in
            rw test_k (row_of-that_below n (k.row + 1) rows columns ks (omega arith) ascend.3)
        | inr apart ↦
            row_of-that_other n k ks apart ∙ row_of-that_fails n (k.row + 1) rows columns l ks ascend.3 is (are ∙ row_of-other n k ks apart) fails
      ]

  -- a number without a row has nothing beside it
  pub row_of-that_none : (n low rows columns : ℕ) (ls : List Line) → LinesAscend low rows columns ls → row_of n ls ≡ [] → row_of n (lines_that test number ls) ≡ []
  row_of-that_none n low rows columns [] ascend none = refl
  row_of-that_none n low rows columns (k ∷ ks) ascend none =
      elim (cases_eq k.row n) [
        | inl same ↦
            let empty : length k.columns ≡ 0 = ap length (sym (row_of-here n k ks same) ∙ none) in
            absurd (omega (arith, ascend.2.some))
        | inr apart ↦
            row_of-that_other n k ks apart ∙ row_of-that_none n (k.row + 1) rows columns ks ascend.3 (sym (row_of-other n k ks apart) ∙ none)
      ]
