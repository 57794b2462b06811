-- Laws of lines and their pairs: they determine each other.
use Rattle.std.proofs.Common.{◌≡◌, ◌≢◌, ℕ, ◌+◌, ◌*◌, ◌^◌, ◌<◌, ◌≤◌, List, [], ◌∷◌, ◌++◌, length, map, refl, sym, ap, ◌∙◌, subst, inl, inr, arith, eq-eqb, length-append}
use Rattle.std.proofs.lemmas.Bool.{cases_eq}
use Rattle.std.proofs.lemmas.Bool.Decides.{nat_tests}
use Rattle.run_rows.specs.Row.{IsRow}
use Rattle.std.proofs.lemmas.List.{length-map}
use Rattle.run_rows.proofs.EncodingLaws.{length-row-le}
use Rattle.cube_slices.specs.Lines.{Line, LinesAscend, AreLines, pairs_of_line, pairs_of}
use Rattle.cube_slices.specs.Pairs.{ComesBefore, PairsAscend, ArePairs, with_pair, lines_of}
use Rattle.cube_slices.proofs.LineLaws.{LinesAscend-lower}

-- a pair of the first line's row joins it
pub with_pair-same : (p : ℕ × ℕ) (l : Line) (ls : List Line) → p.0 ≡ l.row → with_pair p (l ∷ ls) ≡ record { row = p.0; columns = p.1 ∷ l.columns } ∷ ls
with_pair-same p l ls same = rw (eq-eqb p.0 l.row same) refl

-- any other is a line of its own
pub with_pair-apart : (p : ℕ × ℕ) (l : Line) (ls : List Line) → p.0 ≢ l.row → with_pair p (l ∷ ls) ≡ record { row = p.0; columns = p.1 ∷ [] } ∷ l ∷ ls
with_pair-apart p l ls apart = grind (arith, nat_tests)

-- ---- from pairs to lines and back

pairs_of-with_pair : (p : ℕ × ℕ) (ls : List Line) → pairs_of (with_pair p ls) ≡ p ∷ pairs_of ls
pairs_of-with_pair p [] = refl
pairs_of-with_pair p (l ∷ ls) =
    elim (cases_eq p.0 l.row) [
      | inl same ↦ ap pairs_of (with_pair-same p l ls same) ∙ ap (λ (n : ℕ). p ∷ (map {B = ℕ × ℕ} (λ c. (n, c)) l.columns ++ pairs_of ls)) same
      | inr apart ↦ ap pairs_of (with_pair-apart p l ls apart)
    ]

-- the lines of pairs have those pairs
pub pairs_of-lines_of : (ps : List (ℕ × ℕ)) → pairs_of (lines_of ps) ≡ ps
pairs_of-lines_of [] = refl
pairs_of-lines_of (p ∷ ps) = pairs_of-with_pair p (lines_of ps) ∙ ap (λ (qs : List (ℕ × ℕ)). p ∷ qs) (pairs_of-lines_of ps)

-- ---- from lines to pairs and back

-- a pair of a row before the lines
with_pair-before : (low rows columns : ℕ) (p : ℕ × ℕ) (ls : List Line) → p.0 < low → LinesAscend low rows columns ls → with_pair p ls ≡ record { row = p.0; columns = p.1 ∷ [] } ∷ ls
with_pair-before low rows columns p [] before ascend = refl
with_pair-before low rows columns p (l ∷ ls) before ascend = with_pair-apart p l ls (λ same. omega (arith, ascend.0))

-- the pairs of a line, in front of pairs of later lines, make that line
pub lines_of-line : (low rows columns n : ℕ) (xs : List ℕ) (ps : List (ℕ × ℕ)) → 0 < length xs → n < low → LinesAscend low rows columns (lines_of ps) → lines_of (map {B = ℕ × ℕ} (λ c. (n, c)) xs ++ ps) ≡ record { row = n; columns = xs } ∷ lines_of ps
lines_of-line low rows columns n [] ps some before ascend = absurd (omega arith)
lines_of-line low rows columns n (x ∷ []) ps some before ascend = with_pair-before low rows columns (n, x) (lines_of ps) before ascend
lines_of-line low rows columns n (x ∷ y ∷ ys) ps some before ascend =
    ap (with_pair (n, x)) (lines_of-line low rows columns n (y ∷ ys) ps (omega arith) before ascend) ∙ with_pair-same (n, x) (record { row = n; columns = y ∷ ys }) (lines_of ps) refl

-- lines in order are the lines of their pairs
pub lines_of-pairs_of : (low rows columns : ℕ) (ls : List Line) → LinesAscend low rows columns ls → lines_of (pairs_of ls) ≡ ls
lines_of-pairs_of low rows columns [] ascend = refl
lines_of-pairs_of low rows columns (l ∷ ls) ascend =
    let behind = lines_of-pairs_of (l.row + 1) rows columns ls ascend.3 in
    lines_of-line (l.row + 1) rows columns l.row l.columns (pairs_of ls) ascend.2.some (omega arith) (rw behind ascend.3) ∙ ap (λ (qs : List Line). l ∷ qs) behind

-- ---- pairs that ascend

-- the lines of pairs begin with the first of them
pub record BeginWith (p : ℕ × ℕ) (ls : List Line) : Type 0 where
  pub columns : List ℕ
  pub rest : List Line
  pub are : ls ≡ record { row = p.0; columns = p.1 ∷ columns } ∷ rest

pub BeginWith-pair : (p : ℕ × ℕ) (ls : List Line) → BeginWith p (with_pair p ls)
BeginWith-pair p [] = record { columns = []; rest = []; are = refl }
BeginWith-pair p (l ∷ ls) =
    elim (cases_eq p.0 l.row) [
      | inl same ↦ record { columns = l.columns; rest = ls; are = with_pair-same p l ls same }
      | inr apart ↦ record { columns = []; rest = l ∷ ls; are = with_pair-apart p l ls apart }
    ]

LinesAscend-pair : (rows columns : ℕ) (p q : ℕ × ℕ) (ls : List Line) → p.0 < rows → p.1 < columns → ComesBefore p q → BeginWith q ls → LinesAscend q.0 rows columns ls → LinesAscend p.0 rows columns (with_pair p ls)
LinesAscend-pair rows columns p q ls row column before begin ascend =
    let first : Line = record { row = q.0; columns = q.1 ∷ begin.columns } in
    let lines : LinesAscend q.0 rows columns (first ∷ begin.rest) = subst (LinesAscend q.0 rows columns) begin.are ascend in
    let q_row = lines.2 in
    subst (λ (ks : List Line). LinesAscend p.0 rows columns (with_pair p ks)) (sym begin.are) (elim before [
      | inl earlier ↦
          let alone : IsRow columns (p.1 ∷ []) = record { some = omega arith; ascends = (omega arith, column, tt) } in
          rw (with_pair-apart p first begin.rest (λ same. omega arith)) (omega arith, row, alone, (omega arith, lines.1, lines.2, lines.3))
      | inr (same, less) ↦
          let joined : IsRow columns (p.1 ∷ q.1 ∷ begin.columns) = record { some = omega arith; ascends = (omega arith, column, (omega arith, q_row.ascends.1, q_row.ascends.2)) } in
          rw (with_pair-same p first begin.rest same) (omega arith, row, joined, LinesAscend-lower (p.0 + 1) (q.0 + 1) rows columns begin.rest (omega arith) lines.3)
    ])

LinesAscend-lines_of : (rows columns : ℕ) (p : ℕ × ℕ) (ps : List (ℕ × ℕ)) → PairsAscend rows columns (p ∷ ps) → LinesAscend p.0 rows columns (lines_of (p ∷ ps))
LinesAscend-lines_of rows columns p [] ascend =
    let alone : IsRow columns (p.1 ∷ []) = record { some = omega arith; ascends = (omega arith, ascend.1, tt) } in
    (omega arith, ascend.0, alone, tt)
LinesAscend-lines_of rows columns p (q ∷ qs) ascend =
    LinesAscend-pair rows columns p q (lines_of (q ∷ qs)) ascend.0 ascend.1 ascend.2 (BeginWith-pair q (lines_of qs)) (LinesAscend-lines_of rows columns q qs ascend.3)

-- pairs that ascend make lines that ascend
pub AreLines-lines_of : (rows columns : ℕ) (ps : List (ℕ × ℕ)) → ArePairs rows columns ps → AreLines rows columns (lines_of ps)
AreLines-lines_of rows columns [] pairs = absurd (omega (arith, pairs.some))
AreLines-lines_of rows columns (p ∷ ps) pairs =
    let begin = BeginWith-pair p (lines_of ps) in
    record {
      some = rw begin.are (omega arith);
      ascend = LinesAscend-lower 0 p.0 rows columns (lines_of (p ∷ ps)) (omega arith) (LinesAscend-lines_of rows columns p ps pairs.ascend);
    }

-- ---- how many pairs there are

pub length-pairs_of-first : (l : Line) (ls : List Line) → length (pairs_of (l ∷ ls)) ≡ length l.columns + length (pairs_of ls)
length-pairs_of-first l ls = omega (arith, length-append (pairs_of_line l) (pairs_of ls), length-map {B = ℕ × ℕ} l.columns (λ c. (l.row, c)))

-- no more than columns for each line
pub length-pairs_of-le : (low rows columns : ℕ) (ls : List Line) → columns ≤ 2 ^ 32 → LinesAscend low rows columns ls → length (pairs_of ls) ≤ 2 ^ 32 * length ls
length-pairs_of-le low rows columns [] small ascend = omega arith
length-pairs_of-le low rows columns (l ∷ ls) small ascend =
    omega (arith, length-pairs_of-first l ls, length-row-le columns l.columns ascend.2, length-pairs_of-le (l.row + 1) rows columns ls small ascend.3)
