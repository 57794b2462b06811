-- Laws of lines in order.
use Rattle.std.proofs.Common.{◌≡◌, ◌≢◌, ℕ, zero, suc, ◌+◌, ◌-◌, ◌<◌, ◌≤◌, List, [], ◌∷◌, length, drop, Some, None, refl, ◌∙◌, subst, arith}
use Rattle.std.proofs.lemmas.Bool.Decides.{nat_tests}
use Rattle.run_rows.proofs.RowLaws.{IsRow-wider}
use Rattle.cube_slices.specs.Lines.{Line, LinesAscend, AreLines, line_of}

-- lines that ascend from some row ascend from any row before it
pub LinesAscend-lower : (low mid rows columns : ℕ) (ls : List Line) → low ≤ mid → LinesAscend mid rows columns ls → LinesAscend low rows columns ls
LinesAscend-lower low mid rows columns [] at_mid ascend = tt
LinesAscend-lower low mid rows columns (l ∷ ls) at_mid ascend = (omega arith, ascend.1, ascend.2, ascend.3)

-- lines of so many rows and columns are lines of more
pub LinesAscend-wider : (low rows columns tall wide : ℕ) (ls : List Line) → rows ≤ tall → columns ≤ wide → LinesAscend low rows columns ls → LinesAscend low tall wide ls
LinesAscend-wider low rows columns tall wide [] taller wider ascend = tt
LinesAscend-wider low rows columns tall wide (l ∷ ls) taller wider ascend =
    (ascend.0, omega arith, IsRow-wider columns wide l.columns wider ascend.2, LinesAscend-wider (l.row + 1) rows columns tall wide ls taller wider ascend.3)

pub AreLines-wider : (rows columns tall wide : ℕ) (ls : List Line) → rows ≤ tall → columns ≤ wide → AreLines rows columns ls → AreLines tall wide ls
AreLines-wider rows columns tall wide ls taller wider lines =
    record { some = lines.some; ascend = LinesAscend-wider 0 rows columns tall wide ls taller wider lines.ascend }

-- there are no more lines than rows
pub length-lines-le : (low rows columns : ℕ) (ls : List Line) → LinesAscend low rows columns ls → length ls ≤ rows - low
length-lines-le low rows columns [] ascend = omega arith
length-lines-le low rows columns (l ∷ ls) ascend = omega (arith, length-lines-le (l.row + 1) rows columns ls ascend.3)

-- ---- one row

-- a line of another row is passed over, and one of the row is found
pub line_of-other : (n : ℕ) (l : Line) (ls : List Line) → l.row ≢ n → line_of n (l ∷ ls) ≡ line_of n ls
line_of-other n l ls apart = grind (arith, nat_tests)

pub line_of-here : (n : ℕ) (l : Line) (ls : List Line) → l.row ≡ n → line_of n (l ∷ ls) ≡ Some l.columns
line_of-here n l ls same = grind (arith, nat_tests)

-- no line is before the first
pub line_of-below : (n low rows columns : ℕ) (ls : List Line) → n < low → LinesAscend low rows columns ls → line_of n ls ≡ None
line_of-below n low rows columns [] below ascend = refl
line_of-below n low rows columns (l ∷ ls) below ascend =
    line_of-other n l ls (λ same. omega (arith, ascend.0)) ∙ line_of-below n (l.row + 1) rows columns ls (omega (arith, ascend.0)) ascend.3

-- the lines from some place on ascend from the first of them
pub LinesAscend-drop : (low rows columns i : ℕ) (l : Line) (ls after : List Line) → LinesAscend low rows columns ls → drop i ls ≡ l ∷ after → LinesAscend l.row rows columns (l ∷ after) × (low ≤ l.row)
LinesAscend-drop low rows columns zero l ls after ascend at =
    let here : LinesAscend low rows columns (l ∷ after) = subst (LinesAscend low rows columns) at ascend in
    ((omega arith, here.1, here.2, here.3), here.0)
LinesAscend-drop low rows columns (suc i) l [] after ascend at = absurd cc
LinesAscend-drop low rows columns (suc i) l (q ∷ qs) after ascend at =
    let there = LinesAscend-drop (q.row + 1) rows columns i l qs after ascend.3 at in
    (there.0, omega (arith, there.1, ascend.0))
