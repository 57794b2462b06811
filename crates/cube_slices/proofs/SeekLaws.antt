-- Laws of the search for a row, and of the line in a place.
use Rattle.std.proofs.Common.{◌≡◌, ◌≢◌, ℕ, zero, suc, ◌+◌, ◌-◌, ◌^◌, ◌<◌, ◌≤◌, List, [], ◌∷◌, length, take, drop, Some, None, refl, ap, ◌∙◌, subst, add-one, arith}
use Rattle.std.proofs.lemmas.List.{length-drop, drop-drop, drop_all}
use Rattle.run_rows.specs.declared.form.RowForm.{RowForm}
use Rattle.run_rows.specs.Encoding.{row_numbers, IsEncoding}
use Rattle.cube_slices.specs.Lines.{Line, LinesAscend, line_of, IsPassed}
use Rattle.cube_slices.specs.Slices.{lines_at, AreEntries}
use Rattle.byte_tables.specs.Pairs.{pairs_in}
use Rattle.cube_slices.specs.steps.Shown.{start_at, lines_shown, ShowsLines}
use Rattle.cube_slices.specs.steps.Seeks.{StartsAt, Seeks, RowAt}
use Rattle.cube_slices.proofs.LineLaws.{line_of-other, line_of-here, line_of-below, LinesAscend-drop}

-- ---- the line in a place

-- the line in place i has the bytes between two ends
pub record LineAt (form : RowForm) (columns i from start : ℕ) (e : ℕ × ℕ) (bytes : List ℕ) (ls : List Line) : Type 0 where
  pub after : from ≤ start
  pub up : start < e.1
  pub within : e.1 ≤ from + length bytes
  pub row : IsEncoding form columns (take (e.1 - start) (drop (start - from) bytes))
  pub line : drop i ls ≡ record { row = e.0; columns = row_numbers form (take (e.1 - start) (drop (start - from) bytes)) } ∷ drop (i + 1) ls

pub LineAt-entry : (form : RowForm) (rows columns low from i : ℕ) (e : ℕ × ℕ) (es after : List (ℕ × ℕ)) (bytes : List ℕ) → AreEntries form rows columns low from es bytes → drop i es ≡ e ∷ after → LineAt form columns i from (start_at from i es) e bytes (lines_at form from es bytes)
LineAt-entry form rows columns low from zero e [] after bytes are at = absurd cc
LineAt-entry form rows columns low from zero e (q ∷ qs) after bytes are at =
    let same : q ≡ e = cc in
    let none : from - from ≡ 0 = omega arith in
    subst (λ (p : ℕ × ℕ). LineAt form columns 0 from from p bytes (lines_at form from (q ∷ qs) bytes)) same (record {
      after = omega arith;
      up = are.2;
      within = are.3;
      row = rw none are.4;
      line = rw none refl;
    })
LineAt-entry form rows columns low from (suc i) e [] after bytes are at = absurd cc
LineAt-entry form rows columns low from (suc i) e (q ∷ qs) after bytes are at =
    let rest = drop (q.1 - from) bytes in
    let up = are.2 in
    let within = are.3 in
    let there = LineAt-entry form rows columns (q.0 + 1) q.1 i e qs after rest are.5 at in
    let start = start_at q.1 i qs in
    let start_after = there.after in
    let steps : q.1 - from + (start - q.1) ≡ start - from = omega arith in
    let same : drop (start - q.1) rest ≡ drop (start - from) bytes = drop-drop (start - q.1) (q.1 - from) bytes ∙ ap (λ (n : ℕ). drop n bytes) steps in
    record {
      after = omega arith;
      up = there.up;
      within = omega (arith, there.within, length-drop (q.1 - from) bytes);
      row = subst (λ (bs : List ℕ). IsEncoding form columns (take (e.1 - start) bs)) same there.row;
      line = there.line ∙ ap (λ (bs : List ℕ). record { row = e.0; columns = row_numbers form (take (e.1 - start) bs) } ∷ drop (i + 1) (lines_at form q.1 qs rest)) same ∙ simp add-one;
    }

-- the end of the entry before is the start
start_after : (from i : ℕ) (e : ℕ × ℕ) (es after : List (ℕ × ℕ)) → drop i es ≡ e ∷ after → start_at from (suc i) es ≡ e.1
start_after from zero e [] after at = absurd cc
start_after from zero e (q ∷ qs) after at = let same : q ≡ e = cc in ap (λ (p : ℕ × ℕ). p.1) same
start_after from (suc i) e [] after at = absurd cc
start_after from (suc i) e (q ∷ qs) after at = start_after q.1 i e qs after at

pub start_at-before : (from i j : ℕ) (e : ℕ × ℕ) (es after : List (ℕ × ℕ)) → i ≡ j + 1 → drop j es ≡ e ∷ after → start_at from i es ≡ e.1
start_at-before from i j e es after next at =
    let same : i ≡ suc j = omega arith in
    ap (λ (k : ℕ). start_at from k es) same ∙ start_after from j e es after at

-- ---- the search

-- a line before row n is passed with all lines before it
passed_line : (low rows columns n i : ℕ) (l : Line) (ls after : List Line) → LinesAscend low rows columns ls → drop i ls ≡ l ∷ after → l.row < n → IsPassed n (suc i) ls
passed_line low rows columns n zero l [] after ascend at before m from = absurd cc
passed_line low rows columns n zero l (q ∷ qs) after ascend at before m from =
    let same : q ≡ l = cc in
    let row : q.row ≡ l.row = ap (λ (k : Line). k.row) same in
    line_of-other m q qs (λ is. omega arith)
passed_line low rows columns n (suc i) l [] after ascend at before m from = absurd cc
passed_line low rows columns n (suc i) l (q ∷ qs) after ascend at before m from =
    let later = (LinesAscend-drop (q.row + 1) rows columns i l qs after ascend.3 at).1 in
    line_of-other m q qs (λ is. omega arith) ∙ passed_line (q.row + 1) rows columns n i l qs after ascend.3 at before m from

pub IsPassed-line : (low rows columns n i : ℕ) (l : Line) (ls after : List Line) → LinesAscend low rows columns ls → drop i ls ≡ l ∷ after → l.row < n → IsPassed n (i + 1) ls
IsPassed-line low rows columns n i l ls after ascend at before m from =
    rw add-one (passed_line low rows columns n i l ls after ascend at before m from)

pub Seeks-whole : (n high : ℕ) (ls : List Line) (low : ℕ) → low ≤ high → high ≡ length ls → IsPassed n low ls → Seeks n ls low high
Seeks-whole n high ls low up all passed =
    record { ordered = up; within = omega arith; passed = passed; behind = rw (drop_all high ls (omega arith)) tt }

pub Seeks-upper : (rows columns n low high middle : ℕ) (l : Line) (ls : List Line) → LinesAscend 0 rows columns ls → middle < high → drop middle ls ≡ l ∷ drop (middle + 1) ls → l.row < n → Seeks n ls low high → Seeks n ls (middle + 1) high
Seeks-upper rows columns n low high middle l ls ascend below at before seeks =
    record { ordered = omega arith; within = seeks.within; passed = IsPassed-line 0 rows columns n middle l ls (drop (middle + 1) ls) ascend at before; behind = seeks.behind }

pub Seeks-lower : (n low high middle : ℕ) (l : Line) (ls after : List Line) → low ≤ middle → middle ≤ high → drop middle ls ≡ l ∷ after → n ≤ l.row → Seeks n ls low high → Seeks n ls low middle
Seeks-lower n low high middle l ls after up below at from seeks =
    let within = seeks.within in
    record { ordered = up; within = omega arith; passed = seeks.passed; behind = rw at from }

-- before the first place nothing is
pub IsPassed-start : (n : ℕ) (ls : List Line) → IsPassed n 0 ls
IsPassed-start n ls m from = refl

-- what is passed for a row is passed for later rows
pub IsPassed-later : (n m place : ℕ) (ls : List Line) → n ≤ m → IsPassed n place ls → IsPassed m place ls
IsPassed-later n m place ls up passed k from = passed k (omega arith)

-- the row stands in the place, or nowhere
pub found_here : (n place : ℕ) (l : Line) (ls after : List Line) → Seeks n ls place place → drop place ls ≡ l ∷ after → l.row ≡ n → line_of n ls ≡ Some l.columns
found_here n place l ls after seeks at same = seeks.passed n (omega arith) ∙ ap (line_of n) at ∙ line_of-here n l after same

pub found_none : (rows columns n place : ℕ) (l : Line) (ls after : List Line) → LinesAscend 0 rows columns ls → Seeks n ls place place → drop place ls ≡ l ∷ after → l.row ≢ n → line_of n ls ≡ None
found_none rows columns n place l ls after ascend seeks at apart =
    let starts : n ≤ l.row = subst (StartsAt n) at seeks.behind in
    seeks.passed n (omega arith) ∙ ap (line_of n) at ∙ line_of-below n l.row rows columns (l ∷ after) (omega arith) (LinesAscend-drop 0 rows columns place l ls after ascend at).0

pub found_past : (n place : ℕ) (ls : List Line) → Seeks n ls place place → length ls ≤ place → line_of n ls ≡ None
found_past n place ls seeks past = seeks.passed n (omega arith) ∙ ap (line_of n) (drop_all place ls past)

-- ---- the lines of a slice that is read

-- the row number of the line in place i
pub RowAt-entry : (form : RowForm) (i : ℕ) (e : ℕ × ℕ) (entries bytes : List ℕ) → ShowsLines form entries bytes → drop i (pairs_in entries) ≡ e ∷ drop (i + 1) (pairs_in entries) → RowAt i e.0 (lines_shown form entries bytes)
RowAt-entry form i e entries bytes shown at =
    let there = LineAt-entry form (2 ^ 32 - 1) (2 ^ 32 - 1) 0 0 i e (pairs_in entries) (drop (i + 1) (pairs_in entries)) bytes shown.are at in
    record {
      line = record { row = e.0; columns = row_numbers form (take (e.1 - start_at 0 i (pairs_in entries)) (drop (start_at 0 i (pairs_in entries) - 0) bytes)) };
      is = refl;
      at = there.line;
    }

-- the line in place i, from its entry and where the one before ends
pub record LineShown (form : RowForm) (i start : ℕ) (e : ℕ × ℕ) (bytes : List ℕ) (ls : List Line) : Type 0 where
  pub up : start ≤ e.1
  pub within : e.1 ≤ length bytes
  pub row : IsEncoding form (2 ^ 32 - 1) (take (e.1 - start) (drop start bytes))
  pub line : drop i ls ≡ record { row = e.0; columns = row_numbers form (take (e.1 - start) (drop start bytes)) } ∷ drop (i + 1) ls

pub LineShown-entry : (form : RowForm) (i start : ℕ) (e : ℕ × ℕ) (entries bytes : List ℕ) → ShowsLines form entries bytes → drop i (pairs_in entries) ≡ e ∷ drop (i + 1) (pairs_in entries) → start ≡ start_at 0 i (pairs_in entries) → LineShown form i start e bytes (lines_shown form entries bytes)
LineShown-entry form i start e entries bytes shown at start-is =
    let es = pairs_in entries in
    let there = LineAt-entry form (2 ^ 32 - 1) (2 ^ 32 - 1) 0 0 i e es (drop (i + 1) es) bytes shown.are at in
    let whole : start_at 0 i es - 0 ≡ start_at 0 i es = omega arith in
    rw start-is (record {
      up = omega (arith, there.up);
      within = omega (arith, there.within);
      row = rw whole at there.row;
      line = rw whole at there.line;
    })
