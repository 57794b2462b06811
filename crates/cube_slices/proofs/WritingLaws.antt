-- Laws of writing: the pairs of a row in front of others, and what is out with what is left.
use Rattle.std.proofs.Common.{◌≡◌, ◌≢◌, ℕ, suc, ◌+◌, ◌-◌, ◌*◌, ◌^◌, ◌<◌, ◌≤◌, List, [], ◌∷◌, ◌++◌, length, get_or, map, take, drop, refl, sym, ap, ◌∙◌, subst, inl, inr, arith, add-one, eq-eqb, append_assoc, length-append}
use Rattle.std.proofs.lemmas.Bool.{cases_eq}
use Rattle.std.proofs.lemmas.Bool.Decides.{nat_tests}
use Rattle.std.proofs.lemmas.List.{append-nil}
use Rattle.std.specs.List.{flat_map}
use Rattle.byte_tables.specs.Pairs.{pair_bytes}
use Rattle.byte_tables.proofs.WritingLaws.{BeginsWith-same, BeginsWith-appended, BeginsWith-then}
use Rattle.run_rows.specs.declared.form.RowForm.{RowForm}
use Rattle.run_rows.specs.Row.{IsRow}
use Rattle.run_rows.specs.Encoding.{row_bytes}
use Rattle.run_rows.proofs.EncodingLaws.{length-row_bytes-le}
use Rattle.cube_slices.specs.Lines.{Line, LinesAscend, pairs_of}
use Rattle.cube_slices.specs.Pairs.{ArePairs, with_pair, lines_of}
use Rattle.cube_slices.specs.Slices.{bytes_of_lines, entries_of, slice_bytes, EncodesLines}
use Rattle.cube_slices.specs.steps.Writing.{line_length, columns_of, IsListing, IsFilling}
use Rattle.cube_slices.proofs.LineLaws.{LinesAscend-lower}
use Rattle.cube_slices.proofs.PairLaws.{with_pair-same, with_pair-apart, BeginWith-pair, pairs_of-lines_of, length-pairs_of-first, AreLines-lines_of}

-- ---- the pairs of a row in front

-- the first of the pairs, if there is one, is of another row
abbrev pub BeginApart : ℕ → List (ℕ × ℕ) → Type 0
BeginApart n [] = Unit {0}
BeginApart n (q ∷ qs) = q.0 ≢ n

lines_of-alone : (n x : ℕ) (ps : List (ℕ × ℕ)) → BeginApart n ps → with_pair (n, x) (lines_of ps) ≡ record { row = n; columns = x ∷ [] } ∷ lines_of ps
lines_of-alone n x [] apart = refl
lines_of-alone n x (q ∷ qs) apart =
    let begin = BeginWith-pair q (lines_of qs) in
    let first : Line = record { row = q.0; columns = q.1 ∷ begin.columns } in
    rw begin.are (with_pair-apart (n, x) first begin.rest (λ same. apart (sym same)))

-- pairs of one row, in front of pairs of another, are a line
lines_of-front : (n : ℕ) (xs : List ℕ) (ps : List (ℕ × ℕ)) → 0 < length xs → BeginApart n ps → lines_of (map {B = ℕ × ℕ} (λ c. (n, c)) xs ++ ps) ≡ record { row = n; columns = xs } ∷ lines_of ps
lines_of-front n [] ps some apart = absurd (omega arith)
lines_of-front n (x ∷ []) ps some apart = lines_of-alone n x ps apart
lines_of-front n (x ∷ y ∷ ys) ps some apart =
    ap (with_pair (n, x)) (lines_of-front n (y ∷ ys) ps (omega arith) apart) ∙ with_pair-same (n, x) (record { row = n; columns = y ∷ ys }) (lines_of ps) refl

-- one pair more of the row, or none
pub line_length-more : (n : ℕ) (p : ℕ × ℕ) (ps : List (ℕ × ℕ)) → p.0 ≡ n → line_length n (p ∷ ps) ≡ line_length n ps + 1
line_length-more n p ps same = rw (eq-eqb p.0 n same) refl

pub line_length-done : (n : ℕ) (p : ℕ × ℕ) (ps : List (ℕ × ℕ)) → p.0 ≢ n → line_length n (p ∷ ps) ≡ 0
line_length-done n p ps apart = grind (arith, nat_tests)

-- the pairs of the row are in front, and another row begins behind them
record IsFront (n k : ℕ) (ps : List (ℕ × ℕ)) : Type 0 where
  within : k ≤ length ps
  front : ps ≡ map {B = ℕ × ℕ} (λ c. (n, c)) (columns_of (take k ps)) ++ drop k ps
  apart : BeginApart n (drop k ps)

IsFront-line : (n : ℕ) (ps : List (ℕ × ℕ)) → IsFront n (line_length n ps) ps
IsFront-line n [] = record { within = omega arith; front = refl; apart = tt }
IsFront-line n (p ∷ ps) =
    elim (cases_eq p.0 n) [
      | inl same ↦
          let there = IsFront-line n ps in
          let k = line_length n ps in
          let more : line_length n (p ∷ ps) ≡ suc k = line_length-more n p ps same ∙ add-one k in
          let pair : p ≡ (n, p.1) = λ i. (same i, p.1) in
          subst (λ (j : ℕ). IsFront n j (p ∷ ps)) (sym more) (record {
            within = omega (arith, there.within);
            front = λ i. pair i ∷ there.front i;
            apart = there.apart;
          })
      | inr differs ↦ subst (λ (j : ℕ). IsFront n j (p ∷ ps)) (sym (line_length-done n p ps differs)) (record { within = omega arith; front = refl; apart = differs })
    ]

pub line_length-le : (n : ℕ) (ps : List (ℕ × ℕ)) → line_length n ps ≤ length ps
line_length-le n ps = (IsFront-line n ps).within

some-columns : (n : ℕ) (p : ℕ × ℕ) (ps : List (ℕ × ℕ)) → p.0 ≡ n → 0 < length (columns_of (take (line_length n (p ∷ ps)) (p ∷ ps)))
some-columns n p ps same = rw (line_length-more n p ps same, add-one (line_length n ps)) (omega arith)

-- the front of the pairs is the first line
pub lines_of-split : (n k : ℕ) (p : ℕ × ℕ) (ps : List (ℕ × ℕ)) → p.0 ≡ n → k ≡ line_length n (p ∷ ps) → lines_of (p ∷ ps) ≡ record { row = n; columns = columns_of (take k (p ∷ ps)) } ∷ lines_of (drop k (p ∷ ps))
lines_of-split n k p ps same k-is =
    let there = IsFront-line n (p ∷ ps) in
    rw k-is (ap lines_of there.front ∙ lines_of-front n _ (drop (line_length n (p ∷ ps)) (p ∷ ps)) (some-columns n p ps same) there.apart)

-- the same, from the first of the pairs
pub lines_of-first_row : (n k : ℕ) (ps : List (ℕ × ℕ)) (d : ℕ × ℕ) → 0 < length ps → n ≡ (get_or ps 0 d).0 → k ≡ line_length n ps → lines_of ps ≡ record { row = n; columns = columns_of (take k ps) } ∷ lines_of (drop k ps)
lines_of-first_row n k [] d some first k-is = absurd (omega arith)
lines_of-first_row n k (p ∷ ps) d some first k-is = lines_of-split n k p ps (sym first) k-is

pub line_length-some : (n : ℕ) (p : ℕ × ℕ) (ps : List (ℕ × ℕ)) → p.0 ≡ n → 0 < line_length n (p ∷ ps)
line_length-some n p ps same = omega (arith, line_length-more n p ps same)

-- ---- how long it all is

-- no more lines than pairs
length-with_pair : (p : ℕ × ℕ) (ls : List Line) → length (with_pair p ls) ≤ length ls + 1
length-with_pair p [] = omega arith
length-with_pair p (l ∷ ls) =
    elim (cases_eq p.0 l.row) [
      | inl same ↦ rw (with_pair-same p l ls same) (omega arith)
      | inr apart ↦ rw (with_pair-apart p l ls apart) (omega arith)
    ]

pub length-lines_of-le : (ps : List (ℕ × ℕ)) → length (lines_of ps) ≤ length ps
length-lines_of-le [] = omega arith
length-lines_of-le (p ∷ ps) = omega (arith, length-with_pair p (lines_of ps), length-lines_of-le ps)

-- at most eight bytes a pair
pub length-bytes_of_lines-le : (form : RowForm) (ls : List Line) → length (bytes_of_lines form ls) ≤ 8 * length (pairs_of ls)
length-bytes_of_lines-le form [] = omega arith
length-bytes_of_lines-le form (l ∷ ls) =
    omega (arith, length-append (row_bytes form l.columns) (bytes_of_lines form ls), length-row_bytes-le form l.columns, length-pairs_of-first l ls, length-bytes_of_lines-le form ls)

pub short_rows : (form : RowForm) (ps : List (ℕ × ℕ)) → length ps ≤ 2 ^ 23 → length (bytes_of_lines form (lines_of ps)) < 2 ^ 32
short_rows form ps few = omega (arith, length-bytes_of_lines-le form (lines_of ps), ap length (pairs_of-lines_of ps))

-- what is written is a slice
pub EncodesLines-pairs : (form : RowForm) (ps : List (ℕ × ℕ)) → length ps ≤ 2 ^ 23 → ArePairs (2 ^ 32 - 1) (2 ^ 32 - 1) ps → EncodesLines form (2 ^ 32 - 1) (2 ^ 32 - 1) (slice_bytes form (lines_of ps)) (lines_of ps)
EncodesLines-pairs form ps few pairs =
    record { lines = AreLines-lines_of (2 ^ 32 - 1) (2 ^ 32 - 1) ps pairs; short = short_rows form ps few; spelled = refl }

-- ---- the entries

pub IsListing-start : (form : RowForm) (before : List ℕ) (ps : List (ℕ × ℕ)) → ArePairs (2 ^ 32 - 1) (2 ^ 32 - 1) ps → IsListing form (lines_of ps) before before 0 (lines_of ps)
IsListing-start form before ps pairs =
    record { written = refl; ends = omega arith; ascend = (AreLines-lines_of (2 ^ 32 - 1) (2 ^ 32 - 1) ps pairs).ascend; kept = BeginsWith-same before }

-- the first line that is left is a row, and its bytes are among those of all
pub record FirstLeft (form : RowForm) (columns : List ℕ) (end total : ℕ) : Type 0 where
  pub row : IsRow (2 ^ 32 - 1) columns
  pub within : end + length (row_bytes form columns) ≤ total

pub IsListing-first : (form : RowForm) (all : List Line) (before out : List ℕ) (end row : ℕ) (columns : List ℕ) (left rest : List Line) → left ≡ record { row = row; columns = columns } ∷ rest → IsListing form all before out end left → FirstLeft form columns end (length (bytes_of_lines form all))
IsListing-first form all before out end row columns left rest split listing =
    let ascend = subst (LinesAscend 0 (2 ^ 32 - 1) (2 ^ 32 - 1)) split listing.ascend in
    record { row = ascend.2; within = omega (arith, listing.ends, ap (λ (ls : List Line). length (bytes_of_lines form ls)) split, length-append (row_bytes form columns) (bytes_of_lines form rest)) }

pub IsListing-next : (form : RowForm) (all : List Line) (before out new : List ℕ) (end next row : ℕ) (columns : List ℕ) (left rest : List Line) → left ≡ record { row = row; columns = columns } ∷ rest → next ≡ end + length (row_bytes form columns) → new ≡ out ++ pair_bytes (row, next) → IsListing form all before out end left → IsListing form all before new next rest
IsListing-next form all before out new end next row columns left rest split next-is new-is listing =
    let ascend = subst (LinesAscend 0 (2 ^ 32 - 1) (2 ^ 32 - 1)) split listing.ascend in
    let entries : entries_of form end left ≡ (row, next) ∷ entries_of form next rest =
    ap (entries_of form end) split ∙ ap (λ (n : ℕ). (row, n) ∷ entries_of form n rest) (sym next-is) in
    record {
      written = ap (λ (bs : List ℕ). bs ++ flat_map pair_bytes (entries_of form next rest)) new-is ∙ append_assoc out (pair_bytes (row, next)) (flat_map pair_bytes (entries_of form next rest)) ∙ ap (λ (es : List (ℕ × ℕ)). out ++ flat_map pair_bytes es) (sym entries) ∙ listing.written;
      ends = omega (arith, listing.ends, ap (λ (ls : List Line). length (bytes_of_lines form ls)) split, length-append (row_bytes form columns) (bytes_of_lines form rest));
      ascend = LinesAscend-lower 0 (row + 1) (2 ^ 32 - 1) (2 ^ 32 - 1) rest (omega arith) ascend.3;
      kept = BeginsWith-then before out new listing.kept (BeginsWith-appended out new (pair_bytes (row, next)) new-is);
    }

pub IsListing-end : (form : RowForm) (all : List Line) (before out : List ℕ) (end : ℕ) (ps : List (ℕ × ℕ)) → ps ≡ [] → IsListing form all before out end (lines_of ps) → out ≡ before ++ flat_map pair_bytes (entries_of form 0 all)
IsListing-end form all before out end ps none listing =
    let listed = subst (λ (qs : List (ℕ × ℕ)). out ++ flat_map pair_bytes (entries_of form end (lines_of qs)) ≡ before ++ flat_map pair_bytes (entries_of form 0 all)) none listing.written in
    sym (append-nil out) ∙ listed

-- ---- the rows

pub IsFilling-start : (form : RowForm) (before : List ℕ) (ps : List (ℕ × ℕ)) → ArePairs (2 ^ 32 - 1) (2 ^ 32 - 1) ps → IsFilling form (lines_of ps) before before (lines_of ps)
IsFilling-start form before ps pairs =
    record { written = refl; ascend = (AreLines-lines_of (2 ^ 32 - 1) (2 ^ 32 - 1) ps pairs).ascend; kept = BeginsWith-same before }

pub IsFilling-row : (form : RowForm) (all : List Line) (before out : List ℕ) (row : ℕ) (columns : List ℕ) (left rest : List Line) → left ≡ record { row = row; columns = columns } ∷ rest → IsFilling form all before out left → IsRow (2 ^ 32 - 1) columns
IsFilling-row form all before out row columns left rest split filling =
    (subst (LinesAscend 0 (2 ^ 32 - 1) (2 ^ 32 - 1)) split filling.ascend).2

pub IsFilling-next : (form : RowForm) (all : List Line) (before out new : List ℕ) (row : ℕ) (columns : List ℕ) (left rest : List Line) → left ≡ record { row = row; columns = columns } ∷ rest → new ≡ out ++ row_bytes form columns → IsFilling form all before out left → IsFilling form all before new rest
IsFilling-next form all before out new row columns left rest split new-is filling =
    let ascend = subst (LinesAscend 0 (2 ^ 32 - 1) (2 ^ 32 - 1)) split filling.ascend in
    record {
      written = ap (λ (bs : List ℕ). bs ++ bytes_of_lines form rest) new-is ∙ append_assoc out (row_bytes form columns) (bytes_of_lines form rest) ∙ ap (λ (ls : List Line). out ++ bytes_of_lines form ls) (sym split) ∙ filling.written;
      ascend = LinesAscend-lower 0 (row + 1) (2 ^ 32 - 1) (2 ^ 32 - 1) rest (omega arith) ascend.3;
      kept = BeginsWith-then before out new filling.kept (BeginsWith-appended out new (row_bytes form columns) new-is);
    }

pub IsFilling-end : (form : RowForm) (all : List Line) (before out : List ℕ) (ps : List (ℕ × ℕ)) → ps ≡ [] → IsFilling form all before out (lines_of ps) → out ≡ before ++ bytes_of_lines form all
IsFilling-end form all before out ps none filling =
    let filled = subst (λ (qs : List (ℕ × ℕ)). out ++ bytes_of_lines form (lines_of qs) ≡ before ++ bytes_of_lines form all) none filling.written in
    sym (append-nil out) ∙ filled

pub ruleset slices_of_pairs = (EncodesLines-pairs, pairs_of-lines_of)
