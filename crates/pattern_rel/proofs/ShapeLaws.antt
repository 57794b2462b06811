-- Laws of shapes: that their lines ascend, and what stands beside a number.
use Rattle.std.proofs.Common.{◌≡◌, ◌≢◌, ◌↔◌, ℕ, ◌+◌, ◌-◌, ◌^◌, ◌<◌, ◌≤◌, ◌&&◌, List, [], ◌∷◌, length, drop, Option, Some, None, IsTrue, MatchOption, IfSome, if◌then◌else◌, Bool, true, false, nat_lt, refl, ap, sym, ◌∙◌, subst, inl, inr, arith, lt-ltb, eq-eqb}
use Rattle.std.proofs.lemmas.Bool.{cases_eq, cases_lt, cases_Bool, ne_eqb, both_ways, ltb-true, and_parts, and_from}
use Rattle.std.specs.List.{Contains}
use Rattle.run_rows.specs.Row.{AscendsWithin}
use Rattle.row_lanes.proofs.NumberLaws.{Contains-cons}
use Rattle.cube_slices.specs.Lines.{Line, LinesAscend}
use Rattle.cube_slices.proofs.LineLaws.{LinesAscend-drop}
use Rattle.pattern_rel.specs.Shapes.{lines_of_shape, KnowsColumns, lists, row_lines, column_lines, diagonal_lines, numbers_or_none, row_of, AreTransposed}
use Rattle.pattern_rel.specs.declared.shape.Shape.{Shape}
use Rattle.pattern_rel.specs.declared.shape.Shape.TheVariants.{Pairs}
use Rattle.pattern_rel.specs.steps.Sets.{IsNext, IsNextBoth, IsCandidate}
use Rattle.pattern_rel.specs.steps.Places.{KnowsPlace}
use Rattle.pattern_rel.proofs.LineLaws.{row_of-here, row_of-other, row_of-below, ascend-that, row_of-that_passes, row_of-that_fails, row_of-that_none}

-- ---- membership

pub not_in_none : (n : ℕ) → Contains [] n → ⊥
not_in_none n (k, lt, at) = omega arith

pub some_in : (xs : List ℕ) (n : ℕ) → Contains xs n → 0 < length xs
some_in [] n has = absurd (not_in_none n has)
some_in (x ∷ xs) n has = omega arith

pub lists-contains : (xs : List ℕ) (n : ℕ) → Contains xs n → lists xs n ≡ true
lists-contains [] n has = absurd (not_in_none n has)
lists-contains (x ∷ xs) n has =
    elim (cases_eq x n) [
      | inl same ↦ rw (eq-eqb x n same) refl
      | inr apart ↦
          elim ((Contains-cons x xs n).0 has) [
            | inl same ↦ absurd (apart same)
            | inr later ↦ lists_behind x xs n apart ∙ lists-contains xs n later
          ]
    ]
  where
    lists_behind : (x : ℕ) (xs : List ℕ) (n : ℕ) → x ≢ n → lists (x ∷ xs) n ≡ lists xs n
    lists_behind x xs n apart = rw (ne_eqb x n apart) refl

pub lists-true : (xs : List ℕ) (n : ℕ) → lists xs n ≡ true → Contains xs n
lists-true [] n listed = absurd (both_ways false refl listed)
lists-true (x ∷ xs) n listed =
    elim (cases_eq x n) [
      | inl same ↦ (Contains-cons x xs n).1 (inl same)
      | inr apart ↦ (Contains-cons x xs n).1 (inr (lists-true xs n (rw (ne_eqb x n apart) at listed)))
    ]

pub lists-not : (xs : List ℕ) (n : ℕ) → (Contains xs n → ⊥) → lists xs n ≡ false
lists-not xs n none =
    elim (cases_Bool (lists xs n)) [ inl listed ↦ absurd (none (lists-true xs n listed)) | inr not ↦ not ]

only_zero : (c : ℕ) → Contains (0 ∷ []) c → c ≡ 0
only_zero c has = elim ((Contains-cons 0 [] c).0 has) [ inl is ↦ sym is | inr none ↦ absurd (not_in_none c none) ]

-- ---- one row

pub row_lines-ascend : (low : ℕ) (xs : List ℕ) → AscendsWithin low (2 ^ 32 - 1) xs → LinesAscend low (2 ^ 32 - 1) (2 ^ 32 - 1) (row_lines xs)
row_lines-ascend low [] ascends = tt
row_lines-ascend low (x ∷ xs) ascends =
    (ascends.0, ascends.1, record { some = omega arith; ascends = (omega arith, omega arith, tt) }, row_lines-ascend (x + 1) xs ascends.2)

row_of-row : (xs : List ℕ) (n : ℕ) → row_of n (row_lines xs) ≡ (if lists xs n then 0 ∷ [] else [])
row_of-row [] n = refl
row_of-row (x ∷ xs) n =
    let line : Line = record { row = x; columns = 0 ∷ [] } in
    elim (cases_eq x n) [
      | inl same ↦ row_of-here n line (row_lines xs) same ∙ sym (rw (eq-eqb x n same) refl)
      | inr apart ↦ row_of-other n line (row_lines xs) apart ∙ row_of-row xs n ∙ sym (rw (ne_eqb x n apart) refl)
    ]

pub lists-is : (xs : List ℕ) (n : ℕ) (b : Bool) → IsTrue b ↔ Contains xs n → lists xs n ≡ b
lists-is xs n true is = lists-contains xs n (is.0 refl)
lists-is xs n false is = lists-not xs n (λ has. both_ways false refl (is.1 has))

pub beside_in_row : (xs : List ℕ) (n : ℕ) (b : Bool) → IsTrue b ↔ Contains xs n → (if b then 0 ∷ [] else []) ≡ row_of n (row_lines xs)
beside_in_row xs n b is = sym (row_of-row xs n ∙ ap (λ (t : Bool). if t then 0 ∷ [] else []) (lists-is xs n b is))

pub row_of-row_none : (xs : List ℕ) (n : ℕ) → (Contains xs n → ⊥) → row_of n (row_lines xs) ≡ []
row_of-row_none xs n none = row_of-row xs n ∙ ap (λ (t : Bool). if t then 0 ∷ [] else []) (lists-not xs n none)

pub row_of-row_has : (xs : List ℕ) (n : ℕ) → Contains xs n → row_of n (row_lines xs) ≡ 0 ∷ []
row_of-row_has xs n has = row_of-row xs n ∙ ap (λ (t : Bool). if t then 0 ∷ [] else []) (lists-contains xs n has)

-- nothing but 0 stands beside a number of one row
pub row_zero : (xs : List ℕ) (n c : ℕ) → Contains (row_of n (row_lines xs)) c → c ≡ 0
row_zero xs n c there =
    elim (cases_Bool (lists xs n)) [
      | inl listed ↦ only_zero c (subst (λ (ys : List ℕ). Contains ys c) (row_of-row_has xs n (lists-true xs n listed)) there)
      | inr not ↦ absurd (not_in_none c (subst (λ (ys : List ℕ). Contains ys c) (row_of-row_none xs n (λ has. both_ways (lists xs n) not (lists-contains xs n has))) there))
    ]

pub row_there : (xs : List ℕ) (n c : ℕ) → Contains (row_of n (row_lines xs)) c → Contains xs n
row_there xs n c there =
    elim (cases_Bool (lists xs n)) [
      | inl listed ↦ lists-true xs n listed
      | inr not ↦ absurd (not_in_none c (subst (λ (ys : List ℕ). Contains ys c) (row_of-row_none xs n (λ has. both_ways (lists xs n) not (lists-contains xs n has))) there))
    ]

-- ---- a column

pub column-ascend : (column : ℕ) (ls : List Line) → LinesAscend 0 (2 ^ 32 - 1) (2 ^ 32 - 1) ls → LinesAscend 0 (2 ^ 32 - 1) (2 ^ 32 - 1) (column_lines column ls)
column-ascend column ls ascend = ascend-that (λ l. lists l.columns column) (λ l. 0) 0 (2 ^ 32 - 1) (2 ^ 32 - 1) ls (λ l below passes. omega arith) ascend

pub beside_in_column : (column n : ℕ) (ls : List Line) (b : Bool) → LinesAscend 0 (2 ^ 32 - 1) (2 ^ 32 - 1) ls → IsTrue b ↔ Contains (row_of n ls) column → (if b then 0 ∷ [] else []) ≡ row_of n (column_lines column ls)
beside_in_column column n ls true ascend is =
    let has = is.0 refl in
    sym (row_of-that_passes (λ l. lists l.columns column) (λ l. 0) n 0 (2 ^ 32 - 1) (2 ^ 32 - 1) (record { row = n; columns = row_of n ls }) ls ascend refl refl (some_in (row_of n ls) column has) (lists-contains (row_of n ls) column has))
beside_in_column column n ls false ascend is =
    sym (row_of-that_fails (λ l. lists l.columns column) (λ l. 0) n 0 (2 ^ 32 - 1) (2 ^ 32 - 1) (record { row = n; columns = row_of n ls }) ls ascend refl refl (lists-not (row_of n ls) column (λ has. both_ways false refl (is.1 has))))

-- nothing but 0 stands beside a number of a column
pub column_zero : (column n c : ℕ) (ls : List Line) → Contains (row_of n (column_lines column ls)) c → c ≡ 0
column_zero column n c [] there = absurd (not_in_none c there)
column_zero column n c (l ∷ ls) there =
    let line : Line = record { row = l.row; columns = 0 ∷ [] } in
    elim (cases_Bool (lists l.columns column)) [
      | inl passes ↦
          let whole : Contains (row_of n (line ∷ column_lines column ls)) c = rw passes at there in
          elim (cases_eq l.row n) [
            | inl same ↦ only_zero c (subst (λ (xs : List ℕ). Contains xs c) (row_of-here n line (column_lines column ls) same) whole)
            | inr apart ↦ column_zero column n c ls (subst (λ (xs : List ℕ). Contains xs c) (row_of-other n line (column_lines column ls) apart) whole)
          ]
      | inr fails ↦ column_zero column n c ls (rw fails at there)
    ]

-- ---- the diagonal

pub diagonal-ascend : (shared : ℕ) (ls : List Line) → LinesAscend 0 (2 ^ 32 - 1) (2 ^ 32 - 1) ls → LinesAscend 0 (2 ^ 32 - 1) (2 ^ 32 - 1) (diagonal_lines shared ls)
diagonal-ascend shared ls ascend = ascend-that (λ l. nat_lt l.row shared && lists l.columns l.row) (λ l. l.row) 0 (2 ^ 32 - 1) (2 ^ 32 - 1) ls (λ l below passes. below) ascend

pub beside_itself : (shared n : ℕ) (ls : List Line) (b : Bool) → LinesAscend 0 (2 ^ 32 - 1) (2 ^ 32 - 1) ls → IsTrue b ↔ ((n < shared) × Contains (row_of n ls) n) → (if b then n ∷ [] else []) ≡ row_of n (diagonal_lines shared ls)
beside_itself shared n ls true ascend is =
    let has = is.0 refl in
    sym (row_of-that_passes (λ l. nat_lt l.row shared && lists l.columns l.row) (λ l. l.row) n 0 (2 ^ 32 - 1) (2 ^ 32 - 1) (record { row = n; columns = row_of n ls }) ls ascend refl refl
    (some_in (row_of n ls) n has.1) (and_from (nat_lt n shared) (lists (row_of n ls) n) (lt-ltb n shared has.0) (lists-contains (row_of n ls) n has.1)))
beside_itself shared n ls false ascend is =
    sym (row_of-that_fails (λ l. nat_lt l.row shared && lists l.columns l.row) (λ l. l.row) n 0 (2 ^ 32 - 1) (2 ^ 32 - 1) (record { row = n; columns = row_of n ls }) ls ascend refl refl
    (elim (cases_Bool (nat_lt n shared && lists (row_of n ls) n)) [
      | inl passes ↦
          let both = and_parts (nat_lt n shared) (lists (row_of n ls) n) passes in
          absurd (both_ways false refl (is.1 (ltb-true n shared both.0, lists-true (row_of n ls) n both.1)))
      | inr fails ↦ fails
    ]))

-- the diagonal is its own transpose: what stands beside a number is that number
row_of-diagonal : (shared n c : ℕ) (ls : List Line) → Contains (row_of n (diagonal_lines shared ls)) c → c ≡ n
row_of-diagonal shared n c [] has = absurd (not_in_none c has)
row_of-diagonal shared n c (l ∷ ls) has =
    let line : Line = record { row = l.row; columns = l.row ∷ [] } in
    elim (cases_Bool (nat_lt l.row shared && lists l.columns l.row)) [
      | inl passes ↦
          let whole : Contains (row_of n (line ∷ diagonal_lines shared ls)) c = rw passes at has in
          elim (cases_eq l.row n) [
            | inl same ↦
                let here : Contains (l.row ∷ []) c = subst (λ (xs : List ℕ). Contains xs c) (row_of-here n line (diagonal_lines shared ls) same) whole in
                elim ((Contains-cons l.row [] c).0 here) [ inl is ↦ sym is ∙ same | inr none ↦ absurd (not_in_none c none) ]
            | inr apart ↦ row_of-diagonal shared n c ls (subst (λ (xs : List ℕ). Contains xs c) (row_of-other n line (diagonal_lines shared ls) apart) whole)
          ]
      | inr fails ↦ row_of-diagonal shared n c ls (rw fails at has)
    ]

turned : (shared n c : ℕ) (ls : List Line) → Contains (row_of n (diagonal_lines shared ls)) c → Contains (row_of c (diagonal_lines shared ls)) n
turned shared n c ls has =
    let same = row_of-diagonal shared n c ls has in
    subst (λ (m : ℕ). Contains (row_of m (diagonal_lines shared ls)) n) (sym same) (subst (λ (m : ℕ). Contains (row_of n (diagonal_lines shared ls)) m) same has)

pub AreTransposed-diagonal : (shared : ℕ) (ls : List Line) → AreTransposed (diagonal_lines shared ls) (diagonal_lines shared ls)
AreTransposed-diagonal shared ls n c = (turned shared n c ls, turned shared c n ls)

-- the columns of pairs are the mirror
pub mirrored : (shape : Shape) (rows : List Line) (columns : Option (List Line)) (o : Option Shape) → shape ≡ Pairs rows columns → KnowsColumns shape → MatchOption o (columns ≡ None) (λ s. columns ≡ Some (lines_of_shape s)) → IfSome o (λ t. AreTransposed (lines_of_shape shape) (lines_of_shape t))
mirrored shape rows columns None is knows found = tt
mirrored shape rows columns (Some t) is knows found =
    let same : shape ≡ Pairs rows (Some (lines_of_shape t)) = is ∙ ap (Pairs rows) found in
    let knows_pairs : KnowsColumns (Pairs rows (Some (lines_of_shape t))) = subst KnowsColumns same knows in
    rw same knows_pairs

-- ---- candidates

-- a row that the walk has passed, or that is before the next one, has nothing beside it
pub passed_row : (n from place : ℕ) (l : Line) (ls after : List Line) → LinesAscend 0 (2 ^ 32 - 1) (2 ^ 32 - 1) ls → KnowsPlace from place ls → drop place ls ≡ l ∷ after → from ≤ n → n < l.row → row_of n ls ≡ []
passed_row n from place l ls after ascend known at up before =
    ap numbers_or_none (known.passed n up) ∙ ap (row_of n) at
    ∙ row_of-below n l.row (2 ^ 32 - 1) (2 ^ 32 - 1) (l ∷ after) before (LinesAscend-drop 0 (2 ^ 32 - 1) (2 ^ 32 - 1) place l ls after ascend at).0

pub IsCandidate-next : (from n : ℕ) (words : List ℕ) (ls : List Line) (o : Option ℕ) → ((m : ℕ) → from ≤ m → m < n → row_of m ls ≡ []) → from ≤ n → IsNext n words o → IsCandidate from words ls o
IsCandidate-next from n words ls None none up next = λ m has at.
    elim (cases_lt m n) [ inl before ↦ none m at before | inr later ↦ absurd (let lt = next m has in omega arith) ]
IsCandidate-next from n words ls (Some x) none up next = (
  omega (arith, next.0),
  next.1,
  λ m has at before.
      elim (cases_lt m n) [ inl sooner ↦ none m at sooner | inr later ↦ absurd (let le = next.2 m has later in omega arith) ],
)

pub IsCandidate-column : (column from : ℕ) (words : List ℕ) (ls : List Line) (o : Option ℕ) → LinesAscend 0 (2 ^ 32 - 1) (2 ^ 32 - 1) ls → IsCandidate from words ls o → IsCandidate from words (column_lines column ls) o
IsCandidate-column column from words ls None ascend found = λ m has at. row_of-that_none (λ l. lists l.columns column) (λ l. 0) m 0 (2 ^ 32 - 1) (2 ^ 32 - 1) ls ascend (found m has at)
IsCandidate-column column from words ls (Some x) ascend found =
    (found.0, found.1, λ m has at before. row_of-that_none (λ l. lists l.columns column) (λ l. 0) m 0 (2 ^ 32 - 1) (2 ^ 32 - 1) ls ascend (found.2 m has at before))

pub IsCandidate-diagonal : (shared from : ℕ) (words : List ℕ) (ls : List Line) (o : Option ℕ) → LinesAscend 0 (2 ^ 32 - 1) (2 ^ 32 - 1) ls → IsCandidate from words ls o → IsCandidate from words (diagonal_lines shared ls) o
IsCandidate-diagonal shared from words ls None ascend found = λ m has at. row_of-that_none (λ l. nat_lt l.row shared && lists l.columns l.row) (λ l. l.row) m 0 (2 ^ 32 - 1) (2 ^ 32 - 1) ls ascend (found m has at)
IsCandidate-diagonal shared from words ls (Some x) ascend found =
    (found.0, found.1, λ m has at before. row_of-that_none (λ l. nat_lt l.row shared && lists l.columns l.row) (λ l. l.row) m 0 (2 ^ 32 - 1) (2 ^ 32 - 1) ls ascend (found.2 m has at before))

-- the candidates of a row are its numbers
pub IsCandidate-row : (from : ℕ) (words xs : List ℕ) (o : Option ℕ) → IsNextBoth from words xs o → IsCandidate from words (row_lines xs) o
IsCandidate-row from words xs None next = λ m has at. row_of-row_none xs m (λ there. let lt = next m has there in omega arith)
IsCandidate-row from words xs (Some x) next =
    (next.0, next.1, λ m has at before. row_of-row_none xs m (λ there. let le = next.3 m has there at in omega arith))
