-- The first bad line of a file.
use Rattle.std.proofs.Common.{◌≡◌, ◌≢◌, ◌↔◌, ℕ, suc, ◌+◌, true, false, if◌then◌else◌, List, [], ◌∷◌, ◌++◌, length, All, Some, None, refl, sym, ◌∙◌, ap, arith}
use Rattle.std.proofs.lemmas.List.Elements.{All-nil, All-cons}
use Rattle.nt_read.specs.scanning.Line.{ScannedLine, bad, nothing, spelled, scan_line}
use Rattle.nt_read.specs.scanning.Lines.{lines_of, is_bad, first_bad, first_bad_from}
use Rattle.nt_read.specs.Lines.{IsFirstBadLine}
use Rattle.nt_read.specs.Line.{IsBadLine}
use Rattle.nt_read.proofs.Cuts.{AreLines-lines_of}
use Rattle.nt_read.proofs.LineLaws.{bad_is_read, scanned_is_bad}

-- a line is bad, or it is not
bad_tested : (scanned : ScannedLine) → is_bad scanned ≡ true → scanned ≡ bad
bad_tested bad h = refl
bad_tested nothing h = absurd (cc)
bad_tested (spelled triple) h = absurd (cc)

-- a line that passes the test is not bad
good_tested : (scanned : ScannedLine) → is_bad scanned ≡ false → scanned ≢ bad
good_tested bad h = λ e. absurd (cc)
good_tested nothing h = λ e. absurd (cc)
good_tested (spelled triple) h = λ e. absurd (cc)

-- a line that is not bad passes it
not_bad : (scanned : ScannedLine) → scanned ≢ bad → is_bad scanned ≡ false
not_bad bad h = absurd (h refl)
not_bad nothing h = refl
not_bad (spelled triple) h = refl

-- no line is bad
abbrev pub NoneBad : List (List ℕ) → Type 0
NoneBad lines = All (λ line. scan_line line ≢ bad) lines

-- where no first bad line is found, none is read as bad
none_bad : (n : ℕ) (lines : List (List ℕ)) → first_bad_from n lines ≡ None → NoneBad lines
none_bad n [] h = All-nil (λ line. scan_line line ≢ bad)
none_bad n (line ∷ lines) h =
    elim (is_bad (scan_line line)) as (λ b. is_bad (scan_line line) ≡ b → (if b then Some n else first_bad_from (n + 1) lines) ≡ None → NoneBad (line ∷ lines)) [
      | true ↦ λ _ h. absurd (cc)
      | false ↦ λ good h. All-cons (λ line. scan_line line ≢ bad) line lines (good_tested (scan_line line) good) (none_bad (n + 1) lines h)
    ] refl h

-- where none is read as bad, no first bad line is found
none_found : (n : ℕ) (lines : List (List ℕ)) → NoneBad lines → first_bad_from n lines ≡ None
none_found n [] h = refl
none_found n (line ∷ lines) h =
    let good = not_bad (scan_line line) (h 0 line (omega arith)) in
    rw good (none_found (n + 1) lines (λ k d below. h (suc k) d (omega arith)))

-- where none of the first lines is bad and the next one is, it is the first
first_found : (n : ℕ) (before : List (List ℕ)) (line : List ℕ) (after : List (List ℕ)) → NoneBad before → scan_line line ≡ bad → first_bad_from n (before ++ line ∷ after) ≡ Some (n + length before)
first_found n [] line after good here = rw here (ap Some (omega arith))
first_found n (first ∷ before) line after good here =
    let here_good = not_bad (scan_line first) (good 0 first (omega arith)) in
    let later = first_found (n + 1) before line after (λ k d below. good (suc k) d (omega arith)) here in
    rw here_good (later ∙ ap Some (omega arith))

-- the lines before a first bad one, it, and those after it
pub record Found (n : ℕ) (lines : List (List ℕ)) (number : ℕ) : Type 0 where
  pub before : List (List ℕ)
  pub line : List ℕ
  pub after : List (List ℕ)
  pub cut : lines ≡ before ++ line ∷ after
  pub place : number ≡ n + length before
  pub none_before : NoneBad before
  pub it_is_bad : scan_line line ≡ bad

-- a first bad line after one that is not bad
found_later : (n : ℕ) (first : List ℕ) (lines : List (List ℕ)) (number : ℕ) → scan_line first ≢ bad → Found (n + 1) lines number → Found n (first ∷ lines) number
found_later n first lines number good later = record {
  before = first ∷ later.before;
  line = later.line;
  after = later.after;
  cut = ap (λ rest. first ∷ rest) later.cut;
  place = omega (arith, later.place);
  none_before = All-cons (λ line. scan_line line ≢ bad) first later.before good later.none_before;
  it_is_bad = later.it_is_bad;
}

-- the first bad line that is found is one
pub find_first : (n : ℕ) (lines : List (List ℕ)) (number : ℕ) → first_bad_from n lines ≡ Some number → Found n lines number
find_first n [] number h = absurd (cc)
find_first n (line ∷ lines) number h =
    elim (is_bad (scan_line line)) as (λ b. is_bad (scan_line line) ≡ b → (if b then Some n else first_bad_from (n + 1) lines) ≡ Some number → Found n (line ∷ lines) number) [
      | true ↦ λ is h. let same : n ≡ number = cc in record {
        before = [];
        line = line;
        after = lines;
        cut = refl;
        place = omega (arith, same);
        none_before = All-nil (λ line. scan_line line ≢ bad);
        it_is_bad = bad_tested (scan_line line) is;
      }
      | false ↦ λ good h. found_later n line lines number (good_tested (scan_line line) good) (find_first (n + 1) lines number h)
    ] refl h

-- that no line is read as bad says that none is bad
none_is_bad : (lines : List (List ℕ)) → NoneBad lines → All (λ line. ¬ IsBadLine line) lines
none_is_bad lines none k line below is = none k line below (bad_is_read _ is)

-- that no line is bad says that none is read as bad
none_is_read_bad : (lines : List (List ℕ)) → All (λ line. ¬ IsBadLine line) lines → NoneBad lines
none_is_read_bad lines none k line below e = none k line below (scanned_is_bad _ e)

-- the first bad line is found exactly where it is
pub first_bad-found : (bytes : List ℕ) (n : ℕ) → (first_bad bytes ≡ Some n) ↔ IsFirstBadLine bytes n
unfolding first_bad
first_bad-found bytes n = (
  λ h. let found = find_first 1 (lines_of bytes) n h in record {
    before = found.before;
    line = found.line;
    after = found.after;
    cut = (AreLines-lines_of bytes (found.before ++ found.line ∷ found.after)).1 (sym found.cut);
    number = omega (arith, found.place);
    none_before = none_is_bad found.before found.none_before;
    it_is_bad = scanned_is_bad found.line found.it_is_bad;
  },
  λ is. let cut : is.before ++ is.line ∷ is.after ≡ lines_of bytes = (AreLines-lines_of bytes (is.before ++ is.line ∷ is.after)).0 is.cut in
      rw (← cut) (first_found 1 is.before is.line is.after (none_is_read_bad is.before is.none_before) (bad_is_read is.line is.it_is_bad) ∙ ap Some (omega (arith, is.number))),
)

-- none is found exactly where no line is bad
pub first_bad-none : (bytes : List ℕ) → (first_bad bytes ≡ None) ↔ All (λ line. ¬ IsBadLine line) (lines_of bytes)
unfolding first_bad
first_bad-none bytes = (
  λ h. none_is_bad (lines_of bytes) (none_bad 1 (lines_of bytes) h),
  λ none. none_found 1 (lines_of bytes) (none_is_read_bad (lines_of bytes) none),
)
