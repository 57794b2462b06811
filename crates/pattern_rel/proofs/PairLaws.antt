-- Laws of the pairs of lines, and of those that two sets leave.
use Rattle.std.proofs.Common.{◌≡◌, ◌↔◌, ◌⊎◌, ℕ, zero, suc, ◌+◌, ◌<◌, ◌&&◌, List, [], ◌∷◌, ◌++◌, length, get_or, map, filter, Bool, true, refl, ap, sym, ◌∙◌, subst, inl, inr, arith, eq-eqb}
use Rattle.std.proofs.lemmas.Bool.{cases_eq, cases_Bool, both_ways, and_parts, and_from, eqb-true}
use Rattle.std.proofs.lemmas.List.{length-map, get_or-map}
use Rattle.std.proofs.lemmas.List.Elements.{Contains-append_left, Contains-append_right, Contains-append_cases}
use Rattle.std.specs.List.{Contains}
use Rattle.run_rows.specs.Row.{AscendsWithin}
use Rattle.row_lanes.specs.Words.{bit_of, Has, Meets}
use Rattle.cube_slices.specs.Lines.{Line, LinesAscend, pairs_of_line, pairs_of}
use Rattle.cube_slices.specs.Pairs.{ComesBefore, ComesFirst, PairsAscend}
use Rattle.pattern_rel.specs.declared.side.Side.TheVariants.{First, Second}
use Rattle.pattern_rel.specs.Shapes.{row_of, AreTransposed}
use Rattle.pattern_rel.specs.Left.{is_in, is_left, left_in, IsAtSide}
use Rattle.pattern_rel.specs.steps.Sets.{IsBeside}
use Rattle.pattern_rel.proofs.LineLaws.{row_of-here, row_of-other, row_of-below}
use Rattle.pattern_rel.proofs.ShapeLaws.{not_in_none}

-- one equivalence after another
pub iff_then : {A B C : Type 0} → A ↔ B → B ↔ C → A ↔ C
iff_then first second = (λ h. second.0 (first.0 h), λ h. first.1 (second.1 h))

-- ---- membership

module _ {X : Type 0} where
  front_or : (x : X) (xs : List X) (y : X) (k : ℕ) → k < length (x ∷ xs) → get_or (x ∷ xs) k y ≡ y → (x ≡ y) ⊎ Contains xs y
  front_or x xs y zero lt at = inl at
  front_or x xs y (suc k) lt at = inr (k, omega arith, at)

  pub Contains-front : (x : X) (xs : List X) (y : X) → Contains (x ∷ xs) y ↔ ((x ≡ y) ⊎ Contains xs y)
  Contains-front x xs y =
      (λ (k, lt, at). front_or x xs y k lt at, λ h. elim h [ inl same ↦ (0, omega arith, same) | inr (k, lt, at) ↦ (suc k, omega arith, at) ])

  pub none_there : (y : X) → Contains [] y → ⊥
  none_there y (k, lt, at) = omega arith

  pub Contains-filter : (test : X → Bool) (xs : List X) (y : X) → Contains (filter test xs) y ↔ (Contains xs y × (test y ≡ true))
  Contains-filter test [] y = (λ h. absurd (none_there y h), λ h. absurd (none_there y h.0))
  Contains-filter test (x ∷ xs) y =
      let rest = Contains-filter test xs y in
      let whole = Contains-front x xs y in
      let kept = Contains-front x (filter test xs) y in
      elim (cases_Bool (test x)) [
        | inl passes ↦ rw passes (
          λ h. elim (kept.0 h) [ inl same ↦ (whole.1 (inl same), ap test (sym same) ∙ passes) | inr later ↦ (let r = rest.0 later in (whole.1 (inr r.0), r.1)) ],
          λ h. kept.1 (elim (whole.0 h.0) [ inl same ↦ inl same | inr later ↦ inr (rest.1 (later, h.1)) ]),
        )
        | inr fails ↦ rw fails (
          λ h. (let r = rest.0 h in (whole.1 (inr r.0), r.1)),
          λ h. elim (whole.0 h.0) [ inl same ↦ absurd (both_ways (test x) fails (ap test same ∙ h.1)) | inr later ↦ rest.1 (later, h.1) ],
        )
      ]

  -- one filter does what two do
  pub filter_both : (p q r : X → Bool) → ((x : X) → r x ≡ (q x && p x)) → (xs : List X) → filter r xs ≡ filter p (filter q xs)
  filter_both p q r same [] = refl
  filter_both p q r same (x ∷ xs) =
      let rest = filter_both p q r same xs in
      elim (cases_Bool (q x)) [
        | inl passes ↦ elim (cases_Bool (p x)) [
          | inl also ↦ rw (same x, passes, also) (ap (λ (ys : List X). x ∷ ys) rest)
          | inr fails ↦ rw (same x, passes, fails) rest
        ]
        | inr fails ↦ rw (same x, fails) rest
      ]

-- ---- the pairs of lines

pub Contains-line : (l : Line) (n c : ℕ) → Contains (pairs_of_line l) (n, c) ↔ ((n ≡ l.row) × Contains l.columns c)
Contains-line l n c =
    let pair : ℕ → ℕ × ℕ = λ x. (l.row, x) in
    let long = length-map {B = ℕ × ℕ} l.columns pair in (
      λ (k, lt, at). (
          let within : k < length l.columns = omega arith in
          let is : (l.row, get_or l.columns k c) ≡ (n, c) = sym (get_or-map pair l.columns k c (n, c) within) ∙ at in
          (sym (ap (λ (p : ℕ × ℕ). p.0) is), (k, within, ap (λ (p : ℕ × ℕ). p.1) is))),
      λ h. (let there = h.1 in (there.0, omega (arith, there.1), get_or-map pair l.columns there.0 c (n, c) there.1 ∙ (λ i. (sym h.0 i, there.2 i)))),
    )

pub Contains-pairs_of : (low rows columns : ℕ) (ls : List Line) (n c : ℕ) → LinesAscend low rows columns ls → Contains (pairs_of ls) (n, c) ↔ Contains (row_of n ls) c
Contains-pairs_of low rows columns [] n c ascend = (λ h. absurd (none_there (n, c) h), λ h. absurd (not_in_none c h))
Contains-pairs_of low rows columns (l ∷ ls) n c ascend =
    let rest = Contains-pairs_of (l.row + 1) rows columns ls n c ascend.3 in
    let line = Contains-line l n c in
    elim (cases_eq l.row n) [
      | inl same ↦ rw (row_of-here n l ls same) (
        λ h. elim (Contains-append_cases (pairs_of_line l) (pairs_of ls) (n, c) h) [
          | inl front ↦ (line.0 front).1
          | inr back ↦ absurd (not_in_none c (subst (λ (xs : List ℕ). Contains xs c) (row_of-below n (l.row + 1) rows columns ls (omega arith) ascend.3) (rest.0 back)))
        ],
        λ h. Contains-append_left (pairs_of_line l) (pairs_of ls) (n, c) (line.1 (sym same, h)),
      )
      | inr apart ↦ rw (row_of-other n l ls apart) (
        λ h. elim (Contains-append_cases (pairs_of_line l) (pairs_of ls) (n, c) h) [
          | inl front ↦ absurd (apart (sym (line.0 front).0))
          | inr back ↦ rest.0 back
        ],
        λ h. Contains-append_right (pairs_of_line l) (pairs_of ls) (n, c) (rest.1 h),
      )
    ]

-- ---- the pairs that are left

pub is_in-has : (words : List ℕ) (n : ℕ) → (is_in words n ≡ true) ↔ Has words n
is_in-has words n = (λ h. eqb-true (bit_of words n) 1 h, λ h. eq-eqb (bit_of words n) 1 h)

pub Contains-left : (rows columns : ℕ) (firsts seconds : List ℕ) (ls : List Line) (n c : ℕ) → LinesAscend 0 rows columns ls → Contains (left_in firsts seconds ls) (n, c) ↔ (Has firsts n × Has seconds c × Contains (row_of n ls) c)
Contains-left rows columns firsts seconds ls n c ascend =
    let kept = Contains-filter (is_left firsts seconds) (pairs_of ls) (n, c) in
    let there = Contains-pairs_of 0 rows columns ls n c ascend in (
      λ h. (let k = kept.0 h in let both = and_parts (is_in firsts n) (is_in seconds c) k.1 in ((is_in-has firsts n).0 both.0, (is_in-has seconds c).0 both.1, there.0 k.0)),
      λ h. kept.1 (there.1 h.2, and_from (is_in firsts n) (is_in seconds c) ((is_in-has firsts n).1 h.0) ((is_in-has seconds c).1 h.1)),
    )

pub first_left : (rows columns : ℕ) (firsts seconds : List ℕ) (ls : List Line) → LinesAscend 0 rows columns ls → (n : ℕ) → (Has firsts n × Meets seconds (row_of n ls)) ↔ IsAtSide First (left_in firsts seconds ls) n
first_left rows columns firsts seconds ls ascend n = (
  λ (has, (c, there, met)). (c, (Contains-left rows columns firsts seconds ls n c ascend).1 (has, met, there)),
  λ (c, left). (let h = (Contains-left rows columns firsts seconds ls n c ascend).0 left in (h.0, (c, h.2, h.1))),
)

pub second_left : (rows columns : ℕ) (firsts seconds : List ℕ) (ls : List Line) → LinesAscend 0 rows columns ls → (c : ℕ) → (Has seconds c × IsBeside firsts ls c) ↔ IsAtSide Second (left_in firsts seconds ls) c
second_left rows columns firsts seconds ls ascend c = (
  λ (met, (n, has, there)). (n, (Contains-left rows columns firsts seconds ls n c ascend).1 (has, met, there)),
  λ (n, left). (let h = (Contains-left rows columns firsts seconds ls n c ascend).0 left in (h.1, (n, h.0, h.2))),
)

-- by the transpose
pub turned_left : (rows columns : ℕ) (firsts seconds : List ℕ) (ls ms : List Line) → LinesAscend 0 rows columns ls → AreTransposed ls ms → (c : ℕ) → (Has seconds c × Meets firsts (row_of c ms)) ↔ IsAtSide Second (left_in firsts seconds ls) c
turned_left rows columns firsts seconds ls ms ascend turned c =
    let second = second_left rows columns firsts seconds ls ascend c in (
      λ (met, (n, there, has)). second.0 (met, (n, has, (turned n c).1 there)),
      λ h. (let s = second.1 h in (s.0, (s.1.0, (turned s.1.0 c).0 s.1.2, s.1.1))),
    )

-- ---- they ascend

-- the first of the pairs, if there is one, has a first number past n
abbrev pub BeginPast : ℕ → List (ℕ × ℕ) → Type 0
BeginPast n [] = Unit {0}
BeginPast n (q ∷ qs) = n < q.0

comes_first : (n x : ℕ) (ps : List (ℕ × ℕ)) → BeginPast n ps → ComesFirst (n, x) ps
comes_first n x [] past = tt
comes_first n x (q ∷ qs) past = inl past

begin_past_line : (n m : ℕ) (xs : List ℕ) (ps : List (ℕ × ℕ)) → n < m → 0 < length xs → BeginPast n (map {B = ℕ × ℕ} (λ c. (m, c)) xs ++ ps)
begin_past_line n m [] ps past some = absurd (omega arith)
begin_past_line n m (x ∷ xs) ps past some = past

begin_past : (n low rows columns : ℕ) (ls : List Line) → n < low → LinesAscend low rows columns ls → BeginPast n (pairs_of ls)
begin_past n low rows columns [] past ascend = tt
begin_past n low rows columns (l ∷ ls) past ascend = begin_past_line n l.row l.columns (pairs_of ls) (omega (arith, ascend.0)) ascend.2.some

pub ascend_line : (n low rows columns : ℕ) (xs : List ℕ) (ps : List (ℕ × ℕ)) → n < rows → AscendsWithin low columns xs → BeginPast n ps → PairsAscend rows columns ps → PairsAscend rows columns (map {B = ℕ × ℕ} (λ c. (n, c)) xs ++ ps)
ascend_line n low rows columns [] ps row ascends past pairs = pairs
ascend_line n low rows columns (x ∷ []) ps row ascends past pairs = (row, ascends.1, comes_first n x ps past, pairs)
ascend_line n low rows columns (x ∷ y ∷ ys) ps row ascends past pairs =
    (row, ascends.1, inr (refl, omega (arith, ascends.2.0)), ascend_line n (x + 1) rows columns (y ∷ ys) ps row ascends.2 past pairs)

pub PairsAscend-lines : (low rows columns : ℕ) (ls : List Line) → LinesAscend low rows columns ls → PairsAscend rows columns (pairs_of ls)
PairsAscend-lines low rows columns [] ascend = tt
PairsAscend-lines low rows columns (l ∷ ls) ascend =
    ascend_line l.row 0 rows columns l.columns (pairs_of ls) ascend.1 ascend.2.ascends (begin_past l.row (l.row + 1) rows columns ls (omega arith) ascend.3) (PairsAscend-lines (l.row + 1) rows columns ls ascend.3)

before_then : (p q r : ℕ × ℕ) → ComesBefore p q → ComesBefore q r → ComesBefore p r
before_then p q r first second =
    elim first [
      | inl up ↦ elim second [ inl up_too ↦ inl (omega arith) | inr (same, less) ↦ inl (omega arith) ]
      | inr (same, less) ↦ elim second [ inl up ↦ inl (omega arith) | inr (same_too, less_too) ↦ inr (same ∙ same_too, omega arith) ]
    ]

-- a pair comes before those behind the next one
pub skip_second : (rows columns : ℕ) (p q : ℕ × ℕ) (qs : List (ℕ × ℕ)) → PairsAscend rows columns (p ∷ q ∷ qs) → PairsAscend rows columns (p ∷ qs)
skip_second rows columns p q [] ascend = (ascend.0, ascend.1, tt, tt)
skip_second rows columns p q (r ∷ rs) ascend = (ascend.0, ascend.1, before_then p q r ascend.2 ascend.3.2, ascend.3.3)

first_kept : (rows columns : ℕ) (test : ℕ × ℕ → Bool) (p : ℕ × ℕ) (ps : List (ℕ × ℕ)) → PairsAscend rows columns (p ∷ ps) → ComesFirst p (filter test ps)
first_kept rows columns test p [] ascend = tt
first_kept rows columns test p (q ∷ qs) ascend =
    elim (cases_Bool (test q)) [
      | inl passes ↦ rw passes ascend.2
      | inr fails ↦ rw fails (first_kept rows columns test p qs (skip_second rows columns p q qs ascend))
    ]

-- what is left of pairs that ascend does so
pub PairsAscend-filter : (rows columns : ℕ) (test : ℕ × ℕ → Bool) (ps : List (ℕ × ℕ)) → PairsAscend rows columns ps → PairsAscend rows columns (filter test ps)
PairsAscend-filter rows columns test [] ascend = tt
PairsAscend-filter rows columns test (p ∷ ps) ascend =
    let rest = PairsAscend-filter rows columns test ps ascend.3 in
    elim (cases_Bool (test p)) [
      | inl passes ↦ rw passes (ascend.0, ascend.1, first_kept rows columns test p ps ascend, rest)
      | inr fails ↦ rw fails rest
    ]

pub PairsAscend-left : (rows columns : ℕ) (firsts seconds : List ℕ) (ls : List Line) → LinesAscend 0 rows columns ls → PairsAscend rows columns (left_in firsts seconds ls)
PairsAscend-left rows columns firsts seconds ls ascend =
    PairsAscend-filter rows columns (is_left firsts seconds) (pairs_of ls) (PairsAscend-lines 0 rows columns ls ascend)
