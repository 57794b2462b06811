-- Laws of the pairs left, as lists: they ascend, so their members determine them.
use Rattle.std.proofs.Common.{◌≡◌, ◌↔◌, ◌⊎◌, ℕ, ◌+◌, ◌-◌, ◌*◌, ◌^◌, ◌<◌, ◌≤◌, ◌&&◌, min, List, [], ◌∷◌, ◌++◌, length, filter, Option, Some, None, IfSome, IfNone, Bool, true, false, cond, nat_le, refl, ap, sym, ◌∙◌, subst, inl, inr, arith, length-append}
use Rattle.std.proofs.lemmas.Bool.{cases_eq, cases_lt, cases_Bool, and_parts, and_from, and_left, le-leb, lt-leb, leb-true, ltb-true, lt-ltb, eq-eqb, ne_eqb}
use Rattle.std.proofs.lemmas.List.{length-map}
use Rattle.std.proofs.lemmas.List.Elements.{All-contains, Contains-append_left, Contains-append_right, Contains-append_cases, filter_agree}
use Rattle.std.specs.List.{Contains}
use Rattle.run_rows.specs.Row.{AscendsWithin}
use Rattle.run_rows.proofs.RowLaws.{AscendsWithin-lower, All-ascending}
use Rattle.row_lanes.specs.Words.{Has, Meets}
use Rattle.row_lanes.proofs.NumberLaws.{Contains-cons}
use Rattle.cube_slices.specs.Lines.{Line, LinesAscend}
use Rattle.cube_slices.specs.Pairs.{ComesBefore, PairsAscend}
use Rattle.pattern_rel.specs.declared.walk.Opened.{Opened}
use Rattle.pattern_rel.specs.Shapes.{row_of}
use Rattle.pattern_rel.specs.Left.{is_in, left_in}
use Rattle.pattern_rel.specs.Bounds.{comes_after}
use Rattle.pattern_rel.specs.steps.Sets.{IsNextBoth, IsCandidate, NoneBetween, partner_numbers}
use Rattle.pattern_rel.specs.steps.Walks.{those_in, those_from, beside, left_from, open_row, open_left}
use Rattle.pattern_rel.specs.steps.Opened.{IsOpened}
use Rattle.pattern_rel.specs.steps.Places.{KnowsPlace}
use Rattle.pattern_rel.proofs.PlaceLaws.{KnowsPlace-later}
use Rattle.pattern_rel.proofs.LineLaws.{row_of-ascends, row_of-other}
use Rattle.pattern_rel.proofs.SetLaws.{Has-within}
use Rattle.pattern_rel.proofs.ShapeLaws.{not_in_none}
use Rattle.pattern_rel.proofs.PairLaws.{none_there, Contains-front, Contains-filter, Contains-line, Contains-left, is_in-has, BeginPast, ascend_line, PairsAscend-left, PairsAscend-filter, skip_second}

-- ---- lists of pairs that ascend

-- each pair behind the first comes after it
pub behind_first : (rows columns : ℕ) (p : ℕ × ℕ) (ps : List (ℕ × ℕ)) (q : ℕ × ℕ) → PairsAscend rows columns (p ∷ ps) → Contains ps q → ComesBefore p q
behind_first rows columns p [] q ascend there = absurd (none_there q there)
behind_first rows columns p (r ∷ rs) q ascend there =
    elim ((Contains-front {X = ℕ × ℕ} r rs q).0 there) [
      | inl same ↦ subst (ComesBefore p) same ascend.2
      | inr later ↦ behind_first rows columns p rs q (skip_second rows columns p r rs ascend) later
    ]

never_both : (p q : ℕ × ℕ) → ComesBefore p q → ComesBefore q p → ⊥
never_both p q there back =
    elim there [
      | inl up ↦ elim back [ inl down ↦ omega arith | inr (same, less) ↦ omega arith ]
      | inr (same, less) ↦ elim back [ inl down ↦ omega arith | inr (same_too, more) ↦ omega arith ]
    ]

never_itself : (p : ℕ × ℕ) → ComesBefore p p → ⊥
never_itself p before = never_both p p before before

module _ (rows columns : ℕ) where
  -- the first pairs of two lists with the same members are one
  same_first : (p q : ℕ × ℕ) (ps qs : List (ℕ × ℕ)) → PairsAscend rows columns (p ∷ ps) → PairsAscend rows columns (q ∷ qs) → ((r : ℕ × ℕ) → Contains (p ∷ ps) r ↔ Contains (q ∷ qs) r) → p ≡ q
  same_first p q ps qs first second same =
      elim ((Contains-front {X = ℕ × ℕ} q qs p).0 ((same p).0 ((Contains-front {X = ℕ × ℕ} p ps p).1 (inl refl)))) [
        | inl is ↦ sym is
        | inr later ↦ elim ((Contains-front {X = ℕ × ℕ} p ps q).0 ((same q).1 ((Contains-front {X = ℕ × ℕ} q qs q).1 (inl refl)))) [
          | inl is ↦ is
          | inr behind ↦ absurd (never_both p q (behind_first rows columns p ps q first behind) (behind_first rows columns q qs p second later))
        ]
      ]

  -- what is behind them has the same members too
  same_behind : (p q : ℕ × ℕ) (ps qs : List (ℕ × ℕ)) → PairsAscend rows columns (p ∷ ps) → p ≡ q → ((r : ℕ × ℕ) → Contains (p ∷ ps) r → Contains (q ∷ qs) r) → (r : ℕ × ℕ) → Contains ps r → Contains qs r
  same_behind p q ps qs first is same r there =
      elim ((Contains-front {X = ℕ × ℕ} q qs r).0 (same r ((Contains-front {X = ℕ × ℕ} p ps r).1 (inr there)))) [
        | inl at ↦ absurd (never_itself r (subst (λ (s : ℕ × ℕ). ComesBefore s r) (is ∙ at) (behind_first rows columns p ps r first there)))
        | inr behind ↦ behind
      ]

  -- two lists that ascend and have the same members are one
  pub same_pairs : (ps qs : List (ℕ × ℕ)) → PairsAscend rows columns ps → PairsAscend rows columns qs → ((r : ℕ × ℕ) → Contains ps r ↔ Contains qs r) → ps ≡ qs
  same_pairs [] [] first second same = refl
  same_pairs [] (q ∷ qs) first second same = absurd (none_there q ((same q).1 ((Contains-front {X = ℕ × ℕ} q qs q).1 (inl refl))))
  same_pairs (p ∷ ps) [] first second same = absurd (none_there p ((same p).0 ((Contains-front {X = ℕ × ℕ} p ps p).1 (inl refl))))
  same_pairs (p ∷ ps) (q ∷ qs) first second same =
      let is = same_first p q ps qs first second same in
      let rest = same_pairs ps qs first.3 second.3 (λ r. (same_behind p q ps qs first is (λ s. (same s).0) r, same_behind q p qs ps second (sym is) (λ s. (same s).1) r)) in
      (λ i. is i ∷ rest i)

-- the test is the order
pub comes_after-is : (a p : ℕ × ℕ) → (comes_after a p ≡ true) ↔ ComesBefore a p
comes_after-is a p =
    elim (cases_eq a.0 p.0) [
      | inl same ↦ rw (eq-eqb a.0 p.0 same) (λ h. inr (same, ltb-true a.1 p.1 h), λ before. elim before [ inl up ↦ absurd (omega arith) | inr (is, less) ↦ lt-ltb a.1 p.1 less ])
      | inr apart ↦ rw (ne_eqb a.0 p.0 apart) (λ h. inl (ltb-true a.0 p.0 h), λ before. elim before [ inl up ↦ lt-ltb a.0 p.0 up | inr (is, less) ↦ absurd (apart is) ])
    ]

-- ---- members

pub Contains-beside : (m : ℕ) (xs : List ℕ) (n c : ℕ) → Contains (beside m xs) (n, c) ↔ ((n ≡ m) × Contains xs c)
Contains-beside m xs n c = Contains-line (record { row = m; columns = xs }) n c

Contains-from : (at : ℕ) (words xs : List ℕ) (c : ℕ) → Contains (those_from at words xs) c ↔ ((at ≤ c) × Has words c × Contains xs c)
Contains-from at words xs c =
    let kept = Contains-filter (λ n. nat_le at n && is_in words n) xs c in (
      λ h. (let k = kept.0 h in let both = and_parts (nat_le at c) (is_in words c) k.1 in (leb-true at c both.0, (is_in-has words c).0 both.1, k.0)),
      λ h. kept.1 (h.2, and_from (nat_le at c) (is_in words c) (le-leb at c h.0) ((is_in-has words c).1 h.1)),
    )

-- the pair is left, and its first number is not below another
abbrev IsLeftFrom : ℕ → List ℕ → List ℕ → List Line → ℕ → ℕ → Type 0
IsLeftFrom from firsts seconds ls n c = (from ≤ n) × Has firsts n × Has seconds c × Contains (row_of n ls) c

-- the pair is one of the open row, or of a first number from another on
abbrev IsOpen : List ℕ → List ℕ → List Line → ℕ → ℕ → List ℕ → ℕ → ℕ → ℕ → Type 0
IsOpen firsts seconds ls row at xs from n c = ((n ≡ row) × (at ≤ c) × Has seconds c × Contains xs c) ⊎ IsLeftFrom from firsts seconds ls n c

module _ (rows columns : ℕ) (firsts seconds : List ℕ) (ls : List Line) where
  Contains-left_from : LinesAscend 0 rows columns ls → (from n c : ℕ) → Contains (left_from from firsts seconds ls) (n, c) ↔ IsLeftFrom from firsts seconds ls n c
  Contains-left_from ascend from n c =
      let kept = Contains-filter (λ (p : ℕ × ℕ). nat_le from p.0) (left_in firsts seconds ls) (n, c) in
      let left = Contains-left rows columns firsts seconds ls n c ascend in (
        λ h. (let k = kept.0 h in let l = left.0 k.0 in (leb-true from n k.1, l.0, l.1, l.2)),
        λ h. kept.1 (left.1 (h.1, h.2, h.3), le-leb from n h.0),
      )

  Contains-open : LinesAscend 0 rows columns ls → (row at : ℕ) (xs : List ℕ) (from n c : ℕ) → Contains (open_left row at xs from firsts seconds ls) (n, c) ↔ IsOpen firsts seconds ls row at xs from n c
  Contains-open ascend row at xs from n c =
      let front = Contains-beside row (those_from at seconds xs) n c in
      let those = Contains-from at seconds xs c in
      let back = Contains-left_from ascend from n c in (
        λ h. elim (Contains-append_cases (beside row (those_from at seconds xs)) (left_from from firsts seconds ls) (n, c) h) [
          | inl here ↦ (let f = front.0 here in let t = those.0 f.1 in inl (f.0, t.0, t.1, t.2))
          | inr later ↦ inr (back.0 later)
        ],
        λ h. elim h [
          | inl here ↦ Contains-append_left (beside row (those_from at seconds xs)) (left_from from firsts seconds ls) (n, c) (front.1 (here.0, those.1 (here.1, here.2, here.3)))
          | inr later ↦ Contains-append_right (beside row (those_from at seconds xs)) (left_from from firsts seconds ls) (n, c) (back.1 later)
        ],
      )

  -- ---- they ascend

  ascend-from : LinesAscend 0 rows columns ls → (from : ℕ) → PairsAscend rows columns (left_from from firsts seconds ls)
  ascend-from ascend from = PairsAscend-filter rows columns (λ p. nat_le from p.0) (left_in firsts seconds ls) (PairsAscend-left rows columns firsts seconds ls ascend)

-- ---- numbers in order

those_behind : (a b low columns : ℕ) (words xs : List ℕ) → a ≤ low → b ≤ low → AscendsWithin low columns xs → those_from a words xs ≡ those_from b words xs
those_behind a b low columns words [] first second ascends = refl
those_behind a b low columns words (x ∷ xs) first second ascends =
    let rest = those_behind a b (x + 1) columns words xs (omega (arith, ascends.0)) (omega (arith, ascends.0)) ascends.2 in
    rw (le-leb a x (omega (arith, ascends.0)), le-leb b x (omega (arith, ascends.0))) (ap (λ (ys : List ℕ). cond (is_in words x) (x ∷ ys) ys) rest)

-- the least number stands first
pub head_from : (low columns at c : ℕ) (words xs : List ℕ) → AscendsWithin low columns xs → IsNextBoth at words xs (Some c) → those_from at words xs ≡ c ∷ those_from (c + 1) words xs
head_from low columns at c words [] ascends next = absurd (not_in_none c next.2)
head_from low columns at c words (x ∷ xs) ascends next =
    let has = next.1 in
    let from = next.0 in
    elim (cases_eq x c) [
      | inl same ↦
          let here : (nat_le at x && is_in words x) ≡ true = and_from (nat_le at x) (is_in words x) (le-leb at x (omega arith)) ((is_in-has words x).1 (subst (Has words) (sym same) has)) in
          let past : (nat_le (c + 1) x && is_in words x) ≡ false = and_left (nat_le (c + 1) x) (is_in words x) (lt-leb (c + 1) x (omega arith)) in
          rw (here, past) (λ i. same i ∷ those_behind at (c + 1) (x + 1) columns words xs (omega arith) (omega arith) ascends.2 i)
      | inr apart ↦
          let there : Contains xs c = elim ((Contains-cons x xs c).0 next.2) [ inl same ↦ absurd (apart same) | inr later ↦ later ] in
          let up = (All-contains (λ y. (x + 1 ≤ y) × (y < columns)) xs c (All-ascending (x + 1) columns xs ascends.2) there).0 in
          let before : (nat_le at x && is_in words x) ≡ false =
          elim (cases_Bool (nat_le at x && is_in words x)) [
            | inl passes ↦
                let both = and_parts (nat_le at x) (is_in words x) passes in
                absurd (let le = next.3 x ((is_in-has words x).0 both.1) ((Contains-cons x xs x).1 (inl refl)) (leb-true at x both.0) in omega arith)
            | inr fails ↦ fails
          ] in
          let past : (nat_le (c + 1) x && is_in words x) ≡ false = and_left (nat_le (c + 1) x) (is_in words x) (lt-leb (c + 1) x (omega arith)) in
          rw (before, past) (head_from (x + 1) columns at c words xs ascends.2 (next.0, next.1, there, λ m met inside le. next.3 m met ((Contains-cons x xs m).1 (inr inside)) le))
    ]

pub none_from : (at : ℕ) (words xs : List ℕ) → IsNextBoth at words xs None → those_from at words xs ≡ []
none_from at words xs none =
    empty (those_from at words xs) (λ c there. (let h = (Contains-from at words xs c).0 there in let lt = none c h.1 h.2 in omega (arith, h.0)))
  where
    empty : (ys : List ℕ) → ((c : ℕ) → Contains ys c → ⊥) → ys ≡ []
    empty [] nobody = refl
    empty (y ∷ ys) nobody = absurd (nobody y ((Contains-cons y ys y).1 (inl refl)))

pub those_all : (words xs : List ℕ) → those_from 0 words xs ≡ those_in words xs
those_all words xs = filter_agree (λ n. nat_le 0 n && is_in words n) (is_in words) (λ n. rw (le-leb 0 n (omega arith)) refl) xs

pub ascends_filter : (low columns : ℕ) (test : ℕ → Bool) (xs : List ℕ) → AscendsWithin low columns xs → AscendsWithin low columns (filter test xs)
ascends_filter low columns test [] ascends = tt
ascends_filter low columns test (x ∷ xs) ascends =
    let rest = ascends_filter (x + 1) columns test xs ascends.2 in
    elim (cases_Bool (test x)) [
      | inl passes ↦ rw passes (ascends.0, ascends.1, rest)
      | inr fails ↦ rw fails (AscendsWithin-lower low (x + 1) columns (filter test xs) (omega (arith, ascends.0)) rest)
    ]

-- ---- the open row in front

begin_past_of : (n : ℕ) (ps : List (ℕ × ℕ)) → ((m c : ℕ) → Contains ps (m, c) → n < m) → BeginPast n ps
begin_past_of n [] past = tt
begin_past_of n (p ∷ ps) past = past p.0 p.1 ((Contains-front {X = ℕ × ℕ} p ps p).1 (inl refl))

pub ascend_beside : (rows columns n : ℕ) (ys : List ℕ) (ps : List (ℕ × ℕ)) → AscendsWithin 0 columns ys → ((c : ℕ) → Contains ys c → (n < rows) × BeginPast n ps) → PairsAscend rows columns ps → PairsAscend rows columns (beside n ys ++ ps)
ascend_beside rows columns n [] ps ascends past pairs = pairs
ascend_beside rows columns n (y ∷ ys) ps ascends past pairs =
    let there = past y ((Contains-cons y ys y).1 (inl refl)) in
    ascend_line n 0 rows columns (y ∷ ys) ps there.0 ascends there.1 pairs

pub row_within : (n c low rows columns : ℕ) (ls : List Line) → LinesAscend low rows columns ls → Contains (row_of n ls) c → n < rows
row_within n c low rows columns [] ascend there = absurd (not_in_none c there)
row_within n c low rows columns (l ∷ ls) ascend there =
    elim (cases_eq l.row n) [
      | inl same ↦ omega (arith, ascend.1)
      | inr apart ↦ row_within n c (l.row + 1) rows columns ls ascend.3 (subst (λ (xs : List ℕ). Contains xs c) (row_of-other n l ls apart) there)
    ]

open_has : (firsts : List ℕ) (n : ℕ) (ls : List Line) → Has firsts n → open_row firsts n ls ≡ row_of n ls
open_has firsts n ls has = rw ((is_in-has firsts n).1 has) refl

open_there : (firsts : List ℕ) (n c : ℕ) (ls : List Line) → Contains (open_row firsts n ls) c → Has firsts n × Contains (row_of n ls) c
open_there firsts n c ls there =
    elim (cases_Bool (is_in firsts n)) [
      | inl passes ↦ ((is_in-has firsts n).0 passes, rw passes at there)
      | inr fails ↦ absurd (not_in_none c (rw fails at there))
    ]

pub open-there : (firsts : List ℕ) (n c : ℕ) (ls : List Line) → Contains (open_row firsts n ls) c ↔ (Has firsts n × Contains (row_of n ls) c)
open-there firsts n c ls =
    (open_there firsts n c ls, λ h. subst (λ (xs : List ℕ). Contains xs c) (sym (open_has firsts n ls h.0)) h.1)

pub open_ascends : (firsts : List ℕ) (n low rows columns : ℕ) (ls : List Line) → LinesAscend low rows columns ls → AscendsWithin 0 columns (open_row firsts n ls)
open_ascends firsts n low rows columns ls ascend =
    elim (cases_Bool (is_in firsts n)) [
      | inl passes ↦ rw passes (row_of-ascends n low rows columns ls ascend)
      | inr fails ↦ rw fails tt
    ]

module _ (rows columns : ℕ) (firsts seconds : List ℕ) (ls : List Line) where
  ascend-open : LinesAscend 0 rows columns ls → (row at from : ℕ) (xs : List ℕ) → AscendsWithin 0 columns xs → ((c : ℕ) → Contains xs c → Has seconds c → (row < rows) × (row < from)) → PairsAscend rows columns (open_left row at xs from firsts seconds ls)
  ascend-open ascend row at from xs ascends within =
      ascend_beside rows columns row (those_from at seconds xs) (left_from from firsts seconds ls) (ascends_filter 0 columns (λ n. nat_le at n && is_in seconds n) xs ascends)
      (λ c there. (
      let h = (Contains-from at seconds xs c).0 there in
      let w = within c h.2 h.1 in
      (w.0, begin_past_of row (left_from from firsts seconds ls) (λ m d left. (let l = (Contains-left_from rows columns firsts seconds ls ascend from m d).0 left in omega (arith, l.0, w.1))))))
      (ascend-from rows columns firsts seconds ls ascend from)

  -- no pair is left from a first number on
  pub left_none : LinesAscend 0 rows columns ls → (from : ℕ) → ((m : ℕ) → from ≤ m → Has firsts m → Meets seconds (row_of m ls) → ⊥) → left_from from firsts seconds ls ≡ []
  left_none ascend from none =
      empty (left_from from firsts seconds ls) (λ n c there. (let l = (Contains-left_from rows columns firsts seconds ls ascend from n c).0 there in none n l.0 l.1 (c, l.3, l.2)))
    where
      empty : (ps : List (ℕ × ℕ)) → ((n c : ℕ) → Contains ps (n, c) → ⊥) → ps ≡ []
      empty [] nobody = refl
      empty (p ∷ ps) nobody = absurd (nobody p.0 p.1 ((Contains-front {X = ℕ × ℕ} p ps p).1 (inl refl)))

  -- the next first number that can have a pair left, its pairs, and those behind
  pub left_next : LinesAscend 0 rows columns ls → (from n : ℕ) → from ≤ n → Has firsts n → NoneBetween from n firsts seconds ls → left_from from firsts seconds ls ≡ open_left n 0 (row_of n ls) (n + 1) firsts seconds ls
  left_next ascend from n up has none =
      same_pairs rows columns (left_from from firsts seconds ls) (open_left n 0 (row_of n ls) (n + 1) firsts seconds ls)
      (ascend-from rows columns firsts seconds ls ascend from)
      (ascend-open ascend n 0 (n + 1) (row_of n ls) (row_of-ascends n 0 rows columns ls ascend) (λ c there met. (row_within n c 0 rows columns ls ascend there, omega arith)))
      (λ p. (
      let before = Contains-left_from rows columns firsts seconds ls ascend from p.0 p.1 in
      let after = Contains-open rows columns firsts seconds ls ascend n 0 (row_of n ls) (n + 1) p.0 p.1 in (
        λ h. after.1 (let l = before.0 h in elim (cases_lt p.0 n) [
          | inl sooner ↦ absurd (none p.0 l.0 sooner l.1 (p.1, l.3, l.2))
          | inr later ↦ elim (cases_eq p.0 n) [
            | inl same ↦ inl (same, omega arith, l.2, subst (λ (m : ℕ). Contains (row_of m ls) p.1) same l.3)
            | inr apart ↦ inr (omega arith, l.1, l.2, l.3)
          ]
        ]),
        λ h. before.1 (elim (after.0 h) [
          | inl here ↦ (omega (arith, here.0), subst (Has firsts) (sym here.0) has, here.2, subst (λ (m : ℕ). Contains (row_of m ls) p.1) (sym here.0) here.3)
          | inr later ↦ (omega (arith, later.0), later.1, later.2, later.3)
        ]),
      )))

  pub left_opened : LinesAscend 0 rows columns ls → (from : ℕ) (slice : List Line) (o : Opened) → IsOpened from firsts seconds ls slice o → left_from from firsts seconds ls ≡ (o.first, o.second) ∷ open_left o.first (o.second + 1) (partner_numbers o.partners) (o.first + 1) firsts seconds ls
  left_opened ascend from slice o opened =
      let row = row_of-ascends o.first 0 rows columns ls ascend in
      left_next ascend from o.first opened.up opened.has opened.none
      ∙ ap (λ (ys : List ℕ). beside o.first ys ++ left_from (o.first + 1) firsts seconds ls) (head_from 0 columns 0 o.second seconds (row_of o.first ls) row opened.second)
      ∙ ap (λ (xs : List ℕ). (o.first, o.second) ∷ open_left o.first (o.second + 1) xs (o.first + 1) firsts seconds ls) (sym opened.row)

  -- what is left after a pair
  pub left_after : LinesAscend 0 rows columns ls → length firsts ≤ 2 ^ 25 → length seconds ≤ 2 ^ 25 → (a b at from : ℕ) → at ≡ min (b + 1) (2 ^ 32 - 1) → from ≡ min (a + 1) (2 ^ 32 - 1) → open_left a at (open_row firsts a ls) from firsts seconds ls ≡ filter (comes_after (a, b)) (left_in firsts seconds ls)
  left_after ascend first_few second_few a b at from at-is from-is =
      same_pairs rows columns (open_left a at (open_row firsts a ls) from firsts seconds ls) (filter (comes_after (a, b)) (left_in firsts seconds ls))
      (ascend-open ascend a at from (open_row firsts a ls) (open_ascends firsts a 0 rows columns ls ascend) (λ c there met. (let o = open_there firsts a c ls there in (row_within a c 0 rows columns ls ascend o.1, omega (arith, Has-within a firsts o.0)))))
      (PairsAscend-filter rows columns (comes_after (a, b)) (left_in firsts seconds ls) (PairsAscend-left rows columns firsts seconds ls ascend))
      (λ p. (
      let opened = Contains-open rows columns firsts seconds ls ascend a at (open_row firsts a ls) from p.0 p.1 in
      let kept = Contains-filter (comes_after (a, b)) (left_in firsts seconds ls) p in
      let left = Contains-left rows columns firsts seconds ls p.0 p.1 ascend in
      let after = comes_after-is (a, b) p in (
        λ h. kept.1 (elim (opened.0 h) [
          | inl here ↦ (
              let o = open_there firsts a p.1 ls here.3 in
              (left.1 (subst (Has firsts) (sym here.0) o.0, here.2, subst (λ (m : ℕ). Contains (row_of m ls) p.1) (sym here.0) o.1), after.1 (inr (sym here.0, omega (arith, here.1, Has-within p.1 seconds here.2)))))
          | inr later ↦ (left.1 (later.1, later.2, later.3), after.1 (inl (omega (arith, later.0, Has-within p.0 firsts later.1))))
        ]),
        λ h. opened.1 (
            let k = kept.0 h in
            let l = left.0 k.0 in
            elim (after.0 k.1) [
              | inl up ↦ inr (omega arith, l.0, l.1, l.2)
              | inr (same, less) ↦ inl (sym same, omega arith, l.1, subst (λ (xs : List ℕ). Contains xs p.1) (sym (open_has firsts a ls (subst (Has firsts) (sym same) l.0))) (subst (λ (m : ℕ). Contains (row_of m ls) p.1) (sym same) l.2))
            ]),
      )))

  pub left_all : left_from 0 firsts seconds ls ≡ left_in firsts seconds ls
  left_all = all (left_in firsts seconds ls)
    where
      all : (ps : List (ℕ × ℕ)) → filter (λ p. nat_le 0 p.0) ps ≡ ps
      all [] = refl
      all (p ∷ ps) = rw (le-leb 0 p.0 (omega arith)) (ap (λ (qs : List (ℕ × ℕ)). p ∷ qs) (all ps))

-- ---- candidates

pub none_before : (from n : ℕ) (firsts seconds : List ℕ) (ls : List Line) → IsCandidate from firsts ls (Some n) → NoneBetween from n firsts seconds ls
none_before from n firsts seconds ls found m up before has (c, there, met) = not_in_none c (subst (λ (xs : List ℕ). Contains xs c) (found.2 m has up before) there)

pub none_behind : (from : ℕ) (firsts seconds : List ℕ) (ls : List Line) → IsCandidate from firsts ls None → (m : ℕ) → from ≤ m → Has firsts m → Meets seconds (row_of m ls) → ⊥
none_behind from firsts seconds ls found m up has (c, there, met) = not_in_none c (subst (λ (xs : List ℕ). Contains xs c) (found m has up) there)

pub length-open : (n at from : ℕ) (xs firsts seconds : List ℕ) (ls : List Line) → length (open_left n at xs from firsts seconds ls) ≡ length (those_from at seconds xs) + length (left_from from firsts seconds ls)
length-open n at from xs firsts seconds ls = omega (arith, length-append (beside n (those_from at seconds xs)) (left_from from firsts seconds ls), length-map {B = ℕ × ℕ} (those_from at seconds xs) (λ c. (n, c)))

-- ---- what the steps of a walk give

pub stepped_some : (columns at : ℕ) (words xs : List ℕ) (o : Option ℕ) → AscendsWithin 0 columns xs → IsNextBoth at words xs o → IfSome o (λ c. those_from at words xs ≡ c ∷ those_from (c + 1) words xs)
stepped_some columns at words xs None ascends next = tt
stepped_some columns at words xs (Some c) ascends next = head_from 0 columns at c words xs ascends next

pub stepped_up : (at : ℕ) (words xs : List ℕ) (o : Option ℕ) → IsNextBoth at words xs o → IfSome o (λ c. at ≤ c)
stepped_up at words xs None next = tt
stepped_up at words xs (Some c) next = next.0

pub stepped_none : (at : ℕ) (words xs : List ℕ) (o : Option ℕ) → IsNextBoth at words xs o → IfNone o (those_from at words xs ≡ [])
stepped_none at words xs None next = none_from at words xs next
stepped_none at words xs (Some c) next = tt

module _ (rows columns : ℕ) (firsts seconds : List ℕ) (ls slice : List Line) where
  pub opened_none : LinesAscend 0 rows columns ls → (from : ℕ) (o : Option Opened) → IfNone o ((m : ℕ) → from ≤ m → Has firsts m → Meets seconds (row_of m ls) → ⊥) → IfNone o (left_from from firsts seconds ls ≡ [])
  opened_none ascend from None none = left_none rows columns firsts seconds ls ascend from none
  opened_none ascend from (Some o) none = tt

  pub opened_first : LinesAscend 0 rows columns ls → (from : ℕ) (o : Option Opened) → IfSome o (IsOpened from firsts seconds ls slice) → IfSome o (λ p. left_from from firsts seconds ls ≡ (p.first, p.second) ∷ open_left p.first (p.second + 1) (partner_numbers p.partners) (p.first + 1) firsts seconds ls)
  opened_first ascend from None found = tt
  opened_first ascend from (Some o) found = left_opened rows columns firsts seconds ls ascend from slice o found

  pub opened_ascends : LinesAscend 0 rows columns ls → (from : ℕ) (o : Option Opened) → IfSome o (IsOpened from firsts seconds ls slice) → IfSome o (λ p. AscendsWithin 0 columns (partner_numbers p.partners))
  opened_ascends ascend from None found = tt
  opened_ascends ascend from (Some o) found = subst (AscendsWithin 0 columns) (sym found.row) (row_of-ascends o.first 0 rows columns ls ascend)

  pub opened_known : (from : ℕ) (o : Option Opened) → IfSome o (IsOpened from firsts seconds ls slice) → IfSome o (λ p. KnowsPlace (p.first + 1) p.place slice)
  opened_known from None found = tt
  opened_known from (Some o) found = KnowsPlace-later o.first (o.first + 1) o.place slice (omega arith) found.known

  pub opened_within : (from : ℕ) (o : Option Opened) → IfSome o (IsOpened from firsts seconds ls slice) → IfSome o (λ p. (p.first < 64 * length firsts) × (p.second < 64 * length seconds))
  opened_within from None found = tt
  opened_within from (Some o) found = (found.within, found.second_within)

-- the pairs of the next candidate, and those behind it
pub counted_next : (rows columns : ℕ) (firsts seconds : List ℕ) (ls : List Line) → LinesAscend 0 rows columns ls → (from n : ℕ) (xs : List ℕ) → IsCandidate from firsts ls (Some n) → xs ≡ row_of n ls → length (left_from from firsts seconds ls) ≡ length (those_in seconds xs) + length (left_from (n + 1) firsts seconds ls)
counted_next rows columns firsts seconds ls ascend from n xs found row =
    ap length (left_next rows columns firsts seconds ls ascend from n found.0 found.1 (none_before from n firsts seconds ls found))
    ∙ length-open n 0 (n + 1) (row_of n ls) firsts seconds ls
    ∙ ap (λ (k : ℕ). k + length (left_from (n + 1) firsts seconds ls)) (ap length (those_all seconds (row_of n ls)) ∙ ap (λ (ys : List ℕ). length (those_in seconds ys)) (sym row))
