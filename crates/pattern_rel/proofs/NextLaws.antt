-- Laws of the next pair left.
use Rattle.std.proofs.Common.{◌≡◌, ◌↔◌, ℕ, ◌-◌, ◌^◌, ◌<◌, ◌≤◌, ◌&&◌, List, [], ◌∷◌, ◌++◌, length, map, filter, find, eqb, Option, Some, None, Bool, true, refl, ap, sym, ◌∙◌, subst, inl, inr, arith, eq-eqb, append-nil}
use Rattle.std.proofs.lemmas.Bool.{cases_Bool, both_ways, and_parts, and_from, eqb-true}
use Rattle.std.specs.Option.{option_map}
use Rattle.std.specs.List.{Contains}
use Rattle.row_lanes.specs.Words.{Has}
use Rattle.cube_slices.specs.Lines.{Line, LinesAscend}
use Rattle.cube_slices.specs.Pairs.{ComesBefore, PairsAscend}
use Rattle.pattern_rel.specs.declared.bound.Pair.{Pair}
use Rattle.pattern_rel.specs.Shapes.{row_of, AreTransposed}
use Rattle.pattern_rel.specs.Left.{is_in, left_in}
use Rattle.pattern_rel.specs.Bounds.{is_asked, is_after, is_wanted, as_pair, seconds_beside}
use Rattle.pattern_rel.specs.steps.Sets.{IsNextBoth}
use Rattle.pattern_rel.specs.steps.Walks.{those_in, beside, open_row}
use Rattle.pattern_rel.specs.steps.Finds.{IsFound, StartsInRow, StartsInColumn, IsNextRow}
use Rattle.pattern_rel.proofs.SetLaws.{Has-within}
use Rattle.pattern_rel.proofs.PairLaws.{none_there, Contains-front, Contains-filter, Contains-left, is_in-has, PairsAscend-left, PairsAscend-filter}
use Rattle.pattern_rel.proofs.LeftLaws.{behind_first, open-there, open_ascends, ascend_beside, ascends_filter, row_within, same_pairs, Contains-beside}

pub filter_true : (ps : List (ℕ × ℕ)) → filter (λ p. true) ps ≡ ps
filter_true [] = refl
filter_true (p ∷ ps) = ap (λ (qs : List (ℕ × ℕ)). p ∷ qs) (filter_true ps)

-- the first that a filter keeps is the first that is found
pub find_none : (test : ℕ × ℕ → Bool) (ps : List (ℕ × ℕ)) → filter test ps ≡ [] → find test ps ≡ None
find_none test [] none = refl
find_none test (p ∷ ps) none =
    elim (cases_Bool (test p)) [
      | inl passes ↦ absurd (let kept : p ∷ filter test ps ≡ [] = rw passes at none in cc)
      | inr fails ↦ rw fails (find_none test ps (rw fails at none))
    ]

pub find_first : (test : ℕ × ℕ → Bool) (p : ℕ × ℕ) (ps rest : List (ℕ × ℕ)) → filter test ps ≡ p ∷ rest → find test ps ≡ Some p
find_first test p [] rest kept = absurd cc
find_first test p (q ∷ qs) rest kept =
    elim (cases_Bool (test q)) [
      | inl passes ↦ rw passes (let whole : q ∷ filter test qs ≡ p ∷ rest = rw passes at kept in let same : q ≡ p = cc in ap Some same)
      | inr fails ↦ rw fails (find_first test p qs rest (rw fails at kept))
    ]

-- ---- the least pair that is wanted is the first that is found

FoundIn : (ℕ × ℕ → Bool) → List (ℕ × ℕ) → Option Pair → Type 0
FoundIn test ps None = (n c : ℕ) → Contains ps (n, c) → test (n, c) ≡ true → ⊥
FoundIn test ps (Some p) = Contains ps (p.first, p.second) × (test (p.first, p.second) ≡ true) × ((n c : ℕ) → Contains ps (n, c) → test (n, c) ≡ true → ComesBefore (n, c) (p.first, p.second) → ⊥)

found_in : (rows columns : ℕ) (test : ℕ × ℕ → Bool) (ps : List (ℕ × ℕ)) (o : Option Pair) → PairsAscend rows columns ps → FoundIn test ps o → o ≡ option_map as_pair (find test ps)
unfolding FoundIn
found_in rows columns test [] None ascend found = refl
found_in rows columns test [] (Some p) ascend found = absurd (none_there (p.first, p.second) found.0)
found_in rows columns test (q ∷ qs) None ascend found =
    elim (cases_Bool (test q)) [
      | inl passes ↦ absurd (found q.0 q.1 ((Contains-front {X = ℕ × ℕ} q qs q).1 (inl refl)) passes)
      | inr fails ↦ rw fails (found_in rows columns test qs None ascend.3 (λ n c there. found n c ((Contains-front {X = ℕ × ℕ} q qs (n, c)).1 (inr there))))
    ]
found_in rows columns test (q ∷ qs) (Some p) ascend found =
    let at : ℕ × ℕ = (p.first, p.second) in
    elim (cases_Bool (test q)) [
      | inl passes ↦ rw passes (elim ((Contains-front {X = ℕ × ℕ} q qs at).0 found.0) [
        | inl same ↦ ap (λ (r : ℕ × ℕ). Some (as_pair r)) (sym same)
        | inr later ↦ absurd (found.2 q.0 q.1 ((Contains-front {X = ℕ × ℕ} q qs q).1 (inl refl)) passes (behind_first rows columns q qs at ascend later))
      ])
      | inr fails ↦ rw fails (found_in rows columns test qs (Some p) ascend.3 (
        elim ((Contains-front {X = ℕ × ℕ} q qs at).0 found.0) [
          | inl same ↦ absurd (both_ways (test q) fails (ap test same ∙ found.1))
          | inr later ↦ later
        ],
        found.1,
        λ n c there. found.2 n c ((Contains-front {X = ℕ × ℕ} q qs (n, c)).1 (inr there)),
      ))
    ]

module _ (rows columns : ℕ) (firsts seconds : List ℕ) (ls : List Line) where
  pub find_found : (first second : Option ℕ) (after : Option Pair) (o : Option Pair) → LinesAscend 0 rows columns ls → IsFound first second after firsts seconds ls o → o ≡ option_map as_pair (find (is_wanted (record { first = first; second = second }) after) (left_in firsts seconds ls))
  unfolding FoundIn
  find_found first second after None ascend found =
      found_in rows columns (is_wanted (record { first = first; second = second }) after) (left_in firsts seconds ls) None (PairsAscend-left rows columns firsts seconds ls ascend)
      (λ n c there. (let l = (Contains-left rows columns firsts seconds ls n c ascend).0 there in found n c (record { first = l.0; second = l.1; there = l.2 })))
  find_found first second after (Some p) ascend found =
      let left = found.0 in
      found_in rows columns (is_wanted (record { first = first; second = second }) after) (left_in firsts seconds ls) (Some p) (PairsAscend-left rows columns firsts seconds ls ascend) (
        (Contains-left rows columns firsts seconds ls p.first p.second ascend).1 (left.first, left.second, left.there),
        found.1,
        λ n c there. (let l = (Contains-left rows columns firsts seconds ls n c ascend).0 there in found.2 n c (record { first = l.0; second = l.1; there = l.2 })),
      )

-- ---- the row alone

seconds_of : (n : ℕ) (xs : List ℕ) → map {B = ℕ} (λ p. p.1) (beside n xs) ≡ xs
seconds_of n [] = refl
seconds_of n (x ∷ xs) = ap (λ (ys : List ℕ). x ∷ ys) (seconds_of n xs)

pub row_alone : (rows columns : ℕ) (firsts seconds : List ℕ) (ls : List Line) → LinesAscend 0 rows columns ls → (n : ℕ) → seconds_beside n (left_in firsts seconds ls) ≡ those_in seconds (open_row firsts n ls)
row_alone rows columns firsts seconds ls ascend n =
    let ys = those_in seconds (open_row firsts n ls) in
    let test : ℕ × ℕ → Bool = λ p. eqb n p.0 in
    let end : beside n ys ++ [] ≡ beside n ys = append-nil (beside n ys) in
    let member : (c : ℕ) → Contains ys c ↔ (Contains (open_row firsts n ls) c × (is_in seconds c ≡ true)) = λ c. Contains-filter (is_in seconds) (open_row firsts n ls) c in
    let ascends = ascend_beside rows columns n ys [] (ascends_filter 0 columns (is_in seconds) (open_row firsts n ls) (open_ascends firsts n 0 rows columns ls ascend))
    (λ c there. (row_within n c 0 rows columns ls ascend ((open-there firsts n c ls).0 ((member c).0 there).0).1, tt)) tt in
    ap (map {B = ℕ} (λ (p : ℕ × ℕ). p.1)) (same_pairs rows columns (filter test (left_in firsts seconds ls)) (beside n ys)
    (PairsAscend-filter rows columns test (left_in firsts seconds ls) (PairsAscend-left rows columns firsts seconds ls ascend))
    (subst (PairsAscend rows columns) end ascends)
    (λ p. (
    let kept = Contains-filter test (left_in firsts seconds ls) p in
    let left = Contains-left rows columns firsts seconds ls p.0 p.1 ascend in
    let front = Contains-beside n ys p.0 p.1 in
    let opened = open-there firsts n p.1 ls in (
      λ h. (
          let k = kept.0 h in
          let l = left.0 k.0 in
          let same : n ≡ p.0 = eqb-true n p.0 k.1 in
          front.1 (sym same, (member p.1).1 (opened.1 (subst (Has firsts) (sym same) l.0, subst (λ (m : ℕ). Contains (row_of m ls) p.1) (sym same) l.2), (is_in-has seconds p.1).1 l.1))),
      λ h. (
          let f = front.0 h in
          let m = (member p.1).0 f.1 in
          let o = opened.0 m.0 in
          kept.1 (left.1 (subst (Has firsts) (sym f.0) o.0, (is_in-has seconds p.1).0 m.1, subst (λ (k : ℕ). Contains (row_of k ls) p.1) (sym f.0) o.1), eq-eqb n p.0 (sym f.0))),
    ))))
    ∙ seconds_of n ys

-- ---- in a row

-- a wanted pair has the numbers that are asked for, and comes after the last one
wanted_first : (n : ℕ) (after : Option Pair) (m c : ℕ) → is_wanted (record { first = Some n; second = None }) after (m, c) ≡ true → (n ≡ m) × (is_after after (m, c) ≡ true)
wanted_first n after m c wanted =
    let both = and_parts (is_asked (Some n) m && is_asked None c) (is_after after (m, c)) wanted in
    (eqb-true n m (and_parts (is_asked (Some n) m) (is_asked None c) both.0).0, both.1)

wanted_second : (c : ℕ) (after : Option Pair) (m d : ℕ) → is_wanted (record { first = None; second = Some c }) after (m, d) ≡ true → (c ≡ d) × (is_after after (m, d) ≡ true)
wanted_second c after m d wanted =
    let both = and_parts (is_asked None m && is_asked (Some c) d) (is_after after (m, d)) wanted in
    (eqb-true c d (and_parts (is_asked None m) (is_asked (Some c) d) both.0).1, both.1)

module _ (firsts seconds : List ℕ) (ls : List Line) where
  pub row_found : (n at : ℕ) (after : Option Pair) (o : Option ℕ) → length seconds ≤ 2 ^ 25 → StartsInRow after n at → IsNextBoth at seconds (open_row firsts n ls) o → IsFound (Some n) None after firsts seconds ls (option_map (λ c. record { first = n; second = c }) o)
  row_found n at after None few starts next = λ m c left wanted. (
      let w = wanted_first n after m c wanted in
      let here : is_after after (n, c) ≡ true = subst (λ (k : ℕ). is_after after (k, c) ≡ true) (sym w.0) w.1 in
      let small : c < 2 ^ 32 - 1 = omega (arith, Has-within c seconds left.second) in
      let from = (starts c small).0 here in
      let there = (open-there firsts n c ls).1 (subst (Has firsts) (sym w.0) left.first, subst (λ (k : ℕ). Contains (row_of k ls) c) (sym w.0) left.there) in
      let lt = next c left.second there in
      omega arith)
  row_found n at after (Some d) few starts next =
      let there = (open-there firsts n d ls).0 next.2 in
      let small : d < 2 ^ 32 - 1 = omega (arith, Has-within d seconds next.1) in (
        record { first = there.0; second = next.1; there = there.1 },
        and_from (is_asked (Some n) n && is_asked None d) (is_after after (n, d)) (and_from (is_asked (Some n) n) (is_asked None d) (eq-eqb n n refl) refl) ((starts d small).1 next.0),
        λ m c left wanted before. (
            let w = wanted_first n after m c wanted in
            let here : is_after after (n, c) ≡ true = subst (λ (k : ℕ). is_after after (k, c) ≡ true) (sym w.0) w.1 in
            let c_small : c < 2 ^ 32 - 1 = omega (arith, Has-within c seconds left.second) in
            let from = (starts c c_small).0 here in
            let inside = (open-there firsts n c ls).1 (subst (Has firsts) (sym w.0) left.first, subst (λ (k : ℕ). Contains (row_of k ls) c) (sym w.0) left.there) in
            let le = next.3 c left.second inside from in
            elim before [ inl up ↦ omega (arith, w.0) | inr (same, less) ↦ omega arith ]),
      )

  -- ---- in a column

  pub column_found : (c from : ℕ) (after : Option Pair) (o : Option ℕ) → length firsts ≤ 2 ^ 25 → Has seconds c → StartsInColumn after c from → IsNextRow from firsts ls c o → IsFound None (Some c) after firsts seconds ls (option_map (λ n. record { first = n; second = c }) o)
  column_found c from after None few met starts next = λ m d left wanted. (
      let w = wanted_second c after m d wanted in
      let here : is_after after (m, c) ≡ true = subst (λ (k : ℕ). is_after after (m, k) ≡ true) (sym w.0) w.1 in
      let small : m < 2 ^ 32 - 1 = omega (arith, Has-within m firsts left.first) in
      let up = (starts m small).0 here in
      let lt = next m left.first (subst (Contains (row_of m ls)) (sym w.0) left.there) in
      omega arith)
  column_found c from after (Some n) few met starts next =
      let small : n < 2 ^ 32 - 1 = omega (arith, Has-within n firsts next.1) in (
        record { first = next.1; second = met; there = next.2 },
        and_from (is_asked None n && is_asked (Some c) c) (is_after after (n, c)) (and_from (is_asked None n) (is_asked (Some c) c) refl (eq-eqb c c refl)) ((starts n small).1 next.0),
        λ m d left wanted before. (
            let w = wanted_second c after m d wanted in
            let here : is_after after (m, c) ≡ true = subst (λ (k : ℕ). is_after after (m, k) ≡ true) (sym w.0) w.1 in
            let m_small : m < 2 ^ 32 - 1 = omega (arith, Has-within m firsts left.first) in
            let up = (starts m m_small).0 here in
            let le = next.3 m left.first (subst (Contains (row_of m ls)) (sym w.0) left.there) up in
            elim before [ inl sooner ↦ omega arith | inr (same, less) ↦ omega (arith, w.0) ]),
      )

-- by the transpose
pub turned_next : (from c : ℕ) (firsts xs : List ℕ) (ls ms : List Line) (o : Option ℕ) → AreTransposed ls ms → xs ≡ row_of c ms → IsNextBoth from firsts xs o → IsNextRow from firsts ls c o
turned_next from c firsts xs ls ms None turned row next = λ m has there. next m has (subst (λ (ys : List ℕ). Contains ys m) (sym row) ((turned m c).0 there))
turned_next from c firsts xs ls ms (Some n) turned row next =
    (next.0, next.1, (turned n c).1 (subst (λ (ys : List ℕ). Contains ys n) row next.2), λ m has there up. next.3 m has (subst (λ (ys : List ℕ). Contains ys m) (sym row) ((turned m c).0 there)) up)
