-- What is borrowed from an index has just the pairs of a triple pattern by number.
use Rattle.std.proofs.Common.{◌≡◌, ◌≢◌, ◌↔◌, ℕ, ◌<◌, ◌-◌, ◌^◌, ◌&&◌, Bool, true, false, List, [], ◌∷◌, map, filter, Contains, refl, sym, ap, ◌∙◌, subst, IsTrue, nat_lt, if◌then◌else◌, lt-ltb}
use Rattle.std.proofs.lemmas.Bool.{ltb-true, and_parts, and_from}
use Rattle.alg_model.proofs.Lists.{Contains-flat_map, source-flat_map}
use Rattle.term_numbers.proofs.EntryLaws.{Contains-filter, filter-Contains}
use Rattle.term_numbers.proofs.NumberingLaws.{from_map, Contains-map}
use Rattle.pattern_rel.proofs.ShapeLaws.{lists-true, lists-contains}
use Rattle.alg_model.specs.declared.var.Var.{Var}
use Rattle.bm_term.proofs.Elements.{Contains-head, Contains-nil, Contains-single}
use Rattle.cube_slices.specs.Lines.{Line, LinesAscend, pairs_of_line, pairs_of}
use Rattle.cube_slices.specs.Pairs.{lines_of}
use Rattle.cube_slices.proofs.PairLaws.{pairs_of-lines_of}
use Rattle.index_file.specs.Families.{pairs_in, triple_at}
use Rattle.index_file.specs.declared.family.Family.{Family}
use Rattle.index_file.specs.declared.family.Family.TheVariants.{So, Os, Ps, Po}
use Rattle.index_file.proofs.FamilyLaws.{in_slice}
use Rattle.pattern_rel.specs.Shapes.{lists, lines_that, row_lines, column_lines, diagonal_lines, row_of, AreTransposed}
use Rattle.pattern_rel.proofs.PairLaws.{Contains-line, Contains-pairs_of}
use Rattle.term_numbers.specs.Order.{Numbered}
use Rattle.match_relations.specs.steps.Parts.{Lists}
use Rattle.match_relations.specs.declared.part.Part.TheVariants.{Variable, Number}

-- the pairs of a slice are those of the triples whose slice it is
pub of_slice : (f : Family) (n : ℕ) (ts : List Numbered) (pair : ℕ × ℕ) → Contains (pairs_of (lines_of (pairs_in f n ts))) pair ↔ Contains ts (triple_at f n pair)
of_slice f n ts pair = subst (λ ps. Contains ps pair ↔ Contains ts (triple_at f n pair)) (sym (pairs_of-lines_of (pairs_in f n ts))) (in_slice f n ts pair)

-- the pairs of a row with 0 beside each number
row_pairs : (xs : List ℕ) → pairs_of (row_lines xs) ≡ map {B = ℕ × ℕ} (λ x. (x, 0)) xs
row_pairs [] = refl
row_pairs (x ∷ xs) = ap (λ (ps : List (ℕ × ℕ)). (x, 0) ∷ ps) (row_pairs xs)

in_row : (xs : List ℕ) (pair : ℕ × ℕ) → Contains (pairs_of (row_lines xs)) pair ↔ (Contains xs pair.0 × (pair.1 ≡ 0))
in_row xs pair =
    let with_zero : ℕ → ℕ × ℕ = λ x. (x, 0) in (
      λ at.
          let from = from_map with_zero xs pair (subst (λ ps. Contains ps pair) (row_pairs xs) at) in
          (subst (Contains xs) (ap (λ (q : ℕ × ℕ). q.0) from.2) from.1, sym (ap (λ (q : ℕ × ℕ). q.1) from.2)),
      λ h.
          let is : with_zero pair.0 ≡ pair = λ i. (pair.0, sym h.1 i) in
          subst (λ ps. Contains ps pair) (sym (row_pairs xs)) (subst (Contains (map with_zero xs)) is (Contains-map with_zero xs pair.0 h.0)),
    )

-- the pairs of the lines that pass a test
that_pairs : (test : Line → Bool) (number : Line → ℕ) (ls : List Line) → pairs_of (lines_that test number ls) ≡ map {B = ℕ × ℕ} (λ l. (l.row, number l)) (filter test ls)
that_pairs test number [] = refl
that_pairs test number (l ∷ ls) = by (that_pairs test number ls) (test l)
  where
    by : pairs_of (lines_that test number ls) ≡ map {B = ℕ × ℕ} (λ l. (l.row, number l)) (filter test ls) → (b : Bool) →
        pairs_of (if b then record { row = l.row; columns = number l ∷ [] } ∷ lines_that test number ls else lines_that test number ls)
        ≡ map {B = ℕ × ℕ} (λ l. (l.row, number l)) (if b then l ∷ filter test ls else filter test ls)
    by rest true = ap (λ (ps : List (ℕ × ℕ)). (l.row, number l) ∷ ps) rest
    by rest false = rest

in_that : (test : Line → Bool) (number : Line → ℕ) (ls : List Line) (pair : ℕ × ℕ) →
    Contains (pairs_of (lines_that test number ls)) pair ↔ ((l : Line) × Contains ls l × (test l ≡ true) × ((l.row, number l) ≡ pair))
in_that test number ls pair =
    let pair_at : Line → ℕ × ℕ = λ l. (l.row, number l) in (
      λ at.
          let from = from_map pair_at (filter test ls) pair (subst (λ ps. Contains ps pair) (that_pairs test number ls) at) in
          let found = Contains-filter test ls from.0 from.1 in
          (from.0, found.0, found.1, from.2),
      λ (l, at, passes, is). subst (λ ps. Contains ps pair) (sym (that_pairs test number ls)) (subst (Contains (map pair_at (filter test ls))) is (Contains-map pair_at (filter test ls) l (filter-Contains test ls l at passes))),
    )

-- a pair of lines is one of some line
in_lines : (ls : List Line) (n c : ℕ) → Contains (pairs_of ls) (n, c) ↔ ((l : Line) × Contains ls l × (n ≡ l.row) × Contains l.columns c)
in_lines ls n c = (
  λ at.
      let from = source-flat_map pairs_of_line ls (n, c) at in
      let here = (Contains-line from.0 n c).0 from.2 in
      (from.0, from.1, here.0, here.1),
  λ (l, at, row, column). Contains-flat_map pairs_of_line ls l (n, c) at ((Contains-line l n c).1 (row, column)),
)

-- the rows that have a column
in_column : (column : ℕ) (ls : List Line) (pair : ℕ × ℕ) → Contains (pairs_of (column_lines column ls)) pair ↔ (Contains (pairs_of ls) (pair.0, column) × (pair.1 ≡ 0))
in_column column ls pair =
    let that = in_that (λ l. lists l.columns column) (λ l. 0) ls pair in (
      λ at.
          let (l, there, passes, is) = that.0 at in
          ((in_lines ls pair.0 column).1 (l, there, sym (ap (λ (q : ℕ × ℕ). q.0) is), lists-true l.columns column passes), sym (ap (λ (q : ℕ × ℕ). q.1) is)),
      λ h.
          let (l, there, row, has) = (in_lines ls pair.0 column).0 h.0 in
          that.1 (l, there, lists-contains l.columns column has, λ i. (sym row i, sym h.1 i)),
    )

-- the numbers below a count that have themselves as a column
in_diagonal : (shared : ℕ) (ls : List Line) (pair : ℕ × ℕ) → Contains (pairs_of (diagonal_lines shared ls)) pair ↔ (Contains (pairs_of ls) pair × (pair.0 ≡ pair.1) × (pair.0 < shared))
in_diagonal shared ls pair =
    let that = in_that (λ l. nat_lt l.row shared && lists l.columns l.row) (λ l. l.row) ls pair in (
      λ at.
          let (l, there, passes, is) = that.0 at in
          let parts = and_parts (nat_lt l.row shared) (lists l.columns l.row) passes in
          let first : l.row ≡ pair.0 = ap (λ (q : ℕ × ℕ). q.0) is in
          let second : l.row ≡ pair.1 = ap (λ (q : ℕ × ℕ). q.1) is in
          let has : Contains l.columns pair.1 = subst (Contains l.columns) second (lists-true l.columns l.row parts.1) in
          ((in_lines ls pair.0 pair.1).1 (l, there, sym first, has), sym first ∙ second, subst (λ n. n < shared) first (ltb-true l.row shared parts.0)),
      λ h.
          let (l, there, row, has) = (in_lines ls pair.0 pair.1).0 h.0 in
          let low : l.row < shared = subst (λ n. n < shared) row h.2 in
          let itself : Contains l.columns l.row = subst (Contains l.columns) (sym h.1 ∙ row) has in
          that.1 (l, there, and_from (nat_lt l.row shared) (lists l.columns l.row) (lt-ltb l.row shared low) (lists-contains l.columns l.row itself), λ i. (sym row i, (sym row ∙ h.1) i)),
    )

-- the two families that are cut by predicate are transposed
pub transposed : (p : ℕ) (ts : List Numbered) → LinesAscend 0 (2 ^ 32 - 1) (2 ^ 32 - 1) (lines_of (pairs_in So p ts)) → LinesAscend 0 (2 ^ 32 - 1) (2 ^ 32 - 1) (lines_of (pairs_in Os p ts)) →
    AreTransposed (lines_of (pairs_in So p ts)) (lines_of (pairs_in Os p ts))
transposed p ts so os n c =
    let first = Contains-pairs_of 0 (2 ^ 32 - 1) (2 ^ 32 - 1) (lines_of (pairs_in So p ts)) n c so in
    let second = Contains-pairs_of 0 (2 ^ 32 - 1) (2 ^ 32 - 1) (lines_of (pairs_in Os p ts)) c n os in (
      λ at. second.0 ((of_slice Os p ts (c, n)).1 ((of_slice So p ts (n, c)).0 (first.1 at))),
      λ at. first.0 ((of_slice So p ts (n, c)).1 ((of_slice Os p ts (c, n)).0 (second.1 at))),
    )

module _ (ts : List Numbered) (shared : ℕ) where
  -- ---- whole slices

  pub lists_both_nodes : (p : ℕ) (s o : Var) → s.0 ≢ o.0 → Lists ts shared (Variable s) (Number p) (Variable o) (lines_of (pairs_in So p ts))
  lists_both_nodes p s o apart = record {
    pairs = λ pair. (
      λ at. record { there = (of_slice So p ts pair).0 at; again = refl; itself = λ v first second. absurd (apart (first ∙ sym second)) },
      λ is. (of_slice So p ts pair).1 is.there,
    );
  }

  pub lists_before_object : (o : ℕ) (s p : Var) → Lists ts shared (Variable s) (Variable p) (Number o) (lines_of (pairs_in Ps o ts))
  lists_before_object o s p = record {
    pairs = λ pair. (
      λ at. record { there = (of_slice Ps o ts pair).0 at; again = refl; itself = λ v first second. absurd second },
      λ is. (of_slice Ps o ts pair).1 is.there,
    );
  }

  pub lists_after_subject : (s : ℕ) (p o : Var) → Lists ts shared (Number s) (Variable p) (Variable o) (lines_of (pairs_in Po s ts))
  lists_after_subject s p o = record {
    pairs = λ pair. (
      λ at. record { there = (of_slice Po s ts pair).0 at; again = refl; itself = λ v first second. absurd first },
      λ is. (of_slice Po s ts pair).1 is.there,
    );
  }

  -- ---- rows

  pub lists_subjects : (p o : ℕ) (s : Var) → LinesAscend 0 (2 ^ 32 - 1) (2 ^ 32 - 1) (lines_of (pairs_in Os p ts)) → Lists ts shared (Variable s) (Number p) (Number o) (row_lines (row_of o (lines_of (pairs_in Os p ts))))
  lists_subjects p o s ascend =
      let ls = lines_of (pairs_in Os p ts) in
      let there = λ (n : ℕ). Contains-pairs_of 0 (2 ^ 32 - 1) (2 ^ 32 - 1) ls o n ascend in
      record {
        pairs = λ pair. (
          λ at.
              let h = (in_row (row_of o ls) pair).0 at in
              record { there = (of_slice Os p ts (o, pair.0)).0 ((there pair.0).1 h.0); again = λ i. (pair.0, sym h.1 i); itself = λ v first second. absurd second },
          λ is. (in_row (row_of o ls) pair).1 ((there pair.0).0 ((of_slice Os p ts (o, pair.0)).1 is.there), sym (ap (λ (q : ℕ × ℕ). q.1) is.again)),
        );
      }

  pub lists_objects : (s p : ℕ) (o : Var) → LinesAscend 0 (2 ^ 32 - 1) (2 ^ 32 - 1) (lines_of (pairs_in So p ts)) → Lists ts shared (Number s) (Number p) (Variable o) (row_lines (row_of s (lines_of (pairs_in So p ts))))
  lists_objects s p o ascend =
      let ls = lines_of (pairs_in So p ts) in
      let there = λ (n : ℕ). Contains-pairs_of 0 (2 ^ 32 - 1) (2 ^ 32 - 1) ls s n ascend in
      record {
        pairs = λ pair. (
          λ at.
              let h = (in_row (row_of s ls) pair).0 at in
              record { there = (of_slice So p ts (s, pair.0)).0 ((there pair.0).1 h.0); again = λ i. (pair.0, sym h.1 i); itself = λ v first second. absurd first },
          λ is. (in_row (row_of s ls) pair).1 ((there pair.0).0 ((of_slice So p ts (s, pair.0)).1 is.there), sym (ap (λ (q : ℕ × ℕ). q.1) is.again)),
        );
      }

  -- ---- a column, the diagonal, and one triple

  pub lists_between : (s o : ℕ) (p : Var) → Lists ts shared (Number s) (Variable p) (Number o) (column_lines s (lines_of (pairs_in Ps o ts)))
  lists_between s o p =
      let ls = lines_of (pairs_in Ps o ts) in
      record {
        pairs = λ pair. (
          λ at.
              let h = (in_column s ls pair).0 at in
              record { there = (of_slice Ps o ts (pair.0, s)).0 h.0; again = λ i. (pair.0, sym h.1 i); itself = λ v first second. absurd first },
          λ is. (in_column s ls pair).1 ((of_slice Ps o ts (pair.0, s)).1 is.there, sym (ap (λ (q : ℕ × ℕ). q.1) is.again)),
        );
      }

  pub lists_one_node : (p : ℕ) (s o : Var) → s.0 ≡ o.0 → Lists ts shared (Variable s) (Number p) (Variable o) (diagonal_lines shared (lines_of (pairs_in So p ts)))
  lists_one_node p s o same =
      let ls = lines_of (pairs_in So p ts) in
      record {
        pairs = λ pair. (
          λ at.
              let h = (in_diagonal shared ls pair).0 at in
              record { there = (of_slice So p ts pair).0 h.0; again = refl; itself = λ v first second. (h.1, h.2) },
          λ is.
              let one = is.itself s.0 refl (sym same) in
              (in_diagonal shared ls pair).1 ((of_slice So p ts pair).1 is.there, one.0, one.1),
        );
      }

  pub lists_one_triple : (s p o : ℕ) (b : Bool) → LinesAscend 0 (2 ^ 32 - 1) (2 ^ 32 - 1) (lines_of (pairs_in So p ts)) → IsTrue b ↔ Contains (row_of s (lines_of (pairs_in So p ts))) o →
      Lists ts shared (Number s) (Number p) (Number o) (if b then record { row = 0; columns = 0 ∷ [] } ∷ [] else [])
  lists_one_triple s p o b ascend is = by b is
    where
      ls : List Line
      ls = lines_of (pairs_in So p ts)

      there : Contains (row_of s ls) o ↔ Contains ts (s, p, o)
      there =
          let rows = Contains-pairs_of 0 (2 ^ 32 - 1) (2 ^ 32 - 1) ls s o ascend in
          let slice = of_slice So p ts (s, o) in
          (λ at. slice.0 (rows.1 at), λ at. rows.0 (slice.1 at))

      by : (b : Bool) → IsTrue b ↔ Contains (row_of s ls) o → Lists ts shared (Number s) (Number p) (Number o) (if b then record { row = 0; columns = 0 ∷ [] } ∷ [] else [])
      by true is = record {
        pairs = λ pair. (
          λ at. record { there = there.0 (is.0 refl); again = Contains-single (0, 0) pair at; itself = λ v first second. absurd first },
          λ at. subst (Contains {X = ℕ × ℕ} ((0, 0) ∷ [])) at.again (Contains-head {X = ℕ × ℕ} (0, 0) []),
        );
      }
      by false is = record {
        pairs = λ pair. (
          λ at. absurd (Contains-nil pair at),
          λ at. let never = is.1 (there.1 at.there) in cc,
        );
      }
