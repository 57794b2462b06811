-- Laws of the slices of a family: the bytes of slices, and the pairs that they stand for, determine each other.
use Rattle.std.proofs.Common.{◌≡◌, ℕ, zero, suc, ◌+◌, ◌-◌, ◌^◌, ◌<◌, ◌≤◌, ◌⊎◌, inl, inr, List, [], ◌∷◌, ◌++◌, length, get_or, take, drop, map, All, Contains, refl, sym, ap, ◌∙◌, subst, arith, length-append}
use Rattle.std.proofs.lemmas.Bool.Decides.{nat_tests}
use Rattle.std.proofs.lemmas.Cmp.{tied_itself}
use Rattle.std.proofs.lemmas.List.Elements.{All-cons, All-head, All-tail, All-nil, All-contains, Contains-append_cases}
use Rattle.std.specs.Cmp.{nat_cmp_total}
use Rattle.std.specs.List.{flat_map, AllByRecursion}
use Rattle.std.specs.List.Sorted.{IsStrictlySortedBy}
use Rattle.std.specs.Ordering.{nat_cmp, ordering_then}
use Rattle.std.specs.declared.cmp.Ordering.{Ordering}
use Rattle.std.specs.declared.cmp.Ordering.TheVariants.{Less, Equal, Greater}
use Rattle.bm_term.proofs.Elements.{Contains-head, Contains-tail, Contains-nil}
use Rattle.byte_tables.specs.Numbers.{IsBytes}
use Rattle.byte_tables.specs.Pairs.{pair_bytes}
use Rattle.byte_tables.specs.Pieces.{joined, cut_from, pieces_at, HaveBytes}
use Rattle.byte_tables.proofs.NumberLaws.{IsBytes-take, IsBytes-drop}
use Rattle.run_rows.specs.declared.form.RowForm.{RowForm}
use Rattle.run_rows.specs.Row.{AscendsWithin}
use Rattle.run_rows.proofs.RowLaws.{All-ascending}
use Rattle.cube_slices.specs.Lines.{Line, LinesAscend, AreLines, pairs_of_line, pairs_of}
use Rattle.cube_slices.specs.Pairs.{ComesBefore, ComesFirst, PairsAscend, ArePairs, lines_of}
use Rattle.cube_slices.specs.Slices.{bytes_of_lines, entries_of, slice_bytes, slice_lines}
use Rattle.cube_slices.proofs.PairLaws.{pairs_of-lines_of, lines_of-pairs_of, AreLines-lines_of}
use Rattle.cube_slices.proofs.SliceLaws.{slice_lines-slice_bytes, IsSlice-slice_bytes, EncodesLines-slice}
use Rattle.term_numbers.proofs.NumberingLaws.{from_map}
use Rattle.term_numbers.proofs.Ascending.{all_from_members, ascends-append}
use Rattle.index_file.proofs.FamilyLaws.{EachAscends, nothing_ascends, nat_less}
use Rattle.index_file.specs.Families.{pair_cmp}
use Rattle.index_file.specs.Image.{pair_slice, slice_pairs}
use Rattle.index_file.specs.Conditions.{AreSlices}

-- ---- the pairs of lines

-- the pairs of lines are within bounds
pub pair_within : (low rows columns : ℕ) (ls : List Line) (p : ℕ × ℕ) → LinesAscend low rows columns ls → Contains (pairs_of ls) p → (low ≤ p.0) × (p.0 < rows) × (p.1 < columns)
pair_within low rows columns [] p ascend there = absurd (Contains-nil p there)
pair_within low rows columns (l ∷ ls) p ascend there =
    by (λ rest. pair_within (l.row + 1) rows columns ls p ascend.3 rest) (Contains-append_cases (pairs_of_line l) (pairs_of ls) p there)
  where
    by : (Contains (pairs_of ls) p → (l.row + 1 ≤ p.0) × (p.0 < rows) × (p.1 < columns)) → Contains (pairs_of_line l) p ⊎ Contains (pairs_of ls) p → (low ≤ p.0) × (p.0 < rows) × (p.1 < columns)
    by later (inl here) =
        let c = from_map {Y = ℕ × ℕ} (λ c. (l.row, c)) l.columns p here in
        let bound = All-contains (λ x. (0 ≤ x) × (x < columns)) l.columns c.0 (All-ascending 0 columns l.columns ascend.2.ascends) c.1 in
        let row : l.row ≡ p.0 = ap (λ (q : ℕ × ℕ). q.0) c.2 in
        let column : c.0 ≡ p.1 = ap (λ (q : ℕ × ℕ). q.1) c.2 in
        (omega (arith, ascend.0), omega (arith, ascend.1), omega (arith, bound.1))
    by later (inr rest) = let found = later rest in (omega (arith, ascend.0, found.0), found.1, found.2)

before_by_row : (p q : ℕ × ℕ) → p.0 < q.0 → pair_cmp p q ≡ Less
before_by_row p q less = ap (λ r. ordering_then r (nat_cmp p.1 q.1)) (nat_less p.0 q.0 less)

before_by_column : (n a b : ℕ) → a < b → pair_cmp (n, a) (n, b) ≡ Less
before_by_column n a b less = ap (λ r. ordering_then r (nat_cmp a b)) (tied_itself nat_cmp_total n) ∙ nat_less a b less

-- the pairs of a row ascend
ascends-row : (n low columns : ℕ) (xs : List ℕ) → AscendsWithin low columns xs → IsStrictlySortedBy pair_cmp (map {B = ℕ × ℕ} (λ c. (n, c)) xs)
unfolding IsStrictlySortedBy
ascends-row n low columns [] ascends = tt
ascends-row n low columns (x ∷ xs) ascends = (
  all_from_members (λ q. pair_cmp (n, x) q ≡ Less) (map {B = ℕ × ℕ} (λ c. (n, c)) xs) (λ q there.
      let c = from_map {Y = ℕ × ℕ} (λ c. (n, c)) xs q there in
      let bound = All-contains (λ y. (x + 1 ≤ y) × (y < columns)) xs c.0 (All-ascending (x + 1) columns xs ascends.2) c.1 in
      subst (λ r. pair_cmp (n, x) r ≡ Less) c.2 (before_by_column n x c.0 (omega (arith, bound.0)))),
  ascends-row n (x + 1) columns xs ascends.2,
)

-- the pairs of lines ascend
ascends-pairs_of : (low rows columns : ℕ) (ls : List Line) → LinesAscend low rows columns ls → IsStrictlySortedBy pair_cmp (pairs_of ls)
ascends-pairs_of low rows columns [] ascend = nothing_ascends pair_cmp
ascends-pairs_of low rows columns (l ∷ ls) ascend =
    ascends-append pair_cmp (pairs_of_line l) (pairs_of ls) (ascends-row l.row 0 columns l.columns ascend.2.ascends) (ascends-pairs_of (l.row + 1) rows columns ls ascend.3)
    (λ p q at_p at_q.
    let c = from_map {Y = ℕ × ℕ} (λ c. (l.row, c)) l.columns p at_p in
    let row : l.row ≡ p.0 = ap (λ (r : ℕ × ℕ). r.0) c.2 in
    let bound = pair_within (l.row + 1) rows columns ls q ascend.3 at_q in
    before_by_row p q (omega (arith, bound.0)))

-- lines have a pair
some_pair : (rows columns : ℕ) (ls : List Line) → AreLines rows columns ls → (p : ℕ × ℕ) × Contains (pairs_of ls) p
some_pair rows columns [] lines = absurd (omega (arith, lines.some))
some_pair rows columns (l ∷ ls) lines = by l.columns lines.ascend.2.some
  where
    by : (xs : List ℕ) → 0 < length xs → (p : ℕ × ℕ) × Contains (map {B = ℕ × ℕ} (λ c. (l.row, c)) xs ++ pairs_of ls) p
    by [] some = absurd (omega arith)
    by (x ∷ xs) some = ((l.row, x), Contains-head (l.row, x) (map {B = ℕ × ℕ} (λ c. (l.row, c)) xs ++ pairs_of ls))

-- ---- pairs in order make lines

comes_before : (p q : ℕ × ℕ) → pair_cmp p q ≡ Less → ComesBefore p q
comes_before p q less = by (nat_cmp p.0 q.0) refl less
  where
    is_less : (a b : ℕ) → nat_cmp a b ≡ Less → a < b
    is_less a b h = grind (arith, nat_tests)

    is_equal : (a b : ℕ) → nat_cmp a b ≡ Equal → a ≡ b
    is_equal a b h = grind (arith, nat_tests)

    by : (r : Ordering) → nat_cmp p.0 q.0 ≡ r → ordering_then r (nat_cmp p.1 q.1) ≡ Less → ComesBefore p q
    by Less e h = inl (is_less p.0 q.0 e)
    by Equal e h = inr (is_equal p.0 q.0 e, is_less p.1 q.1 h)
    by Greater e h = absurd (cc)

pub PairsAscend-sorted : (rows columns : ℕ) (ps : List (ℕ × ℕ)) → IsStrictlySortedBy pair_cmp ps → ((p : ℕ × ℕ) → Contains ps p → (p.0 < rows) × (p.1 < columns)) → PairsAscend rows columns ps
unfolding IsStrictlySortedBy
PairsAscend-sorted rows columns [] h within = tt
PairsAscend-sorted rows columns (p ∷ ps) h within =
    let here = within p (Contains-head p ps) in
    (here.0, here.1, first ps h.0, PairsAscend-sorted rows columns ps h.1 (λ q there. within q (Contains-tail p ps q there)))
  where
    first : (qs : List (ℕ × ℕ)) → AllByRecursion (λ q. pair_cmp p q ≡ Less) qs → ComesFirst p qs
    first [] all = tt
    first (q ∷ qs) all = comes_before p q all.0

ArePairs-sorted : (rows columns : ℕ) (ps : List (ℕ × ℕ)) → (p : ℕ × ℕ) × Contains ps p → IsStrictlySortedBy pair_cmp ps → ((p : ℕ × ℕ) → Contains ps p → (p.0 < rows) × (p.1 < columns)) → ArePairs rows columns ps
ArePairs-sorted rows columns [] some h within = absurd (Contains-nil some.0 some.1)
ArePairs-sorted rows columns (p ∷ ps) some h within = record { some = omega arith; ascend = PairsAscend-sorted rows columns (p ∷ ps) h within }

-- ---- from slices to pairs

-- what is read from slices: pairs in order and within bounds, some in each slice, and the slices again
pub record AreRead (form : RowForm) (rows columns : ℕ) (ss : List (List ℕ)) : Type 0 where
  pub ascend : EachAscends (map (slice_pairs form) ss)
  pub within : (k : ℕ) (p : ℕ × ℕ) → Contains (get_or (map (slice_pairs form) ss) k []) p → (p.0 < rows) × (p.1 < columns)
  pub some : (k : ℕ) → k < length ss → (p : ℕ × ℕ) × Contains (get_or (map (slice_pairs form) ss) k []) p
  pub again : map (pair_slice form) (map (slice_pairs form) ss) ≡ ss

pub AreRead-slices : (form : RowForm) (rows columns : ℕ) (ss : List (List ℕ)) → All IsBytes ss → AreSlices form rows columns ss → AreRead form rows columns ss
AreRead-slices form rows columns [] bytes slices = record { ascend = tt; within = λ k p there. absurd (Contains-nil p there); some = λ k low. absurd (omega arith); again = refl }
AreRead-slices form rows columns (s ∷ ss) bytes slices =
    let rest = AreRead-slices form rows columns ss (All-tail IsBytes s ss bytes) slices.1 in
    let one = EncodesLines-slice form rows columns s (All-head IsBytes s ss bytes) slices.0 in
    let ls = slice_lines form s in
    let lines : lines_of (pairs_of ls) ≡ ls = lines_of-pairs_of 0 rows columns ls one.lines.ascend in
    let again = ap (slice_bytes form) lines ∙ sym one.spelled in
    record {
      ascend = (ascends-pairs_of 0 rows columns ls one.lines.ascend, rest.ascend);
      within = λ k p there. inside k p one.lines.ascend rest.within there;
      some = λ k low. some_in k one.lines rest.some low;
      again = λ i. again i ∷ rest.again i;
    }
  where
    inside : (k : ℕ) (p : ℕ × ℕ) → LinesAscend 0 rows columns (slice_lines form s) → ((j : ℕ) (q : ℕ × ℕ) → Contains (get_or (map (slice_pairs form) ss) j []) q → (q.0 < rows) × (q.1 < columns)) → Contains (get_or (map (slice_pairs form) (s ∷ ss)) k []) p → (p.0 < rows) × (p.1 < columns)
    inside zero p ascend later there = let bound = pair_within 0 rows columns (slice_lines form s) p ascend there in (bound.1, bound.2)
    inside (suc k) p ascend later there = later k p there

    some_in : (k : ℕ) → AreLines rows columns (slice_lines form s) → ((j : ℕ) → j < length ss → (q : ℕ × ℕ) × Contains (get_or (map (slice_pairs form) ss) j []) q) → k < length (s ∷ ss) → (p : ℕ × ℕ) × Contains (get_or (map (slice_pairs form) (s ∷ ss)) k []) p
    some_in zero lines later low = some_pair rows columns (slice_lines form s) lines
    some_in (suc k) lines later low = later k (omega arith)

-- ---- from pairs to slices

-- pairs in order and within bounds, some in each slice
pub record AreFull (rows columns : ℕ) (pss : List (List (ℕ × ℕ))) : Type 0 where
  pub ascend : EachAscends pss
  pub within : (k : ℕ) (p : ℕ × ℕ) → Contains (get_or pss k []) p → (p.0 < rows) × (p.1 < columns)
  pub some : (k : ℕ) → k < length pss → (p : ℕ × ℕ) × Contains (get_or pss k []) p

-- are written as slices, and read again
pub record AreWritten (form : RowForm) (rows columns : ℕ) (pss : List (List (ℕ × ℕ))) : Type 0 where
  pub are : AreSlices form rows columns (map (pair_slice form) pss)
  pub again : map (slice_pairs form) (map (pair_slice form) pss) ≡ pss

-- the bytes of the rows are no more than the slice
rows_short : (form : RowForm) (ls : List Line) → length (bytes_of_lines form ls) ≤ length (slice_bytes form ls)
unfolding slice_bytes
rows_short form ls =
    let entries = flat_map pair_bytes (entries_of form 0 ls) in
    omega (arith, length-append entries (bytes_of_lines form ls))

pub slice_has_bytes : (form : RowForm) (ls : List Line) → 0 < length (slice_bytes form ls)
unfolding slice_bytes
slice_has_bytes form ls = omega arith

pub HaveBytes-slices : (form : RowForm) (pss : List (List (ℕ × ℕ))) → HaveBytes (map (pair_slice form) pss)
HaveBytes-slices form [] = tt
HaveBytes-slices form (ps ∷ pss) = (slice_has_bytes form (lines_of ps), HaveBytes-slices form pss)

pub AreWritten-pairs : (form : RowForm) (rows columns : ℕ) (pss : List (List (ℕ × ℕ))) → rows < 2 ^ 32 → columns < 2 ^ 32 → length (joined (map (pair_slice form) pss)) < 2 ^ 32 → AreFull rows columns pss → AreWritten form rows columns pss
AreWritten-pairs form rows columns [] small narrow short full = record { are = tt; again = refl }
AreWritten-pairs form rows columns (ps ∷ pss) small narrow short full =
    let long = length-append (pair_slice form ps) (joined (map (pair_slice form) pss)) in
    let rest = AreWritten-pairs form rows columns pss small narrow (omega arith) (record { ascend = full.ascend.1; within = λ k p there. full.within (suc k) p there; some = λ k low. full.some (suc k) (omega arith) }) in
    let pairs = ArePairs-sorted rows columns ps (full.some 0 (omega arith)) full.ascend.0 (λ p there. full.within 0 p there) in
    let lines = AreLines-lines_of rows columns ps pairs in
    let rows_fit : length (bytes_of_lines form (lines_of ps)) < 2 ^ 32 = omega (arith, rows_short form (lines_of ps)) in
    let again = ap pairs_of (slice_lines-slice_bytes form rows columns (lines_of ps) small narrow lines rows_fit) ∙ pairs_of-lines_of ps in
    record {
      are = (IsSlice-slice_bytes form rows columns (lines_of ps) small narrow lines rows_fit, rest.are);
      again = λ i. again i ∷ rest.again i;
    }

-- ---- the bytes of pieces

bytes_of_cut : (from : ℕ) (es bytes : List ℕ) → IsBytes bytes → All IsBytes (cut_from from es bytes)
bytes_of_cut from [] bytes fits = All-nil IsBytes
bytes_of_cut from (e ∷ es) bytes fits = All-cons IsBytes (take (e - from) bytes) (cut_from e es (drop (e - from) bytes)) (IsBytes-take (e - from) bytes fits) (bytes_of_cut e es (drop (e - from) bytes) (IsBytes-drop (e - from) bytes fits))

-- pieces of bytes are bytes
pub bytes_of_pieces : (starts bytes : List ℕ) → IsBytes bytes → All IsBytes (pieces_at starts bytes)
bytes_of_pieces [] bytes fits = All-nil IsBytes
bytes_of_pieces (s ∷ es) bytes fits = bytes_of_cut s es bytes fits
