-- Whole rows that stand in another family: with equal rows the triples of one stand in the other.
use Rattle.std.proofs.Common.{◌≡◌, ◌≢◌, ◌↔◌, ℕ, zero, suc, ◌+◌, ◌≤◌, ◌⊎◌, inl, inr, List, [], ◌∷◌, Some, None, length, get_or, map, Contains, refl, sym, ap, ◌∙◌, subst, arith}
use Rattle.std.proofs.lemmas.Bool.{cases_eq}
use Rattle.std.proofs.lemmas.List.Elements.{Contains-append_cases, Contains-append_left, Contains-append_right}
use Rattle.std.proofs.lemmas.Map.Keys.{sorted_from_strictly_increasing}
use Rattle.std.proofs.lemmas.Map.Lookups.{exact_unsigned}
use Rattle.std.specs.Cmp.{nat_cmp_total}
use Rattle.std.specs.Ordering.{nat_cmp}
use Rattle.bm_term.proofs.Elements.{Contains-head, Contains-tail, Contains-cons_cases, Contains-nil}
use Rattle.run_rows.specs.Row.{IsRow}
use Rattle.run_rows.proofs.RowLaws.{increasing_row}
use Rattle.cube_slices.specs.Lines.{Line, LinesAscend, line_of, pairs_of_line, pairs_of}
use Rattle.cube_slices.proofs.LineLaws.{line_of-other, line_of-here}
use Rattle.term_numbers.specs.Order.{Numbered}
use Rattle.term_numbers.proofs.Ascending.{same_members}
use Rattle.term_numbers.proofs.NumberingLaws.{from_map, Contains-map}
use Rattle.index_file.proofs.FamilyLaws.{triple_of_pair, pair_of_triple, slice_again, pair_again}
use Rattle.index_file.proofs.SlicePairLaws.{pair_within}
use Rattle.index_file.specs.Families.{pair_of, triple_at, triples_from}
use Rattle.index_file.specs.declared.family.Family.{Family}
use Rattle.index_file.specs.steps.Rows.{LinesMatch, RowsMatch}

-- ---- from equal rows to triples

-- what two options hold is the same where they are
pub same_some : {X : Type 0} (x y : X) → Some x ≡ Some y → x ≡ y
same_some x y h = cc

-- the pairs of the slice in a place
pub pairs_at : (lss : List (List Line)) (r : ℕ) → get_or (map pairs_of lss) r [] ≡ pairs_of (get_or lss r [])
pairs_at [] r = refl
pairs_at (ls ∷ lss) zero = refl
pairs_at (ls ∷ lss) (suc r) = pairs_at lss r

in_line : (l : Line) (c : ℕ) → Contains l.columns c → Contains (pairs_of_line l) (l.row, c)
in_line l c there = Contains-map {Y = ℕ × ℕ} (λ c. (l.row, c)) l.columns c there

-- the columns of a row that is found are pairs
line_found : (n c : ℕ) (ls : List Line) (xs : List ℕ) → line_of n ls ≡ Some xs → Contains xs c → Contains (pairs_of ls) (n, c)
line_found n c [] xs found there = absurd (cc)
line_found n c (l ∷ ls) xs found there = by (λ e. line_found n c ls xs e there) (cases_eq l.row n)
  where
    by : (line_of n ls ≡ Some xs → Contains (pairs_of ls) (n, c)) → (l.row ≡ n) ⊎ (l.row ≢ n) → Contains (pairs_of (l ∷ ls)) (n, c)
    by later (inl same) =
        let columns = same_some l.columns xs (sym (line_of-here n l ls same) ∙ found) in
        let here = in_line l c (subst (λ ys. Contains ys c) (sym columns) there) in
        Contains-append_left (pairs_of_line l) (pairs_of ls) (n, c) (subst (λ m. Contains (pairs_of_line l) (m, c)) same here)
    by later (inr apart) = Contains-append_right (pairs_of_line l) (pairs_of ls) (n, c) (later (sym (line_of-other n l ls apart) ∙ found))

lines_stand : (n : ℕ) (others : List (List Line)) (ls : List Line) (p : ℕ × ℕ) → LinesMatch n others ls → Contains (pairs_of ls) p → Contains (get_or (map pairs_of others) p.0 []) (n, p.1)
lines_stand n others [] p match there = absurd (Contains-nil p there)
lines_stand n others (l ∷ ls) p match there = by (λ rest. lines_stand n others ls p match.1 rest) (Contains-append_cases (pairs_of_line l) (pairs_of ls) p there)
  where
    by : (Contains (pairs_of ls) p → Contains (get_or (map pairs_of others) p.0 []) (n, p.1)) → Contains (pairs_of_line l) p ⊎ Contains (pairs_of ls) p → Contains (get_or (map pairs_of others) p.0 []) (n, p.1)
    by later (inl here) =
        let c = from_map {Y = ℕ × ℕ} (λ c. (l.row, c)) l.columns p here in
        let found = line_found n c.0 (get_or others l.row []) l.columns match.0 c.1 in
        let at = subst (λ qs. Contains qs (n, c.0)) (sym (pairs_at others l.row)) found in
        subst (λ (q : ℕ × ℕ). Contains (get_or (map pairs_of others) q.0 []) (n, q.1)) c.2 at
    by later (inr rest) = later rest

-- with equal rows each triple of one family stands in the other, where they have rows and slices in the other order
pub rows_stand : (f g : Family) → ((n r c : ℕ) → triple_at f n (r, c) ≡ triple_at g r (n, c)) → (n : ℕ) (others lss : List (List Line)) (t : Numbered) → RowsMatch n others lss → Contains (triples_from f n (map pairs_of lss)) t
    → Contains (triples_from g 0 (map pairs_of others)) t
rows_stand f g swap n others [] t match there = absurd (Contains-nil t there)
rows_stand f g swap n others (ls ∷ lss) t match there =
    by (λ rest. rows_stand f g swap (n + 1) others lss t match.1 rest) (Contains-append_cases (map (triple_at f n) (pairs_of ls)) (triples_from f (n + 1) (map pairs_of lss)) t there)
  where
    by : (Contains (triples_from f (n + 1) (map pairs_of lss)) t → Contains (triples_from g 0 (map pairs_of others)) t) → Contains (map (triple_at f n) (pairs_of ls)) t ⊎ Contains (triples_from f (n + 1) (map pairs_of lss)) t
        → Contains (triples_from g 0 (map pairs_of others)) t
    by later (inl here) =
        let p = from_map (triple_at f n) (pairs_of ls) t here in
        let stands = triple_of_pair g 0 (map pairs_of others) p.0.0 (n, p.0.1) (lines_stand n others ls p.0 match.0 p.1) in
        let none : 0 + p.0.0 ≡ p.0.0 = omega arith in
        subst (Contains (triples_from g 0 (map pairs_of others))) (ap (λ m. triple_at g m (n, p.0.1)) none ∙ sym (swap n p.0.0 p.0.1) ∙ p.2) stands
    by later (inr rest) = later rest

-- ---- from triples to equal rows

-- a row that has a pair is found, and has it
record RowFound (columns n c : ℕ) (ls : List Line) : Type 0 where
  row : List ℕ
  found : line_of n ls ≡ Some row
  has : Contains row c
  is_row : IsRow columns row

row_found : (low rows columns n c : ℕ) (ls : List Line) → LinesAscend low rows columns ls → Contains (pairs_of ls) (n, c) → RowFound columns n c ls
row_found low rows columns n c [] ascend there = absurd (Contains-nil (n, c) there)
row_found low rows columns n c (l ∷ ls) ascend there =
    by (λ rest. row_found (l.row + 1) rows columns n c ls ascend.3 rest) (cases_eq l.row n) (Contains-append_cases (pairs_of_line l) (pairs_of ls) (n, c) there)
  where
    by : (Contains (pairs_of ls) (n, c) → RowFound columns n c ls) → (l.row ≡ n) ⊎ (l.row ≢ n) → Contains (pairs_of_line l) (n, c) ⊎ Contains (pairs_of ls) (n, c) → RowFound columns n c (l ∷ ls)
    by later (inl same) (inl here) =
        let d = from_map {Y = ℕ × ℕ} (λ c. (l.row, c)) l.columns (n, c) here in
        record { row = l.columns; found = line_of-here n l ls same; has = subst (Contains l.columns) (ap (λ (q : ℕ × ℕ). q.1) d.2) d.1; is_row = ascend.2 }
    by later (inl same) (inr rest) = absurd (omega (arith, (pair_within (l.row + 1) rows columns ls (n, c) ascend.3 rest).0))
    by later (inr apart) (inl here) =
        let d = from_map {Y = ℕ × ℕ} (λ c. (l.row, c)) l.columns (n, c) here in
        absurd (apart (ap (λ (q : ℕ × ℕ). q.0) d.2))
    by later (inr apart) (inr rest) =
        let r = later rest in
        record { row = r.row; found = line_of-other n l ls apart ∙ r.found; has = r.has; is_row = r.is_row }

-- a row that is found has the columns of its pairs
pub row_has : (rows columns n c : ℕ) (ls : List Line) (xs : List ℕ) → LinesAscend 0 rows columns ls → line_of n ls ≡ Some xs → Contains xs c ↔ Contains (pairs_of ls) (n, c)
row_has rows columns n c ls xs ascend found = (
  λ there. line_found n c ls xs found there,
  λ there.
      let r = row_found 0 rows columns n c ls ascend there in
      subst (λ ys. Contains ys c) (same_some r.row xs (sym r.found ∙ found)) r.has,
)

-- and a row that is not found has no pair
pub no_row : (rows columns n c : ℕ) (ls : List Line) → LinesAscend 0 rows columns ls → line_of n ls ≡ None → Contains (pairs_of ls) (n, c) → ⊥
no_row rows columns n c ls ascend none there =
    let r = row_found 0 rows columns n c ls ascend there in
    let found = r.found in
    absurd (cc)

-- the same row, where the same columns are pairs
same_row : (rows columns tall wide n : ℕ) (l : Line) (ls os : List Line) → LinesAscend 0 rows columns ls → LinesAscend 0 tall wide os → IsRow columns l.columns → line_of l.row ls ≡ Some l.columns
    → ((c : ℕ) → Contains (pairs_of ls) (l.row, c) ↔ Contains (pairs_of os) (n, c)) → line_of n os ≡ Some l.columns
same_row rows columns tall wide n l ls os ascend other row here same = by l.columns refl
  where
    to : (c : ℕ) → Contains l.columns c → RowFound wide n c os
    to c there = row_found 0 tall wide n c os other ((same c).0 (line_found l.row c ls l.columns here there))

    from : (c : ℕ) → Contains (pairs_of os) (n, c) → Contains l.columns c
    from c there =
        let r = row_found 0 rows columns l.row c ls ascend ((same c).1 there) in
        subst (λ xs. Contains xs c) (same_some r.row l.columns (sym r.found ∙ here)) r.has

    whole : (r : List ℕ) → line_of n os ≡ Some r → IsRow wide r → line_of n os ≡ Some l.columns
    whole r found is_row =
        let equal : r ≡ l.columns = same_members nat_cmp nat_cmp_total exact_unsigned r l.columns (sorted_from_strictly_increasing r (increasing_row wide r is_row)) (sorted_from_strictly_increasing l.columns (increasing_row columns l.columns row)) (λ c. (
          λ there. from c (line_found n c os r found there),
          λ there. let s = to c there in subst (λ xs. Contains xs c) (same_some s.row r (sym s.found ∙ found)) s.has,
        )) in
        found ∙ ap Some equal

    by : (xs : List ℕ) → l.columns ≡ xs → line_of n os ≡ Some l.columns
    by [] none = absurd (omega (arith, row.some, ap length none))
    by (c ∷ xs) is =
        let s = to c (subst (λ ys. Contains ys c) (sym is) (Contains-head c xs)) in
        whole s.row s.found s.is_row

-- a line that is there is the one of its row
record LineHere (low columns : ℕ) (ls : List Line) (l : Line) : Type 0 where
  found : line_of l.row ls ≡ Some l.columns
  is_row : IsRow columns l.columns
  low_enough : low ≤ l.row

line_here : (low rows columns : ℕ) (ls : List Line) (l : Line) → LinesAscend low rows columns ls → Contains ls l → LineHere low columns ls l
line_here low rows columns [] l ascend there = absurd (Contains-nil l there)
line_here low rows columns (k ∷ ks) l ascend there = by (λ rest. line_here (k.row + 1) rows columns ks l ascend.3 rest) (Contains-cons_cases k ks l there)
  where
    by : (Contains ks l → LineHere (k.row + 1) columns ks l) → (k ≡ l) ⊎ Contains ks l → LineHere low columns (k ∷ ks) l
    by later (inl same) = subst (LineHere low columns (k ∷ ks)) same (record { found = line_of-here k.row k ks refl; is_row = ascend.2; low_enough = ascend.0 })
    by later (inr rest) =
        let r = later rest in
        let above = r.low_enough in
        let below : low ≤ k.row = ascend.0 in
        record { found = line_of-other l.row k ks (λ same. omega arith) ∙ r.found; is_row = r.is_row; low_enough = omega arith }

lines_match : (n : ℕ) (others : List (List Line)) (ls : List Line) → ((l : Line) → Contains ls l → line_of n (get_or others l.row []) ≡ Some l.columns) → LinesMatch n others ls
lines_match n others [] each = tt
lines_match n others (l ∷ ls) each = (each l (Contains-head l ls), lines_match n others ls (λ k there. each k (Contains-tail l ls k there)))

-- the lines of each slice ascend
abbrev pub EachLines : ℕ → ℕ → List (List Line) → Type 0
EachLines rows columns [] = Unit {0}
EachLines rows columns (ls ∷ lss) = LinesAscend 0 rows columns ls × EachLines rows columns lss

pub lines_at : (rows columns : ℕ) (lss : List (List Line)) (r : ℕ) → EachLines rows columns lss → LinesAscend 0 rows columns (get_or lss r [])
lines_at rows columns [] r each = tt
lines_at rows columns (ls ∷ lss) zero each = each.0
lines_at rows columns (ls ∷ lss) (suc r) each = lines_at rows columns lss r each.1

match_from_pairs : (rows columns tall wide n : ℕ) (others lss : List (List Line)) → EachLines rows columns lss → EachLines tall wide others
    → ((k r c : ℕ) → Contains (get_or (map pairs_of lss) k []) (r, c) ↔ Contains (get_or (map pairs_of others) r []) (n + k, c)) → RowsMatch n others lss
match_from_pairs rows columns tall wide n others [] each other same = tt
match_from_pairs rows columns tall wide n others (ls ∷ lss) each other same = (
  lines_match n others ls (λ l there.
      let here = line_here 0 rows columns ls l each.0 there in
      same_row rows columns tall wide n l ls (get_or others l.row []) each.0 (lines_at tall wide others l.row other) here.is_row here.found (λ c.
      let none : n + 0 ≡ n = omega arith in
      subst (λ m. Contains (pairs_of ls) (l.row, c) ↔ Contains (pairs_of (get_or others l.row [])) (m, c)) none (subst (λ qs. Contains (pairs_of ls) (l.row, c) ↔ Contains qs (n + 0, c)) (pairs_at others l.row) (same 0 l.row c)))),
  match_from_pairs rows columns tall wide (n + 1) others lss each.1 other (λ k r c.
      let place : n + suc k ≡ n + 1 + k = omega arith in
      subst (λ m. Contains (get_or (map pairs_of lss) k []) (r, c) ↔ Contains (get_or (map pairs_of others) r []) (m, c)) place (same (suc k) r c)),
)

-- a triple of slices is a pair of its slice
pub pair_there : (f : Family) (pss : List (List (ℕ × ℕ))) (k : ℕ) (p : ℕ × ℕ) → Contains (triples_from f 0 pss) (triple_at f k p) → Contains (get_or pss k []) p
pair_there f pss k p there =
    let found = pair_of_triple f 0 pss (triple_at f k p) there in
    let place : found.0 ≡ k = omega (arith, found.1, slice_again f k p) in
    subst (Contains (get_or pss k [])) (pair_again f k p) (subst (λ m. Contains (get_or pss m []) (pair_of f (triple_at f k p))) place found.2)

pub triple_there : (f : Family) (pss : List (List (ℕ × ℕ))) (k : ℕ) (p : ℕ × ℕ) → Contains (get_or pss k []) p → Contains (triples_from f 0 pss) (triple_at f k p)
triple_there f pss k p there = let none : 0 + k ≡ k = omega arith in subst (λ m. Contains (triples_from f 0 pss) (triple_at f m p)) none (triple_of_pair f 0 pss k p there)

-- families with the same triples have equal rows
pub rows_match : (f g : Family) → ((n r c : ℕ) → triple_at f n (r, c) ≡ triple_at g r (n, c)) → (rows columns tall wide : ℕ) (others lss : List (List Line)) → EachLines rows columns lss → EachLines tall wide others
    → ((t : Numbered) → Contains (triples_from f 0 (map pairs_of lss)) t ↔ Contains (triples_from g 0 (map pairs_of others)) t) → RowsMatch 0 others lss
rows_match f g swap rows columns tall wide others lss each other same =
    match_from_pairs rows columns tall wide 0 others lss each other (λ k r c.
    let none : k ≡ 0 + k = omega arith in
    subst (λ m. Contains (get_or (map pairs_of lss) k []) (r, c) ↔ Contains (get_or (map pairs_of others) r []) (m, c)) none (
      λ there. pair_there g (map pairs_of others) r (k, c) (subst (Contains (triples_from g 0 (map pairs_of others))) (swap k r c) ((same (triple_at f k (r, c))).0 (triple_there f (map pairs_of lss) k (r, c) there))),
      λ there. pair_there f (map pairs_of lss) k (r, c) ((same (triple_at f k (r, c))).1 (subst (Contains (triples_from g 0 (map pairs_of others))) (sym (swap k r c)) (triple_there g (map pairs_of others) r (k, c) there))),
    ))
