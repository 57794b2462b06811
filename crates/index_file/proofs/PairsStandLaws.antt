-- Pairs that stand in another family, in the slices that their columns number.
use Rattle.std.proofs.Common.{◌≡◌, ℕ, suc, ◌+◌, ◌⊎◌, inl, inr, List, [], ◌∷◌, get_or, map, Contains, sym, subst, arith}
use Rattle.std.proofs.lemmas.List.Elements.{Contains-append_cases, Contains-append_left, Contains-append_right}
use Rattle.bm_term.proofs.Elements.{Contains-head, Contains-tail, Contains-cons_cases, Contains-nil}
use Rattle.cube_slices.specs.Lines.{Line, pairs_of_line, pairs_of}
use Rattle.term_numbers.specs.Order.{Numbered}
use Rattle.term_numbers.proofs.NumberingLaws.{from_map, Contains-map}
use Rattle.index_file.proofs.RowMatchLaws.{pairs_at, pair_there, triple_there}
use Rattle.index_file.specs.Families.{triple_at, triples_from}
use Rattle.index_file.specs.declared.family.Family.TheVariants.{So, Ps}
use Rattle.index_file.specs.steps.Rows.{ColumnsStand, LinesStand, PairsStand}

-- ---- to triples

column_stands : (n r : ℕ) (others : List (List Line)) (cs : List ℕ) (c : ℕ) → ColumnsStand n r others cs → Contains cs c → Contains (pairs_of (get_or others c [])) (n, r)
column_stands n r others [] c stand there = absurd (Contains-nil c there)
column_stands n r others (d ∷ ds) c stand there = by (λ rest. column_stands n r others ds c stand.1 rest) (Contains-cons_cases d ds c there)
  where
    by : (Contains ds c → Contains (pairs_of (get_or others c [])) (n, r)) → (d ≡ c) ⊎ Contains ds c → Contains (pairs_of (get_or others c [])) (n, r)
    by later (inl same) = subst (λ m. Contains (pairs_of (get_or others m [])) (n, r)) same stand.0
    by later (inr rest) = later rest

pair_stands : (n : ℕ) (others : List (List Line)) (ls : List Line) (p : ℕ × ℕ) → LinesStand n others ls → Contains (pairs_of ls) p → Contains (pairs_of (get_or others p.1 [])) (n, p.0)
pair_stands n others [] p stand there = absurd (Contains-nil p there)
pair_stands n others (l ∷ ls) p stand there = by (λ rest. pair_stands n others ls p stand.1 rest) (Contains-append_cases (pairs_of_line l) (pairs_of ls) p there)
  where
    by : (Contains (pairs_of ls) p → Contains (pairs_of (get_or others p.1 [])) (n, p.0)) → Contains (pairs_of_line l) p ⊎ Contains (pairs_of ls) p → Contains (pairs_of (get_or others p.1 [])) (n, p.0)
    by later (inl here) =
        let c = from_map {Y = ℕ × ℕ} (λ c. (l.row, c)) l.columns p here in
        subst (λ (q : ℕ × ℕ). Contains (pairs_of (get_or others q.1 [])) (n, q.0)) c.2 (column_stands n l.row others l.columns c.0 stand.0 c.1)
    by later (inr rest) = later rest

-- where the pairs of S-O stand in P-S, its triples do
pub triples_stand : (n : ℕ) (others lss : List (List Line)) (t : Numbered) → PairsStand n others lss → Contains (triples_from So n (map pairs_of lss)) t → Contains (triples_from Ps 0 (map pairs_of others)) t
triples_stand n others [] t stand there = absurd (Contains-nil t there)
triples_stand n others (ls ∷ lss) t stand there =
    by (λ rest. triples_stand (n + 1) others lss t stand.1 rest) (Contains-append_cases (map (triple_at So n) (pairs_of ls)) (triples_from So (n + 1) (map pairs_of lss)) t there)
  where
    by : (Contains (triples_from So (n + 1) (map pairs_of lss)) t → Contains (triples_from Ps 0 (map pairs_of others)) t) → Contains (map (triple_at So n) (pairs_of ls)) t ⊎ Contains (triples_from So (n + 1) (map pairs_of lss)) t
        → Contains (triples_from Ps 0 (map pairs_of others)) t
    by later (inl here) =
        let p = from_map (triple_at So n) (pairs_of ls) t here in
        let at = pair_stands n others ls p.0 stand.0 p.1 in
        let stands = triple_there Ps (map pairs_of others) p.0.1 (n, p.0.0) (subst (λ qs. Contains qs (n, p.0.0)) (sym (pairs_at others p.0.1)) at) in
        subst (Contains (triples_from Ps 0 (map pairs_of others))) p.2 stands
    by later (inr rest) = later rest

-- ---- from triples

columns_stand : (n r : ℕ) (others : List (List Line)) (cs : List ℕ) → ((c : ℕ) → Contains cs c → Contains (pairs_of (get_or others c [])) (n, r)) → ColumnsStand n r others cs
columns_stand n r others [] each = tt
columns_stand n r others (c ∷ cs) each = (each c (Contains-head c cs), columns_stand n r others cs (λ d there. each d (Contains-tail c cs d there)))

lines_stand : (n : ℕ) (others : List (List Line)) (ls : List Line) → ((p : ℕ × ℕ) → Contains (pairs_of ls) p → Contains (pairs_of (get_or others p.1 [])) (n, p.0)) → LinesStand n others ls
lines_stand n others [] each = tt
lines_stand n others (l ∷ ls) each = (
  columns_stand n l.row others l.columns (λ c there. each (l.row, c) (Contains-append_left (pairs_of_line l) (pairs_of ls) (l.row, c) (Contains-map {Y = ℕ × ℕ} (λ c. (l.row, c)) l.columns c there))),
  lines_stand n others ls (λ p there. each p (Contains-append_right (pairs_of_line l) (pairs_of ls) p there)),
)

pairs_stand : (n : ℕ) (others lss : List (List Line)) → ((k : ℕ) (p : ℕ × ℕ) → Contains (get_or (map pairs_of lss) k []) p → Contains (pairs_of (get_or others p.1 [])) (n + k, p.0)) → PairsStand n others lss
pairs_stand n others [] each = tt
pairs_stand n others (ls ∷ lss) each = (
  lines_stand n others ls (λ p there.
      let none : n + 0 ≡ n = omega arith in
      subst (λ m. Contains (pairs_of (get_or others p.1 [])) (m, p.0)) none (each 0 p there)),
  pairs_stand (n + 1) others lss (λ k p there.
      let place : n + suc k ≡ n + 1 + k = omega arith in
      subst (λ m. Contains (pairs_of (get_or others p.1 [])) (m, p.0)) place (each (suc k) p there)),
)

-- where the triples of S-O stand in P-S, its pairs do
pub pairs_of_triples : (others lss : List (List Line)) → ((t : Numbered) → Contains (triples_from So 0 (map pairs_of lss)) t → Contains (triples_from Ps 0 (map pairs_of others)) t) → PairsStand 0 others lss
pairs_of_triples others lss stand =
    pairs_stand 0 others lss (λ k p there.
    let none : k ≡ 0 + k = omega arith in
    let stands = stand (triple_at So k p) (triple_there So (map pairs_of lss) k p there) in
    subst (λ m. Contains (pairs_of (get_or others p.1 [])) (m, p.0)) none (subst (λ qs. Contains qs (k, p.0)) (pairs_at others p.1) (pair_there Ps (map pairs_of others) p.1 (k, p.0) stands)))
