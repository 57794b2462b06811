-- Laws of folds, line by line.
use Rattle.std.proofs.Common.{◌≡◌, ◌↔◌, ◌⊎◌, ℕ, ◌*◌, ◌<◌, List, [], ◌∷◌, length, get_or, refl, sym, ap, ◌∙◌, inl, inr, arith}
use Rattle.std.proofs.lemmas.List.{length-map, get_or-map}
use Rattle.std.proofs.lemmas.List.Elements.{Contains-append_left, Contains-append_right, Contains-append_cases}
use Rattle.std.specs.List.{Contains}
use Rattle.row_lanes.specs.Words.{Has, Meets}
use Rattle.cube_slices.specs.Lines.{Line, pairs_of_line, pairs_of}
use Rattle.cube_slices.specs.Folds.{IsRowKept, IsColumnKept}

-- ---- which pairs there are

Contains-line : (l : Line) (n c : ℕ) → Contains (pairs_of_line l) (n, c) ↔ ((n ≡ l.row) × Contains l.columns c)
Contains-line l n c =
    let pair : ℕ → ℕ × ℕ = λ x. (l.row, x) in
    let long = length-map {B = ℕ × ℕ} l.columns pair in (
      λ (k, lt, at). (
          let within : k < length l.columns = omega arith in
          let is : (l.row, get_or l.columns k c) ≡ (n, c) = sym (get_or-map pair l.columns k c (n, c) within) ∙ at in
          (sym (ap (λ (p : ℕ × ℕ). p.0) is), (k, within, ap (λ (p : ℕ × ℕ). p.1) is))),
      λ h. (let there = h.1 in (there.0, omega (arith, there.1), get_or-map pair l.columns there.0 c (n, c) there.1 ∙ (λ i. (sym h.0 i, there.2 i)))),
    )

-- the pairs of the first line, and those behind it
pub Contains-pairs : (l : Line) (ls : List Line) (n c : ℕ) → Contains (pairs_of (l ∷ ls)) (n, c) ↔ (((n ≡ l.row) × Contains l.columns c) ⊎ Contains (pairs_of ls) (n, c))
Contains-pairs l ls n c =
    let here = Contains-line l n c in (
      λ h. elim (Contains-append_cases (pairs_of_line l) (pairs_of ls) (n, c) h) [ inl front ↦ inl (here.0 front) | inr back ↦ inr back ],
      λ h. elim h [ inl front ↦ Contains-append_left (pairs_of_line l) (pairs_of ls) (n, c) (here.1 front) | inr back ↦ Contains-append_right (pairs_of_line l) (pairs_of ls) (n, c) back ],
    )

no_pair : (n c : ℕ) → Contains (pairs_of []) (n, c) → ⊥
no_pair n c (k, lt, at) = omega arith

-- ---- rows

-- the set, and what the lines that are left keep, are what all lines keep
pub record IsFoldingRows (room : ℕ) (keep : List ℕ) (all : List Line) (words : List ℕ) (left : List Line) : Type 0 where
  pub size : length words ≡ room
  pub same : (n : ℕ) → (Has words n ⊎ (IsRowKept keep left n × (n < 64 * room))) ↔ (IsRowKept keep all n × (n < 64 * room))

pub IsFoldingRows-start : (room : ℕ) (keep : List ℕ) (all : List Line) (words : List ℕ) → length words ≡ room → ((n : ℕ) → Has words n → ⊥) → IsFoldingRows room keep all words all
IsFoldingRows-start room keep all words size none =
    record { size = size; same = λ n. (λ h. elim h [ inl had ↦ absurd (none n had) | inr kept ↦ kept ], λ kept. inr kept) }

pub IsFoldingRows-next : (room : ℕ) (keep : List ℕ) (all : List Line) (words new : List ℕ) (number : ℕ) (row : List ℕ) (left rest : List Line) → left ≡ record { row = number; columns = row } ∷ rest → length new ≡ length words → ((n : ℕ) → Has new n ↔ (Has words n ⊎ ((n ≡ number) × Meets keep row × (n < 64 * length words)))) → IsFoldingRows room keep all words left → IsFoldingRows room keep all new rest
IsFoldingRows-next room keep all words new number row left rest split size kept folding =
    let room-is = folding.size in
    record {
      size = size ∙ room-is;
      same = λ n.
          let whole = rw split at (folding.same n) in
          let line : Line = record { row = number; columns = row } in (
            λ h. whole.0 (elim h [
              | inl has ↦ elim ((kept n).0 has) [
                | inl had ↦ inl had
                | inr (same, met, lt) ↦ inr ((met.0, (Contains-pairs line rest n met.0).1 (inl (same, met.1)), met.2), omega arith)
              ]
              | inr (later, lt) ↦ inr ((later.0, (Contains-pairs line rest n later.0).1 (inr later.1), later.2), lt)
            ]),
            λ h. elim (whole.1 h) [
              | inl had ↦ inl ((kept n).1 (inl had))
              | inr (here, lt) ↦ elim ((Contains-pairs line rest n here.0).0 here.1) [
                | inl (same, there) ↦ inl ((kept n).1 (inr (same, (here.0, there, here.2), omega arith)))
                | inr later ↦ inr ((here.0, later, here.2), lt)
              ]
            ],
          );
    }

pub IsFoldingRows-end : (room : ℕ) (keep : List ℕ) (all : List Line) (words : List ℕ) (left : List Line) → left ≡ [] → IsFoldingRows room keep all words left → (n : ℕ) → Has words n ↔ (IsRowKept keep all n × (n < 64 * room))
IsFoldingRows-end room keep all words left none folding n =
    let whole = rw none at (folding.same n) in
    (λ has. whole.0 (inl has), λ h. elim (whole.1 h) [ inl has ↦ has | inr (later, lt) ↦ absurd (no_pair n later.0 later.1) ])

-- ---- columns

pub record IsFoldingColumns (room : ℕ) (keep : List ℕ) (all : List Line) (words : List ℕ) (left : List Line) : Type 0 where
  pub size : length words ≡ room
  pub same : (c : ℕ) → (Has words c ⊎ (IsColumnKept keep left c × (c < 64 * room))) ↔ (IsColumnKept keep all c × (c < 64 * room))

pub IsFoldingColumns-start : (room : ℕ) (keep : List ℕ) (all : List Line) (words : List ℕ) → length words ≡ room → ((c : ℕ) → Has words c → ⊥) → IsFoldingColumns room keep all words all
IsFoldingColumns-start room keep all words size none =
    record { size = size; same = λ c. (λ h. elim h [ inl had ↦ absurd (none c had) | inr kept ↦ kept ], λ kept. inr kept) }

pub IsFoldingColumns-next : (room : ℕ) (keep : List ℕ) (all : List Line) (words new : List ℕ) (number : ℕ) (row : List ℕ) (left rest : List Line) → left ≡ record { row = number; columns = row } ∷ rest → length new ≡ length words → ((c : ℕ) → Has new c ↔ (Has words c ⊎ (Has keep number × Contains row c × (c < 64 * length words)))) → IsFoldingColumns room keep all words left → IsFoldingColumns room keep all new rest
IsFoldingColumns-next room keep all words new number row left rest split size kept folding =
    let room-is = folding.size in
    record {
      size = size ∙ room-is;
      same = λ c.
          let whole = rw split at (folding.same c) in
          let line : Line = record { row = number; columns = row } in (
            λ h. whole.0 (elim h [
              | inl has ↦ elim ((kept c).0 has) [
                | inl had ↦ inl had
                | inr (of_row, there, lt) ↦ inr ((number, (Contains-pairs line rest number c).1 (inl (refl, there)), of_row), omega arith)
              ]
              | inr (later, lt) ↦ inr ((later.0, (Contains-pairs line rest later.0 c).1 (inr later.1), later.2), lt)
            ]),
            λ h. elim (whole.1 h) [
              | inl had ↦ inl ((kept c).1 (inl had))
              | inr (here, lt) ↦ elim ((Contains-pairs line rest here.0 c).0 here.1) [
                | inl (same, there) ↦ inl ((kept c).1 (inr (rw same at here.2, there, omega arith)))
                | inr later ↦ inr ((here.0, later, here.2), lt)
              ]
            ],
          );
    }

pub IsFoldingColumns-end : (room : ℕ) (keep : List ℕ) (all : List Line) (words : List ℕ) (left : List Line) → left ≡ [] → IsFoldingColumns room keep all words left → (c : ℕ) → Has words c ↔ (IsColumnKept keep all c × (c < 64 * room))
IsFoldingColumns-end room keep all words left none folding c =
    let whole = rw none at (folding.same c) in
    (λ has. whole.0 (inl has), λ h. elim (whole.1 h) [ inl has ↦ has | inr (later, lt) ↦ absurd (no_pair later.0 c later.1) ])
