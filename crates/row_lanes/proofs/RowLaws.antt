-- Laws of the runs of a row against words.
use Rattle.std.proofs.Common.{◌≡◌, ◌↔◌, ◌⊎◌, ℕ, ◌+◌, ◌-◌, ◌*◌, ◌^◌, ◌<◌, List, [], ◌∷◌, length, ◌∙◌, subst, inl, inr, arith}
use Rattle.std.proofs.lemmas.List.Elements.{Contains-append_left, Contains-append_right, Contains-append_cases, All-contains}
use Rattle.std.proofs.lemmas.List.FromFn.{length-range_with_len, get_or-range_with_len}
use Rattle.std.specs.List.{All, Contains, range_with_len}
use Rattle.run_rows.specs.declared.run.Run.{Run}
use Rattle.run_rows.specs.Runs.{numbers_of, members, AreRuns}
use Rattle.run_rows.proofs.RunLaws.{AreRuns-lower}
use Rattle.row_lanes.specs.Words.{Has, IsInRun, Meets}

-- the numbers of a run
pub Contains-range : (a n m : ℕ) → Contains (range_with_len a n) m ↔ IsInRun a (a + n) m
Contains-range a n m = (
  λ (k, lt, at). (let long = length-range_with_len a n in let is = get_or-range_with_len a n k m (omega arith) in (omega arith, omega arith)),
  λ h. (let from = h.0 in let within : m - a < n = omega (arith, h.1) in (m - a, omega (arith, length-range_with_len a n), get_or-range_with_len a n (m - a) m within ∙ omega arith)),
)

-- the numbers of a run and of those behind it
pub Contains-runs : (r : Run) (rs : List Run) (m : ℕ) → Contains (members (r ∷ rs)) m ↔ (IsInRun r.start (r.start + r.len) m ⊎ Contains (members rs) m)
Contains-runs r rs m =
    let here = Contains-range r.start r.len m in (
      λ h. elim (Contains-append_cases (numbers_of r) (members rs) m h) [ inl front ↦ inl (here.0 front) | inr back ↦ inr back ],
      λ h. elim h [ inl front ↦ Contains-append_left (numbers_of r) (members rs) m (here.1 front) | inr back ↦ Contains-append_right (numbers_of r) (members rs) m back ],
    )

-- the first of runs in order has a number, and ends below 2 ^ 32
pub record RunFits (r : Run) (rest : List Run) : Type 0 where
  pub some : 0 < r.len
  pub fits : r.start + r.len < 2 ^ 32
  pub behind : AreRuns 0 (2 ^ 32 - 1) rest

pub RunFits-first : (r : Run) (left rest : List Run) → left ≡ r ∷ rest → AreRuns 0 (2 ^ 32 - 1) left → RunFits r rest
RunFits-first r left rest split ordered =
    let runs = subst (AreRuns 0 (2 ^ 32 - 1)) split ordered in
    record { some = runs.1; fits = omega (arith, runs.2); behind = AreRuns-lower 0 (r.start + r.len + 1) (2 ^ 32 - 1) rest (omega arith) runs.3 }

-- ---- adding

-- the words and the runs that are left make up what the first words and the row do
pub record IsAddingRow (room : ℕ) (first words row : List ℕ) (left : List Run) : Type 0 where
  pub ordered : AreRuns 0 (2 ^ 32 - 1) left
  pub size : length words ≡ room
  pub same : (m : ℕ) → (Has words m ⊎ (Contains (members left) m × (m < 64 * room))) ↔ (Has first m ⊎ (Contains row m × (m < 64 * room)))

pub IsAddingRow-start : (room : ℕ) (words row : List ℕ) (left : List Run) → length words ≡ room → members left ≡ row → AreRuns 0 (2 ^ 32 - 1) left → IsAddingRow room words words row left
IsAddingRow-start room words row left size all ordered =
    record { ordered = ordered; size = size; same = λ m. rw all (λ h. h, λ h. h) }

pub IsAddingRow-next : (room : ℕ) (first words new row : List ℕ) (r : Run) (left rest : List Run) → left ≡ r ∷ rest → length new ≡ length words → ((m : ℕ) → Has new m ↔ (Has words m ⊎ (IsInRun r.start (r.start + r.len) m × (m < 64 * length words)))) → IsAddingRow room first words row left → IsAddingRow room first new row rest
IsAddingRow-next room first words new row r left rest split size added adding =
    let room-is = adding.size in
    record {
      ordered = (RunFits-first r left rest split adding.ordered).behind;
      size = size ∙ room-is;
      same = λ m.
          let all = rw split at (adding.same m) in
          let front = Contains-runs r rest m in (
            λ h. all.0 (elim h [
              | inl has ↦ elim ((added m).0 has) [ inl had ↦ inl had | inr (run, lt) ↦ inr (front.1 (inl run), omega arith) ]
              | inr (later, lt) ↦ inr (front.1 (inr later), lt)
            ]),
            λ h. elim (all.1 h) [
              | inl had ↦ inl ((added m).1 (inl had))
              | inr (here, lt) ↦ elim (front.0 here) [ inl run ↦ inl ((added m).1 (inr (run, omega arith))) | inr later ↦ inr (later, lt) ]
            ],
          );
    }

pub IsAddingRow-end : (room : ℕ) (first words row : List ℕ) (left : List Run) → left ≡ [] → IsAddingRow room first words row left → (m : ℕ) → Has words m ↔ (Has first m ⊎ (Contains row m × (m < 64 * room)))
IsAddingRow-end room first words row left none adding m =
    let all = rw none at (adding.same m) in
    (λ has. all.0 (inl has), λ h. elim (all.1 h) [ inl has ↦ has | inr ((k, lt, at), room) ↦ absurd (omega arith) ])

-- where there is a word for each number of the row, all are added
pub all_added : (room : ℕ) (old new row : List ℕ) → All (λ n. n < 64 * room) row → ((m : ℕ) → Has new m ↔ (Has old m ⊎ (Contains row m × (m < 64 * room)))) → (m : ℕ) → Has new m ↔ (Has old m ⊎ Contains row m)
all_added room old new row fits added m = (
  λ h. elim ((added m).0 h) [ inl had ↦ inl had | inr (here, lt) ↦ inr here ],
  λ h. (added m).1 (elim h [ inl had ↦ inl had | inr here ↦ inr (here, All-contains (λ n. n < 64 * room) row m fits here) ]),
)

-- ---- meeting

-- the runs that are left meet the words exactly where the row does
pub record IsMeeting (words row : List ℕ) (left : List Run) : Type 0 where
  pub ordered : AreRuns 0 (2 ^ 32 - 1) left
  pub same : Meets words (members left) ↔ Meets words row

pub IsMeeting-start : (words row : List ℕ) (left : List Run) → members left ≡ row → AreRuns 0 (2 ^ 32 - 1) left → IsMeeting words row left
IsMeeting-start words row left all ordered = record { ordered = ordered; same = rw all (λ h. h, λ h. h) }

pub IsMeeting-next : (words row : List ℕ) (r : Run) (left rest : List Run) → left ≡ r ∷ rest → (((n : ℕ) × Has words n × IsInRun r.start (r.start + r.len) n) → ⊥) → IsMeeting words row left → IsMeeting words row rest
IsMeeting-next words row r left rest split unmet meeting =
    let all = rw split at meeting.same in
    record {
      ordered = (RunFits-first r left rest split meeting.ordered).behind;
      same = (
        λ (n, later, has). all.0 (n, (Contains-runs r rest n).1 (inr later), has),
        λ h. (let met = all.1 h in elim ((Contains-runs r rest met.0).0 met.1) [ inl run ↦ absurd (unmet (met.0, met.2, run)) | inr later ↦ (met.0, later, met.2) ]),
      );
    }

pub met_row : (words row : List ℕ) (r : Run) (left rest : List Run) → left ≡ r ∷ rest → ((n : ℕ) × Has words n × IsInRun r.start (r.start + r.len) n) → IsMeeting words row left → Meets words row
met_row words row r left rest split (n, has, run) meeting =
    (rw split at meeting.same).0 (n, (Contains-runs r rest n).1 (inl run), has)

pub unmet_row : (words row : List ℕ) (left : List Run) → left ≡ [] → IsMeeting words row left → Meets words row → ⊥
unmet_row words row left none meeting met =
    let left_met = (rw none at meeting.same).1 met in
    nothing left_met.0 left_met.1
  where
    nothing : (n : ℕ) → Contains [] n → ⊥
    nothing n (k, lt, at) = omega arith
