-- Laws of the loops of a fold.
use Rattle.std.proofs.Common.{◌≡◌, ◌↔◌, ◌⊎◌, ℕ, ◌+◌, ◌*◌, ◌<◌, ◌≤◌, List, length, Some, None, sym, ◌∙◌, subst, inl, inr, arith}
use Rattle.std.proofs.lemmas.Bool.{cases_lt, cases_eq}
use Rattle.std.specs.List.{Contains}
use Rattle.row_lanes.specs.Words.{Has, Meets}
use Rattle.cube_slices.specs.Lines.{Line}
use Rattle.pattern_rel.specs.Shapes.{row_of}
use Rattle.pattern_rel.specs.steps.Sets.{IsNext, IsCandidate, IsBeside}
use Rattle.pattern_rel.proofs.ShapeLaws.{not_in_none}

-- ---- retaining

-- the numbers before from are settled, and the others are as they were
pub record IsRetaining (from : ℕ) (ls : List Line) (seconds first words : List ℕ) : Type 0 where
  pub settled : (n : ℕ) → n < from → Has words n ↔ (Has first n × Meets seconds (row_of n ls))
  pub left : (n : ℕ) → from ≤ n → Has words n ↔ Has first n

pub IsRetaining-start : (ls : List Line) (seconds words : List ℕ) → IsRetaining 0 ls seconds words words
IsRetaining-start ls seconds words = record { settled = λ n lt. absurd (omega arith); left = λ n le. (λ h. h, λ h. h) }

pub IsRetaining-next : (from n : ℕ) (ls : List Line) (seconds first words new : List ℕ) → IsNext from words (Some n) → ((m : ℕ) → Has new m ↔ (Has words m × (m ≡ n → Meets seconds (row_of n ls)))) → IsRetaining from ls seconds first words → IsRetaining (n + 1) ls seconds first new
IsRetaining-next from n ls seconds first words new next kept retaining = record {
  settled = λ m lt. elim (cases_lt m from) [
    | inl before ↦
        let at = retaining.settled m before in
        (λ h. at.0 ((kept m).0 h).0, λ h. (kept m).1 (at.1 h, λ same. absurd (omega (arith, next.0))))
    | inr later ↦
        let at = retaining.left m later in
        elim (cases_eq m n) [
          | inl same ↦ (
            λ h. (let k = (kept m).0 h in (at.0 k.0, subst (λ (i : ℕ). Meets seconds (row_of i ls)) (sym same) (k.1 same))),
            λ h. (kept m).1 (at.1 h.0, λ is. subst (λ (i : ℕ). Meets seconds (row_of i ls)) same h.1),
          )
          | inr apart ↦ (
            λ h. absurd (let le = next.2 m ((kept m).0 h).0 later in omega arith),
            λ h. absurd (let le = next.2 m (at.1 h.0) later in omega arith),
          )
        ]
  ];
  left = λ m le.
      let at = retaining.left m (omega (arith, next.0)) in
      (λ h. at.0 ((kept m).0 h).0, λ h. (kept m).1 (at.1 h, λ same. absurd (omega arith)));
}

pub IsRetaining-end : (from : ℕ) (ls : List Line) (seconds first words : List ℕ) → IsNext from words None → IsRetaining from ls seconds first words → (n : ℕ) → Has words n ↔ (Has first n × Meets seconds (row_of n ls))
IsRetaining-end from ls seconds first words none retaining n =
    elim (cases_lt n from) [
      | inl before ↦ retaining.settled n before
      | inr later ↦
          (λ h. absurd (let lt = none n h in omega arith), λ h. absurd (let lt = none n ((retaining.left n later).1 h.0) in omega arith))
    ]

-- ---- gathering

-- the number stands beside a number of the set that is before from
abbrev pub IsBesideBefore : ℕ → List ℕ → List Line → ℕ → Type 0
IsBesideBefore from firsts ls c = (n : ℕ) × (n < from) × Has firsts n × Contains (row_of n ls) c

-- what stands beside the numbers before from is added
pub record IsGathering (room from : ℕ) (ls : List Line) (firsts first words : List ℕ) : Type 0 where
  pub size : length words ≡ room
  pub same : (c : ℕ) → Has words c ↔ (Has first c ⊎ (IsBesideBefore from firsts ls c × (c < 64 * room)))

pub IsGathering-start : (room : ℕ) (ls : List Line) (firsts words : List ℕ) → length words ≡ room → IsGathering room 0 ls firsts words words
IsGathering-start room ls firsts words size =
    record { size = size; same = λ c. (λ h. inl h, λ h. elim h [ inl had ↦ had | inr ((n, lt, has, there), within) ↦ absurd (omega arith) ]) }

pub IsGathering-next : (room from n : ℕ) (ls : List Line) (firsts first words new xs : List ℕ) → IsCandidate from firsts ls (Some n) → xs ≡ row_of n ls → length new ≡ length words → ((c : ℕ) → Has new c ↔ (Has words c ⊎ (Contains xs c × (c < 64 * length words)))) → IsGathering room from ls firsts first words → IsGathering room (n + 1) ls firsts first new
IsGathering-next room from n ls firsts first words new xs found row size added gathering =
    let room-is = gathering.size in
    let up = found.0 in
    record {
      size = size ∙ room-is;
      same = λ c. (
        λ h. elim ((added c).0 h) [
          | inl had ↦ elim ((gathering.same c).0 had) [
            | inl at_first ↦ inl at_first
            | inr ((m, lt, has, there), within) ↦ inr ((m, omega arith, has, there), within)
          ]
          | inr (there, within) ↦ inr ((n, omega arith, found.1, subst (λ (ys : List ℕ). Contains ys c) row there), omega arith)
        ],
        λ h. (added c).1 (elim h [
          | inl at_first ↦ inl ((gathering.same c).1 (inl at_first))
          | inr ((m, lt, has, there), within) ↦ elim (cases_lt m from) [
            | inl before ↦ inl ((gathering.same c).1 (inr ((m, before, has, there), within)))
            | inr later ↦ elim (cases_eq m n) [
              | inl same ↦ inr (subst (λ (ys : List ℕ). Contains ys c) (sym row) (subst (λ (i : ℕ). Contains (row_of i ls) c) same there), omega arith)
              | inr apart ↦ absurd (not_in_none c (subst (λ (ys : List ℕ). Contains ys c) (found.2 m has later (omega arith)) there))
            ]
          ]
        ]),
      );
    }

pub IsGathering-end : (room from : ℕ) (ls : List Line) (firsts first words : List ℕ) → IsCandidate from firsts ls None → IsGathering room from ls firsts first words → (c : ℕ) → Has words c ↔ (Has first c ⊎ (IsBeside firsts ls c × (c < 64 * room)))
IsGathering-end room from ls firsts first words none gathering c = (
  λ h. elim ((gathering.same c).0 h) [ inl at_first ↦ inl at_first | inr ((m, lt, has, there), within) ↦ inr ((m, has, there), within) ],
  λ h. (gathering.same c).1 (elim h [
    | inl at_first ↦ inl at_first
    | inr ((m, has, there), within) ↦ elim (cases_lt m from) [
      | inl before ↦ inr ((m, before, has, there), within)
      | inr later ↦ absurd (not_in_none c (subst (λ (ys : List ℕ). Contains ys c) (none m has later) there))
    ]
  ]),
)
