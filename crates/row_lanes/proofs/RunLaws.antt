-- Laws of runs against words, word by word.
use Rattle.std.proofs.Common.{◌≡◌, ◌≢◌, ◌↔◌, ◌⊎◌, ℕ, ◌+◌, ◌-◌, ◌*◌, ◌/◌, ◌%◌, ◌^◌, ◌<◌, ◌≤◌, List, length, get_or, slice_set as set, bit_and, bit_or, min, max, refl, sym, ap, ◌∙◌, inl, inr, arith, w64, get_or-set_other, get_or-set_same, length-set}
use Rattle.std.proofs.lemmas.Bool.{cases_lt, cases_eq}
use Rattle.std.proofs.lemmas.Nat.{and_le_l}
use Rattle.std.proofs.lemmas.Nat.Bits.{bit_at-lt, bit_at-zero, bit_at_and, bit_at_or, bit_at_ones, bit_at_ones_above, bit_at-trailing_zeros, ones_shl, ones_shr, bit_at_mask_inside, bit_at_mask_below}
use Rattle.std.specs.Int.{bit_at, trailing_zeros}
use Rattle.row_lanes.proofs.SetLaws.{Has-below_length}
use Rattle.row_lanes.specs.Words.{Has, IsInRun}
use Rattle.row_lanes.specs.WordByWord.{IsRunPart}

-- the bits from low on, and below high
pub IsRunPart-masked : (place start end low high a b : ℕ) → start < 64 * place + 64 → 64 * place < end → low ≡ start - 64 * place → high ≡ min (end - 64 * place) 64 → a ≡ (2 ^ 64 - 1) * 2 ^ low % 2 ^ 64 → b ≡ (2 ^ 64 - 1) / 2 ^ (64 - high) → IsRunPart place start end (bit_and a b)
IsRunPart-masked place start end low high a b begun left low-is high-is a-is b-is = record {
  bits = λ i lt.
      let from : a ≡ 2 ^ 64 - 2 ^ low = a-is ∙ ones_shl 64 low (omega arith) in
      let back : 64 - (64 - high) ≡ high = omega arith in
      let up : b ≡ 2 ^ high - 1 = b-is ∙ ones_shr 64 (64 - high) (omega arith) ∙ ap (λ (k : ℕ). 2 ^ k - 1) back in
      let both : bit_at (bit_and a b) i ≡ min (bit_at (2 ^ 64 - 2 ^ low) i) (bit_at (2 ^ high - 1) i) =
      bit_at_and a b i ∙ ap (λ (w : ℕ). min (bit_at w i) (bit_at b i)) from ∙ ap (λ (w : ℕ). min (bit_at (2 ^ 64 - 2 ^ low) i) (bit_at w i)) up in
      let any = bit_at-lt (2 ^ high - 1) i in
      elim (cases_lt i low) [
        | inl before ↦ (let none = bit_at_mask_below low 64 i before in (λ h. absurd (omega arith), λ h. absurd (omega (arith, h.0))))
        | inr after ↦
            let one = bit_at_mask_inside low 64 i after lt in
            elim (cases_lt i high) [
              | inl within ↦ (let set = bit_at_ones high i within in (λ h. (omega arith, omega arith), λ h. omega arith))
              | inr past ↦ (let none = bit_at_ones_above high i past in (λ h. absurd (omega arith), λ h. absurd (omega (arith, h.1))))
            ]
      ];
}

-- ---- adding

-- the numbers of the run in the words before a place are added
pub record IsAdded (start end place : ℕ) (old new : List ℕ) : Type 0 where
  pub size : length new ≡ length old
  pub bits : (m : ℕ) → Has new m ↔ (Has old m ⊎ (IsInRun start end m × (m / 64 < place)))

pub IsAdded-start : (start end : ℕ) (old : List ℕ) → IsAdded start end (start / 64) old old
IsAdded-start start end old =
    record { size = refl; bits = λ m. (λ h. inl h, λ h. elim h [ inl had ↦ had | inr (run, before) ↦ absurd (omega (arith, run.0)) ]) }

pub IsAdded-next : (start end place part : ℕ) (old new : List ℕ) → place < length new → IsRunPart place start end part → IsAdded start end place old new → IsAdded start end (place + 1) old (set new place (bit_or (get_or new place 0) part))
IsAdded-next start end place part old new room run added = record {
  size = length-set new place (bit_or (get_or new place 0) part) ∙ added.size;
  bits = λ m.
      let word = get_or new place 0 in
      let newer = set new place (bit_or word part) in
      elim (cases_eq (m / 64) place) [
        | inl here ↦
            let i = m % 64 in
            let at : get_or newer (m / 64) 0 ≡ bit_or word part = rw (here, get_or-set_same) refl in
            let both : bit_at (get_or newer (m / 64) 0) i ≡ max (bit_at word i) (bit_at part i) = ap (λ (w : ℕ). bit_at w i) at ∙ bit_at_or word part i in
            let was : bit_at (get_or new (m / 64) 0) i ≡ bit_at word i = ap (λ (k : ℕ). bit_at (get_or new k 0) i) here in
            let number : 64 * place + i ≡ m = omega arith in
            let in_run = rw number at (run.bits i (omega arith)) in
            let before = bit_at-lt word i in
            let added_before = bit_at-lt part i in (
              λ h. elim (cases_eq (bit_at part i) 1) [
                | inl set ↦ inr (in_run.0 set, omega arith)
                | inr clear ↦ elim ((added.bits m).0 (omega arith)) [ inl had ↦ inl had | inr (r, lt) ↦ absurd (omega arith) ]
              ],
              λ h. elim h [
                | inl had ↦ (let has : Has new m = (added.bits m).1 (inl had) in omega arith)
                | inr (r, lt) ↦ (let set = in_run.1 r in omega arith)
              ],
            )
        | inr apart ↦
            let as_before : get_or newer (m / 64) 0 ≡ get_or new (m / 64) 0 = rw get_or-set_other refl in
            let same = ap (λ (w : ℕ). bit_at w (m % 64)) as_before in (
              λ h. elim ((added.bits m).0 (sym same ∙ h)) [ inl had ↦ inl had | inr (r, lt) ↦ inr (r, omega arith) ],
              λ h. same ∙ (added.bits m).1 (elim h [ inl had ↦ inl had | inr (r, lt) ↦ inr (r, omega arith) ]),
            )
      ];
}

-- all words of the run are done, or all that there are
pub IsAdded-end : (start end place past : ℕ) (old new : List ℕ) → past ≡ min ((end - 1) / 64 + 1) (length old) → past ≤ place → IsAdded start end place old new → (m : ℕ) → Has new m ↔ (Has old m ⊎ (IsInRun start end m × (m < 64 * length old)))
IsAdded-end start end place past old new past-is done added m = (
  λ h. elim ((added.bits m).0 h) [
    | inl had ↦ inl had
    | inr (r, lt) ↦ (let room = Has-below_length new m h in let size = added.size in inr (r, omega arith))
  ],
  λ h. elim h [
    | inl had ↦ (added.bits m).1 (inl had)
    | inr (r, lt) ↦ (let below = r.1 in (added.bits m).1 (inr (r, omega arith)))
  ],
)

-- ---- meeting

-- no number of the run in the words before a place is in the set
pub record IsUnmet (start end place : ℕ) (words : List ℕ) : Type 0 where
  pub none : (m : ℕ) → Has words m → IsInRun start end m → m / 64 < place → ⊥

pub IsUnmet-start : (start end : ℕ) (words : List ℕ) → IsUnmet start end (start / 64) words
IsUnmet-start start end words = record { none = λ m has run before. omega (arith, run.0) }

pub IsUnmet-next : (start end place part : ℕ) (words : List ℕ) → IsRunPart place start end part → bit_and (get_or words place 0) part ≡ 0 → IsUnmet start end place words → IsUnmet start end (place + 1) words
IsUnmet-next start end place part words run zero unmet = record {
  none = λ m has in_run before.
      elim (cases_eq (m / 64) place) [
        | inl here ↦
            let i = m % 64 in
            let number : 64 * place + i ≡ m = omega arith in
            let set = (rw number at (run.bits i (omega arith))).1 in_run in
            let word : bit_at (get_or words place 0) i ≡ 1 = ap (λ (k : ℕ). bit_at (get_or words k 0) i) (sym here) ∙ has in
            let both = bit_at_and (get_or words place 0) part i in
            let clear : bit_at (bit_and (get_or words place 0) part) i ≡ 0 = ap (λ (w : ℕ). bit_at w i) zero ∙ bit_at-zero i in
            omega arith
        | inr apart ↦ unmet.none m has in_run (omega arith)
      ];
}

-- a word that has a bit of the run has a number of it
pub met_here : (start end place part : ℕ) (words : List ℕ) → get_or words place 0 < 2 ^ 64 → IsRunPart place start end part → bit_and (get_or words place 0) part ≢ 0 → (n : ℕ) × Has words n × IsInRun start end n
met_here start end place part words fits run some =
    let word = get_or words place 0 in
    let x = bit_and word part in
    let t = trailing_zeros w64 x in
    let lowest = bit_at-trailing_zeros w64 x (omega arith) (omega (arith, and_le_l word part)) in
    let t_lt : t < 64 = lowest.0 in
    let both = bit_at_and word part t in
    let low = bit_at-lt word t in
    let high = bit_at-lt part t in
    let set = lowest.1 in
    let at : (64 * place + t) / 64 ≡ place = omega arith in
    let inside : (64 * place + t) % 64 ≡ t = omega arith in
    let word_bit : bit_at word t ≡ 1 = omega arith in
    (64 * place + t, ap (λ (k : ℕ). bit_at (get_or words k 0) ((64 * place + t) % 64)) at ∙ ap (bit_at word) inside ∙ word_bit, (run.bits t t_lt).0 (omega arith))

pub unmet_end : (start end place past : ℕ) (words : List ℕ) → past ≡ min ((end - 1) / 64 + 1) (length words) → past ≤ place → IsUnmet start end place words → ((n : ℕ) × Has words n × IsInRun start end n) → ⊥
unmet_end start end place past words past-is done unmet (n, has, run) =
    let room = Has-below_length words n has in
    let below = run.1 in
    unmet.none n has run (omega arith)
