-- What is answered and taken of lines, from what is answered and taken of the first of them and of the others.
use Rattle.std.proofs.Common.{◌≡◌, ℕ, zero, suc, ◌+◌, ◌-◌, ◌^◌, ◌<◌, ◌≤◌, true, false, not, cond, if◌then◌else◌, Option, Some, None, Result, Ok, Err, List, [], ◌∷◌, ◌++◌, length, take, refl, sym, ap, ◌∙◌, append_assoc, arith}
use Rattle.std.proofs.Math.Numerals.{one-add}
use Rattle.std.specs.Option.{option_map}
use Rattle.std.specs.List.{position_or_len}
use Rattle.std.proofs.Math.Seq.{take-append-add}
use Rattle.std.proofs.lemmas.List.{append-nil, length-append}
use Rattle.std.proofs.lemmas.Grind.{flat_map-append}
use Rattle.bm_term.specs.Kept.{Kept, HasTaken}
use Rattle.bm_term.proofs.Taking.{after_all-append}
use Rattle.nt_read.specs.declared.lines.FeedFault.{FeedFault}
use Rattle.nt_read.specs.declared.lines.FeedFault.TheVariants.{NotNTriples, Memory}
use Rattle.nt_read.specs.scanning.Line.{scan_line}
use Rattle.nt_read.specs.scanning.Lines.{is_bad, triples_in, triples_of, first_bad_from, before_first_bad}
use Rattle.nt_read.specs.Pieces.{counted}
use Rattle.nt_read.specs.Feeding.{TakesFront, first_bad_after, FailsAt, TakesUntil, AnswersEnded, TakesEnded}

-- the triples of two lists of lines in a row
pub triples_of-append : (lines more : List (List ℕ)) → triples_of (lines ++ more) ≡ triples_of lines ++ triples_of more
triples_of-append lines more = flat_map-append (λ (line : List ℕ). triples_in (scan_line line)) lines more

-- they are taken in a row
pub taken-append : (lines more : List (List ℕ)) (old mid new : Kept) → HasTaken old mid (triples_of lines) → HasTaken mid new (triples_of more) → HasTaken old new (triples_of (lines ++ more))
taken-append lines more old mid new first second = rw (triples_of-append lines more, after_all-append old (triples_of lines) (triples_of more), ← first) second

-- a number more
abbrev shifted : ℕ → Option ℕ → Option ℕ
shifted n found = option_map (λ k. n + k) found

-- where the numbers begin later, the first bad line has a later one
first_bad-later : (n m : ℕ) (lines : List (List ℕ)) → first_bad_from (n + m) lines ≡ shifted n (first_bad_from m lines)
first_bad-later n m [] = refl
first_bad-later n m (line ∷ lines) =
    elim (is_bad (scan_line line)) as (λ b. (if b then Some (n + m) else first_bad_from (n + m + 1) lines) ≡ shifted n (if b then Some m else first_bad_from (m + 1) lines)) [
      | true ↦ refl
      | false ↦ ap (λ k. first_bad_from k lines) (omega arith) ∙ first_bad-later n (m + 1) lines
    ]

-- after lines none of which is bad, the first bad line is that of the others
first_bad-after : (n : ℕ) (lines more : List (List ℕ)) → first_bad_from n lines ≡ None → first_bad_from n (lines ++ more) ≡ first_bad_from (length lines + n) more
first_bad-after n [] more good = ap (λ k. first_bad_from k more) (omega arith)
first_bad-after n (line ∷ lines) more good =
    elim (is_bad (scan_line line)) as (λ b. (if b then Some n else first_bad_from (n + 1) lines) ≡ None → (if b then Some n else first_bad_from (n + 1) (lines ++ more)) ≡ first_bad_from (suc (length lines) + n) more) [
      | true ↦ λ h. absurd (cc)
      | false ↦ λ h. first_bad-after (n + 1) lines more h ∙ ap (λ k. first_bad_from k more) (omega arith)
    ] good

-- the first bad line of some lines is that of more
pub first_bad-front : (n k : ℕ) (lines more : List (List ℕ)) → first_bad_from n lines ≡ Some k → first_bad_from n (lines ++ more) ≡ Some k
first_bad-front n k [] more found = absurd (cc)
first_bad-front n k (line ∷ lines) more found =
    elim (is_bad (scan_line line)) as (λ b. (if b then Some n else first_bad_from (n + 1) lines) ≡ Some k → (if b then Some n else first_bad_from (n + 1) (lines ++ more)) ≡ Some k) [
      | true ↦ λ h. h
      | false ↦ λ h. first_bad-front (n + 1) k lines more h
    ] found

-- numbers that stay in the end, on from others
counted-later : (ends n : ℕ) (found : Option ℕ) → option_map (λ k. counted (ends + k)) (shifted n found) ≡ option_map (λ k. counted (counted (ends + n) + k)) found
counted-later ends n None = refl
counted-later ends n (Some k) = ap Some (omega arith)

-- the first bad line of the others has its number in the whole
pub first_bad_after-later : (ends : ℕ) (lines more : List (List ℕ)) → first_bad_from 1 lines ≡ None → first_bad_after ends (lines ++ more) ≡ first_bad_after (counted (ends + length lines)) more
first_bad_after-later ends lines more good =
    ap (option_map (λ k. counted (ends + k))) (first_bad-after 1 lines more good ∙ first_bad-later (length lines) 1 more)
    ∙ counted-later ends (length lines) (first_bad_from 1 more)

-- that some lines have a first bad one
pub some_bad : (ends number : ℕ) (lines : List (List ℕ)) → first_bad_after ends lines ≡ Some number → (k : ℕ) × (first_bad_from 1 lines ≡ Some k) × (number ≡ counted (ends + k))
some_bad ends number lines found =
    elim (first_bad_from 1 lines) as (λ (o : Option ℕ). first_bad_from 1 lines ≡ o → option_map (λ k. counted (ends + k)) o ≡ Some number → (k : ℕ) × (first_bad_from 1 lines ≡ Some k) × (number ≡ counted (ends + k))) [
      | None ↦ λ _ h. absurd (cc)
      | Some k ↦ λ is h. (k, is, cc)
    ] refl found

-- one line more that is not bad, in front of those before the first bad one
before-cons : (line : List ℕ) (lines : List (List ℕ)) → before_first_bad (line ∷ lines) ≡ (if is_bad (scan_line line) then [] else line ∷ before_first_bad lines)
before-cons line lines =
    elim (is_bad (scan_line line)) as (λ b. take (cond (not b) (1 + position_or_len (λ l. is_bad (scan_line l)) lines) 0) (line ∷ lines) ≡ (if b then [] else line ∷ before_first_bad lines)) [
      | true ↦ refl
      | false ↦ rw one-add refl
    ]

-- where a line is bad, more lines put none before the first bad one
pub before-front : (n k : ℕ) (lines more : List (List ℕ)) → first_bad_from n lines ≡ Some k → before_first_bad (lines ++ more) ≡ before_first_bad lines
before-front n k [] more found = absurd (cc)
before-front n k (line ∷ lines) more found =
    before-cons line (lines ++ more)
    ∙ elim (is_bad (scan_line line)) as (λ b. (if b then Some n else first_bad_from (n + 1) lines) ≡ Some k → (if b then [] else line ∷ before_first_bad (lines ++ more)) ≡ (if b then [] else line ∷ before_first_bad lines)) [
      | true ↦ λ h. refl
      | false ↦ λ h. ap (λ rest. line ∷ rest) (before-front (n + 1) k lines more h)
    ] found
    ∙ sym (before-cons line lines)

-- lines none of which is bad are before the first bad one of more lines
pub before-after : (n : ℕ) (lines more : List (List ℕ)) → first_bad_from n lines ≡ None → before_first_bad (lines ++ more) ≡ lines ++ before_first_bad more
before-after n [] more good = refl
before-after n (line ∷ lines) more good =
    before-cons line (lines ++ more)
    ∙ elim (is_bad (scan_line line)) as (λ b. (if b then Some n else first_bad_from (n + 1) lines) ≡ None → (if b then [] else line ∷ before_first_bad (lines ++ more)) ≡ line ∷ (lines ++ before_first_bad more)) [
      | true ↦ λ h. absurd (cc)
      | false ↦ λ h. ap (λ rest. line ∷ rest) (before-after (n + 1) lines more h)
    ] good

-- the lines before the first bad one, by its number
pub before-number : (n k : ℕ) (lines : List (List ℕ)) → first_bad_from n lines ≡ Some k → (n ≤ k) × (before_first_bad lines ≡ take (k - n) lines)
before-number n k [] found = absurd (cc)
before-number n k (line ∷ lines) found =
    let at_line : (n ≤ k) × ((if is_bad (scan_line line) then [] else line ∷ before_first_bad lines) ≡ take (k - n) (line ∷ lines)) =
    elim (is_bad (scan_line line)) as (λ b. (if b then Some n else first_bad_from (n + 1) lines) ≡ Some k → (n ≤ k) × ((if b then [] else line ∷ before_first_bad lines) ≡ take (k - n) (line ∷ lines))) [
      | true ↦ λ h. let same : n ≡ k = cc in let none : k - n ≡ 0 = omega arith in (omega arith, rw none refl)
      | false ↦ λ h. let later = before-number (n + 1) k lines h in
          let more : k - n ≡ suc (k - (n + 1)) = omega (arith, later.0) in
          (omega (arith, later.0), rw more (ap (λ rest. line ∷ rest) (later.1)))
    ] found in
    (at_line.0, before-cons line lines ∙ at_line.1)

-- ANSWERS

-- after lines none of which is bad, a fault at the others is one at all
pub fails-after : (ends : ℕ) (lines more : List (List ℕ)) (fault : FeedFault) → first_bad_from 1 lines ≡ None → FailsAt (counted (ends + length lines)) more fault → FailsAt ends (lines ++ more) fault
fails-after ends lines more (NotNTriples line) good fails = first_bad_after-later ends lines more good ∙ fails
fails-after ends lines more Memory good fails = tt

-- so an answer of the others is one of all
pub answers-after : {A : Type 0} (ends : ℕ) (lines more : List (List ℕ)) (result : Result A FeedFault) → first_bad_from 1 lines ≡ None → AnswersEnded (counted (ends + length lines)) more result → AnswersEnded ends (lines ++ more) result
answers-after ends lines more (Ok v) good answers = first_bad-after 1 lines more good ∙ first_bad-later (length lines) 1 more ∙ ap (shifted (length lines)) answers
answers-after ends lines more (Err fault) good answers = fails-after ends lines more fault good answers

-- a fault at some lines is one at more
pub fails-front : (ends : ℕ) (lines more : List (List ℕ)) (fault : FeedFault) → FailsAt ends lines fault → FailsAt ends (lines ++ more) fault
fails-front ends lines more (NotNTriples line) fails =
    let (k, found, is) = some_bad ends line lines fails in
    ap (option_map (λ k. counted (ends + k))) (first_bad-front 1 k lines more found) ∙ ap Some (sym is)
fails-front ends lines more Memory fails = tt

-- WHAT WAS TAKEN

-- some of more lines, after all of the lines before them
front-after : (lines more : List (List ℕ)) (old mid new : Kept) → first_bad_from 1 lines ≡ None → HasTaken old mid (triples_of lines) → TakesFront more mid new → TakesFront (lines ++ more) old new
front-after lines more old mid new good taken front = record {
  count = length lines + front.count;
  good = rw (take-append-add lines more front.count) (first_bad-after 1 lines (take front.count more) good ∙ first_bad-later (length lines) 1 (take front.count more) ∙ ap (shifted (length lines)) front.good);
  taken = rw (take-append-add lines more front.count) (taken-append lines (take front.count more) old mid new taken front.taken);
}

-- some of the first lines are some of more
take-twice : (n : ℕ) (lines more : List (List ℕ)) → take (length (take n lines)) (lines ++ more) ≡ take n lines
take-twice zero lines more = refl
take-twice (suc n) [] more = refl
take-twice (suc n) (line ∷ lines) more = ap (λ rest. line ∷ rest) (take-twice n lines more)

-- so what was taken of them was taken of more
front-front : (lines more : List (List ℕ)) (old new : Kept) → TakesFront lines old new → TakesFront (lines ++ more) old new
front-front lines more old new front = record {
  count = length (take front.count lines);
  good = rw (take-twice front.count lines more) front.good;
  taken = rw (take-twice front.count lines more) front.taken;
}

-- after lines none of which is bad, what was taken of the others until a fault was taken of all
pub until-after : (lines more : List (List ℕ)) (old mid new : Kept) (fault : FeedFault) → first_bad_from 1 lines ≡ None → HasTaken old mid (triples_of lines) → TakesUntil fault more mid new → TakesUntil fault (lines ++ more) old new
until-after lines more old mid new (NotNTriples line) good taken takes = rw (before-after 1 lines more good) (taken-append lines (before_first_bad more) old mid new taken takes)
until-after lines more old mid new Memory good taken takes = front-after lines more old mid new good taken takes

-- and so with no fault
pub takes-after : {A : Type 0} (lines more : List (List ℕ)) (old mid new : Kept) (result : Result A FeedFault) → first_bad_from 1 lines ≡ None → HasTaken old mid (triples_of lines) → TakesEnded more mid new result → TakesEnded (lines ++ more) old new result
takes-after lines more old mid new (Ok v) good taken takes = taken-append lines more old mid new taken takes
takes-after lines more old mid new (Err fault) good taken takes = until-after lines more old mid new fault good taken takes

-- what was taken of some lines until a fault at them was taken of more
pub until-front : (ends : ℕ) (lines more : List (List ℕ)) (old new : Kept) (fault : FeedFault) → FailsAt ends lines fault → TakesUntil fault lines old new → TakesUntil fault (lines ++ more) old new
until-front ends lines more old new (NotNTriples line) fails takes =
    let (k, found, is) = some_bad ends line lines fails in
    rw (before-front 1 k lines more found) takes
until-front ends lines more old new Memory fails takes = front-front lines more old new takes

-- ONE LINE

-- a line that is not bad
pub one-good : (ends : ℕ) (line : List ℕ) → is_bad (scan_line line) ≡ false → first_bad_from 1 (line ∷ []) ≡ None
one-good ends line good = rw good refl

-- its triple was taken
pub one-taken : (line : List ℕ) (old new : Kept) → HasTaken old new (triples_in (scan_line line)) → HasTaken old new (triples_of (line ∷ []))
one-taken line old new taken = rw (append-nil (triples_in (scan_line line))) taken

-- a bad line is the next one
pub one-bad : (ends : ℕ) (line : List ℕ) → is_bad (scan_line line) ≡ true → first_bad_after ends (line ∷ []) ≡ Some (counted (ends + 1))
one-bad ends line bad = rw bad refl

-- nothing is before it
pub none-before : (line : List ℕ) (kept : Kept) → is_bad (scan_line line) ≡ true → HasTaken kept kept (triples_of (before_first_bad (line ∷ [])))
none-before line kept bad = rw (before-cons line [], bad) refl

-- no line was taken
pub none-taken : (lines : List (List ℕ)) (kept : Kept) → TakesFront lines kept kept
none-taken lines kept = record { count = 0; good = refl; taken = refl }

-- LOOPS

-- The first of some lines were read, and others are left. None of the first is bad, their triples were taken, and their ends
-- were counted.
pub record AreRead (lines left : List (List ℕ)) (old new : Kept) (before ends : ℕ) : Type 0 where
  pub done : List (List ℕ)
  pub split : lines ≡ done ++ left
  pub good : first_bad_from 1 done ≡ None
  pub taken : HasTaken old new (triples_of done)
  pub counts : ends ≡ counted (before + length done)

-- none were read
pub none_read : (lines : List (List ℕ)) (kept : Kept) (ends : ℕ) → ends < 2 ^ 64 → AreRead lines lines kept kept ends ends
none_read lines kept ends small = record { done = []; split = refl; good = refl; taken = refl; counts = omega arith }

-- one line more
pub read-next : (lines left : List (List ℕ)) (line : List ℕ) (old mid new : Kept) (before ends later : ℕ) → AreRead lines (line ∷ left) old mid before ends
    → first_bad_from 1 (line ∷ []) ≡ None → HasTaken mid new (triples_of (line ∷ [])) → later ≡ counted (ends + 1) → AreRead lines left old new before later
read-next lines left line old mid new before ends later so_far good takes counts = record {
  done = so_far.done ++ line ∷ [];
  split = so_far.split ∙ sym (append_assoc so_far.done (line ∷ []) left);
  good = first_bad-after 1 so_far.done (line ∷ []) so_far.good ∙ first_bad-later (length so_far.done) 1 (line ∷ []) ∙ ap (shifted (length so_far.done)) good;
  taken = taken-append so_far.done (line ∷ []) old mid new so_far.taken takes;
  counts = let more = length-append so_far.done (line ∷ []) in omega (arith, more, so_far.counts, counts);
}

-- all were read
pub all_read : (lines : List (List ℕ)) (old new : Kept) (before ends : ℕ) → AreRead lines [] old new before ends
    → (first_bad_from 1 lines ≡ None) × HasTaken old new (triples_of lines) × (ends ≡ counted (before + length lines))
all_read lines old new before ends so_far =
    let is : lines ≡ so_far.done = so_far.split ∙ append-nil so_far.done in
    (rw is so_far.good, rw is so_far.taken, rw is so_far.counts)

-- a fault came at the next line
pub fault_read : (lines left : List (List ℕ)) (line : List ℕ) (old mid new : Kept) (before ends : ℕ) (fault : FeedFault) → AreRead lines (line ∷ left) old mid before ends
    → FailsAt ends (line ∷ []) fault → TakesUntil fault (line ∷ []) mid new → FailsAt before lines fault × TakesUntil fault lines old new
fault_read lines left line old mid new before ends fault so_far fails takes =
    let split : lines ≡ so_far.done ++ ((line ∷ []) ++ left) = so_far.split in
    let here = fails-front ends (line ∷ []) left fault fails in
    let of_here = until-front ends (line ∷ []) left mid new fault fails takes in (
      rw split (fails-after before so_far.done ((line ∷ []) ++ left) fault so_far.good (rw (← so_far.counts) here)),
      rw split (until-after so_far.done ((line ∷ []) ++ left) old mid new fault so_far.good so_far.taken of_here),
    )
