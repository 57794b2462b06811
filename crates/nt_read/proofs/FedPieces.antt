-- What was answered and taken of pieces is what is answered and taken of the file of all their bytes.
use Rattle.std.proofs.Common.{◌≡◌, ◌≢◌, ℕ, suc, ◌+◌, ◌^◌, ◌<◌, ◌≤◌, Bool, true, false, ◌==◌, if◌then◌else◌, Some, None, Result, Ok, Err, List, [], ◌∷◌, ◌++◌, length, take, refl, sym, ap, ◌∙◌, subst, arith}
use Rattle.std.proofs.Math.Seq.{take-append_seam}
use Rattle.std.proofs.lemmas.List.{append-nil}
use Rattle.bm_term.specs.Kept.{Kept, HasTaken}
use Rattle.nt_read.specs.declared.lines.FeedFault.{FeedFault}
use Rattle.nt_read.specs.declared.lines.FeedFault.TheVariants.{NotNTriples, Memory}
use Rattle.nt_read.specs.scanning.Line.{scan_line, scan_chars, is_end, bad, nothing}
use Rattle.rdf_text.specs.scanning.Text.{after_run}
use Rattle.std.proofs.lemmas.Str.{IsUtf8-nil, chars-nil}
use Rattle.nt_read.proofs.LineLaws.{line_of_text}
use Rattle.nt_read.specs.scanning.Lines.{before_first_line, lines_after, lines_of, first_bad, first_bad_from, triples_of}
use Rattle.nt_read.specs.Lines.{HasNoEnd}
use Rattle.nt_read.specs.Pieces.{Stream, new_stream, counted, ended, unfinished, ended_in, cut}
use Rattle.nt_read.specs.Feeding.{AnswersLines, TakesLines, TakesFront, first_bad_after, FailsAt, TakesUntil, AnswersEnded, TakesEnded, HasRead}
use Rattle.nt_read.proofs.FirstBad.{find_first}
use Rattle.nt_read.proofs.Pieces.{first_line-front, lines_of-ended, ended-next, unfinished-next, ended-cut, cut-twice, cut-nothing, ended-nothing}
use Rattle.nt_read.proofs.Reading.{before-number, some_bad, fails-after, fails-front, until-after, until-front, answers-after, takes-after, taken-append}

-- THE NUMBER OF THE FIRST BAD LINE

-- a place among lines that fits into so many bytes
abbrev FitIn : List (List ℕ) → ℕ → Type 0
FitIn lines n = (before : List (List ℕ)) (line : List ℕ) (after : List (List ℕ)) → lines ≡ before ++ line ∷ after → length before + length line ≤ n

-- one empty line
one_empty : FitIn ([] ∷ []) 0
one_empty [] line after is = let none : [] ≡ line = cc in rw (← none) (omega arith)
one_empty (first ∷ []) line after is = absurd (cc)
one_empty (first ∷ second ∷ before) line after is = absurd (cc)

-- an empty line more, and a byte more
within-empty : (lines : List (List ℕ)) (n : ℕ) → FitIn lines n → FitIn ([] ∷ lines) (suc n)
within-empty lines n fits [] line after is = let none : [] ≡ line = cc in rw (← none) (omega arith)
within-empty lines n fits (first ∷ before) line after is =
    let later : lines ≡ before ++ line ∷ after = cc in
    omega (arith, fits before line after later)

-- a byte more in the first line
within-byte : (b : ℕ) (lines : List (List ℕ)) (n : ℕ) → FitIn lines n → FitIn (before_first_line b lines) (suc n)
within-byte b [] n fits [] line after is = let one : b ∷ [] ≡ line = cc in rw (← one) (omega arith)
within-byte b [] n fits (first ∷ []) line after is = absurd (cc)
within-byte b [] n fits (first ∷ second ∷ before) line after is = absurd (cc)
within-byte b (l ∷ lines) n fits [] line after is =
    let one : b ∷ l ≡ line = cc in
    rw (← one) (omega (arith, fits [] l lines refl))
within-byte b (l ∷ lines) n fits (first ∷ before) line after is =
    let later : lines ≡ before ++ line ∷ after = cc in
    omega (arith, fits (l ∷ before) line after (ap (λ rest. l ∷ rest) later))

-- a line has at most the bytes after the line ends before it
within : (cr : Bool) (bytes : List ℕ) → FitIn (lines_after cr bytes) (length bytes)
within cr [] = one_empty
within cr (b ∷ bytes) =
    elim (b == 10) as (λ lf. FitIn (if lf then (if cr then lines_after false bytes else [] ∷ lines_after false bytes) else (if b == 13 then [] ∷ lines_after true bytes else before_first_line b (lines_after false bytes))) (suc (length bytes))) [
      | true ↦ elim cr as (λ cr. FitIn (if cr then lines_after false bytes else [] ∷ lines_after false bytes) (suc (length bytes))) [
        | true ↦ λ before line after h. omega (arith, within false bytes before line after h)
        | false ↦ within-empty (lines_after false bytes) (length bytes) (within false bytes)
      ]
      | false ↦ elim (b == 13) as (λ c. FitIn (if c then [] ∷ lines_after true bytes else before_first_line b (lines_after false bytes)) (suc (length bytes))) [
        | true ↦ within-empty (lines_after true bytes) (length bytes) (within true bytes)
        | false ↦ within-byte b (lines_after false bytes) (length bytes) (within false bytes)
      ]
    ]

-- an empty line has no bytes, so it is not bad
no_chars : scan_chars [] ≡ nothing
unfolding scan_chars is_end after_run
no_chars = refl

empty_is_good : scan_line [] ≢ bad
empty_is_good e =
    let is : scan_line [] ≡ nothing = line_of_text [] IsUtf8-nil ∙ ap scan_chars chars-nil ∙ no_chars in
    let lost : bad ≡ nothing = sym e ∙ is in
    absurd (cc)

-- a bad line has a byte
bad_has_byte : (line : List ℕ) → scan_line line ≡ bad → 1 ≤ length line
bad_has_byte [] is = absurd (empty_is_good is)
bad_has_byte (b ∷ line) is = omega arith

-- the number of the first bad line is at most the number of bytes
bad-within : (bytes : List ℕ) (k : ℕ) → first_bad_from 1 (lines_of bytes) ≡ Some k → k ≤ length bytes
unfolding lines_of
bad-within bytes k is =
    let found = find_first 1 (lines_after false bytes) k is in
    omega (arith, found.place, within false bytes found.before found.line found.after found.cut, bad_has_byte found.line found.it_is_bad)

-- so it is exact in fewer than 2^64 bytes
first_bad-exact : (bytes : List ℕ) (line : ℕ) → length bytes < 2 ^ 64 → first_bad_after 0 (lines_of bytes) ≡ Some line → first_bad bytes ≡ Some line
unfolding first_bad
first_bad-exact bytes line small is =
    let (k, found, same) = some_bad 0 line (lines_of bytes) is in
    let number : k ≡ line = omega (arith, same, bad-within bytes k found) in
    found ∙ ap Some number

-- A WHOLE FILE

-- what is answered of all lines is answered of the file
pub whole_answers : (bytes : List ℕ) (result : Result (Unit {0}) FeedFault) → length bytes < 2 ^ 64 → AnswersEnded 0 (lines_of bytes) result → AnswersLines bytes result
unfolding first_bad
whole_answers bytes (Ok v) small answers = answers
whole_answers bytes (Err (NotNTriples line)) small answers = first_bad-exact bytes line small answers
whole_answers bytes (Err Memory) small answers = tt

-- what was taken of all lines was taken of the file
pub whole_takes : (bytes : List ℕ) (old new : Kept) (result : Result (Unit {0}) FeedFault) → length bytes < 2 ^ 64 → AnswersEnded 0 (lines_of bytes) result → TakesEnded (lines_of bytes) old new result → TakesLines bytes old new result
whole_takes bytes old new (Ok v) small answers takes = takes
whole_takes bytes old new (Err (NotNTriples line)) small answers takes =
    let (k, found, same) = some_bad 0 line (lines_of bytes) answers in
    let number : k ≡ line = omega (arith, same, bad-within bytes k found) in
    rw (← number, ← (before-number 1 k (lines_of bytes) found).1) takes
whole_takes bytes old new (Err Memory) small answers takes = takes

-- the last line after those that have ended
pub last_answers : (bytes : List ℕ) (ends : ℕ) (result : Result (Unit {0}) FeedFault) → first_bad_from 1 (ended (lines_of bytes)) ≡ None → ends ≡ counted (0 + length (ended (lines_of bytes)))
    → AnswersEnded ends (unfinished (lines_of bytes) ∷ []) result → AnswersEnded 0 (lines_of bytes) result
last_answers bytes ends result good counts answers =
    subst (λ (lines : List (List ℕ)). AnswersEnded 0 lines result) (lines_of-ended bytes)
    (answers-after 0 (ended (lines_of bytes)) (unfinished (lines_of bytes) ∷ []) result good (rw (← counts) answers))

pub last_takes : (bytes : List ℕ) (old mid new : Kept) (result : Result (Unit {0}) FeedFault) → first_bad_from 1 (ended (lines_of bytes)) ≡ None → HasTaken old mid (triples_of (ended (lines_of bytes)))
    → TakesEnded (unfinished (lines_of bytes) ∷ []) mid new result → TakesEnded (lines_of bytes) old new result
last_takes bytes old mid new result good taken takes =
    subst (λ (lines : List (List ℕ)). TakesEnded lines old new result) (lines_of-ended bytes)
    (takes-after (ended (lines_of bytes)) (unfinished (lines_of bytes) ∷ []) old mid new result good taken takes)

-- a fault at those that have ended
pub early_fails : (bytes : List ℕ) (fault : FeedFault) → FailsAt 0 (ended (lines_of bytes)) fault → FailsAt 0 (lines_of bytes) fault
early_fails bytes fault fails =
    subst (λ (lines : List (List ℕ)). FailsAt 0 lines fault) (lines_of-ended bytes)
    (fails-front 0 (ended (lines_of bytes)) (unfinished (lines_of bytes) ∷ []) fault fails)

pub early_takes : (bytes : List ℕ) (old new : Kept) (fault : FeedFault) → FailsAt 0 (ended (lines_of bytes)) fault → TakesUntil fault (ended (lines_of bytes)) old new → TakesUntil fault (lines_of bytes) old new
early_takes bytes old new fault fails takes =
    subst (λ (lines : List (List ℕ)). TakesUntil fault lines old new) (lines_of-ended bytes)
    (until-front 0 (ended (lines_of bytes)) (unfinished (lines_of bytes) ∷ []) old new fault fails takes)

-- A TEXT IN FRONT

-- where a line ends after a text
pub front_split : (text bytes line after : List ℕ) → HasNoEnd text → lines_of bytes ≡ line ∷ lines_of after
    → (ended (lines_of (text ++ bytes)) ≡ ((text ++ line) ∷ []) ++ ended (lines_of after)) × (unfinished (lines_of (text ++ bytes)) ≡ unfinished (lines_of after))
front_split text bytes line after never split =
    let whole = first_line-front text bytes line (lines_of after) never split in
    (ap ended whole ∙ ended-next (text ++ line) after, ap unfinished whole ∙ unfinished-next (text ++ line) after)

-- where none ends
pub front_whole : (text bytes : List ℕ) → HasNoEnd text → lines_of bytes ≡ bytes ∷ []
    → (ended (lines_of (text ++ bytes)) ≡ []) × (unfinished (lines_of (text ++ bytes)) ≡ text ++ bytes)
front_whole text bytes never one =
    let whole = first_line-front text bytes bytes [] never one in
    (ap ended whole, ap unfinished whole)

-- a fault at the first of the lines that end
pub first_fails : (ends : ℕ) (text bytes line after : List ℕ) (fault : FeedFault) → HasNoEnd text → lines_of bytes ≡ line ∷ lines_of after → FailsAt ends ((text ++ line) ∷ []) fault → FailsAt ends (ended (lines_of (text ++ bytes))) fault
first_fails ends text bytes line after fault never split fails =
    subst (λ (lines : List (List ℕ)). FailsAt ends lines fault) (sym (front_split text bytes line after never split).0)
    (fails-front ends ((text ++ line) ∷ []) (ended (lines_of after)) fault fails)

pub first_takes : (ends : ℕ) (text bytes line after : List ℕ) (old new : Kept) (fault : FeedFault) → HasNoEnd text → lines_of bytes ≡ line ∷ lines_of after → FailsAt ends ((text ++ line) ∷ []) fault
    → TakesUntil fault ((text ++ line) ∷ []) old new → TakesUntil fault (ended (lines_of (text ++ bytes))) old new
first_takes ends text bytes line after old new fault never split fails takes =
    subst (λ (lines : List (List ℕ)). TakesUntil fault lines old new) (sym (front_split text bytes line after never split).0)
    (until-front ends ((text ++ line) ∷ []) (ended (lines_of after)) old new fault fails takes)

-- a fault at those after it
pub later_fails : (ends next : ℕ) (text bytes line after : List ℕ) (fault : FeedFault) → HasNoEnd text → lines_of bytes ≡ line ∷ lines_of after → first_bad_from 1 ((text ++ line) ∷ []) ≡ None
    → next ≡ counted (ends + 1) → FailsAt next (ended (lines_of after)) fault → FailsAt ends (ended (lines_of (text ++ bytes))) fault
later_fails ends next text bytes line after fault never split good counts fails =
    subst (λ (lines : List (List ℕ)). FailsAt ends lines fault) (sym (front_split text bytes line after never split).0)
    (fails-after ends ((text ++ line) ∷ []) (ended (lines_of after)) fault good (subst (λ (n : ℕ). FailsAt n (ended (lines_of after)) fault) counts fails))

pub later_takes : (text bytes line after : List ℕ) (old mid new : Kept) (fault : FeedFault) → HasNoEnd text → lines_of bytes ≡ line ∷ lines_of after → first_bad_from 1 ((text ++ line) ∷ []) ≡ None
    → HasTaken old mid (triples_of ((text ++ line) ∷ [])) → TakesUntil fault (ended (lines_of after)) mid new → TakesUntil fault (ended (lines_of (text ++ bytes))) old new
later_takes text bytes line after old mid new fault never split good taken takes =
    subst (λ (lines : List (List ℕ)). TakesUntil fault lines old new) (sym (front_split text bytes line after never split).0)
    (until-after ((text ++ line) ∷ []) (ended (lines_of after)) old mid new fault good taken takes)

-- none of them is bad
pub all_good : (text bytes line after : List ℕ) → HasNoEnd text → lines_of bytes ≡ line ∷ lines_of after → first_bad_from 1 ((text ++ line) ∷ []) ≡ None
    → first_bad_from 1 (ended (lines_of after)) ≡ None → first_bad_from 1 (ended (lines_of (text ++ bytes))) ≡ None
all_good text bytes line after never split first others =
    ap (first_bad_from 1) (front_split text bytes line after never split).0
    ∙ answers-after {A = Unit {0}} 0 ((text ++ line) ∷ []) (ended (lines_of after)) (Ok tt) first others

pub all_taken : (text bytes line after : List ℕ) (old mid new : Kept) → HasNoEnd text → lines_of bytes ≡ line ∷ lines_of after
    → HasTaken old mid (triples_of ((text ++ line) ∷ [])) → HasTaken mid new (triples_of (ended (lines_of after))) → HasTaken old new (triples_of (ended (lines_of (text ++ bytes))))
all_taken text bytes line after old mid new never split first others =
    subst (λ (lines : List (List ℕ)). HasTaken old new (triples_of lines)) (sym (front_split text bytes line after never split).0)
    (taken-append ((text ++ line) ∷ []) (ended (lines_of after)) old mid new first others)

pub all_counted : (ends next last : ℕ) (text bytes line after : List ℕ) → HasNoEnd text → lines_of bytes ≡ line ∷ lines_of after
    → next ≡ counted (ends + 1) → last ≡ counted (next + length (ended (lines_of after))) → last ≡ counted (ends + length (ended (lines_of (text ++ bytes))))
all_counted ends next last text bytes line after never split first others =
    let more : length (ended (lines_of (text ++ bytes))) ≡ suc (length (ended (lines_of after))) = ap length (front_split text bytes line after never split).0 in
    omega (arith, first, others, more)

-- the triples of all lines were taken, none of which is bad: then memory may run out
pub all_front : (lines : List (List ℕ)) (old new : Kept) → first_bad_from 1 lines ≡ None → HasTaken old new (triples_of lines) → TakesFront lines old new
all_front lines old new good taken =
    let all : take (length lines) lines ≡ lines = ap (take (length lines)) (sym (append-nil lines)) ∙ take-append_seam lines [] in
    record { count = length lines; good = rw all good; taken = rw all taken }

-- PIECES

-- a new reader has read nothing
pub new_read : (kept : Kept) → HasRead [] (Ok new_stream) kept kept
new_read kept = record { stream = sym cut-nothing; answers = rw ended-nothing refl; takes = rw ended-nothing refl }

-- a piece more without a fault
pub piece_read : (bytes piece : List ℕ) (stream : Stream) (old mid new : Kept) → HasRead bytes (Ok stream) old mid
    → first_bad_from 1 (ended_in stream piece) ≡ None → HasTaken mid new (triples_of (ended_in stream piece)) → HasRead (bytes ++ piece) (Ok (cut stream piece)) old new
piece_read bytes piece stream old mid new is good taken =
    let first = ended_in new_stream bytes in
    let of_cut : Stream = cut new_stream bytes in
    let here : first_bad_from 1 (ended_in of_cut piece) ≡ None = subst (λ (s : Stream). first_bad_from 1 (ended_in s piece) ≡ None) is.stream good in
    let of_here : HasTaken mid new (triples_of (ended_in of_cut piece)) = subst (λ (s : Stream). HasTaken mid new (triples_of (ended_in s piece))) is.stream taken in
    record {
      stream = ap (λ (s : Stream). cut s piece) is.stream ∙ cut-twice bytes piece;
      answers = rw (ended-cut bytes piece) (answers-after {A = Stream} 0 first (ended_in of_cut piece) (Ok (cut stream piece)) is.answers here);
      takes = rw (ended-cut bytes piece) (takes-after {A = Stream} first (ended_in of_cut piece) old mid new (Ok (cut stream piece)) is.answers is.takes of_here);
    }

-- a piece more with a fault
pub piece_failed : (bytes piece : List ℕ) (stream : Stream) (old mid new : Kept) (fault : FeedFault) → HasRead bytes (Ok stream) old mid
    → FailsAt stream.ends (ended_in stream piece) fault → TakesUntil fault (ended_in stream piece) mid new → HasRead (bytes ++ piece) (Err fault) old new
piece_failed bytes piece stream old mid new fault is fails takes =
    let first = ended_in new_stream bytes in
    let of_cut : Stream = cut new_stream bytes in
    let here : FailsAt of_cut.ends (ended_in of_cut piece) fault = subst (λ (s : Stream). FailsAt s.ends (ended_in s piece) fault) is.stream fails in
    let of_here : TakesUntil fault (ended_in of_cut piece) mid new = subst (λ (s : Stream). TakesUntil fault (ended_in s piece) mid new) is.stream takes in
    record {
      stream = tt;
      answers = subst (λ (lines : List (List ℕ)). FailsAt 0 lines fault) (sym (ended-cut bytes piece)) (fails-after 0 first (ended_in of_cut piece) fault is.answers here);
      takes = subst (λ (lines : List (List ℕ)). TakesUntil fault lines old new) (sym (ended-cut bytes piece)) (until-after first (ended_in of_cut piece) old mid new fault is.answers is.takes of_here);
    }

-- a piece more after a fault
pub piece_after_fault : (bytes piece : List ℕ) (old new : Kept) (fault : FeedFault) → HasRead bytes (Err fault) old new → HasRead (bytes ++ piece) (Err fault) old new
piece_after_fault bytes piece old new fault is =
    let first = ended_in new_stream bytes in
    let more = ended_in (cut new_stream bytes) piece in
    record {
      stream = tt;
      answers = subst (λ (lines : List (List ℕ)). FailsAt 0 lines fault) (sym (ended-cut bytes piece)) (fails-front 0 first more fault is.answers);
      takes = subst (λ (lines : List (List ℕ)). TakesUntil fault lines old new) (sym (ended-cut bytes piece)) (until-front 0 first more old new fault is.answers is.takes);
    }

-- the end after pieces without a fault: what is answered of all lines
end_answers : (bytes : List ℕ) (stream : Stream) (old mid : Kept) (result : Result (Unit {0}) FeedFault) → HasRead bytes (Ok stream) old mid → AnswersEnded stream.ends (stream.text ∷ []) result → AnswersEnded 0 (lines_of bytes) result
end_answers bytes stream old mid result is answers =
    let of_cut : Stream = cut new_stream bytes in
    let here = subst (λ (s : Stream). AnswersEnded s.ends (s.text ∷ []) result) is.stream answers in
    last_answers bytes of_cut.ends result is.answers refl here

-- and taken of them
end_takes : (bytes : List ℕ) (stream : Stream) (old mid new : Kept) (result : Result (Unit {0}) FeedFault) → HasRead bytes (Ok stream) old mid → TakesEnded (stream.text ∷ []) mid new result → TakesEnded (lines_of bytes) old new result
end_takes bytes stream old mid new result is takes =
    let here = subst (λ (s : Stream). TakesEnded (s.text ∷ []) mid new result) is.stream takes in
    last_takes bytes old mid new result is.answers is.takes here

-- so of the file of all their bytes
pub finish_answers : (bytes : List ℕ) (stream : Stream) (old mid : Kept) (result : Result (Unit {0}) FeedFault) → length bytes < 2 ^ 64 → HasRead bytes (Ok stream) old mid → AnswersEnded stream.ends (stream.text ∷ []) result → AnswersLines bytes result
finish_answers bytes stream old mid result small is answers = whole_answers bytes result small (end_answers bytes stream old mid result is answers)

pub finish_takes : (bytes : List ℕ) (stream : Stream) (old mid new : Kept) (result : Result (Unit {0}) FeedFault) → length bytes < 2 ^ 64 → HasRead bytes (Ok stream) old mid
    → AnswersEnded stream.ends (stream.text ∷ []) result → TakesEnded (stream.text ∷ []) mid new result → TakesLines bytes old new result
finish_takes bytes stream old mid new result small is answers takes =
    whole_takes bytes old new result small (end_answers bytes stream old mid result is answers) (end_takes bytes stream old mid new result is takes)

-- the end after a fault
pub failed_answers : (bytes : List ℕ) (old new : Kept) (fault : FeedFault) → length bytes < 2 ^ 64 → HasRead bytes (Err fault) old new → AnswersLines bytes (Err fault)
failed_answers bytes old new fault small is = whole_answers bytes (Err fault) small (early_fails bytes fault is.answers)

pub failed_takes : (bytes : List ℕ) (old new : Kept) (fault : FeedFault) → length bytes < 2 ^ 64 → HasRead bytes (Err fault) old new → TakesLines bytes old new (Err fault)
failed_takes bytes old new fault small is =
    whole_takes bytes old new (Err fault) small (early_fails bytes fault is.answers) (early_takes bytes old new fault is.answers is.takes)

-- a bad line that was found is the first one of the file, whatever follows
pub found_for_good : (bytes more : List ℕ) (line : ℕ) (old new : Kept) → HasRead bytes (Err (NotNTriples line)) old new → length (bytes ++ more) < 2 ^ 64 → first_bad (bytes ++ more) ≡ Some line
found_for_good bytes more line old new is small =
    failed_answers (bytes ++ more) old new (NotNTriples line) small (piece_after_fault bytes more old new (NotNTriples line) is)
