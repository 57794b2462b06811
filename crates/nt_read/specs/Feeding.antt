-- What a reader of lines does with the bytes that it is fed.
use Rattle.std.specs.Prelude.{◌≡◌, ℕ, ◌+◌, ◌-◌, List, take, Option, Some, None, Result, Ok, Err, IfOk}
use Rattle.std.specs.Option.{option_map}
use Rattle.bm_term.specs.Kept.{Kept, HasTaken}
use Rattle.nt_read.specs.declared.lines.FeedFault.{FeedFault}
use Rattle.nt_read.specs.declared.lines.FeedFault.TheVariants as faults
use Rattle.nt_read.specs.scanning.Lines.{lines_of, first_bad, first_bad_from, before_first_bad, triples_of}
use Rattle.nt_read.specs.Pieces.{Stream, new_stream, counted, ended_in, cut}

-- what a reader is seen as: the stream so far, or its fault
abbrev pub seen : Stream → Option FeedFault → Result Stream FeedFault
seen stream None = Ok stream
seen stream (Some fault) = Err fault

-- what the answer of a reader of these bytes says of their lines
abbrev pub AnswersLines : List ℕ → Result (Unit {0}) FeedFault → Type 0
AnswersLines bytes (Ok _) = first_bad bytes ≡ None
AnswersLines bytes (Err (faults.NotNTriples line)) = first_bad bytes ≡ Some line
AnswersLines bytes (Err faults.Memory) = Unit {0}

-- some of the first lines were taken, none of which is bad
pub record TakesFront (lines : List (List ℕ)) (old new : Kept) : Type 0 where
  pub count : ℕ
  pub good : first_bad_from 1 (take count lines) ≡ None
  pub taken : HasTaken old new (triples_of (take count lines))

-- The triples that were taken from the lines of these bytes: all of them, those of the lines before the first bad
-- one, or those of some of these lines.
abbrev pub TakesLines : List ℕ → Kept → Kept → Result (Unit {0}) FeedFault → Type 0
TakesLines bytes old new (Ok _) = HasTaken old new (triples_of (lines_of bytes))
TakesLines bytes old new (Err (faults.NotNTriples line)) = HasTaken old new (triples_of (take (line - 1) (lines_of bytes)))
TakesLines bytes old new (Err faults.Memory) = TakesFront (lines_of bytes) old new

-- the number of the first bad line of these, which are numbered on from so many line ends
abbrev pub first_bad_after : ℕ → List (List ℕ) → Option ℕ
first_bad_after ends lines = option_map (λ number. counted (ends + number)) (first_bad_from 1 lines)

-- a reader fails with this fault at lines after so many line ends: this is the first bad one, or memory ran out
abbrev pub FailsAt : ℕ → List (List ℕ) → FeedFault → Type 0
FailsAt ends lines (faults.NotNTriples line) = first_bad_after ends lines ≡ Some line
FailsAt ends lines faults.Memory = Unit {0}

-- what was taken of lines until a fault: the triples of the lines before the first bad one, or those of some of these lines
abbrev pub TakesUntil : FeedFault → List (List ℕ) → Kept → Kept → Type 0
TakesUntil (faults.NotNTriples line) lines old new = HasTaken old new (triples_of (before_first_bad lines))
TakesUntil faults.Memory lines old new = TakesFront lines old new

-- what an answer says of lines that have ended, after so many line ends: none is bad, or the reader fails at them
abbrev pub AnswersEnded : {A : Type 0} → ℕ → List (List ℕ) → Result A FeedFault → Type 0
AnswersEnded ends lines (Ok _) = first_bad_from 1 lines ≡ None
AnswersEnded ends lines (Err fault) = FailsAt ends lines fault

-- what was taken of them then: the triples of all, or of those until the fault
abbrev pub TakesEnded : {A : Type 0} → List (List ℕ) → Kept → Kept → Result A FeedFault → Type 0
TakesEnded lines old new (Ok _) = HasTaken old new (triples_of lines)
TakesEnded lines old new (Err fault) = TakesUntil fault lines old new

-- A reader that was new has been fed these bytes, in whatever pieces, and what was kept as old is kept as new now: either
-- none of the lines that have ended is bad, and their triples were taken, or the reader has failed at them.
pub record HasRead (bytes : List ℕ) (reader : Result Stream FeedFault) (old new : Kept) : Type 0 where
  pub stream : IfOk reader (λ stream. stream ≡ cut new_stream bytes)
  pub answers : AnswersEnded 0 (ended_in new_stream bytes) reader
  pub takes : TakesEnded (ended_in new_stream bytes) old new reader
