-- Carries proofs only: a data file that is being read in pieces.
use Rattle.std.specs.Prelude.{◌≡◌, ℕ, ◌+◌, ◌≤◌, List, length, Option, None, Some, Result, Ok, Err, IfOk}
use Rattle.bm_term.specs.Kept.{Kept}
use Rattle.nt_read.specs.declared.lines.FeedFault.{FeedFault}
use Rattle.nt_read.specs.declared.lines.FeedFault.TheVariants as feed_faults
use Rattle.nt_read.specs.Pieces.{Stream}
use Rattle.nt_read.specs.Feeding.{HasRead}
use Rattle.term_numbers.specs.Limits.{max_triples}
use Rattle.term_numbers.specs.Sights.{nothing_yet}
use Rattle.bm_world.specs.Meanings.{Meanings}
use Rattle.bm_world.specs.Reading.{ReadsUpTo}
use Rattle.bm_world.specs.World.{Step}
use Rattle.bm_world.specs.declared.reading.ReadEnd.{ReadEnd}
use Rattle.bm_world.specs.declared.reading.ReadEnd.TheVariants as read_ends
use Rattle.bm_top.specs.Pieces.{IsReadAs, ReadsPieces}

-- these bytes have come and were read; so many more may come
pub record SoFar (name : List ℕ) (limit left : ℕ) (told told_now : Option Meanings) (old new : Kept) (reader : Result Stream FeedFault) : Type 0 where
  pub came : List ℕ
  pub step : Step told told_now (ReadsUpTo name came limit)
  pub within : length came + left ≡ limit
  pub read : HasRead came reader old new

-- what the end of the stream says of the file
abbrev pub end_of : Result (Unit {0}) FeedFault → Result (Option ℕ) ReadEnd
end_of (Ok _) = Ok None
end_of (Err (feed_faults.NotNTriples line)) = Ok (Some line)
end_of (Err feed_faults.Memory) = Err read_ends.Memory

-- some bytes were read so, under the limit of triples
abbrev pub WereRead : Option ℕ → Kept → Type 0
WereRead bad kept = (bytes : List ℕ) × IsReadAs bytes bad (nothing_yet max_triples) kept

-- a data file was read, and its triples were taken, under their limit
pub record CameAsData (name : List ℕ) (limit : ℕ) (told told_now : Option Meanings) (result : Result (Option ℕ × Kept) ReadEnd) : Type 0 where
  pub bytes : List ℕ
  pub step : Step told told_now (ReadsPieces name limit bytes result)
  pub within : IfOk result (λ read. length bytes ≤ limit)
  pub read : IfOk result (λ read. IsReadAs bytes read.0 (nothing_yet max_triples) read.1)
