-- A data file that is read in pieces.
use Rattle.std.proofs.Common.{◌≡◌, ℕ, ◌-◌, ◌<◌, ◌≤◌, ◌^◌, List, [], ◌++◌, length, take, Option, Some, Result, Ok, Err, IsErrOf, IsSome, refl, sym, ap, subst, ◌∙◌, length-append, length-take, arith}
use Rattle.std.proofs.lemmas.List.{append-nil}
use Rattle.bm_term.specs.Kept.{Kept}
use Rattle.nt_read.specs.declared.lines.FeedFault.{FeedFault}
use Rattle.nt_read.specs.declared.lines.FeedFault.TheVariants as feed_faults
use Rattle.nt_read.specs.scanning.Lines.{lines_of, triples_of}
use Rattle.nt_read.specs.Pieces.{Stream, new_stream}
use Rattle.nt_read.specs.Feeding.{AnswersLines, HasRead, TakesLines}
use Rattle.nt_read.proofs.FedPieces.{new_read}
use Rattle.nt_read.proofs.FirstBad.{first_bad-found}
use Rattle.term_numbers.specs.Limits.{max_triples}
use Rattle.term_numbers.specs.Sights.{nothing_yet}
use Rattle.bm_world.specs.Meanings.{Meanings, file_at, with_opened}
use Rattle.bm_world.specs.Reading.{ReadsAll, ReadsUpTo, ReadsWhole, buffer_bytes}
use Rattle.bm_world.specs.World.{Step, Takes}
use Rattle.bm_world.specs.declared.reading.ReadEnd.{ReadEnd}
use Rattle.bm_world.specs.declared.reading.ReadEnd.TheVariants as read_ends
use Rattle.bm_world.proofs.Steps.{Step-weaken}
use Rattle.bm_world.proofs.WholeFile.{reads_all, reads_more, reads_no_memory, reads_none, reads_too_long}
use Rattle.bm_top.specs.Pieces.{CameInPieces, IsReadAs}
use Rattle.bm_top.specs.steps.Pieces.{CameAsData, SoFar, end_of}
use Rattle.bm_top.proofs.ReadData.{read-triples}

-- the file was opened
pub none_came : {a b : Option Meanings} {name : List ℕ} (limit : ℕ) (kept : Kept) (reader : Result Stream FeedFault) → reader ≡ Ok new_stream
    → Step a b (λ m n. IsSome (file_at m name) × (n ≡ with_opened m name (file_at m name))) → SoFar name limit limit a b kept kept reader
none_came limit kept reader new opened = record {
  came = [];
  step = reads_none limit [] refl opened;
  within = omega arith;
  read = subst (λ (r : Result Stream FeedFault). HasRead [] r kept kept) (sym new) (new_read kept);
}

module _ {a b c : Option Meanings} {name : List ℕ} {limit left : ℕ} {old mid : Kept} {reader : Result Stream FeedFault} (so_far : SoFar name limit left a b old mid reader) (buffer : List ℕ) (count : ℕ) (call : Step b c (Takes buffer count)) where
  came_then : length buffer ≤ buffer_bytes → Step a c (ReadsUpTo name (so_far.came ++ take count buffer) limit)
  came_then room = reads_more (so_far.came ++ take count buffer) refl (omega (arith, so_far.within)) room so_far.step call

  -- one piece more
  pub more_came : length buffer ≤ buffer_bytes → count ≤ length buffer → count ≤ left → (next : Result Stream FeedFault) (new : Kept)
      → ((bytes : List ℕ) (kept : Kept) → HasRead bytes reader kept mid → HasRead (bytes ++ take count buffer) next kept new) → SoFar name limit (left - count) a c old new next
  more_came room within fits next new feeds = record {
    came = so_far.came ++ take count buffer;
    step = came_then room;
    within = omega (arith, length-append so_far.came (take count buffer), length-take count buffer, so_far.within);
    read = feeds so_far.came old so_far.read;
  }

  -- more than the limit
  pub too_much_came : length buffer ≤ buffer_bytes → count ≤ length buffer → left < count → (new : Kept) → CameInPieces name limit a c old new (Err read_ends.TooLong)
  too_much_came room within over new = record {
    bytes = [];
    step = reads_too_long (omega (arith, length-append so_far.came (take count buffer), length-take count buffer, so_far.within)) (came_then room);
    within = tt;
    read = tt;
  }

  -- no memory for the piece
  pub no_memory : length buffer ≤ buffer_bytes → (new : Kept) → CameInPieces name limit a c old new (Err read_ends.Memory)
  no_memory room new = record { bytes = []; step = reads_no_memory (came_then room); within = tt; read = tt }

  -- what the lines of the whole file are read as
  read_as : (finished : Result (Unit {0}) FeedFault) (new : Kept) → AnswersLines so_far.came finished → TakesLines so_far.came old new finished
      → Step a c (ReadsWhole name so_far.came) → CameInPieces name limit a c old new (end_of finished)
  read_as (Ok done) new answers takes whole = record {
    bytes = so_far.came;
    step = Step-weaken whole (λ m n is. is);
    within = omega (arith, so_far.within);
    read = (triples_of (lines_of so_far.came), read-triples so_far.came answers, takes);
  }
  read_as (Err (feed_faults.NotNTriples line)) new answers takes whole = record {
    bytes = so_far.came;
    step = Step-weaken whole (λ m n is. is);
    within = omega (arith, so_far.within);
    read = (first_bad-found so_far.came line).0 answers;
  }
  read_as (Err feed_faults.Memory) new answers takes whole = record {
    bytes = [];
    step = reads_no_memory (came_then_whole whole);
    within = tt;
    read = tt;
  }
    where
      came_then_whole : Step a c (ReadsWhole name so_far.came) → Step a c (ReadsUpTo name so_far.came limit)
      came_then_whole whole = Step-weaken whole (λ m n is. record {
        left = [];
        whole = is.0 ∙ ap Some (sym (append-nil so_far.came));
        moved = is.1;
        within = omega (arith, so_far.within);
      })

  -- the last read
  pub all_came : count ≡ 0 → 0 < length buffer → limit < 2 ^ 64 → (finished : Result (Unit {0}) FeedFault) (new : Kept)
      → ((bytes : List ℕ) (kept : Kept) → length bytes < 2 ^ 64 → HasRead bytes reader kept mid → AnswersLines bytes finished)
      → ((bytes : List ℕ) (kept : Kept) → length bytes < 2 ^ 64 → HasRead bytes reader kept mid → TakesLines bytes kept new finished)
      → CameInPieces name limit a c old new (end_of finished)
  all_came none room short finished new answers takes =
      let fits : length so_far.came < 2 ^ 64 = omega (arith, so_far.within, short) in
      read_as finished new (answers so_far.came old fits so_far.read) (takes so_far.came old fits so_far.read) (reads_all so_far.came none room so_far.step call)

-- the file was not opened, or a read failed
pub not_opened : {a b : Option Meanings} {name : List ℕ} (limit : ℕ) (old new : Kept) → Step a b (ReadsAll name limit (Err read_ends.Fault)) → CameInPieces name limit a b old new (Err read_ends.Fault)
not_opened limit old new step = record { bytes = []; step = step; within = tt; read = tt }

-- no memory for a buffer
pub no_room : {a b : Option Meanings} {name : List ℕ} (limit : ℕ) (old new : Kept) → Step a b (λ m n. IsSome (file_at m name) × (n ≡ with_opened m name (file_at m name))) → CameInPieces name limit a b old new (Err read_ends.Memory)
no_room limit old new opened = record { bytes = []; step = reads_no_memory (reads_none limit [] refl opened); within = tt; read = tt }

-- the end of the stream is no fault of the world
pub never_fault : (finished : Result (Unit {0}) FeedFault) → IsErrOf (end_of finished) read_ends.Fault → ⊥
never_fault (Ok done) is = absurd (cc)
never_fault (Err (feed_faults.NotNTriples line)) is = absurd (cc)
never_fault (Err feed_faults.Memory) is = absurd (cc)

-- what a builder took of the file
pub came_as_data : {told told_now : Option Meanings} {name : List ℕ} {limit : ℕ} (old new : Kept) (bad : Option ℕ) → old ≡ nothing_yet max_triples → CameInPieces name limit told told_now old new (Ok bad) → CameAsData name limit told told_now (Ok (bad, new))
came_as_data old new bad nothing came = record {
  bytes = came.bytes;
  step = Step-weaken came.step (λ m n is. is);
  within = came.within;
  read = subst (λ (kept : Kept). IsReadAs came.bytes bad kept new) nothing came.read;
}

pub came_as_none : {told told_now : Option Meanings} {name : List ℕ} {limit : ℕ} (old new : Kept) (end : ReadEnd) → CameInPieces name limit told told_now old new (Err end) → CameAsData name limit told told_now (Err end)
came_as_none old new end came = record { bytes = came.bytes; step = Step-weaken came.step (λ m n is. is); within = tt; read = tt }
