-- What reading a data file in pieces gives.
use Rattle.std.specs.Prelude.{ℕ, ◌≤◌, List, length, Option, None, Some, Result, Ok, Err, IfOk}
use Rattle.bm_term.specs.declared.triple.Triple.{Triple}
use Rattle.bm_term.specs.Kept.{Kept, HasTaken}
use Rattle.nt_read.specs.Lines.{IsFirstBadLine}
use Rattle.bm_world.specs.Meanings.{Meanings}
use Rattle.bm_world.specs.World.{Step}
use Rattle.bm_world.specs.Reading.{ReadsAll, ReadsWhole}
use Rattle.bm_world.specs.declared.reading.ReadEnd.{ReadEnd}
use Rattle.bm_top.specs.Standard.{AreNTriples}

-- these bytes are all of the named file; or its reading ended as that of a whole file ends
abbrev pub ReadsPieces : {A : Type 0} → List ℕ → ℕ → List ℕ → Result A ReadEnd → Meanings → Meanings → Type 0
ReadsPieces name limit bytes (Ok read) m n = ReadsWhole name bytes m n
ReadsPieces name limit bytes (Err end) m n = ReadsAll name limit (Err end) m n

-- the bytes have a first bad line; or they have none, and their triples were taken
abbrev pub IsReadAs : List ℕ → Option ℕ → Kept → Kept → Type 0
IsReadAs bytes (Some line) old new = IsFirstBadLine bytes line
IsReadAs bytes None old new = (triples : List Triple) × AreNTriples bytes triples × HasTaken old new triples

-- some bytes came: what they are of the named file, and what was taken of them
pub record CameInPieces (name : List ℕ) (limit : ℕ) (told told_now : Option Meanings) (old new : Kept) (result : Result (Option ℕ) ReadEnd) : Type 0 where
  pub bytes : List ℕ
  pub step : Step told told_now (ReadsPieces name limit bytes result)
  pub within : IfOk result (λ bad. length bytes ≤ limit)
  pub read : IfOk result (λ bad. IsReadAs bytes bad old new)
