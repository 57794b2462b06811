-- A stream of bytes that comes in pieces, cut anywhere: which lines end in each piece, and what is left of the last one.
use Rattle.std.specs.Prelude.{ℕ, ◌+◌, ◌-◌, ◌^◌, min, Bool, true, false, ◌==◌, if◌then◌else◌, List, [], ◌∷◌, ◌++◌, length, fold}
use Rattle.rdf_text.specs.Marks.{line_feed, carriage_return}
use Rattle.nt_read.specs.scanning.Lines.{lines_of}

-- what is known of a stream after some pieces: the number of line ends so far, the bytes of the line that has not ended, and
-- whether the last byte was a CR
pub record Stream : Type 0 where
  pub ends : ℕ
  pub text : List ℕ
  pub after_cr : Bool

-- before the first piece
abbrev pub new_stream : Stream
new_stream = record { ends = 0; text = []; after_cr = false }

-- a number of lines, or of line ends: it stays at 2^64 - 1 once it is there
abbrev pub counted : ℕ → ℕ
counted n = min n (2 ^ 64 - 1)

-- bytes without the LF that they begin with, where they are after a CR: CR LF is one line end
abbrev pub without_lf : Bool → List ℕ → List ℕ
without_lf false bytes = bytes
without_lf true [] = []
without_lf true (b ∷ bytes) = if b == line_feed then bytes else b ∷ bytes

-- whether bytes end with CR; no bytes leave that as it was
abbrev pub ends_with_cr : Bool → List ℕ → Bool
ends_with_cr was [] = was
ends_with_cr was (b ∷ bytes) = ends_with_cr (b == carriage_return) bytes

-- all lines but the last: they have ended
abbrev pub ended : List (List ℕ) → List (List ℕ)
ended [] = []
ended (line ∷ []) = []
ended (line ∷ next ∷ lines) = line ∷ ended (next ∷ lines)

-- the last line, which has not ended
abbrev pub unfinished : List (List ℕ) → List ℕ
unfinished [] = []
unfinished (line ∷ []) = line
unfinished (line ∷ next ∷ lines) = unfinished (next ∷ lines)

-- the lines of the unfinished line and the piece after it, without the first byte of the piece where that is LF and the last
-- byte was a CR
abbrev pub lines_with : Stream → List ℕ → List (List ℕ)
lines_with stream piece = lines_of (stream.text ++ without_lf stream.after_cr piece)

-- the lines that end in a piece: those but the last
abbrev pub ended_in : Stream → List ℕ → List (List ℕ)
ended_in stream piece = ended (lines_with stream piece)

-- The stream after a piece. It has as many more line ends, and the last of the lines as its bytes. It is after a CR if the
-- piece ends with CR.
abbrev pub cut : Stream → List ℕ → Stream
cut stream piece = record {
  ends = counted (stream.ends + length (ended_in stream piece));
  text = unfinished (lines_with stream piece);
  after_cr = ends_with_cr stream.after_cr piece;
}

-- the stream after pieces, one after another
abbrev pub cut_all : Stream → List (List ℕ) → Stream
cut_all stream pieces = fold cut stream pieces

-- the lines that end in pieces, one after another
abbrev pub ended_in_all : Stream → List (List ℕ) → List (List ℕ)
ended_in_all stream [] = []
ended_in_all stream (piece ∷ pieces) = ended_in stream piece ++ ended_in_all (cut stream piece) pieces
