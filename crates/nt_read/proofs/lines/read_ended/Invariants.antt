use Rattle.std.proofs.Common.{◌≡◌, length}
use Rattle.nt_read.specs.scanning.Lines.{lines_of}
use Rattle.nt_read.specs.Pieces.{ended, unfinished}
use Rattle.nt_read.proofs.Reading.{AreRead}
use Rattle.nt_read.proofs.lines.read_ended.Given as goal

abbrev pub invariant-loop-line : goal.invariant-loop-line
invariant-loop-line g l = record {
  read : AreRead (ended (lines_of l.bytes)) (ended (lines_of l.rest)) (g.T.Taker.kept l.initial.into) (g.T.Taker.kept l.into) l.ends l.before;
  last : unfinished (lines_of l.rest) ≡ unfinished (lines_of l.bytes);
}

abbrev pub decreases-loop-line : goal.decreases-loop-line
decreases-loop-line g l = length (lines_of l.rest)
