use Rattle.std.proofs.Common.{◌≡◌, ◌≤◌, ◌+◌, length}
use Rattle.bm_world.specs.Reading.{buffer_bytes}
use Rattle.bm_top.specs.steps.Pieces.{SoFar}
use Rattle.bm_top.proofs.reading.read_pieces.Given as goal

abbrev pub invariant-loop-room : goal.invariant-loop-room
invariant-loop-room g l = record {
  so_far : SoFar l.fn.name l.fn.limit l.left (g.W.World.told l.fn.world) (g.W.World.told l.world) (g.T.Taker.kept l.fn.into) (g.T.Taker.kept l.into) l.reader;
  room : length l.buffer ≡ buffer_bytes;
  later : (g.W.World.faults l.fn.world).reads ≤ (g.W.World.faults l.world).reads;
  writes_stay : (g.W.World.faults l.world).writes ≡ (g.W.World.faults l.fn.world).writes;
  says_stay : (g.W.World.faults l.world).says ≡ (g.W.World.faults l.fn.world).says;
}

abbrev pub decreases-loop-room : goal.decreases-loop-room
decreases-loop-room g l = l.left + 1
