use Rattle.std.proofs.Common.{◌≡◌, ◌≤◌, ◌+◌, ◌-◌, vec_len, length}
use Rattle.bm_world.specs.Reading.{ReadsUpTo, buffer_bytes}
use Rattle.bm_world.specs.World.{Step}
use Rattle.bm_world.proofs.reading.read_all.Given as goal

abbrev pub invariant-loop-bytes : goal.invariant-loop-bytes
invariant-loop-bytes g l = record {
  so_far : Step (g.W.World.told l.fn.world) (g.W.World.told l.world) (ReadsUpTo l.fn.name l.bytes.items l.fn.limit);
  within : vec_len l.bytes ≤ l.fn.limit;
  room : length l.buffer ≡ buffer_bytes;
  later : (g.W.World.faults l.fn.world).reads ≤ (g.W.World.faults l.world).reads;
  writes_stay : (g.W.World.faults l.world).writes ≡ (g.W.World.faults l.fn.world).writes;
  says_stay : (g.W.World.faults l.world).says ≡ (g.W.World.faults l.fn.world).says;
}

abbrev pub decreases-loop-bytes : goal.decreases-loop-bytes
decreases-loop-bytes g l = l.fn.limit + 1 - vec_len l.bytes
