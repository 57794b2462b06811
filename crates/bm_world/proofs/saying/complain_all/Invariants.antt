use Rattle.std.proofs.Common.{◌≡◌, ◌≤◌, length}
use Rattle.bm_world.specs.Meanings.{with_complained}
use Rattle.bm_world.specs.World.{Step}
use Rattle.bm_world.proofs.Appending.{AppendsUpTo}
use Rattle.bm_world.proofs.saying.complain_all.Given as goal

abbrev pub invariant-loop-rest : goal.invariant-loop-rest
invariant-loop-rest g l = record {
  so_far : Step (g.W.World.told l.fn.world) (g.W.World.told l.world) (AppendsUpTo with_complained l.fn.bytes l.rest);
  later : (g.W.World.faults l.fn.world).says ≤ (g.W.World.faults l.world).says;
  reads_stay : (g.W.World.faults l.world).reads ≡ (g.W.World.faults l.fn.world).reads;
  writes_stay : (g.W.World.faults l.world).writes ≡ (g.W.World.faults l.fn.world).writes;
}

abbrev pub decreases-loop-rest : goal.decreases-loop-rest
decreases-loop-rest g l = length l.rest
