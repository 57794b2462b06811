use Rattle.std.proofs.Common.{◌≡◌, ◌≤◌, IfSome, length}
use Rattle.bm_world.specs.Meanings.{with_written}
use Rattle.bm_world.specs.World.{Step, IsBeingMade}
use Rattle.bm_world.proofs.Appending.{AppendsUpTo}
use Rattle.bm_world.proofs.writing.write_all.Given as goal

abbrev pub invariant-loop-rest : goal.invariant-loop-rest
invariant-loop-rest g l = record {
  so_far : Step (g.W.World.told l.fn.world) (g.W.World.told l.world) (AppendsUpTo with_written l.fn.bytes l.rest);
  being_made : IfSome (g.W.World.told l.world) IsBeingMade;
  later : (g.W.World.faults l.fn.world).writes ≤ (g.W.World.faults l.world).writes;
  reads_stay : (g.W.World.faults l.world).reads ≡ (g.W.World.faults l.fn.world).reads;
  says_stay : (g.W.World.faults l.world).says ≡ (g.W.World.faults l.fn.world).says;
}

abbrev pub decreases-loop-rest : goal.decreases-loop-rest
decreases-loop-rest g l = length l.rest
