use Rattle.std.proofs.Common.{◌≡◌, ◌≤◌, take}
use Rattle.std.specs.List.{concat}
use Rattle.bm_world.specs.World.{Step}
use Rattle.result_write.specs.held.Buffered.{HandedOn}
use Rattle.result_write.proofs.pieces.print_pieces.Given as goal

abbrev pub invariant-loop-i : goal.invariant-loop-i
invariant-loop-i g l = record {
  so_far : Step (g.W.World.told l.fn.world) (g.W.World.told l.world) (HandedOn (concat (take l.i (g.P.Pieces.pieces l.pieces))) l.text.items);
  later : (g.W.World.faults l.fn.world).writes ≤ (g.W.World.faults l.world).writes;
  reads_stay : (g.W.World.faults l.world).reads ≡ (g.W.World.faults l.fn.world).reads;
  says_stay : (g.W.World.faults l.world).says ≡ (g.W.World.faults l.fn.world).says;
}
