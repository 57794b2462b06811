use Rattle.std.proofs.Common.{◌≡◌, ◌≤◌, take}
use Rattle.std.specs.List.{flat_map}
use Rattle.bm_world.specs.Meanings.{with_printed}
use Rattle.bm_world.specs.World.{Step}
use Rattle.bm_top.proofs.pieces.print_pieces.Given as goal

abbrev pub invariant-loop-piece : goal.invariant-loop-piece
invariant-loop-piece g l = record {
  said : Step (g.W.World.told l.initial.world) (g.W.World.told l.world) (λ m n. n ≡ with_printed m (flat_map (λ piece. piece.now) (take l.piece-index l.pieces)));
  later : (g.W.World.faults l.initial.world).writes ≤ (g.W.World.faults l.world).writes;
  reads : (g.W.World.faults l.world).reads ≡ (g.W.World.faults l.initial.world).reads;
  says : (g.W.World.faults l.world).says ≡ (g.W.World.faults l.initial.world).says;
}
