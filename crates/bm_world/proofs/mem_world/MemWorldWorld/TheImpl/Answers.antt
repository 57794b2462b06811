use Rattle.std.proofs.Common.{rules, ap}
use Rattle.bm_world.specs.MemWorld.{MemState}
use Rattle.bm_world.proofs.Telling.{reads_told, writes_told}
use Rattle.bm_world.proofs.mem_world.MemWorldWorld.TheImpl.Goals as goal

pub read-tells : goal.read-tells
read-tells c = record {
  step = reads_told _ c.args.self.now.piece c.args.into.now c.new.into.now c.result _ _ c.args.self.now.meanings c.new.self.now.meanings c.ensures.ends c.ensures.count c.ensures.some c.ensures.came (ap (λ (w : MemState). w.meanings) c.ensures.exact);
  within = search rules;
  cause = search rules;
  writes_stay = ap (λ (w : MemState). w.faults.writes) c.ensures.exact;
  says_stay = ap (λ (w : MemState). w.faults.says) c.ensures.exact;
}

pub write-tells : goal.write-tells
write-tells c = record {
  step = writes_told _ _ c.args.piece.now c.result _ _ c.args.self.now.meanings c.new.self.now.meanings c.ensures.ends c.ensures.count (ap (λ (w : MemState). w.meanings) c.ensures.exact);
  within = search rules;
  some = search rules;
  cause = search rules;
  reads_stay = ap (λ (w : MemState). w.faults.reads) c.ensures.exact;
  says_stay = ap (λ (w : MemState). w.faults.says) c.ensures.exact;
}
