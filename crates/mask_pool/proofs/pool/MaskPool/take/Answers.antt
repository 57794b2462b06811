use Rattle.std.proofs.Common.{sym, ap, arith}
use Rattle.mask_pool.proofs.RegionLaws.{stays-refilled}
use Rattle.mask_pool.proofs.pool.MaskPool.take.Goals as goal

pub returns-clause-others : goal.returns-clause-others
returns-clause-others c = λ m live.
    let v = c.self.inside.words in
    let start = ap (λ m. m.start) c.at-mask.ensures in
    let bits = ap (λ m. m.bits) c.at-mask.ensures in
    let spare = ap (λ p. p.spare) c.self.view_is in
    stays-refilled v.len v.items c.fill.new.words c.self.inside.taken c.start.result c.word_count.result c.args.self.now m c.self.view_is (omega arith) (sym v.ok.0) (omega arith) (omega arith) live
