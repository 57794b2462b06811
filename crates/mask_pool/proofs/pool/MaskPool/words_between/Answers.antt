use Rattle.std.proofs.Common.{◌≤◌, length, sym, refl, arith}
use Rattle.mask_pool.proofs.RegionLaws.{region-refilled, range-region}
use Rattle.mask_pool.proofs.pool.MaskPool.words_between.Goals as goal

pub returns : goal.returns
returns c =
    let v = c.self.inside.words in
    let taken = c.self.inside.taken in
    let old = c.args.self.now in
    let inside : c.args.start ≤ length old.words = omega arith in
    let part = range-region v.len v.items taken c.args.start c.args.end old c.self.view_is c.requires.1 in
    ((refl, λ w. region-refilled v.len v.items w taken c.args.start old c.self.view_is (sym v.ok.0) c.self.invariant.0 inside), record { writes_back = tt; words = cc })
