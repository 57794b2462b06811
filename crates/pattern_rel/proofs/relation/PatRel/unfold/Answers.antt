use Rattle.std.proofs.Common.{arith}
use Rattle.mask_pool.specs.Region.{words_of}
use Rattle.pattern_rel.specs.Shapes.{lines_of_shape}
use Rattle.pattern_rel.proofs.MaskLaws.{words_kept}
use Rattle.pattern_rel.proofs.UnfoldLaws.{unfolded_first, unfolded_second}
use Rattle.pattern_rel.proofs.relation.PatRel.unfold.Goals as goal

pub returns-in-First-clause-pairs : goal.returns-in-First-clause-pairs
returns-in-First-clause-pairs c =
    let usable = rw (← c.self.view_is) at c.requires.second in
    rw (← c.self.view_is, c.in-First.is) (λ apart.
    rw (words_kept c.args.pool.now c.narrow.new.pool c.self.inside.first c.self.inside.second c.narrow.ensures.keeps usable apart)
    (unfolded_first _ _ _ _ (words_of c.args.pool.now c.self.inside.second) (lines_of_shape c.self.inside.shape) c.narrow.ensures.kept))

pub returns-in-Second-clause-pairs : goal.returns-in-Second-clause-pairs
returns-in-Second-clause-pairs c =
    let usable = rw (← c.self.view_is) at c.requires.first in
    rw (← c.self.view_is, c.in-Second.is) (λ apart.
    rw (words_kept c.args.pool.now c.narrow-in-Second.new.pool c.self.inside.second c.self.inside.first c.narrow-in-Second.ensures.keeps usable (omega arith))
    (unfolded_second _ _ _ _ (words_of c.args.pool.now c.self.inside.first) (lines_of_shape c.self.inside.shape) c.narrow-in-Second.ensures.kept))
