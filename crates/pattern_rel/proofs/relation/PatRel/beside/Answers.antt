use Rattle.std.proofs.Common.{◌-◌, ◌^◌, sym, ◌∙◌}
use Rattle.mask_pool.specs.Region.{words_of}
use Rattle.pattern_rel.specs.Shapes.{lines_of_shape}
use Rattle.pattern_rel.proofs.NextLaws.{row_alone}
use Rattle.pattern_rel.proofs.relation.PatRel.beside.Goals as goal

pub returns : goal.returns
returns c =
    rw (← c.self.view_is) (rw (c.read.ensures.words, c.read-2.ensures.words) at c.of.ensures
    ∙ sym (row_alone (2 ^ 32 - 1) (2 ^ 32 - 1) (words_of c.args.pool.now c.self.inside.first) (words_of c.args.pool.now c.self.inside.second) (lines_of_shape c.self.inside.shape) c.lines_ascend.ensures c.args.n))
