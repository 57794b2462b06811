use Rattle.std.proofs.Common.{◌∙◌, arith}
use Rattle.pattern_rel.specs.declared.side.Side.TheVariants.{First}
use Rattle.mask_steps.proofs.HeldLaws.{left_at}
use Rattle.mask_steps.proofs.OwnLaws.{own_usable, others_stay, own_layout, own_narrows, none_left}
use Rattle.mask_steps.proofs.steps.clear.Goals as goal

pub cut_mask-requires : goal.cut_mask-requires
cut_mask-requires c = rw c.mask-own.ensures (own_usable c.args.prepared.now c.requires.fits c.args.i c.get.result.now c.get.ensures First)

pub returns-clause-none : goal.returns-clause-none
returns-clause-none c =
    let below = rw c.mask-own.ensures at c.cut_mask.ensures.below in
    left_at (record c.args.prepared.now { pool = c.cut_mask.new.pool }) c.args.i c.get.result.now c.get.ensures
    ∙ none_left c.cut_mask.new.pool c.get.result.now.rel (λ n has. omega (arith, ((below n).0 has).1))

pub returns-clause-others : goal.returns-clause-others
returns-clause-others c = others_stay c.args.prepared.now c.requires.fits c.args.i c.get.result.now c.get.ensures First c.cut_mask.new.pool (rw c.mask-own.ensures at c.cut_mask.ensures.keeps)

pub returns-clause-narrows : goal.returns-clause-narrows
returns-clause-narrows c =
    let below = rw c.mask-own.ensures at c.cut_mask.ensures.below in
    own_narrows c.args.prepared.now c.requires.fits c.args.i c.get.result.now c.get.ensures First c.cut_mask.new.pool (rw c.mask-own.ensures at c.cut_mask.ensures.keeps) (λ n has. ((below n).0 has).0)

pub returns-clause-layout : goal.returns-clause-layout
returns-clause-layout c = own_layout c.args.prepared.now c.requires.fits c.args.i c.get.result.now c.get.ensures First c.cut_mask.new.pool (rw c.mask-own.ensures at c.cut_mask.ensures.keeps)
