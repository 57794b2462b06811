use Rattle.std.proofs.Common.{sym, ◌∙◌, arith}
use Rattle.row_lanes.proofs.NumberLaws.{length-numbers_in}
use Rattle.row_lanes.proofs.masks.count.Goals as goal

pub returns : goal.returns
returns c = c.ones.ensures ∙ sym (length-numbers_in c.args.words.now (λ k. omega (arith, c.type_inv.words k)))
