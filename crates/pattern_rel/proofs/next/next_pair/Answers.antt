use Rattle.std.proofs.Common.{◌∙◌, sym, ap}
use Rattle.std.specs.Option.{option_map}
use Rattle.pattern_rel.specs.Shapes.{lines_of_shape}
use Rattle.pattern_rel.specs.Left.{left_in}
use Rattle.pattern_rel.specs.Bounds.{as_pair, is_after}
use Rattle.pattern_rel.proofs.NextLaws.{find_none, find_first}
use Rattle.pattern_rel.proofs.next.next_pair.Goals as goal

pub returns-in_err-first : goal.returns-in_err-first
returns-in_err-first c =
    let left = left_in c.args.firsts.now c.args.seconds.now (lines_of_shape c.args.shape.now) in
    c.from_residual.ensures ∙ sym (ap (option_map as_pair) (find_none (is_after c.args.after) left (sym c.pairs_from-pairs.ensures ∙ c.in_err-first.ensures.steps.0)))

pub returns : goal.returns
returns c =
    let left = left_in c.args.firsts.now c.args.seconds.now (lines_of_shape c.args.shape.now) in
    sym (ap (option_map as_pair) (find_first (is_after c.args.after) (c.in_ok-first.first, c.in_ok-first.second) left _ (sym c.pairs_from-pairs.ensures ∙ c.in_ok-first.ensures.steps)))
