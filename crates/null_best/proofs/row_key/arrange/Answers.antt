use Rattle.std.proofs.Common.{◌==◌, ◌∙◌}
use Rattle.std.proofs.lemmas.List.Filters.{dedup_is}
use Rattle.std.specs.Cmp.Lexicographic.{pointwise}
use Rattle.alg_model.proofs.InOrder.{set_of-dedup}
use Rattle.null_best.specs.steps.Keys.{key_cmp, key_cmp-total, keys_tie}
use Rattle.null_best.proofs.Orders.{key_cmp-exact}
use Rattle.null_best.proofs.row_key.arrange.Goals as goal

pub returns : goal.returns
returns c =
    dedup_is (pointwise ◌==◌) c.sort_unstable.new.self.items c.dedup.new.self.items c.dedup.ensures.filtered
    ∙ set_of-dedup key_cmp key_cmp-total key_cmp-exact (pointwise ◌==◌) keys_tie c.args.keys.now.items c.sort_unstable.new.self.items c.sort_unstable.ensures.permutation c.sort_unstable.ensures.sorted
