use Rattle.std.proofs.Common.{sym, subst}
use Rattle.alg_model.specs.Limits.{max_variables, PatternKeepsLimits}
use Rattle.alg_model.specs.WellDesigned.{IsWellDesigned}
use Rattle.pattern_tree.proofs.EmptyPatterns.{chain_well_designed, chain_keeps_limits}
use Rattle.pattern_tree.proofs.tests.shape_of.Goals as goal

pub tree_of-requires-clause-well_designed : goal.tree_of-requires-clause-well_designed
tree_of-requires-clause-well_designed c = subst IsWellDesigned (sym c.requires) chain_well_designed

pub tree_of-requires-clause-keeps_limits : goal.tree_of-requires-clause-keeps_limits
tree_of-requires-clause-keeps_limits c = subst (PatternKeepsLimits max_variables) (sym c.requires) chain_keeps_limits
