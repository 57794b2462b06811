use Rattle.alg_model.specs.Pattern.{algebra_of}
use Rattle.alg_model.proofs.VarSets.{pattern_fits}
use Rattle.pattern_tree.proofs.tree.tree_of.Goals as goal

pub grown_nodes-requires-clause-fits : goal.grown_nodes-requires-clause-fits
grown_nodes-requires-clause-fits c = pattern_fits (algebra_of c.args.pattern.now) c.requires.keeps_limits.vars_below
