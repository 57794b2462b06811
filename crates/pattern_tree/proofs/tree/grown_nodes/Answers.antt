use Rattle.std.proofs.Common.{◌∙◌, ◌++◌, [], ◌∷◌, ap}
use Rattle.alg_model.specs.Pattern.{algebra_of}
use Rattle.pattern_tree.specs.Growing.{grown}
use Rattle.pattern_tree.proofs.Growth.{grown_is_tree}
use Rattle.pattern_tree.proofs.tree.grown_nodes.Goals as goal

pub returns : goal.returns
returns c =
    let pattern = algebra_of c.args.pattern.now in
    let root = c.in_ok-push.ensures.items ∙ ap (λ nodes. nodes ++ c.fresh.result ∷ []) c.new-nodes.ensures.items ∙ ap (λ node. node ∷ []) c.fresh.ensures in
    c.in_ok-grow.ensures.ok ∙ ap (λ nodes. grown nodes 0 pattern) root ∙ grown_is_tree pattern
