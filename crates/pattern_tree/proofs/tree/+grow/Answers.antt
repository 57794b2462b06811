use Rattle.std.proofs.Common.{◌∙◌, length, refl, sym, ap}
use Rattle.std.proofs.lemmas.Option.{slice_get_read}
use Rattle.alg_model.specs.Pattern.{algebra_of}
use Rattle.pattern_tree.specs.Growing.{extended, grown}
use Rattle.pattern_tree.proofs.Growth.{set_is_put, OnOk-along}
use Rattle.pattern_tree.proofs.tree.+grow.Goals as goal

pub returns-in-Bgp-clause-ok : goal.returns-in-Bgp-clause-ok
returns-in-Bgp-clause-ok t c =
    let nodes = c.args.nodes.now.items in
    let node = c.index_mut.result.now in
    let stands = slice_get_read nodes (length nodes) c.args.root node refl c.requires.root_exists c.index_mut.ensures.value in
    let part = ap (λ pattern. grown nodes c.args.root (algebra_of pattern)) c.in-Bgp.is in
    OnOk-along c.lend.result _ _ (λ is. set_is_put nodes c.args.root node c.lend.new.self c.in-Bgp.list stands (is ∙ ap (extended node) c.as_slice.ensures) ∙ sym part) c.lend.ensures
