use Rattle.std.proofs.Common.{◌≡◌, ℕ, Some, sym, ◌∙◌, ap, subst}
use Rattle.std.specs.Prelude.{slice_get}
use Rattle.std.specs.Option.{option_map}
use Rattle.alg_model.specs.Pattern.{Bgp, vars_of}
use Rattle.alg_model.specs.VarSet.{HoldsJust, list_set}
use Rattle.alg_model.proofs.VarSets.{HoldsJust-list}
use Rattle.pattern_tree.specs.Tree.{TreeNode}
use Rattle.pattern_tree.proofs.tree.Tree.vars.Goals as goal

pub returns : goal.returns
returns c = λ at stands.
    let word : TreeNode → ℕ = λ node. list_set node.patterns in
    let nodes = c.deref.ensures.value ∙ c.self.view_is in
    let there : option_map word (slice_get c.deref.result.now c.args.node) ≡ Some (word at) = ap (λ nodes. option_map word (slice_get nodes c.args.node)) nodes ∙ ap (option_map word) stands in
    let told : Some (word at) ≡ Some c.vars_at.result = sym there ∙ c.vars_at.ensures in
    let same : word at ≡ c.vars_at.result = cc in
    subst (λ set. HoldsJust set (vars_of (Bgp at.patterns))) same (HoldsJust-list at.patterns)
