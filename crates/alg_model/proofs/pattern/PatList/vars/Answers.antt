use Rattle.std.proofs.Common.{sym, ◌∙◌, ap, subst}
use Rattle.alg_model.specs.Pattern.{Bgp, vars_of}
use Rattle.alg_model.specs.VarSet.{HoldsJust, list_set}
use Rattle.alg_model.proofs.VarSets.{HoldsJust-list}
use Rattle.alg_model.proofs.pattern.PatList.vars.Goals as goal

pub returns-clause-just : goal.returns-clause-just
returns-clause-just c =
    let patterns = c.args.self.now in
    subst (λ set. HoldsJust set (vars_of (Bgp patterns))) (sym (c.list_vars.ensures ∙ ap list_set c.as_slice.ensures)) (HoldsJust-list patterns)
