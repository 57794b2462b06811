use Rattle.std.proofs.Common.{sym, subst}
use Rattle.alg_model.specs.Pattern.{place_vars}
use Rattle.alg_model.specs.VarSet.{HoldsJust}
use Rattle.alg_model.proofs.VarSets.{HoldsJust-place}
use Rattle.alg_model.proofs.pattern.Place.vars.Goals as goal

pub returns-clause-just : goal.returns-clause-just
returns-clause-just c = subst (λ set. HoldsJust set (place_vars c.args.self.now)) (sym c.place_vars.ensures) (HoldsJust-place c.args.self.now)
