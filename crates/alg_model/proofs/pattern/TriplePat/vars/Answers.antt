use Rattle.std.proofs.Common.{sym, subst}
use Rattle.alg_model.proofs.VarSets.{HoldsJust-triple}
use Rattle.alg_model.proofs.pattern.TriplePat.vars.Goals as goal

pub returns-clause-just : goal.returns-clause-just
returns-clause-just c = rw (c.vars.ensures.value, c.vars-2.ensures.value, c.vars-3.ensures.value) (HoldsJust-triple c.args.self.now)
