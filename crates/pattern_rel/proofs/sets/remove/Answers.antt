use Rattle.std.proofs.Common.{refl}
use Rattle.pattern_rel.proofs.SetLaws.{Has-remove}
use Rattle.pattern_rel.proofs.sets.remove.Goals as goal

pub returns-then-place-into-clause-removed : goal.returns-then-place-into-clause-removed
returns-then-place-into-clause-removed c = Has-remove c.args.into.now c.args.n _ c.if-place-into.true refl
