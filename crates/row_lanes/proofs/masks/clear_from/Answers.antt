use Rattle.std.proofs.Common.{refl, ap, ◌-◌, arith}
use Rattle.std.proofs.lemmas.Nat.{one_shl}
use Rattle.row_lanes.proofs.SetLaws.{Has-cut}
use Rattle.row_lanes.proofs.masks.clear_from.Goals as goal

pub returns-then-place-into-clause-below : goal.returns-then-place-into-clause-below
returns-then-place-into-clause-below c =
    Has-cut c.args.into.now _ c.zero_from.new.into c.args.n _ c.if-place-into.true (ap (λ k. k - 1) (one_shl _ 64 (omega arith))) refl c.zero_from.ensures
