use Rattle.std.proofs.Common.{◌≡◌, ℕ, zero, suc, None, replicate, refl}
use Rattle.mask_steps.specs.Held.{kind_in}
use Rattle.mask_steps.proofs.kinds.VarKinds.new.Goals as goal

-- where no kind is known, none is found
none_known : (n v : ℕ) → kind_in (replicate n None) v ≡ None
none_known zero v = refl
none_known (suc n) zero = refl
none_known (suc n) (suc v) = none_known n v

pub returns : goal.returns
returns c = none_known 64
