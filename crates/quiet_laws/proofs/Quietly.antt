-- A world that tells, and a count that stays 0.
use Rattle.std.proofs.Common.{◌≡◌, Bool, true, Some, None, if◌then◌else◌, ⊎_elim, ap, arith}
use Rattle.bm_world.specs.Meanings.{Meanings}
use Rattle.bm_world.specs.World.{Rose}
use Rattle.quiet_world.specs.Quiet.{QuietState, told_by}

-- a count that stays 0 did not rise
pub stays_down : ¬ Rose 0 0
stays_down rose = ⊎_elim (λ more. omega (arith, more)) (λ last. omega (arith, last)) rose

-- what a world that tells holds is told
pub tells_all : (state : QuietState) → state.tells ≡ true → told_by state ≡ Some state.meanings
tells_all state tells = ap (λ (b : Bool). if b then Some state.meanings else None) tells
