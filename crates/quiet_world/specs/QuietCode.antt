-- The code by which proofs tell the states of a quiet world apart: that of a world in memory that holds the same, and
-- whether it tells.
use Rattle.std.specs.Prelude.{Bool, [], None, refl}
use Rattle.std.specs.Coded.{Coded, code_by, coded×, coded_bool}
use Rattle.bm_world.specs.MemWorld.{MemState}
use Rattle.bm_world.specs.MemCode.{state_code}
use Rattle.bm_world.specs.World.{no_faults}
use Rattle.quiet_world.specs.Quiet.{QuietState}

abbrev pub quiet_code : Coded QuietState
quiet_code = code_by
    (MemState × Bool)
    (coded× state_code coded_bool)
    (λ s. (record { meanings = s.meanings; faults = no_faults; schedule = []; piece = None }, s.tells))
    (λ p. record { meanings = p.0.meanings; tells = p.1 })
    (λ _. refl)
