-- The code by which proofs tell the states of a world in memory apart: a state is stored as its parts.
use Rattle.std.specs.Prelude.{ℕ, List, Option, refl}
use Rattle.std.specs.Coded.{Coded, code_by, coded×, coded_ℕ, coded_list, coded_option}
use Rattle.std.specs.FinMap.{code}
use Rattle.bm_world.specs.contracts.schedule.WorldCall.{the_row}
use Rattle.bm_world.specs.declared.world.Faults.{Faults}
use Rattle.bm_world.specs.Meanings.{Files, Meanings}
use Rattle.bm_world.specs.Schedule.{Schedule}
use Rattle.bm_world.specs.MemWorld.{MemState}

abbrev bytes_code : Coded (List ℕ)
bytes_code = coded_list coded_ℕ

abbrev text_code : Coded (Option (List ℕ))
text_code = coded_option bytes_code

abbrev schedule_code : Coded Schedule
schedule_code = coded_list (coded× the_row.coded coded_ℕ)

abbrev meanings_code : Coded Meanings
meanings_code = code_by
    (Files × (List (List ℕ) × (Option (List ℕ) × (Option (List ℕ) × (List ℕ × List ℕ)))))
    (coded× (code bytes_code bytes_code) (coded× (coded_list bytes_code) (coded× text_code (coded× text_code (coded× bytes_code bytes_code)))))
    (λ m. (m.files, (m.opened, (m.rest, (m.made, (m.printed, m.complained))))))
    (λ p. record {
      files = p.0;
      opened = p.1.0;
      rest = p.1.1.0;
      made = p.1.1.1.0;
      printed = p.1.1.1.1.0;
      complained = p.1.1.1.1.1;
    })
    (λ _. refl)

abbrev faults_code : Coded Faults
faults_code = code_by
    (ℕ × (ℕ × ℕ))
    (coded× coded_ℕ (coded× coded_ℕ coded_ℕ))
    (λ f. (f.reads, (f.writes, f.says)))
    (λ p. record { reads = p.0; writes = p.1.0; says = p.1.1 })
    (λ _. refl)

abbrev pub state_code : Coded MemState
state_code = code_by
    (Meanings × (Faults × (Schedule × Option ℕ)))
    (coded× meanings_code (coded× faults_code (coded× schedule_code (coded_option coded_ℕ))))
    (λ s. (s.meanings, (s.faults, (s.schedule, s.piece))))
    (λ p. record { meanings = p.0; faults = p.1.0; schedule = p.1.1.0; piece = p.1.1.1 })
    (λ _. refl)
