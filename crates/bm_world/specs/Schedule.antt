-- Which calls of a world in memory are to fail: the kind of the call, and which call of that kind
-- it is from now on, counted from 1.
use Rattle.std.specs.Prelude.{ℕ, ◌-◌, Bool, ◌&&◌, ◌==◌, if◌then◌else◌, List, map}
use Rattle.std.specs.List.{list_any}
use denote.Enum.Bare.{sameb}
use Rattle.bm_world.specs.contracts.schedule.WorldCall.{the_type}
use Rattle.bm_world.specs.declared.schedule.WorldCall.{WorldCall}

abbrev pub Schedule : Type 0
Schedule = List (WorldCall × ℕ)

abbrev pub same_call : WorldCall → WorldCall → Bool
same_call = sameb the_type

-- the next call of this kind is to fail
abbrev pub is_due : WorldCall → List (WorldCall × ℕ) → Bool
is_due call schedule = list_any (λ entry. same_call entry.0 call && entry.1 == 1) schedule

-- a call of this kind brings its entries one call nearer
abbrev pub count_call : WorldCall → WorldCall × ℕ → WorldCall × ℕ
count_call call entry = if same_call entry.0 call then (entry.0, entry.1 - 1) else entry

-- what is left after a call of this kind
abbrev pub after_call : WorldCall → List (WorldCall × ℕ) → List (WorldCall × ℕ)
after_call call schedule = map (count_call call) schedule
