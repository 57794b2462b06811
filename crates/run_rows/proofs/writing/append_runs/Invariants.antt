use Rattle.std.proofs.Common.{◌-◌, ◌^◌, drop, List, ℕ, ◌≡◌, ◌++◌}
use Rattle.run_rows.proofs.WritingLaws.{IsWriting}
use Rattle.run_rows.proofs.writing.append_runs.Given as goal

abbrev pub invariant-loop-n : goal.invariant-loop-n
invariant-loop-n l =
    (out : List ℕ) × (l.out.items ≡ l.initial.out.items ++ out) × IsWriting (2 ^ 32 - 1) l.numbers out l.run (drop l.n-index l.n-items)
