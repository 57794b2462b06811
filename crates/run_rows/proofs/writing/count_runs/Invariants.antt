use Rattle.std.proofs.Common.{◌-◌, ◌^◌, ◌*◌, ◌≤◌, drop, List, ℕ, ◌≡◌, length}
use Rattle.run_rows.proofs.WritingLaws.{IsWriting}
use Rattle.run_rows.proofs.writing.count_runs.Given as goal

abbrev pub invariant-loop-n : goal.invariant-loop-n
invariant-loop-n l =
    (l.ended ≤ l.n-index) × ((out : List ℕ) × (length out ≡ 8 * l.ended) × IsWriting (2 ^ 32 - 1) l.numbers out l.run (drop l.n-index l.n-items))
