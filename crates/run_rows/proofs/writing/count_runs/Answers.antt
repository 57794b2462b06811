use Rattle.std.proofs.Common.{◌++◌, ◌-◌, length, take, drop, ap, length-append, arith}
use Rattle.std.proofs.lemmas.List.{drop_more, drop_all}
use Rattle.run_rows.specs.Runs.{runs_of}
use Rattle.run_rows.specs.Encoding.{run_bytes}
use Rattle.run_rows.proofs.ByteLaws.{length-run_bytes, length-flat_map-run_bytes}
use Rattle.run_rows.proofs.WritingLaws.{IsWriting-joined, IsWriting-apart, IsWriting-last}
use Rattle.run_rows.proofs.writing.count_runs.Goals as goal
use Rattle.run_rows.proofs.writing.count_runs.Goals.{then-end-from, else-end-from}

pub loop-n-preserved : goal.loop-n-preserved
loop-n-preserved c =
    let behind = take (length c.args.numbers.now - 1) (drop 1 c.args.numbers.now) in
    let before = c.loop-n.invariant.1 in
    let run = c.loop-n.run in
    let writing = rw (drop_more behind c.loop-n.n-index 0 c.loop-n-test.true) at before.2 in
    elim c.if-end-from.branch [
      | then-end-from w ↦ rw (w.ended-is, w.run-is) (omega arith, (before.0, before.1, IsWriting-joined _ _ _ _ _ run (omega arith) writing))
      | else-end-from w ↦ rw (w.ended-is, w.run-is) (
        omega arith,
        (
          before.0 ++ run_bytes run,
          omega (arith, before.1, length-append before.0 (run_bytes run), length-run_bytes run),
          IsWriting-apart _ _ _ _ _ run (λ next. omega arith) writing,
        ),
      )
    ]

pub returns : goal.returns
returns c =
    let behind = take (length c.args.numbers.now - 1) (drop 1 c.args.numbers.now) in
    let before = c.loop-n.invariant.1 in
    let run = c.loop-n.run in
    let writing = rw (drop_all c.loop-n.n-index behind c.loop-n-test.false) at before.2 in
    let all = ap length (IsWriting-last _ c.args.numbers.now before.0 run writing) in
    omega (arith, before.1, all, length-append before.0 (run_bytes run), length-run_bytes run, length-flat_map-run_bytes (runs_of c.args.numbers.now))
