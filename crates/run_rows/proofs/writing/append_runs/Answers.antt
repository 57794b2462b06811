use Rattle.std.proofs.Common.{List, ℕ, ◌++◌, ◌-◌, length, take, drop, sym, ap, ◌∙◌, append_assoc, arith}
use Rattle.std.proofs.lemmas.List.{drop_more, drop_all}
use Rattle.run_rows.specs.Encoding.{run_bytes}
use Rattle.run_rows.proofs.WritingLaws.{IsWriting-joined, IsWriting-apart, IsWriting-last}
use Rattle.run_rows.proofs.writing.append_runs.Goals as goal
use Rattle.run_rows.proofs.writing.append_runs.Goals.{then-from-end, else-from-end+in_ok-push_run}

pub loop-n-preserved : goal.loop-n-preserved
loop-n-preserved c =
    let behind = take (length c.args.numbers.now - 1) (drop 1 c.args.numbers.now) in
    let before = c.loop-n.invariant in
    let run = c.loop-n.run in
    let writing = rw (drop_more behind c.loop-n.n-index 0 c.loop-n-test.true) at before.2 in
    elim c.if-from-end.branch [
      | then-from-end w ↦ rw (w.out-is, w.run-is) (before.0, before.1, IsWriting-joined _ _ _ _ _ run (omega arith) writing)
      | else-from-end+in_ok-push_run w ↦ rw (w.out-is, w.run-is) (
        before.0 ++ run_bytes run,
        w.in_ok-push_run.ensures ∙ ap (λ (xs : List ℕ). xs ++ run_bytes run) before.1 ∙ append_assoc c.args.out.now.items before.0 (run_bytes run),
        IsWriting-apart _ _ _ _ _ run (λ next. omega arith) writing,
      )
    ]

pub returns-clause-written : goal.returns-clause-written
returns-clause-written c =
    let behind = take (length c.args.numbers.now - 1) (drop 1 c.args.numbers.now) in
    let before = c.loop-n.invariant in
    let run = c.loop-n.run in
    let writing = rw (drop_all c.loop-n.n-index behind c.loop-n-test.false) at before.2 in
    c.in_ok-push_run-2.ensures ∙ ap (λ (xs : List ℕ). xs ++ run_bytes run) before.1 ∙ append_assoc c.args.out.now.items before.0 (run_bytes run) ∙ ap (λ (xs : List ℕ). c.args.out.now.items ++ xs) (sym (IsWriting-last _ c.args.numbers.now before.0 run writing))
