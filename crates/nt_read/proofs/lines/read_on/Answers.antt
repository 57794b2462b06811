use Rattle.std.proofs.Common.{◌++◌, length, ◌∙◌, ap, sym, refl, arith}
use Rattle.std.proofs.lemmas.Result.{err_from_is_err_and}
use Rattle.nt_read.specs.scanning.Lines.{lines_of}
use Rattle.nt_read.specs.Pieces.{ended}
use Rattle.nt_read.proofs.FedPieces.{front_split, front_whole, first_fails, first_takes, later_fails, later_takes, all_good, all_taken, all_counted, all_front}
use Rattle.nt_read.proofs.lines.read_on.Goals as goal

pub returns-in_default-clause-answers : goal.returns-in_default-clause-answers
returns-in_default-clause-answers g c = rw (front_whole c.args.text.now.items c.args.bytes.now c.requires c.in_default.ensures.none).0 refl

pub returns-in_default-clause-takes : goal.returns-in_default-clause-takes
returns-in_default-clause-takes g c = rw (front_whole c.args.text.now.items c.args.bytes.now c.requires c.in_default.ensures.none).0 refl

pub returns-in_default-clause-last : goal.returns-in_default-clause-last
returns-in_default-clause-last g c = c.in_ok-keep.ensures.ok ∙ sym (front_whole c.args.text.now.items c.args.bytes.now c.requires c.in_default.ensures.none).1

pub returns-in_default-clause-counts : goal.returns-in_default-clause-counts
returns-in_default-clause-counts g c =
    let none = ap length (front_whole c.args.text.now.items c.args.bytes.now c.requires c.in_default.ensures.none).0 in
    omega (arith, none)

pub returns-in_err-ends_before-clause-answers : goal.returns-in_err-ends_before-clause-answers
returns-in_err-ends_before-clause-answers g c =
    let p = err_from_is_err_and c.from_residual-in_err-ends_before.result c.from_residual-in_err-ends_before.ensures.1 in
    rw (p.1, p.2) (first_fails c.args.ends c.args.text.now.items c.args.bytes.now c.in-Some.line.now c.in-Some.after.now c.in_err-ends_before.field-0.0
    c.requires c.in-Some.ensures.some c.in_err-ends_before.ensures.answers)

pub returns-in_err-ends_before-clause-takes : goal.returns-in_err-ends_before-clause-takes
returns-in_err-ends_before-clause-takes g c =
    let p = err_from_is_err_and c.from_residual-in_err-ends_before.result c.from_residual-in_err-ends_before.ensures.1 in
    let kept = g.T.Taker.kept in
    rw (p.1, p.2) (first_takes c.args.ends c.args.text.now.items c.args.bytes.now c.in-Some.line.now c.in-Some.after.now (kept c.args.into.now) (kept c.read_first.new.into) c.in_err-ends_before.field-0.0
    c.requires c.in-Some.ensures.some c.in_err-ends_before.ensures.answers c.in_err-ends_before.ensures.takes)

pub returns-in_err-last-clause-answers : goal.returns-in_err-last-clause-answers
returns-in_err-last-clause-answers g c =
    let p = err_from_is_err_and c.from_residual-in_err-last.result c.from_residual-in_err-last.ensures.1 in
    rw (p.1, p.2) (later_fails c.args.ends c.in_ok-ends_before.ends_before c.args.text.now.items c.args.bytes.now c.in-Some.line.now c.in-Some.after.now c.in_err-last.field-0.0
    c.requires c.in-Some.ensures.some c.in_ok-ends_before.ensures.answers c.in_ok-ends_before.ensures.counts c.in_err-last.ensures.answers)

pub returns-in_err-last-clause-takes : goal.returns-in_err-last-clause-takes
returns-in_err-last-clause-takes g c =
    let p = err_from_is_err_and c.from_residual-in_err-last.result c.from_residual-in_err-last.ensures.1 in
    let kept = g.T.Taker.kept in
    rw (p.1, p.2) (later_takes c.args.text.now.items c.args.bytes.now c.in-Some.line.now c.in-Some.after.now (kept c.args.into.now) (kept c.read_first.new.into) (kept c.read_ended.new.into) c.in_err-last.field-0.0
    c.requires c.in-Some.ensures.some c.in_ok-ends_before.ensures.answers c.in_ok-ends_before.ensures.takes c.in_err-last.ensures.takes)

pub returns-in_err-keep-2-clause-takes : goal.returns-in_err-keep-2-clause-takes
returns-in_err-keep-2-clause-takes g c =
    let p = err_from_is_err_and c.from_residual-in_err-keep-2.result c.from_residual-in_err-keep-2.ensures.1 in
    let kept = g.T.Taker.kept in
    let text = c.args.text.now.items in
    let bytes = c.args.bytes.now in
    let line = c.in-Some.line.now in
    let after = c.in-Some.after.now in
    rw (p.1, p.2, c.in_err-keep-2.ensures.only_memory) (all_front (ended (lines_of (text ++ bytes))) (kept c.args.into.now) (kept c.read_ended.new.into)
    (all_good text bytes line after c.requires c.in-Some.ensures.some c.in_ok-ends_before.ensures.answers c.in_ok-last.ensures.answers)
    (all_taken text bytes line after (kept c.args.into.now) (kept c.read_first.new.into) (kept c.read_ended.new.into) c.requires c.in-Some.ensures.some c.in_ok-ends_before.ensures.takes c.in_ok-last.ensures.takes))

pub returns-clause-answers : goal.returns-clause-answers
returns-clause-answers g c =
    all_good c.args.text.now.items c.args.bytes.now c.in-Some.line.now c.in-Some.after.now c.requires c.in-Some.ensures.some c.in_ok-ends_before.ensures.answers c.in_ok-last.ensures.answers

pub returns-clause-takes : goal.returns-clause-takes
returns-clause-takes g c =
    let kept = g.T.Taker.kept in
    all_taken c.args.text.now.items c.args.bytes.now c.in-Some.line.now c.in-Some.after.now (kept c.args.into.now) (kept c.read_first.new.into) (kept c.read_ended.new.into)
    c.requires c.in-Some.ensures.some c.in_ok-ends_before.ensures.takes c.in_ok-last.ensures.takes

pub returns-clause-last : goal.returns-clause-last
returns-clause-last g c =
    let whole = (front_split c.args.text.now.items c.args.bytes.now c.in-Some.line.now c.in-Some.after.now c.requires c.in-Some.ensures.some).1 in
    rw (c.in_ok-keep-2.ensures.ok, c.in_ok-ends_before.ensures.cleared, c.in_ok-last.ensures.last) (sym whole)

pub returns-clause-counts : goal.returns-clause-counts
returns-clause-counts g c =
    all_counted c.args.ends c.in_ok-ends_before.ends_before c.in_ok-last.ends_after c.args.text.now.items c.args.bytes.now c.in-Some.line.now c.in-Some.after.now
    c.requires c.in-Some.ensures.some c.in_ok-ends_before.ensures.counts c.in_ok-last.ensures.counts
