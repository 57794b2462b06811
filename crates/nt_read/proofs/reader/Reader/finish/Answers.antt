use Rattle.std.proofs.Common.{◌≡◌, Ok, Err, ap, ◌∙◌, sym}
use Rattle.nt_read.specs.Pieces.{Stream}
use Rattle.nt_read.specs.Feeding.{seen}
use Rattle.nt_read.proofs.FedPieces.{finish_answers, finish_takes, failed_answers, failed_takes}
use Rattle.nt_read.proofs.reader.Reader.finish.Goals as goal

pub returns-in-Some-clause-answers_all : goal.returns-in-Some-clause-answers_all
returns-in-Some-clause-answers_all g c bytes kept small is =
    let stream : Stream = record { ends = c.self.inside.ends; text = c.self.inside.text.items; after_cr = c.self.inside.after_cr } in
    let old : c.args.self.now ≡ Err c.in-Some.fault = sym c.self.view_is ∙ ap (seen stream) c.in-Some.is in
    failed_answers bytes kept (g.T.Taker.kept c.args.into.now) c.in-Some.fault small (rw old at is)

pub returns-in-Some-clause-takes_all : goal.returns-in-Some-clause-takes_all
returns-in-Some-clause-takes_all g c bytes kept small is =
    let stream : Stream = record { ends = c.self.inside.ends; text = c.self.inside.text.items; after_cr = c.self.inside.after_cr } in
    let old : c.args.self.now ≡ Err c.in-Some.fault = sym c.self.view_is ∙ ap (seen stream) c.in-Some.is in
    failed_takes bytes kept (g.T.Taker.kept c.args.into.now) c.in-Some.fault small (rw old at is)

pub returns-in-Ok-clause-answers_all : goal.returns-in-Ok-clause-answers_all
returns-in-Ok-clause-answers_all g c bytes kept small is =
    let stream : Stream = record { ends = c.self.inside.ends; text = c.self.inside.text.items; after_cr = c.self.inside.after_cr } in
    let old : c.args.self.now ≡ Ok stream = sym c.self.view_is ∙ ap (seen stream) c.in_default.is in
    finish_answers bytes stream kept (g.T.Taker.kept c.args.into.now) (Ok tt) small (rw old at is) (rw c.deref.ensures.value at c.in-Ok.ensures.answers)

pub returns-in-Ok-clause-takes_all : goal.returns-in-Ok-clause-takes_all
returns-in-Ok-clause-takes_all g c bytes kept small is =
    let stream : Stream = record { ends = c.self.inside.ends; text = c.self.inside.text.items; after_cr = c.self.inside.after_cr } in
    let old : c.args.self.now ≡ Ok stream = sym c.self.view_is ∙ ap (seen stream) c.in_default.is in
    finish_takes bytes stream kept (g.T.Taker.kept c.args.into.now) (g.T.Taker.kept c.read_next.new.into) (Ok tt) small (rw old at is)
    (rw c.deref.ensures.value at c.in-Ok.ensures.answers) (rw c.deref.ensures.value at c.in-Ok.ensures.takes)

pub returns-in-Err-clause-answers_all : goal.returns-in-Err-clause-answers_all
returns-in-Err-clause-answers_all g c bytes kept small is =
    let stream : Stream = record { ends = c.self.inside.ends; text = c.self.inside.text.items; after_cr = c.self.inside.after_cr } in
    let old : c.args.self.now ≡ Ok stream = sym c.self.view_is ∙ ap (seen stream) c.in_default.is in
    rw c.fail.ensures.answer (finish_answers bytes stream kept (g.T.Taker.kept c.args.into.now) (Err c.in-Err.fault) small (rw old at is) (rw c.deref.ensures.value at c.in-Err.ensures.answers))

pub returns-in-Err-clause-takes_all : goal.returns-in-Err-clause-takes_all
returns-in-Err-clause-takes_all g c bytes kept small is =
    let stream : Stream = record { ends = c.self.inside.ends; text = c.self.inside.text.items; after_cr = c.self.inside.after_cr } in
    let old : c.args.self.now ≡ Ok stream = sym c.self.view_is ∙ ap (seen stream) c.in_default.is in
    rw c.fail.ensures.answer (finish_takes bytes stream kept (g.T.Taker.kept c.args.into.now) (g.T.Taker.kept c.read_next.new.into) (Err c.in-Err.fault) small (rw old at is)
    (rw c.deref.ensures.value at c.in-Err.ensures.answers) (rw c.deref.ensures.value at c.in-Err.ensures.takes))
