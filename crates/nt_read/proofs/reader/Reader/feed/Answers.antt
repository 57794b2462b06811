use Rattle.std.proofs.Common.{◌≡◌, ◌++◌, None, Ok, Err, Result, ap, ◌∙◌, sym, subst}
use Rattle.nt_read.specs.declared.lines.FeedFault.{FeedFault}
use Rattle.nt_read.specs.Lines.{HasNoEnd}
use Rattle.nt_read.specs.Pieces.{Stream, cut}
use Rattle.nt_read.specs.Feeding.{seen, HasRead}
use Rattle.nt_read.proofs.Cuts.{unfinished-no_end}
use Rattle.nt_read.proofs.Pieces.{cut_is}
use Rattle.nt_read.proofs.FedPieces.{piece_read, piece_failed, piece_after_fault}
use Rattle.nt_read.proofs.reader.Reader.feed.Goals as goal

pub returns-in-Some-clause-read : goal.returns-in-Some-clause-read
returns-in-Some-clause-read g c bytes kept is =
    let stream : Stream = record { ends = c.self.inside.ends; text = c.self.inside.text.items; after_cr = c.self.inside.after_cr } in
    let old : c.args.self.now ≡ Err c.in-Some.fault = sym c.self.view_is ∙ ap (seen stream) c.in-Some.is in
    rw old (piece_after_fault bytes c.args.piece.now kept (g.T.Taker.kept c.args.into.now) c.in-Some.fault (rw old at is))

pub invariant_of-self : goal.invariant_of-self
invariant_of-self g c = λ _. subst HasNoEnd (sym c.in-Ok.ensures.last) (unfinished-no_end _)

pub returns-in-Ok-clause-read : goal.returns-in-Ok-clause-read
returns-in-Ok-clause-read g c bytes kept is =
    let stream : Stream = record { ends = c.self.inside.ends; text = c.self.inside.text.items; after_cr = c.self.inside.after_cr } in
    let after : Stream = record { ends = c.in-Ok.ends; text = c.read_on.new.text.items; after_cr = c.ends_with_carriage_return-self-inside.result } in
    let none : c.self.inside.fault ≡ None = c.in_default.is in
    let old : c.args.self.now ≡ Ok stream = sym c.self.view_is ∙ ap (seen stream) none in
    let same : after ≡ cut stream c.args.piece.now = cut_is stream c.args.piece.now c.without_line_feed-bytes.result.now c.read_on.new.text.items c.in-Ok.ends c.ends_with_carriage_return-self-inside.result
    c.without_line_feed-bytes.ensures c.in-Ok.ensures.last c.in-Ok.ensures.counts c.ends_with_carriage_return-self-inside.ensures in
    let new : seen after c.self.inside.fault ≡ Ok (cut stream c.args.piece.now) = ap (seen after) none ∙ ap Ok same in
    let kept_of = g.T.Taker.kept in
    let P : Result Stream FeedFault → Type 0 = λ reader. HasRead (bytes ++ c.args.piece.now) reader kept (kept_of c.read_on.new.into) in
    subst P (sym new) (piece_read bytes c.args.piece.now stream kept (kept_of c.args.into.now) (kept_of c.read_on.new.into) (rw old at is)
    (rw c.without_line_feed-bytes.ensures at c.in-Ok.ensures.answers) (rw c.without_line_feed-bytes.ensures at c.in-Ok.ensures.takes))

pub returns-in-Err-clause-read : goal.returns-in-Err-clause-read
returns-in-Err-clause-read g c bytes kept is =
    let stream : Stream = record { ends = c.self.inside.ends; text = c.self.inside.text.items; after_cr = c.self.inside.after_cr } in
    let old : c.args.self.now ≡ Ok stream = sym c.self.view_is ∙ ap (seen stream) c.in_default.is in
    let after : Stream = record { ends = c.self.inside.ends; text = c.read_on.new.text.items; after_cr = c.self.inside.after_cr } in
    let kept_of = g.T.Taker.kept in
    let P : Result Stream FeedFault → Type 0 = λ reader. HasRead (bytes ++ c.args.piece.now) reader kept (kept_of c.read_on.new.into) in
    subst P (sym (ap (seen after) c.fail.ensures.kept)) (piece_failed bytes c.args.piece.now stream kept (kept_of c.args.into.now) (kept_of c.read_on.new.into) c.in-Err.fault (rw old at is)
    (rw c.without_line_feed-bytes.ensures at c.in-Err.ensures.answers) (rw c.without_line_feed-bytes.ensures at c.in-Err.ensures.takes))
