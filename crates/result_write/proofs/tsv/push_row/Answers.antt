use Rattle.std.proofs.Common.{◌++◌, ◌∷◌, ◌==◌, if◌then◌else◌, ◌∙◌, ap, refl, List, ℕ}
use Rattle.std.proofs.lemmas.Option.{slice_get_read}
use Rattle.result_write.specs.Tsv.{cell_text}
use Rattle.result_write.proofs.Joined.{join-take_more}
use Rattle.result_write.proofs.tsv.push_row.Goals as goal

pub loop-i-preserved : goal.loop-i-preserved
loop-i-preserved c =
    let cell = c.index-cells-i.result in
    let here = if c.loop-i.i == 0 then cell_text cell else 9 ∷ cell_text cell in
    c.in_ok-push_cell.ensures ∙ ap (λ (text : List ℕ). text ++ here) c.loop-i.invariant
    ∙ join-take_more 9 c.args.text.now.items cell_text c.args.cells.now c.loop-i.i cell (slice_get_read c.args.cells.now _ c.loop-i.i cell refl c.loop-i-test.true c.index-cells-i.is)
