use Rattle.std.proofs.Common.{List, ℕ, ◌+◌, ◌∷◌, drop, sym, ap, ◌∙◌, arith}
use Rattle.run_rows.specs.Encoding.{row_numbers}
use Rattle.cube_slices.specs.Lines.{Line}
use Rattle.cube_slices.specs.steps.Shown.{lines_shown}
use Rattle.cube_slices.proofs.SliceLaws.{length-shown}
use Rattle.cube_slices.proofs.SeekLaws.{LineShown-entry}
use Rattle.cube_slices.proofs.parts.line_at.Goals as goal

pub pair_at-row-requires : goal.pair_at-row-requires
pair_at-row-requires c =
    omega (arith, length-shown c.args.form c.args.entries.now c.args.bytes.now c.requires.shown, c.requires.within)

pub between-requires-clause-ordered : goal.between-requires-clause-ordered
between-requires-clause-ordered c =
    let there = LineShown-entry _ _ _ _ _ _ c.requires.shown c.pair_at-row.ensures c.end_before-start.ensures in
    omega (arith, there.up)

pub between-requires-clause-within : goal.between-requires-clause-within
between-requires-clause-within c =
    let there = LineShown-entry _ _ _ _ _ _ c.requires.shown c.pair_at-row.ensures c.end_before-start.ensures in
    omega (arith, there.within)

pub view-requires : goal.view-requires
view-requires c =
    rw c.between.ensures (LineShown-entry _ _ _ _ _ _ c.requires.shown c.pair_at-row.ensures c.end_before-start.ensures).row

pub returns : goal.returns
returns c =
    let there = LineShown-entry _ _ _ _ _ _ c.requires.shown c.pair_at-row.ensures c.end_before-start.ensures in
    let numbers = c.view.ensures.numbers ∙ ap (row_numbers c.args.form) c.between.ensures in
    let line = λ (xs : List ℕ). (let l : Line = record { row = c.pair_at-row.result.0; columns = xs } in l) in
    there.line ∙ ap (λ (xs : List ℕ). line xs ∷ drop (c.args.i + 1) (lines_shown c.args.form c.args.entries.now c.args.bytes.now)) (sym numbers)
