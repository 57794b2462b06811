use Rattle.std.proofs.Common.{◌∙◌, arith}
use Rattle.cube_slices.proofs.SliceLaws.{IsShown-slice, EncodesLines-slice, slice_lines-encodes}
use Rattle.cube_slices.proofs.slice.view_slice.Goals as goal

pub invariant_of-result : goal.invariant_of-result
invariant_of-result c =
    let there = IsShown-slice c.args.form c.args.rows c.args.columns c.args.bytes.now _ _ c.parts_of.ensures.entries c.parts_of.ensures.rows (omega arith) (omega arith) c.requires in
    (there.shown, there.few)

pub returns-clause-lines : goal.returns-clause-lines
returns-clause-lines c =
    (IsShown-slice c.args.form c.args.rows c.args.columns c.args.bytes.now _ _ c.parts_of.ensures.entries c.parts_of.ensures.rows (omega arith) (omega arith) c.requires).lines

pub returns-clause-encoded : goal.returns-clause-encoded
returns-clause-encoded c =
    rw (returns-clause-lines c) (EncodesLines-slice _ _ _ _ (λ i. omega (arith, c.type_inv.bytes i)) c.requires)

pub returns-clause-only : goal.returns-clause-only
returns-clause-only c ls encodes =
    returns-clause-lines c ∙ slice_lines-encodes _ _ _ _ ls encodes (omega arith) (omega arith)
