use Rattle.std.proofs.Common.{◌∙◌, sym}
use Rattle.rdf_text.proofs.ByteRuns.{block_passed}
use Rattle.rdf_text.proofs.runs.after_blocks.Goals as goal

pub loop-block-preserved : goal.loop-block-preserved
loop-block-preserved g c =
    let cut = c.in-Some.ensures.cases in
    block_passed g.C.ByteClass.members 16 c.loop-block.rest.now c.in-Some.block.now c.in-Some.after.now cut.1 cut.2
    (sym c.are_members.ensures ∙ c.if-not-are_members.false)
    ∙ c.loop-block.invariant
