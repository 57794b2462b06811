use Rattle.std.proofs.Common.{slice_index_or}
use Rattle.term_numbers.proofs.RenumberLaws.{default_free}
use Rattle.term_numbers.proofs.RoleLaws.{AreRoles-step}
use Rattle.term_numbers.proofs.role.roles.Goals as goal

pub loop-triple-preserved : goal.loop-triple-preserved
loop-triple-preserved c =
    let t = slice_index_or c.args.triples.now c.loop-triple.triple-index (0, 0, 0) in
    AreRoles-step c.args.triples.now c.args.nodes c.loop-triple.triple-index t c.loop-triple.roles.items c.index_mut.result.now c.index_mut-in-loop-triple.result.now
    c.loop-triple-test.true (default_free c.args.triples.now c.loop-triple.triple-index (0, 0, 0) t c.loop-triple-test.true) (c.requires c.loop-triple.triple-index (0, 0, 0) c.loop-triple-test.true) c.index_mut.ensures.value c.index_mut-in-loop-triple.ensures.value c.loop-triple.invariant
