use Rattle.std.proofs.Common.{sym}
use Rattle.match_relations.proofs.TreeLaws.{found_accepted}
use Rattle.match_relations.proofs.borrowed.borrow_numbered.Goals as goal

pub borrow_for-requires : goal.borrow_for-requires
borrow_for-requires c = found_accepted c.args.tree.now c.args.number c.in-Some.pattern.now c.requires (sym c.in-Some.ensures)
