use Rattle.std.proofs.Common.{◌↔◌, [], drop}
use Rattle.index_file.specs.steps.Groups.{Follow}
use Rattle.index_file.proofs.terms.is_group.Given as goal

abbrev pub invariant-loop-i : goal.invariant-loop-i
invariant-loop-i l = Follow l.kind [] l.texts ↔ Follow l.kind l.before (drop l.i l.texts)
