use Rattle.std.proofs.Common.{◌≡◌, take}
use Rattle.std.specs.List.{list_all}
use Rattle.rdf_text.proofs.runs.are_members.Given as goal

abbrev pub invariant-loop-b : goal.invariant-loop-b
invariant-loop-b g l = l.all ≡ list_all g.C.ByteClass.members (take l.b-index l.block)
