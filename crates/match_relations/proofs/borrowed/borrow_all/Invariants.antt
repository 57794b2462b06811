use Rattle.std.proofs.Common.{◌≡◌, length}
use Rattle.match_relations.specs.steps.Numbers.{patterns_in}
use Rattle.match_relations.specs.steps.Parts.{AreBorrowed}
use Rattle.match_relations.proofs.borrowed.borrow_all.Given as goal

abbrev pub invariant-loop-place : goal.invariant-loop-place
invariant-loop-place l = (length l.all.items ≡ l.place) × AreBorrowed l.index.numbering (patterns_in l.tree) l.all.items
