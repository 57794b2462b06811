use Rattle.std.proofs.Common.{take}
use Rattle.term_numbers.specs.Numbering.{term_table}
use Rattle.index_image.specs.steps.Writing.{PutsPieces}
use Rattle.index_image.proofs.writing.push_texts.Given as goal

abbrev pub invariant-loop-place : goal.invariant-loop-place
invariant-loop-place l = PutsPieces l.initial.into l.into (take l.place (term_table l.numbers.terms))
