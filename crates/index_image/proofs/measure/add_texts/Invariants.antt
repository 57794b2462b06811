use Rattle.std.proofs.Common.{◌≡◌, ◌+◌, ◌<◌, ◌^◌, length, take}
use Rattle.byte_tables.specs.Pieces.{joined}
use Rattle.term_numbers.specs.Numbering.{term_table}
use Rattle.index_image.proofs.measure.add_texts.Given as goal

abbrev pub invariant-loop-place : goal.invariant-loop-place
invariant-loop-place l = (l.end ≡ l.from + length (joined (take l.place (term_table l.numbers.terms)))) × (l.end < 2 ^ 32)
