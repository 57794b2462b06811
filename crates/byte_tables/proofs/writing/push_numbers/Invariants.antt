use Rattle.std.proofs.Common.{◌≡◌, ◌++◌, take}
use Rattle.byte_tables.specs.Numbers.{number_bytes}
use Rattle.byte_tables.proofs.writing.push_numbers.Given as goal

abbrev pub invariant-loop-n : goal.invariant-loop-n
invariant-loop-n l = l.out.items ≡ l.initial.out.items ++ number_bytes (take l.n-index l.numbers)
