use Rattle.std.proofs.Common.{◌*◌}
use Rattle.std.proofs.lemmas.List.{take_rest}
use Rattle.byte_tables.proofs.NumberLaws.{number_in_place}
use Rattle.byte_tables.proofs.numbers.number_at.Goals as goal

pub returns : goal.returns
returns c =
    number_in_place c.args.i c.first_number.result c.args.bytes.now (rw (take_rest c.args.bytes.now (4 * c.args.i)) at c.first_number.ensures.first)
