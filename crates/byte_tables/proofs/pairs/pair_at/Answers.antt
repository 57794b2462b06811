use Rattle.std.proofs.Common.{◌*◌}
use Rattle.std.proofs.lemmas.List.{take_rest}
use Rattle.byte_tables.proofs.PairLaws.{pair_in_place}
use Rattle.byte_tables.proofs.pairs.pair_at.Goals as goal

pub returns : goal.returns
returns c =
    pair_in_place c.args.i c.first_pair.result c.args.bytes.now (rw (take_rest c.args.bytes.now (8 * c.args.i)) at c.first_pair.ensures.first)
