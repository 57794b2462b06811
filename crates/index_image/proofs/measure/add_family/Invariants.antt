use Rattle.std.proofs.Common.{◌≡◌, ◌+◌, ◌<◌, ◌^◌, length, map}
use Rattle.std.specs.List.{range_with_len}
use Rattle.byte_tables.specs.Pieces.{joined}
use Rattle.index_file.specs.Families.{pairs_in}
use Rattle.index_file.specs.Image.{pair_slice}
use Rattle.index_image.specs.steps.Spreading.{keys_of, keys_before, AreLeft}
use Rattle.index_image.proofs.measure.add_family.Given as goal

abbrev pub invariant-loop-n : goal.invariant-loop-n
invariant-loop-n l = record {
  start : l.start ≡ keys_before (keys_of l.fn.family l.numbers.triples) l.n;
  many : length l.room.ends.items ≡ l.n-end;
  left : AreLeft l.n (keys_of l.fn.family l.numbers.triples) l.room.ends.items l.room.pairs.items;
  size : l.size ≡ l.from + length (joined (map (λ n. pair_slice l.form (pairs_in l.fn.family n l.numbers.triples)) (range_with_len 0 l.n)));
  short : l.size < 2 ^ 32;
}
