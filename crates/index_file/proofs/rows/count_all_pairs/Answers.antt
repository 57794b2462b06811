use Rattle.std.proofs.Common.{length, ap, arith}
use Rattle.std.proofs.lemmas.List.{drop_all}
use Rattle.std.specs.List.{flat_map}
use Rattle.index_file.specs.Image.{slice_pairs}
use Rattle.index_file.proofs.rows.count_all_pairs.Goals as goal

pub returns-clause-pairs : goal.returns-clause-pairs
returns-clause-pairs c =
    let none = drop_all c.loop-i.i c.args.slices.now (omega (arith, c.len-i-end.ensures)) in
    let rest = ap (λ ss. length (flat_map (slice_pairs c.args.form) ss)) none in
    omega (arith, rest, c.loop-i.invariant.pairs, c.loop-i.invariant.fits)
