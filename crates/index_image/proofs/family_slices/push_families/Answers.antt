use Rattle.std.proofs.Common.{arith}
use Rattle.index_file.specs.declared.family.Family.TheVariants.{So, Os, Ps}
use Rattle.index_image.proofs.MeasureLaws.{PutsPieces-families, length-all_pairs, length-family, on_ok}
use Rattle.index_image.proofs.family_slices.push_families.Goals as goal

pub push_family-requires-clause-left : goal.push_family-requires-clause-left
push_family-requires-clause-left c = omega (arith, length-all_pairs c.args.numbers.now, c.requires.left)

pub push_family-requires-2-clause-left : goal.push_family-requires-2-clause-left
push_family-requires-2-clause-left c =
    let n = c.args.numbers.now in
    omega (arith, length-all_pairs n, c.requires.left, c.in_ok-push_family.ensures.left, length-family c.args.form n So)

pub push_family-requires-3-clause-left : goal.push_family-requires-3-clause-left
push_family-requires-3-clause-left c =
    let n = c.args.numbers.now in
    omega (arith, length-all_pairs n, c.requires.left, c.in_ok-push_family.ensures.left, c.in_ok-push_family-2.ensures.left, length-family c.args.form n So, length-family c.args.form n Os)

pub push_family-requires-4-clause-left : goal.push_family-requires-4-clause-left
push_family-requires-4-clause-left c =
    let n = c.args.numbers.now in
    omega (arith, length-all_pairs n, c.requires.left, c.in_ok-push_family.ensures.left, c.in_ok-push_family-2.ensures.left, c.in_ok-push_family-3.ensures.left, length-family c.args.form n So, length-family c.args.form n Os, length-family c.args.form n Ps)

pub returns : goal.returns
returns c =
    on_ok c.push_family-4.result
    (PutsPieces-families c.args.form c.args.numbers.now c.args.into.now c.push_family.new.into c.push_family-2.new.into c.push_family-3.new.into c.push_family-4.new.into
    c.in_ok-push_family.ensures c.in_ok-push_family-2.ensures c.in_ok-push_family-3.ensures)
    c.push_family-4.ensures
