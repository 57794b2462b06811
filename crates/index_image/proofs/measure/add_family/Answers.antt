use Rattle.std.proofs.Common.{◌≡◌, ℕ, ◌-◌, ◌^◌, List, ◌++◌, length, take, drop, map, refl, sym, ap, ◌∙◌, subst, arith}
use Rattle.std.proofs.lemmas.Result.{err_from_is_err_and}
use Rattle.std.specs.List.{range_with_len}
use Rattle.byte_tables.specs.Pieces.{joined}
use Rattle.cube_slices.specs.Pairs.{PairsAscend}
use Rattle.index_file.specs.Families.{pairs_in}
use Rattle.index_file.specs.Image.{pair_slice, slices_for}
use Rattle.index_image.proofs.CutLaws.{IsWithin-left, part_in_order, part_few, AreLeft-after, first_fit, length_more}
use Rattle.index_image.proofs.MeasureLaws.{IsEnd-longer, family_slices_are}
use Rattle.index_image.proofs.measure.add_family.Goals as goal

pub loop-n-init : goal.loop-n-init
loop-n-init c = record { start = refl; many = omega (arith, c.len-n-end.ensures); left = c.in_ok-spread.ensures.left; size = omega arith; short = omega (arith, c.ranges.from) }

pub index-requires : goal.index-requires
index-requires c = omega (arith, c.loop-n.invariant.many, c.loop-n-test.true)

pub order_part-requires-clause-start : goal.order_part-requires-clause-start
order_part-requires-clause-start c =
    let cut = IsWithin-left _ _ _ _ _ _ _ c.loop-n.invariant.left c.loop-n.invariant.many c.loop-n-test.true c.loop-n.invariant.start c.index.ensures in
    omega (arith, cut.long)

pub order_part-requires-clause-end : goal.order_part-requires-clause-end
order_part-requires-clause-end c =
    let cut = IsWithin-left _ _ _ _ _ _ _ c.loop-n.invariant.left c.loop-n.invariant.many c.loop-n-test.true c.loop-n.invariant.start c.index.ensures in
    omega (arith, cut.room)

pub part-requires-clause-start : goal.part-requires-clause-start
part-requires-clause-start c =
    let cut = IsWithin-left _ _ _ _ _ _ _ c.loop-n.invariant.left c.loop-n.invariant.many c.loop-n-test.true c.loop-n.invariant.start c.index.ensures in
    omega (arith, cut.long)

pub part-requires-clause-end : goal.part-requires-clause-end
part-requires-clause-end c =
    let cut = IsWithin-left _ _ _ _ _ _ _ c.loop-n.invariant.left c.loop-n.invariant.many c.loop-n-test.true c.loop-n.invariant.start c.index.ensures in
    omega (arith, cut.room, c.in_ok-order_part.ensures.len, ap length c.deref.ensures.value)

pub append_pairs-requires-clause-pairs : goal.append_pairs-requires-clause-pairs
append_pairs-requires-clause-pairs c =
    subst (PairsAscend (2 ^ 32 - 1) (2 ^ 32 - 1)) (sym (c.part.ensures ∙ ap (λ (ps : List (ℕ × ℕ)). take (c.index.result.now - c.loop-n.start) (drop c.loop-n.start ps)) c.deref.ensures.value)) c.in_ok-order_part.ensures.ascend

pub append_pairs-requires-clause-few : goal.append_pairs-requires-clause-few
append_pairs-requires-clause-few c =
    let f = c.args.family in
    let ts = c.args.numbers.now.triples in
    let cut = IsWithin-left _ _ _ _ _ _ _ c.loop-n.invariant.left c.loop-n.invariant.many c.loop-n-test.true c.loop-n.invariant.start c.index.ensures in
    let pairs = part_in_order f ts c.loop-n.n c.loop-n.start c.index.result.now c.loop-n.room.pairs.items c.order_part.new.pairs.items c.deref.result.now c.part.result.now cut c.in_ok-order_part.ensures.part c.deref.ensures.value c.part.ensures in
    omega (arith, part_few f ts c.loop-n.n c.part.result.now pairs, c.requires)

pub returns-in_err-size : goal.returns-in_err-size
returns-in_err-size c =
    let p = err_from_is_err_and c.from_residual-in_err-size.result c.from_residual-in_err-size.ensures.1 in
    let f = c.args.family in
    let ts = c.args.numbers.now.triples in
    let slice = λ (i : ℕ). pair_slice c.args.form (pairs_in f i ts) in
    let cut = IsWithin-left _ _ _ _ _ _ _ c.loop-n.invariant.left c.loop-n.invariant.many c.loop-n-test.true c.loop-n.invariant.start c.index.ensures in
    let pairs = part_in_order f ts c.loop-n.n c.loop-n.start c.index.result.now c.loop-n.room.pairs.items c.order_part.new.pairs.items c.deref.result.now c.part.result.now cut c.in_ok-order_part.ensures.part c.deref.ensures.value c.part.ensures in
    let count = slices_for f c.args.numbers.now.terms in
    let long = ap length (c.in_ok-append_pairs.ensures.written ∙ (λ i. c.clear.ensures.items i ++ pair_slice c.args.form (pairs i))) in
    let fits = first_fit slice c.loop-n.n count (omega (arith, c.loop-n-test.true, c.len-n-end.ensures, c.in_ok-spread.ensures.len)) in
    let all = ap (λ (ss : List (List ℕ)). length (joined ss)) (family_slices_are c.args.form f ts count) in
    rw (p.1, p.2) (IsEnd-longer _ _ _ (omega (arith, long, fits, all, c.len.ensures, c.loop-n.invariant.size)) c.in_err-size.ensures)

pub loop-n-preserved : goal.loop-n-preserved
loop-n-preserved c =
    let f = c.args.family in
    let ts = c.args.numbers.now.triples in
    let slice = λ (i : ℕ). pair_slice c.args.form (pairs_in f i ts) in
    let cut = IsWithin-left _ _ _ _ _ _ _ c.loop-n.invariant.left c.loop-n.invariant.many c.loop-n-test.true c.loop-n.invariant.start c.index.ensures in
    let pairs = part_in_order f ts c.loop-n.n c.loop-n.start c.index.result.now c.loop-n.room.pairs.items c.order_part.new.pairs.items c.deref.result.now c.part.result.now cut c.in_ok-order_part.ensures.part c.deref.ensures.value c.part.ensures in
    let long = ap length (c.in_ok-append_pairs.ensures.written ∙ (λ i. c.clear.ensures.items i ++ pair_slice c.args.form (pairs i))) in
    record {
      start = cut.before;
      many = c.loop-n.invariant.many;
      left = AreLeft-after _ _ _ _ _ _ c.loop-n.invariant.left cut.before c.in_ok-order_part.ensures.after (omega (arith, c.in_ok-order_part.ensures.len));
      size = omega (arith, long, length_more slice c.loop-n.n, c.len.ensures, c.loop-n.invariant.size, c.in_ok-size.ensures);
      short = omega (arith, c.in_ok-size.ensures);
    }

pub returns : goal.returns
returns c =
    let f = c.args.family in
    let ts = c.args.numbers.now.triples in
    let slice = λ (i : ℕ). pair_slice c.args.form (pairs_in f i ts) in
    let count = slices_for f c.args.numbers.now.terms in
    let all : c.loop-n.n ≡ count = omega (arith, c.loop-n-test.false, c.loop-n.auto.n-end, c.len-n-end.ensures, c.in_ok-spread.ensures.len) in
    let long = ap (λ (ss : List (List ℕ)). length (joined ss)) (ap (λ (m : ℕ). map slice (range_with_len 0 m)) all ∙ family_slices_are c.args.form f ts count) in
    (omega (arith, long, c.loop-n.invariant.size), omega (arith, long, c.loop-n.invariant.size, c.loop-n.invariant.short))
