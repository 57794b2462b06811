use Rattle.std.proofs.Common.{◌≡◌, ℕ, ◌-◌, ◌^◌, List, [], ◌∷◌, length, take, drop, map, refl, sym, ap, ◌∙◌, subst, arith, length-append}
use Rattle.std.proofs.lemmas.List.FromFn.{length-map-range_with_len}
use Rattle.std.specs.List.{range_with_len}
use Rattle.byte_tables.specs.Pieces.{joined}
use Rattle.cube_slices.specs.Pairs.{PairsAscend}
use Rattle.index_file.specs.Families.{pairs_in}
use Rattle.index_file.specs.Image.{pair_slice, slices_for}
use Rattle.index_image.specs.steps.Writing.{PutsPieces}
use Rattle.index_image.proofs.CutLaws.{IsWithin-left, part_in_order, part_few, AreLeft-after, first_fit, slices_more}
use Rattle.index_image.proofs.MeasureLaws.{family_slices_are}
use Rattle.index_image.proofs.PieceWriterLaws.{PutsPieces-none}
use Rattle.index_image.proofs.family_slices.push_family.Goals as goal

pub loop-n-init : goal.loop-n-init
loop-n-init c = record { start = refl; many = omega (arith, c.len-n-end.ensures); left = c.in_ok-spread.ensures.left; puts = PutsPieces-none c.args.into.now }

pub index-requires : goal.index-requires
index-requires c = omega (arith, c.loop-n.invariant.many, c.loop-n-test.true)

pub order_part-requires-clause-start : goal.order_part-requires-clause-start
order_part-requires-clause-start c =
    let cut = IsWithin-left _ _ _ _ _ _ _ c.loop-n.invariant.left c.loop-n.invariant.many c.loop-n-test.true c.loop-n.invariant.start c.index.ensures in
    omega (arith, cut.long)

pub order_part-requires-clause-end : goal.order_part-requires-clause-end
order_part-requires-clause-end c =
    let cut = IsWithin-left _ _ _ _ _ _ _ c.loop-n.invariant.left c.loop-n.invariant.many c.loop-n-test.true c.loop-n.invariant.start c.index.ensures in
    omega (arith, cut.room)

pub part-requires-clause-start : goal.part-requires-clause-start
part-requires-clause-start c =
    let cut = IsWithin-left _ _ _ _ _ _ _ c.loop-n.invariant.left c.loop-n.invariant.many c.loop-n-test.true c.loop-n.invariant.start c.index.ensures in
    omega (arith, cut.long)

pub part-requires-clause-end : goal.part-requires-clause-end
part-requires-clause-end c =
    let cut = IsWithin-left _ _ _ _ _ _ _ c.loop-n.invariant.left c.loop-n.invariant.many c.loop-n-test.true c.loop-n.invariant.start c.index.ensures in
    omega (arith, cut.room, c.in_ok-order_part.ensures.len, ap length c.deref.ensures.value)

pub push_slice-requires-clause-pairs : goal.push_slice-requires-clause-pairs
push_slice-requires-clause-pairs c =
    subst (PairsAscend (2 ^ 32 - 1) (2 ^ 32 - 1)) (sym (c.part.ensures ∙ ap (λ (ps : List (ℕ × ℕ)). take (c.index.result.now - c.loop-n.start) (drop c.loop-n.start ps)) c.deref.ensures.value)) c.in_ok-order_part.ensures.ascend

pub push_slice-requires-clause-few : goal.push_slice-requires-clause-few
push_slice-requires-clause-few c =
    let f = c.args.family in
    let ts = c.args.numbers.now.triples in
    let cut = IsWithin-left _ _ _ _ _ _ _ c.loop-n.invariant.left c.loop-n.invariant.many c.loop-n-test.true c.loop-n.invariant.start c.index.ensures in
    let pairs = part_in_order f ts c.loop-n.n c.loop-n.start c.index.result.now c.loop-n.room.pairs.items c.order_part.new.pairs.items c.deref.result.now c.part.result.now cut c.in_ok-order_part.ensures.part c.deref.ensures.value c.part.ensures in
    omega (arith, part_few f ts c.loop-n.n c.part.result.now pairs, c.requires.few)

pub push_slice-requires-clause-some : goal.push_slice-requires-clause-some
push_slice-requires-clause-some c =
    let f = c.args.family in
    let ts = c.args.numbers.now.triples in
    let slice = λ (i : ℕ). pair_slice c.args.form (pairs_in f i ts) in
    omega (arith, c.loop-n.invariant.puts.left, length-map-range_with_len slice 0 c.loop-n.n, c.requires.left, c.loop-n-test.true, c.len-n-end.ensures, c.in_ok-spread.ensures.len)

pub push_slice-requires-clause-short : goal.push_slice-requires-clause-short
push_slice-requires-clause-short c =
    let f = c.args.family in
    let ts = c.args.numbers.now.triples in
    let slice = λ (i : ℕ). pair_slice c.args.form (pairs_in f i ts) in
    let cut = IsWithin-left _ _ _ _ _ _ _ c.loop-n.invariant.left c.loop-n.invariant.many c.loop-n-test.true c.loop-n.invariant.start c.index.ensures in
    let pairs = part_in_order f ts c.loop-n.n c.loop-n.start c.index.result.now c.loop-n.room.pairs.items c.order_part.new.pairs.items c.deref.result.now c.part.result.now cut c.in_ok-order_part.ensures.part c.deref.ensures.value c.part.ensures in
    let count = slices_for f c.args.numbers.now.terms in
    let here = ap (λ (ps : List (ℕ × ℕ)). length (pair_slice c.args.form ps)) pairs in
    let fits = first_fit slice c.loop-n.n count (omega (arith, c.loop-n-test.true, c.len-n-end.ensures, c.in_ok-spread.ensures.len)) in
    let all = ap (λ (ss : List (List ℕ)). length (joined ss)) (family_slices_are c.args.form f ts count) in
    omega (arith, here, fits, all, ap length c.loop-n.invariant.puts.pieces, length-append c.args.into.now.pieces (joined (map slice (range_with_len 0 c.loop-n.n))), c.requires.short)

pub loop-n-preserved : goal.loop-n-preserved
loop-n-preserved c =
    let f = c.args.family in
    let ts = c.args.numbers.now.triples in
    let slice = λ (i : ℕ). pair_slice c.args.form (pairs_in f i ts) in
    let cut = IsWithin-left _ _ _ _ _ _ _ c.loop-n.invariant.left c.loop-n.invariant.many c.loop-n-test.true c.loop-n.invariant.start c.index.ensures in
    let pairs = part_in_order f ts c.loop-n.n c.loop-n.start c.index.result.now c.loop-n.room.pairs.items c.order_part.new.pairs.items c.deref.result.now c.part.result.now cut c.in_ok-order_part.ensures.part c.deref.ensures.value c.part.ensures in
    let put = subst (λ (ps : List (ℕ × ℕ)). PutsPieces c.loop-n.into c.push_slice.new.self (pair_slice c.args.form ps ∷ [])) pairs c.in_ok-push_slice.ensures in
    record {
      start = cut.before;
      many = c.loop-n.invariant.many;
      left = AreLeft-after _ _ _ _ _ _ c.loop-n.invariant.left cut.before c.in_ok-order_part.ensures.after (omega (arith, c.in_ok-order_part.ensures.len));
      puts = slices_more slice c.loop-n.n c.args.into.now c.loop-n.into c.push_slice.new.self c.loop-n.invariant.puts put;
    }

pub returns : goal.returns
returns c =
    let f = c.args.family in
    let ts = c.args.numbers.now.triples in
    let slice = λ (i : ℕ). pair_slice c.args.form (pairs_in f i ts) in
    let count = slices_for f c.args.numbers.now.terms in
    let all : c.loop-n.n ≡ count = omega (arith, c.loop-n-test.false, c.loop-n.auto.n-end, c.len-n-end.ensures, c.in_ok-spread.ensures.len) in
    subst (PutsPieces c.args.into.now c.loop-n.into) (ap (λ (m : ℕ). map slice (range_with_len 0 m)) all ∙ family_slices_are c.args.form f ts count) c.loop-n.invariant.puts
