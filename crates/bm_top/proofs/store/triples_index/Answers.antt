use Rattle.std.proofs.Common.{◌≡◌, ◌<◌, ◌^◌, false, Err, length, ap, arith}
use Rattle.std.proofs.lemmas.Result.{err_from_is_err_and}
use Rattle.bm_top.proofs.Storing.{few_numbered, long_image, made_image, no_mark_where, no_numbers}
use Rattle.bm_top.proofs.store.triples_index.Goals as goal

pub returns-in_err-numbers : goal.returns-in_err-numbers
returns-in_err-numbers g c bytes (triples, are, taken) =
    let p = err_from_is_err_and c.from_residual.result c.from_residual.ensures.1 in
    rw (p.1, p.2) (no_numbers bytes triples c.args.triples are taken _ (λ is. c.in_err-numbers.ensures.many.0 (ap Err is)))

pub image-requires : goal.image-requires
image-requires g c =
    let (bytes, (triples, are, taken)) = c.requires in
    let unmarked : c.args.triples.were_more ≡ false = no_mark_where c.args.triples.were_more (λ marked. let e = c.in_ok-numbers.ensures.many.1 marked in absurd (cc)) in
    few_numbered bytes triples c.args.triples are taken unmarked c.in_ok-numbers.numbers c.in_ok-numbers.ensures.numbering

pub returns-in_err-bytes : goal.returns-in_err-bytes
returns-in_err-bytes g c bytes (triples, are, taken) =
    let unmarked : c.args.triples.were_more ≡ false = no_mark_where c.args.triples.were_more (λ marked. let e = c.in_ok-numbers.ensures.many.1 marked in absurd (cc)) in
    let p = err_from_is_err_and c.from_residual-in_err-bytes.result c.from_residual-in_err-bytes.ensures.1 in
    rw (p.1, p.2) (long_image bytes triples c.args.triples are taken unmarked c.in_ok-numbers.numbers c.in_ok-numbers.ensures.numbering _ c.in_err-bytes.ensures.long)

pub returns : goal.returns
returns g c bytes (triples, are, taken) =
    let unmarked : c.args.triples.were_more ≡ false = no_mark_where c.args.triples.were_more (λ marked. let e = c.in_ok-numbers.ensures.many.1 marked in absurd (cc)) in
    let short : length c.in_ok-bytes.bytes.items < 2 ^ 32 = omega (arith, c.in_ok-bytes.bytes.ok, c.in_ok-bytes.ensures.short) in
    made_image bytes triples c.args.triples are taken unmarked c.in_ok-numbers.numbers c.in_ok-numbers.ensures.numbering
    _ c.in_ok-bytes.ensures.bytes short c.triples.ensures
