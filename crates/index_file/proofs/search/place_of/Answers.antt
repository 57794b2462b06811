use Rattle.std.proofs.Common.{Some, ap, ◌∙◌, arith}
use Rattle.index_file.proofs.SearchLaws.{got_at, nowhere_past, nowhere_other}
use Rattle.index_file.proofs.search.place_of.Goals as goal
use Rattle.index_file.proofs.search.place_of.Goals.{else-place-len-via-then-place-len+else-is_same, else-place-len-via-else-place-len}

pub returns-then-is_same-clause-found : goal.returns-then-is_same-clause-found
returns-then-is_same-clause-found c =
    got_at c.halve-place.result _ c.args.texts.now _ c.get.ensures.at ∙ ap Some (c.is_same.ensures.0 c.if-is_same.true)

pub returns-else-place-len-clause-none : goal.returns-else-place-len-clause-none
returns-else-place-len-clause-none c =
    elim c.else-place-len.branch [
      | else-place-len-via-then-place-len+else-is_same w ↦ nowhere_other c.args.text.now _ c.args.texts.now _ c.halve-place.result c.requires w.get.ensures.at (λ same. let held = w.is_same.ensures.1 same in let failed = w.if-is_same.false in absurd cc) c.halve-place.ensures
      | else-place-len-via-else-place-len w ↦ nowhere_past c.args.text.now c.args.texts.now c.halve-place.result (omega (arith, c.len.ensures, w.if-place-len.false)) c.halve-place.ensures
    ]
