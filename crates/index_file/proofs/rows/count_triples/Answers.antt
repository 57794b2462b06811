use Rattle.std.proofs.Common.{◌≡◌, ◌-◌, ◌^◌, min, length, IfSome, sym, ap, ◌∙◌, subst}
use Rattle.std.specs.List.{flat_map}
use Rattle.index_file.proofs.StepLaws.{length-triples_from}
use Rattle.index_file.specs.Image.{group_in, slice_pairs}
use Rattle.index_file.proofs.rows.count_triples.Goals as goal

pub returns-clause-triples : goal.returns-clause-triples
returns-clause-triples c =
    let same = ap (λ ss. length (flat_map (slice_pairs c.args.form) ss)) c.group_of.ensures.group ∙ sym (length-triples_from c.args.family 0 c.args.form (group_in c.args.parts.now c.args.family)) in
    subst (λ m. IfSome c.count_all_pairs.result (λ n. n ≡ min m (2 ^ 64 - 1))) same c.count_all_pairs.ensures.pairs
