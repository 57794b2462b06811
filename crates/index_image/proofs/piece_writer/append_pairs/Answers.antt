use Rattle.std.proofs.Common.{length, sym, ◌∙◌}
use Rattle.std.proofs.lemmas.Bool.{eqb-true}
use Rattle.index_image.proofs.MeasureLaws.{empty_slice}
use Rattle.index_image.proofs.piece_writer.append_pairs.Goals as goal

pub returns-then-is_empty-clause-written : goal.returns-then-is_empty-clause-written
returns-then-is_empty-clause-written c =
    let none = eqb-true (length c.args.pairs.now) 0 (sym c.is_empty.ensures ∙ c.if-is_empty.true) in
    empty_slice c.args.form c.args.pairs.now c.push_number.result c.args.out.now.items c.push_number.new.out.items none c.push_number.ensures
