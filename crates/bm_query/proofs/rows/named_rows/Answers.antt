use Rattle.std.proofs.Common.{◌++◌, ◌∷◌, [], sym, ◌∙◌}
use Rattle.engine_laws.specs.Terms.{text_at}
use Rattle.pattern_tree.specs.FlatTable.{row_of}
use Rattle.bm_query.proofs.NamedRows.{rows_next, row_has}
use Rattle.bm_query.proofs.rows.named_rows.Goals as goal

pub read_row-requires : goal.read_row-requires
read_row-requires c = row_has c.args.index.now.numbering.terms c.args.rows.now.rows c.loop-i.i (row_of c.row.result.now) c.row.ensures.cells c.requires

pub loop-i-preserved : goal.loop-i-preserved
loop-i-preserved c = record {
  wide = c.push_row.ensures.width ∙ c.loop-i.invariant.wide;
  taken =
      c.in_ok-push_row.ensures.ok ∙ (λ j. c.loop-i.invariant.taken j ++ (c.deref.ensures.value ∙ c.in_ok-read_row.ensures) j ∷ [])
      ∙ sym (rows_next (text_at c.args.index.now.numbering.terms) c.args.rows.now.rows c.loop-i.i (row_of c.row.result.now) c.row.ensures.cells);
}
