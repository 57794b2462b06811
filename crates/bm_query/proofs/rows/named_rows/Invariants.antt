use Rattle.std.proofs.Common.{◌≡◌, map, take}
use Rattle.engine_laws.specs.Terms.{text_at}
use Rattle.naming_laws.specs.Naming.{named_row}
use Rattle.bm_query.proofs.rows.named_rows.Given as goal

abbrev pub invariant-loop-i : goal.invariant-loop-i
invariant-loop-i l = record {
  wide : l.named.width ≡ l.rows.vars;
  taken : l.named.rows ≡ map (named_row (text_at l.index.numbering.terms)) (take l.i l.rows.rows);
}
