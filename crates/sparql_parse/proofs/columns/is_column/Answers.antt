-- the column at the index is the variable, or it is not
use Rattle.std.proofs.Common.{sym}
use Rattle.sparql_parse.proofs.ColumnLaws.{number_is_there, number_is_not_there}
use Rattle.sparql_parse.proofs.columns.is_column.Goals as goal

pub returns-then-get-var : goal.returns-then-get-var
returns-then-get-var c = sym (number_is_there c.args.var.0 c.args.columns.now c.loop-i.i c.get.result c.get.ensures c.if-get-var.true)

pub loop-i-preserved : goal.loop-i-preserved
loop-i-preserved c = number_is_not_there c.args.var.0 c.args.columns.now c.loop-i.i c.get.result c.get.ensures c.if-get-var.false c.loop-i.invariant
