use Rattle.std.proofs.Common.{◌==◌, sym, append-nil, rules}
use Rattle.std.specs.Cmp.Lexicographic.{pointwise}
use Rattle.alg_model.proofs.Partners.{without_partner-none, without_partner-some}
use Rattle.alg_model.proofs.eval.left_join_row.Goals as goal

pub returns-in_ok-push-clause-alone : goal.returns-in_ok-push-clause-alone
returns-in_ok-push-clause-alone c =
    let none = without_partner-none (pointwise ◌==◌) c.args.row c.args.rows.now.items c.join_row.new.into.items c.args.right.now c.in_ok-join_row.ensures (search rules) in
    rw none (search rules)

pub returns-else-len-before-clause-alone : goal.returns-else-len-before-clause-alone
returns-else-len-before-clause-alone c =
    let some = without_partner-some (pointwise ◌==◌) c.args.row c.args.rows.now.items c.join_row.new.into.items c.args.right.now c.in_ok-join_row.ensures (search rules) in
    rw some (sym (append-nil c.args.alone.now.items))
