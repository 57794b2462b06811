use Rattle.std.proofs.Common.{◌≡◌, length, ap, ◌∙◌}
use Rattle.std.proofs.lemmas.List.Elements.{All-push}
use Rattle.null_best.proofs.Bests.{keys-step}
use Rattle.null_best.proofs.best.keys_of.Goals as goal

pub loop-i-preserved : goal.loop-i-preserved
loop-i-preserved c = (
  rw c.in_ok-push.ensures.items (keys-step c.args.rows.now.rows c.loop-i.keys.items c.loop-i.i c.row.result.now c.new.result c.loop-i.invariant.0 c.row.ensures.cells c.new.ensures),
  rw c.in_ok-push.ensures.items (All-push (λ key. length key ≡ c.args.rows.now.vars) c.loop-i.keys.items c.new.result c.loop-i.invariant.1 (ap length c.new.ensures ∙ c.row.ensures.width)),
)
