use Rattle.simple_trees.proofs.Listing.{sets-push}
use Rattle.simple_trees.proofs.simple.push_sets.Goals as goal

pub loop-i-preserved : goal.loop-i-preserved
loop-i-preserved c =
    sets-push c.args.patterns.now c.loop-i.i c.get.result.now c.args.into.now.items c.loop-i.into.items c.push.new.self.items c.vars.result
    c.get.ensures c.vars.ensures.value c.loop-i.invariant c.in_ok-push.ensures.items
