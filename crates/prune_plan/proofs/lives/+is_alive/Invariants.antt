use Rattle.prune_plan.proofs.lives.+is_alive.Given as goal

abbrev pub decreases-is_alive : goal.decreases-is_alive
decreases-is_alive l = l.node
