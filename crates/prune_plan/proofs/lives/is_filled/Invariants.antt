use Rattle.std.proofs.Common.{ℕ, ◌<◌, get_or}
use Rattle.alg_model.specs.declared.pattern.TriplePat.{TriplePat}
use Rattle.pruning_laws.specs.Shown.{entry_of}
use Rattle.pruning_laws.specs.TreePasses.{IsFilled}
use Rattle.prune_plan.specs.steps.Members.{is_left_of}
use Rattle.prune_plan.proofs.lives.is_filled.Given as goal

abbrev pub invariant-loop-i : goal.invariant-loop-i
invariant-loop-i l = (j : ℕ) (d : TriplePat) → j < l.i → IsFilled (is_left_of l.prepared) (entry_of (get_or l.patterns j d))
