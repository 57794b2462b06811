use Rattle.std.proofs.Common.{refl}
use Rattle.pruning_laws.specs.Plans.{pairs_by}
use Rattle.pruning_laws.proofs.RoundLaws.{passes_are_greatest}
use Rattle.pruning_laws.proofs.laws.two_passes_law.Goals as goal

pub returns : goal.returns
returns g c = λ interpretation n pattern sets steps whole left well keeps stripped matches is.
    passes_are_greatest interpretation n pattern keeps well (λ k. pairs_by (sets k) (steps k)) whole left matches sets steps stripped (λ k. refl) is
