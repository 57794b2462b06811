use Rattle.pruning_laws.proofs.RoundLaws.{round_adds_nothing, round_keeps_parts, unchanged_is_greatest}
use Rattle.pruning_laws.proofs.laws.round_law.Goals as goal

pub returns-clause-within : goal.returns-clause-within
returns-clause-within g c = λ interpretation n pattern pairs family keeps k part triple stands h.
    round_adds_nothing interpretation n pattern keeps pairs family k part triple stands h

pub returns-clause-keeps : goal.returns-clause-keeps
returns-clause-keeps g c = λ interpretation n pattern pairs family other keeps plan part consistent k p triple stands at.
    round_keeps_parts interpretation n pattern keeps pairs plan family other part consistent k p triple stands at

pub returns-clause-unchanged : goal.returns-clause-unchanged
returns-clause-unchanged g c = λ interpretation n pattern pairs whole left well keeps plan matches part has stays.
    unchanged_is_greatest interpretation n pattern keeps well pairs whole left matches plan part has stays
