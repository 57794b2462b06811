use Rattle.minimality_laws.proofs.Minimal.{each_takes_part}
use Rattle.minimality_laws.proofs.laws.minimality_law.Goals as goal

pub returns : goal.returns
returns g c = λ interpretation n pattern whole left tells well keeps forests share matches greatest k part triple stands at.
    each_takes_part interpretation tells n pattern well keeps whole left greatest forests share matches k part triple stands at
