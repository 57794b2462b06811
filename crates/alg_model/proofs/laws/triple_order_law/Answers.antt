use Rattle.alg_model.proofs.Order.{eval-IsPermutation}
use Rattle.alg_model.proofs.laws.triple_order_law.Goals as goal

pub returns : goal.returns
returns g c = λ interpretation n pattern triples others same. eval-IsPermutation interpretation n triples others same pattern
