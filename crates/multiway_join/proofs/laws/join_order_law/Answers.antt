use Rattle.multiway_join.proofs.OneOrder.{one_order}
use Rattle.multiway_join.proofs.laws.join_order_law.Goals as goal

pub returns : goal.returns
returns c = λ counts n pattern ordered other keeps is is'. one_order counts n pattern ordered other keeps is is'
