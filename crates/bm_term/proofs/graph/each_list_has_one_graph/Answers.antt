use Rattle.bm_term.specs.Graph.{triple_cmp}
use Rattle.bm_term.proofs.Sets.{IsSetOf-set_of}
use Rattle.bm_term.proofs.TripleOrder.{triple_cmp-total, triple_cmp-exact}
use Rattle.bm_term.proofs.graph.each_list_has_one_graph.Goals as goal

pub returns : goal.returns
returns c = IsSetOf-set_of triple_cmp triple_cmp-total triple_cmp-exact
