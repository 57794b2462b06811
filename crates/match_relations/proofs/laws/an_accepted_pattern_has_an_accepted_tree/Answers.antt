use Rattle.match_relations.proofs.AcceptedLaws.{accepted_tree}
use Rattle.match_relations.proofs.laws.an_accepted_pattern_has_an_accepted_tree.Goals as goal

pub returns : goal.returns
returns c = accepted_tree
