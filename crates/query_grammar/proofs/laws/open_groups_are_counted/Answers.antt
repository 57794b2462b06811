use Rattle.query_grammar.proofs.Depth.{groups-open_groups}
use Rattle.query_grammar.proofs.laws.open_groups_are_counted.Goals as goal

pub returns : goal.returns
returns c = groups-open_groups
