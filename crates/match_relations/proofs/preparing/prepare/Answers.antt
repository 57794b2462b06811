use Rattle.match_relations.proofs.MadeLaws.{fits_tree}
use Rattle.match_relations.proofs.MatchLaws.{has_matches}
use Rattle.match_relations.proofs.preparing.prepare.Goals as goal

pub returns-clause-fits : goal.returns-clause-fits
returns-clause-fits c = fits_tree c.args.index.now c.args.tree.now c.in_ok-prepared.prepared c.requires.accepted c.in_ok-prepared.ensures.made

pub returns-clause-matches : goal.returns-clause-matches
returns-clause-matches c = has_matches c.args.index.now c.args.tree.now c.in_ok-prepared.prepared c.requires.accepted c.in_ok-prepared.ensures.made
