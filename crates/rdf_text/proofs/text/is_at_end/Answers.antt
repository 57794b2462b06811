use Rattle.std.proofs.Common.{◌∙◌}
use Rattle.rdf_text.proofs.TextLemmas.{chars-empty}
use Rattle.rdf_text.proofs.text.is_at_end.Goals as goal

pub returns : goal.returns
returns c = c.is_empty.ensures ∙ chars-empty c.args.text.now c.utf8.text
