use Rattle.std.proofs.Common.{sym, ◌∙◌}
use Rattle.index_file.proofs.TermOrderLaws.{is_lt_less}
use Rattle.index_file.proofs.text.is_before.Goals as goal

pub returns : goal.returns
returns c = (
  λ held. sym c.cmp.ensures ∙ (is_lt_less c.cmp.result).0 (sym c.is_lt.ensures ∙ held),
  λ less. c.is_lt.ensures ∙ (is_lt_less c.cmp.result).1 (c.cmp.ensures ∙ less),
)
