use Rattle.result_write.proofs.TermTexts.{term_with_text-is}
use Rattle.result_write.proofs.laws.each_text_is_read_as_its_term.Goals as goal

pub returns : goal.returns
returns c = term_with_text-is
