use Rattle.std.proofs.Common.{sym, ◌∙◌}
use Rattle.std.specs.Str.{chars}
use Rattle.query_tokens.proofs.PrefixBounds.{none_after_run, word_begins}
use Rattle.query_tokens.proofs.prefixed_names.unprefixed_from.Goals as goal

pub returns-in-Word : goal.returns-in-Word
returns-in-Word c =
    let begins = word_begins (chars c.args.text.now) (sym c.requires.kind ∙ c.in-Word.is) in
    none_after_run c.args.text.now c.after_run.result.now c.after_run.utf8 begins c.after_run.ensures
