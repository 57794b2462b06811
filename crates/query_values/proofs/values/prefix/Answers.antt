use Rattle.std.specs.Str.{chars}
use Rattle.rdf_text.proofs.TextLemmas.{after_run-split}
use Rattle.query_values.specs.reading.Values.{is_no_colon}
use Rattle.query_values.proofs.values.prefix.Goals as goal

pub before-requires : goal.before-requires
before-requires c =
    let (run, all, split) = after_run-split is_no_colon (chars c.text_of-text.result.now) in
    rw c.from_colon.ensures (run, split)
