use Rattle.rdf_text.proofs.Spellings.{spellings-split}
use Rattle.rdf_text.specs.Spelling.{escaped}
use Rattle.std.specs.Str.{chars}
use Rattle.bm_term.proofs.scanning.scan_literal.Goals as goal

pub before-requires : goal.before-requires
before-requires c =
    let (lexical, split) = spellings-split (chars c.args.text.now) in
    rw c.after_spellings-end.ensures (escaped lexical, split)
