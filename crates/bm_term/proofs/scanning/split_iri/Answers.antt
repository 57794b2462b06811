use Rattle.rdf_text.proofs.TextLemmas.{after_run-split}
use Rattle.rdf_text.specs.Classes.{is_irichar}
use Rattle.std.specs.Str.{chars}
use Rattle.bm_term.proofs.scanning.split_iri.Goals as goal

pub before-requires : goal.before-requires
before-requires c =
    let (iri, all, split) = after_run-split is_irichar (chars c.args.text.now) in
    rw c.after_irichars-end.ensures (iri, split)
