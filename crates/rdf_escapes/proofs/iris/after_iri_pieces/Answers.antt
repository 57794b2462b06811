use Rattle.std.specs.Str.{chars}
use Rattle.rdf_escapes.specs.Iris.{IsIriPiece}
use Rattle.rdf_escapes.specs.scanning.Iris.{iri_piece}
use Rattle.rdf_escapes.proofs.PieceLaws.{longest}
use Rattle.rdf_escapes.proofs.CharacterLaws.{iri_piece-forward, iri_piece-passes, iri_piece-over}
use Rattle.rdf_escapes.proofs.iris.after_iri_pieces.Goals as goal

pub returns-clause-longest : goal.returns-clause-longest
returns-clause-longest c =
    rw c.skip_iri_pieces.ensures
    (longest iri_piece iri_piece-forward IsIriPiece iri_piece-passes iri_piece-over (chars c.args.text.now))
