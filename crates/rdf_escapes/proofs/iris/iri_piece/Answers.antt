use Rattle.std.specs.Str.{chars}
use Rattle.rdf_escapes.specs.Iris.{IsIriPiece}
use Rattle.rdf_escapes.specs.scanning.Iris.{iri_piece}
use Rattle.rdf_escapes.proofs.PieceLaws.{result_found, result_none}
use Rattle.rdf_escapes.proofs.CharacterLaws.{iri_piece-forward, iri_piece-passes, iri_piece-over}
use Rattle.rdf_escapes.proofs.iris.iri_piece.Goals as goal

pub returns-clause-found : goal.returns-clause-found
returns-clause-found c =
    result_found iri_piece iri_piece-forward IsIriPiece iri_piece-passes (chars c.args.text.now) c.scan_iri_piece.result
    c.scan_iri_piece.ensures.chars

pub returns-clause-none : goal.returns-clause-none
returns-clause-none c =
    result_none iri_piece iri_piece-forward IsIriPiece iri_piece-over (chars c.args.text.now) c.scan_iri_piece.result
    c.scan_iri_piece.ensures.chars
