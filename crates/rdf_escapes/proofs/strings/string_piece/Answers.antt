use Rattle.std.specs.Str.{chars}
use Rattle.rdf_escapes.specs.Strings.{IsStringPiece}
use Rattle.rdf_escapes.specs.scanning.Strings.{string_piece}
use Rattle.rdf_escapes.proofs.PieceLaws.{result_found, result_none}
use Rattle.rdf_escapes.proofs.CharacterLaws.{string_piece-forward, string_piece-passes, string_piece-over}
use Rattle.rdf_escapes.proofs.strings.string_piece.Goals as goal

pub returns-clause-found : goal.returns-clause-found
returns-clause-found c =
    let mark = c.args.mark in
    result_found (string_piece mark) (string_piece-forward mark) (IsStringPiece mark) (string_piece-passes mark)
    (chars c.args.text.now) c.scan_string_piece.result c.scan_string_piece.ensures.chars

pub returns-clause-none : goal.returns-clause-none
returns-clause-none c =
    let mark = c.args.mark in
    result_none (string_piece mark) (string_piece-forward mark) (IsStringPiece mark) (string_piece-over mark)
    (chars c.args.text.now) c.scan_string_piece.result c.scan_string_piece.ensures.chars
