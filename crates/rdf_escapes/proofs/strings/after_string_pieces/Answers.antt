use Rattle.std.specs.Str.{chars}
use Rattle.rdf_escapes.specs.Strings.{IsStringPiece}
use Rattle.rdf_escapes.specs.scanning.Strings.{string_piece}
use Rattle.rdf_escapes.proofs.PieceLaws.{longest}
use Rattle.rdf_escapes.proofs.CharacterLaws.{string_piece-forward, string_piece-passes, string_piece-over}
use Rattle.rdf_escapes.proofs.strings.after_string_pieces.Goals as goal

pub returns-clause-longest : goal.returns-clause-longest
returns-clause-longest c =
    let mark = c.args.mark in
    rw c.skip_string_pieces.ensures
    (longest (string_piece mark) (string_piece-forward mark) (IsStringPiece mark) (string_piece-passes mark)
    (string_piece-over mark) (chars c.args.text.now))
