-- Carries proofs only: white space and comments, read from the front of a text.
use Rattle.std.specs.Prelude.{ℕ, ◌==◌, if◌then◌else◌, Option, Some, None, List, [], ◌∷◌}
use Rattle.rdf_text.specs.Classes.{is_comment_char}
use Rattle.rdf_text.specs.Marks.{number_sign}
use Rattle.rdf_text.specs.scanning.Repetition.{after_pieces}
use Rattle.rdf_text.specs.scanning.Text.{after_run}
use Rattle.query_tokens.specs.Blanks.{is_white_space}

-- what follows one of them, read from the front, and all of them
unfoldable pub after_blank : List ℕ → Option (List ℕ)
after_blank [] = None
after_blank (c ∷ cs) =
    if is_white_space c then Some cs else (if c == number_sign then Some (after_run is_comment_char cs) else None)

unfoldable pub after_blanks : List ℕ → List ℕ
after_blanks text = after_pieces after_blank text
