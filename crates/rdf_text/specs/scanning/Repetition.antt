-- Carries proofs only: a repetition, read piece by piece from the front of a text.
use Rattle.std.specs.Prelude.{ℕ, zero, suc, Option, List, length}
use Rattle.std.specs.Option.{option_map_or}

-- what follows up to n pieces, where step gives what follows one
abbrev pub after_up_to : ℕ → (List ℕ → Option (List ℕ)) → List ℕ → List ℕ
after_up_to zero step text = text
after_up_to (suc n) step text = option_map_or (after_up_to n step) (step text) text

-- what follows all pieces that a text begins with
unfoldable pub after_pieces : (List ℕ → Option (List ℕ)) → List ℕ → List ℕ
after_pieces step text = after_up_to (length text) step text
