-- Worked examples of the definitions. 97 and 98 are letters, 10 is LF, and 13 is CR.
use Rattle.std.proofs.Common.{◌≡◌, ℕ, ◌-◌, ◌^◌, true, false, List, [], ◌∷◌, Some, refl}
use Rattle.bm_term.specs.declared.triple.Triple.{Triple}
use Rattle.nt_read.specs.scanning.Line.{bad, nothing, spelled, scan_line}
use Rattle.nt_read.specs.scanning.Lines.{lines_of, first_bad_from, before_first_bad, triples_of}
use Rattle.nt_read.specs.Pieces.{new_stream, cut, cut_all, ended_in_all}
use Rattle.nt_read.specs.Feeding.{first_bad_after}

-- CR LF is one line end, and the last line need have none
cr_lf : lines_of (97 ∷ 13 ∷ 10 ∷ 98 ∷ []) ≡ (97 ∷ []) ∷ (98 ∷ []) ∷ []
unfolding lines_of
cr_lf = refl

-- LF CR is two line ends, and the last line may be empty
lf_cr : lines_of (97 ∷ 10 ∷ 13 ∷ []) ≡ (97 ∷ []) ∷ [] ∷ [] ∷ []
unfolding lines_of
lf_cr = refl

-- two LF after a CR: the first belongs to it
cr_lf_lf : lines_of (13 ∷ 10 ∷ 10 ∷ 97 ∷ []) ≡ [] ∷ [] ∷ (97 ∷ []) ∷ []
unfolding lines_of
cr_lf_lf = refl

-- no bytes are one empty line
no_bytes : lines_of [] ≡ [] ∷ []
unfolding lines_of
no_bytes = refl

-- the second line is the first bad one
second_is_bad : (a b c : List ℕ) → scan_line a ≡ nothing → scan_line b ≡ bad → first_bad_from 1 (a ∷ b ∷ c ∷ []) ≡ Some 2
second_is_bad a b c first second = rw (first, second) refl

-- triples are in the order of their lines
two_triples : (a b c : List ℕ) (t u : Triple) → scan_line a ≡ spelled t → scan_line b ≡ nothing → scan_line c ≡ spelled u → triples_of (a ∷ b ∷ c ∷ []) ≡ t ∷ u ∷ []
two_triples a b c t u first second third = rw (first, second, third) refl

-- a piece that ends with CR: one line has ended, the next has no byte yet, and an LF may follow
after_cr : cut new_stream (97 ∷ 13 ∷ []) ≡ record { ends = 1; text = []; after_cr = true }
unfolding lines_of
after_cr = refl

-- an LF at the beginning of the next piece belongs to that CR
cr_and_lf_in_two_pieces : cut_all new_stream ((97 ∷ 13 ∷ []) ∷ (10 ∷ 98 ∷ []) ∷ []) ≡ record { ends = 1; text = 98 ∷ []; after_cr = false }
unfolding lines_of
cr_and_lf_in_two_pieces = refl

-- a line that is cut in two ends in the second piece
line_in_two_pieces : ended_in_all new_stream ((97 ∷ []) ∷ (98 ∷ 10 ∷ 99 ∷ []) ∷ []) ≡ (97 ∷ 98 ∷ []) ∷ []
unfolding lines_of
line_in_two_pieces = refl

-- a piece of no bytes leaves all as it was
no_piece : cut (record { ends = 5; text = []; after_cr = true }) [] ≡ record { ends = 5; text = []; after_cr = true }
unfolding lines_of
no_piece = refl

-- the number stays at 2^64 - 1
last_number : cut (record { ends = 2 ^ 64 - 1; text = []; after_cr = false }) (10 ∷ []) ≡ record { ends = 2 ^ 64 - 1; text = []; after_cr = false }
unfolding lines_of
last_number = refl

-- after seven line ends the second line is bad: it is line 9, and the first is before it
ninth_is_bad : (a b c : List ℕ) → scan_line a ≡ nothing → scan_line b ≡ bad → first_bad_after 7 (a ∷ b ∷ c ∷ []) ≡ Some 9
ninth_is_bad a b c first second = rw (first, second) refl

before_the_bad_line : (a b c : List ℕ) → scan_line a ≡ nothing → scan_line b ≡ bad → before_first_bad (a ∷ b ∷ c ∷ []) ≡ a ∷ []
before_the_bad_line a b c first second = rw (first, second) refl
