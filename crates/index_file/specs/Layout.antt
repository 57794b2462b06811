-- How the index file is laid out: the name, nine numbers, the starts of the texts, the texts, the starts of the slices, and
-- the slices. Each number has four bytes, the lowest first, and nothing stands between the parts.
use Rattle.std.specs.Prelude.{ℕ, ◌+◌, ◌*◌, List, [], ◌∷◌, ◌++◌, length, take, drop, slice_index, codes}
use Rattle.byte_tables.specs.Numbers.{number_bytes, numbers_in}
use Rattle.byte_tables.specs.Pieces.{joined, starts_of, pieces_at}

-- What a file has: its version, the sizes of the four groups of terms, the number of triples, the texts of the term table
-- and the slices.
pub record Layout : Type 0 where
  pub version : ℕ
  pub shared : ℕ
  pub subjects : ℕ
  pub objects : ℕ
  pub predicates : ℕ
  pub triples : ℕ
  pub texts : List (List ℕ)
  pub slices : List (List ℕ)

-- the eight bytes that each file begins with
unfoldable pub name : List ℕ
name = codes "BITMATLB"

-- the length of a file with so many texts, bytes of texts, slices and bytes of slices
abbrev pub size_for : ℕ → ℕ → ℕ → ℕ → ℕ
size_for texts text_bytes slices slice_bytes = 44 + 4 * (texts + 1) + text_bytes + 4 * (slices + 1) + slice_bytes

abbrev pub file_size : Layout → ℕ
file_size l = size_for (length l.texts) (length (joined l.texts)) (length l.slices) (length (joined l.slices))

-- ---- from a layout to bytes

-- the nine numbers behind the name
abbrev pub head_numbers : Layout → List ℕ
head_numbers l =
    l.version ∷ l.shared ∷ l.subjects ∷ l.objects ∷ l.predicates ∷ l.triples ∷ length (joined l.texts) ∷ length (joined l.slices)
    ∷ file_size l ∷ []

unfoldable pub layout_bytes : Layout → List ℕ
layout_bytes l =
    name ++ (number_bytes (head_numbers l)
    ++ (number_bytes (starts_of l.texts) ++ (joined l.texts ++ (number_bytes (starts_of l.slices) ++ joined l.slices))))

-- ---- from bytes to a layout

-- the nine numbers, and one of them
abbrev pub head_in : List ℕ → List ℕ
head_in bytes = numbers_in (take 36 (drop 8 bytes))

abbrev pub field : List ℕ → ℕ → ℕ
field bytes i = slice_index (head_in bytes) i

-- the terms are as many as the four groups have
abbrev pub text_count : List ℕ → ℕ
text_count bytes = field bytes 1 + field bytes 2 + field bytes 3 + field bytes 4

-- two slices for each predicate, one for each object, and one for each subject
abbrev pub slice_count : List ℕ → ℕ
slice_count bytes = 2 * field bytes 4 + (field bytes 1 + field bytes 3) + (field bytes 1 + field bytes 2)

-- the parts behind the numbers, each with what follows it
abbrev pub after_head : List ℕ → List ℕ
after_head bytes = drop 36 (drop 8 bytes)

abbrev pub text_starts : List ℕ → List ℕ
text_starts bytes = numbers_in (take (4 * (text_count bytes + 1)) (after_head bytes))

abbrev pub after_starts : List ℕ → List ℕ
after_starts bytes = drop (4 * (text_count bytes + 1)) (after_head bytes)

abbrev pub text_part : List ℕ → List ℕ
text_part bytes = take (field bytes 6) (after_starts bytes)

abbrev pub after_texts : List ℕ → List ℕ
after_texts bytes = drop (field bytes 6) (after_starts bytes)

abbrev pub slice_starts : List ℕ → List ℕ
slice_starts bytes = numbers_in (take (4 * (slice_count bytes + 1)) (after_texts bytes))

abbrev pub slice_part : List ℕ → List ℕ
slice_part bytes = drop (4 * (slice_count bytes + 1)) (after_texts bytes)

unfoldable pub layout_in : List ℕ → Layout
layout_in bytes = record {
  version = field bytes 0;
  shared = field bytes 1;
  subjects = field bytes 2;
  objects = field bytes 3;
  predicates = field bytes 4;
  triples = field bytes 5;
  texts = pieces_at (text_starts bytes) (text_part bytes);
  slices = pieces_at (slice_starts bytes) (slice_part bytes);
}
