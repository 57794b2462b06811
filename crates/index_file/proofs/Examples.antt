-- Worked examples of the definitions.
use Rattle.std.proofs.Common.{◌≡◌, ℕ, List, [], ◌∷◌, ◌++◌, take, codes, refl, arith}
use Rattle.byte_tables.specs.Pieces.{CutWhole}
use Rattle.index_file.specs.Conditions.{HeaderIsKnown, LengthsAgree}
use Rattle.index_file.specs.Damage.{IsFirstFailing}
use Rattle.byte_tables.specs.Numbers.{number_bytes, numbers_in}
use Rattle.byte_tables.specs.Pairs.{pair_bytes, pairs_in}
use Rattle.run_rows.specs.declared.form.RowForm.TheVariants.{V1}
use Rattle.run_rows.specs.Encoding.{run_bytes, row_bytes, runs_in, row_numbers}
use Rattle.cube_slices.specs.Slices.{slice_bytes, slice_lines}
use Rattle.bm_term.specs.declared.triple.Triple.{Triple}
use Rattle.term_numbers.specs.Numbering.{numbering_of, term_table}
use Rattle.index_file.specs.Families.{slices_of}
use Rattle.index_file.specs.Layout.{name, layout_bytes, layout_in}
use Rattle.index_file.specs.Image.{image_of, graph_in}
use Rattle.index_file.specs.Stored.{stored_of, counts_of}
use Rattle.index_file.specs.declared.damaged.Part.TheVariants.{Header}
use Rattle.index_file.specs.declared.family.Family.TheVariants.{Po}

-- ---- the empty graph

-- the name, version 1, seven zeros, the length, and two starts: 52 bytes
abbrev empty_image : List ℕ
empty_image = codes "BITMATLB" ++ number_bytes (1 ∷ 0 ∷ 0 ∷ 0 ∷ 0 ∷ 0 ∷ 0 ∷ 0 ∷ 52 ∷ 0 ∷ 0 ∷ [])

of_empty : image_of 1 V1 [] ≡ empty_image
unfolding layout_bytes name number_bytes
of_empty = refl

-- ---- a graph of two triples

abbrev triple : List ℕ → List ℕ → List ℕ → Triple
triple s p o = record { subject = s; predicate = p; object = o }

-- a is b by p, and b is c by p
abbrev two_triples : List Triple
two_triples =
    triple (codes "<urn:a>") (codes "<urn:p>") (codes "<urn:b>") ∷ triple (codes "<urn:b>") (codes "<urn:p>") (codes "<urn:c>") ∷ []

-- b is subject and object, so it comes first
table : term_table (numbering_of two_triples).terms ≡ codes "<urn:b>" ∷ codes "<urn:a>" ∷ codes "<urn:c>" ∷ codes "<urn:p>" ∷ []
table = refl

by_numbers : (numbering_of two_triples).triples ≡ (0, 0, 1) ∷ (1, 0, 0) ∷ []
by_numbers = refl

-- the slices of subjects
by_subject : slices_of Po 0 2 ((0, 0, 1) ∷ (1, 0, 0) ∷ []) ≡ ((0, 1) ∷ []) ∷ ((0, 0) ∷ []) ∷ []
by_subject = refl

-- the bytes as numbers: the numbers behind the name and the starts of the texts; the starts of the slices; and the slices
abbrev two_image : List ℕ
two_image =
    codes "BITMATLB"
    ++ (number_bytes (1 ∷ 1 ∷ 1 ∷ 1 ∷ 1 ∷ 2 ∷ 28 ∷ 152 ∷ 272 ∷ 0 ∷ 7 ∷ 14 ∷ 21 ∷ 28 ∷ [])
    ++ (codes "<urn:b><urn:a><urn:c><urn:p>"
    ++ (number_bytes (0 ∷ 36 ∷ 72 ∷ 92 ∷ 112 ∷ 132 ∷ 152 ∷ [])
    ++ (number_bytes (2 ∷ 0 ∷ 8 ∷ 1 ∷ 16 ∷ 1 ∷ 1 ∷ 0 ∷ 1 ∷ [])
    ++ (number_bytes (2 ∷ 0 ∷ 8 ∷ 1 ∷ 16 ∷ 1 ∷ 1 ∷ 0 ∷ 1 ∷ [])
    ++ number_bytes (1 ∷ 0 ∷ 8 ∷ 1 ∷ 1 ∷ 1 ∷ 0 ∷ 8 ∷ 0 ∷ 1 ∷ 1 ∷ 0 ∷ 8 ∷ 1 ∷ 1 ∷ 1 ∷ 0 ∷ 8 ∷ 0 ∷ 1 ∷ []))))))

of_two : image_of 1 V1 two_triples ≡ two_image
unfolding layout_bytes name number_bytes slice_bytes pair_bytes row_bytes run_bytes
of_two = refl

-- and back
from_two : graph_in V1 two_image ≡ two_triples
unfolding layout_in numbers_in number_bytes slice_lines pairs_in row_numbers runs_in
from_two = refl

-- ---- bytes that are no image

-- version 0 is not known as 1
zero_version : HeaderIsKnown 1 (image_of 0 V1 []) → ⊥
unfolding layout_bytes name number_bytes numbers_in
zero_version header = let known : ◌≡◌ {A = ℕ} 0 1 = header.known in omega arith

-- the image of the empty graph with one byte more has another length
one_more : LengthsAgree (empty_image ++ 0 ∷ []) → ⊥
unfolding number_bytes numbers_in
one_more lengths = let whole : ◌≡◌ {A = ℕ} 52 53 = lengths.whole in omega arith

-- and with its last byte left out
one_less : LengthsAgree (take 51 empty_image) → ⊥
unfolding number_bytes numbers_in
one_less lengths = let whole : ◌≡◌ {A = ℕ} 52 51 = lengths.whole in omega arith

-- texts that start at 0, 2 and 2: the second has no byte
empty_text : CutWhole 2 (0 ∷ 2 ∷ 2 ∷ []) → ⊥
empty_text cut = omega (arith, cut.1.1.0)

-- ---- what one sees that reads it

-- the index of no triple has none of anything
empty_counts : counts_of (stored_of 1 []) ≡ record { version = 1; shared = 0; subjects = 0; objects = 0; predicates = 0; triples = 0 }
empty_counts = refl

-- without a byte the header fails, and it is the first
no_byte : IsFirstFailing 1 V1 [] Header
no_byte = record { fails = λ header. omega (arith, header.long); before = λ earlier low. absurd (omega arith) }
