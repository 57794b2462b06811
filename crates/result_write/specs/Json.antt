-- JSON texts without white space: strings, objects and arrays. RFC 8259, sections 4, 5 and 7. A text may be a list of
-- characters or of their bytes in UTF-8: what is escaped is ASCII.
use Rattle.std.specs.Prelude.{ℕ, ◌+◌, ◌/◌, ◌%◌, ◌==◌, if◌then◌else◌, nat_lt, Option, None, Some, List, [], ◌∷◌, ◌++◌, map}
use Rattle.std.specs.List.{flat_map, join_with_byte}
use Rattle.rdf_text.specs.Marks.{backspace, tab, line_feed, form_feed, carriage_return, quotation_mark, colon, backslash, letter_b, letter_f, letter_n, letter_r, letter_t, letter_u}

abbrev pub comma : ℕ
comma = 0x2C

-- the letter or mark that stands for a character after a backslash, for those that are spelled so
unfoldable pub short_escape : ℕ → Option ℕ
short_escape c =
    if c == quotation_mark then Some quotation_mark
    else (if c == backslash then Some backslash
    else (if c == backspace then Some letter_b
    else (if c == tab then Some letter_t
    else (if c == line_feed then Some letter_n
    else (if c == form_feed then Some letter_f
    else (if c == carriage_return then Some letter_r else None))))))

-- a hexadecimal digit, in lower case
abbrev pub hex_digit : ℕ → ℕ
hex_digit n = if nat_lt n 10 then 0x30 + n else 0x57 + n

-- \u00 and two digits
abbrev pub long_escape : ℕ → List ℕ
long_escape c = backslash ∷ letter_u ∷ 0x30 ∷ 0x30 ∷ hex_digit (c / 16) ∷ hex_digit (c % 16) ∷ []

abbrev pub json_spelled_by : ℕ → Option ℕ → List ℕ
json_spelled_by c (Some letter) = backslash ∷ letter ∷ []
json_spelled_by c None = if nat_lt c 0x20 then long_escape c else c ∷ []

-- how a character stands in a string: by its short escape, else, below 20, by its number, else raw
abbrev pub json_spelling : ℕ → List ℕ
json_spelling c = json_spelled_by c (short_escape c)

abbrev pub json_string : List ℕ → List ℕ
json_string text = quotation_mark ∷ (flat_map json_spelling text ++ quotation_mark ∷ [])

-- the name of a member, and the JSON text of its value
abbrev pub Member : Type 0
Member = List ℕ × List ℕ

abbrev pub member_text : Member → List ℕ
member_text member = json_string member.0 ++ colon ∷ member.1

-- the members between braces, with a comma between each two
abbrev pub json_object : List Member → List ℕ
json_object members = 0x7B ∷ (join_with_byte comma (map member_text members) ++ 0x7D ∷ [])

-- JSON texts between brackets, with a comma between each two
abbrev pub json_array : List (List ℕ) → List ℕ
json_array texts = 0x5B ∷ (join_with_byte comma texts ++ 0x5D ∷ [])
