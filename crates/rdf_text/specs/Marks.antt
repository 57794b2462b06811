-- The marks of the grammars and the letters of escapes and exponents, by name.
use Rattle.std.specs.Prelude.{ℕ}

-- BS
abbrev pub backspace : ℕ
backspace = 0x8

-- TAB
abbrev pub tab : ℕ
tab = 0x9

-- LF
abbrev pub line_feed : ℕ
line_feed = 0xA

-- FF
abbrev pub form_feed : ℕ
form_feed = 0xC

-- CR
abbrev pub carriage_return : ℕ
carriage_return = 0xD

abbrev pub space : ℕ
space = 0x20

-- "
abbrev pub quotation_mark : ℕ
quotation_mark = 0x22

-- #
abbrev pub number_sign : ℕ
number_sign = 0x23

-- $
abbrev pub dollar_sign : ℕ
dollar_sign = 0x24

-- %
abbrev pub percent_sign : ℕ
percent_sign = 0x25

-- '
abbrev pub apostrophe : ℕ
apostrophe = 0x27

-- +
abbrev pub plus_sign : ℕ
plus_sign = 0x2B

-- -
abbrev pub hyphen : ℕ
hyphen = 0x2D

-- .
abbrev pub full_stop : ℕ
full_stop = 0x2E

-- :
abbrev pub colon : ℕ
colon = 0x3A

-- <
abbrev pub less_than : ℕ
less_than = 0x3C

-- >
abbrev pub greater_than : ℕ
greater_than = 0x3E

-- ?
abbrev pub question_mark : ℕ
question_mark = 0x3F

-- @
abbrev pub at_sign : ℕ
at_sign = 0x40

abbrev pub capital_e : ℕ
capital_e = 0x45

abbrev pub capital_u : ℕ
capital_u = 0x55

-- \
abbrev pub backslash : ℕ
backslash = 0x5C

-- ^
abbrev pub circumflex : ℕ
circumflex = 0x5E

-- _
abbrev pub low_line : ℕ
low_line = 0x5F

abbrev pub letter_b : ℕ
letter_b = 0x62

abbrev pub letter_e : ℕ
letter_e = 0x65

abbrev pub letter_f : ℕ
letter_f = 0x66

abbrev pub letter_n : ℕ
letter_n = 0x6E

abbrev pub letter_r : ℕ
letter_r = 0x72

abbrev pub letter_t : ℕ
letter_t = 0x74

abbrev pub letter_u : ℕ
letter_u = 0x75
