-- Worked examples of the definitions.
use Rattle.std.proofs.Common.{inr, lit<, ◌≡◌, true, false, refl, [], ◌∷◌}
use Rattle.std.specs.Prelude.{codes}
use Rattle.rdf_text.specs.Classes.{is_scalar, is_irichar, is_letter, is_digit, is_alphanumeric, is_pn_chars_base, is_pn_chars_more, is_nt_pn_chars_u, is_nt_pn_chars, is_nt_label_first, is_sparql_pn_chars_u, is_comment_char}
use Rattle.rdf_text.specs.Names.{IsLangtag, IsBlankNodeLabel}
use Rattle.rdf_text.specs.Comments.{IsComment}
use Rattle.rdf_text.specs.Spelling.{escape_letter, escaped, unescaped, escaped_value, echar_value}

-- the colon is a member in N-Triples alone, the multiplication sign in neither grammar
colon_in_names : is_nt_pn_chars_u 0x3A ≡ true
unfolding is_nt_pn_chars_u is_pn_chars_base
colon_in_names = refl

-- the colon is no member in SPARQL
no_colon_in_sparql : is_sparql_pn_chars_u 0x3A ≡ false
unfolding is_sparql_pn_chars_u is_pn_chars_base
no_colon_in_sparql = refl

-- the multiplication sign is no letter of names
no_times_sign : is_pn_chars_base 0xD7 ≡ false
unfolding is_pn_chars_base
no_times_sign = refl

-- a surrogate is no IRICHAR
surrogate_in_iri : is_irichar 0xD800 ≡ false
unfolding is_irichar is_scalar
surrogate_in_iri = refl

-- a"b, a line feed and a backslash, as they are spelled in a literal, and back
form_is_spelled : escaped (0x61 ∷ 0x22 ∷ 0x62 ∷ 0xA ∷ 0x5C ∷ []) ≡ codes "a\\\"b\\n\\\\"
unfolding escape_letter
form_is_spelled = refl

-- what is escaped is got back
back_from_plain : unescaped (codes "a\\\"b\\n\\\\") ≡ 0x61 ∷ 0x22 ∷ 0x62 ∷ 0xA ∷ 0x5C ∷ []
unfolding unescaped escaped_value echar_value
back_from_plain = refl

-- a comment has no line end in it
a_comment : IsComment (codes "# a #")
unfolding is_comment_char
a_comment = (codes " a #", refl, refl)

-- a line feed ends a comment
no_line_feed_in_a_comment : is_comment_char 0xA ≡ false
unfolding is_comment_char
no_line_feed_in_a_comment = refl

-- a language tag, as it is written
a_tag : IsLangtag (codes "@en-GB") (codes "en-GB")
unfolding is_letter is_alphanumeric is_digit
a_tag = ((codes "en", codes "-GB", codes "GB" ∷ [], (lit< tt, refl), (codes "-GB", [], ((lit< tt, refl), refl), refl, refl), refl), refl)

-- the label of a blank node of N-Triples
a_label : IsBlankNodeLabel is_nt_label_first is_nt_pn_chars (codes "_:a.b") (codes "a.b")
unfolding is_nt_label_first is_nt_pn_chars is_nt_pn_chars_u is_pn_chars_base is_digit is_pn_chars_more
a_label = ((0x61, codes ".b", refl, inr (codes ".", 0x62, refl, refl, refl), refl), refl)
