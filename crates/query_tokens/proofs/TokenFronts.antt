-- With which character a token of each rule begins.
use Rattle.std.proofs.Common.{◌≡◌, ℕ, true, false, ◌==◌, inl, inr, Some, List, ◌∷◌, refl, sym, subst, arith}
use Rattle.std.proofs.lemmas.Bool.{eqb-true, or_cases}
use Rattle.std.proofs.lemmas.Bool.Decides.{nat_tests}
use Rattle.rdf_text.specs.Classes.{is_letter, is_alphanumeric, is_digit, is_pn_chars_base}
use Rattle.rdf_text.specs.scanning.Names.{after_language_tag}
use Rattle.query_tokens.specs.declared.token.TokenKind.TheVariants.{Iri, Variable, Tag, Blank, Sign}
use Rattle.rdf_escapes.specs.Strings.{is_quote}
use Rattle.query_tokens.specs.scanning.Iris.{after_iri}
use Rattle.query_tokens.specs.scanning.PrefixedNames.{scan_local, scan_name}
use Rattle.query_tokens.specs.scanning.Variables.{after_variable_name}
use Rattle.query_tokens.specs.scanning.Numbers.{scan_fraction, scan_number}
use Rattle.query_tokens.specs.scanning.Tokens.{as_kind, or_sign, scan_quoted, after_blank_label, after_circumflex, scan_sign, scan_marked, scan_token}

-- a letter begins a name
pub scan_token-name : (c : ℕ) (cs : List ℕ) → is_pn_chars_base c ≡ true → scan_token (c ∷ cs) ≡ scan_name (c ∷ cs)
unfolding scan_token
scan_token-name c cs is = rw is refl

-- a digit begins no name
pub no_base_digit : (c : ℕ) → is_digit c ≡ true → is_pn_chars_base c ≡ false
unfolding is_digit is_pn_chars_base
no_base_digit c is = grind (arith, nat_tests)

-- a digit begins a number
pub scan_token-digit : (c : ℕ) (cs : List ℕ) → is_digit c ≡ true → scan_token (c ∷ cs) ≡ scan_number (c ∷ cs)
unfolding scan_token
scan_token-digit c cs is = rw (no_base_digit c is, is) refl

-- a character that is neither of names nor a digit
abbrev pub IsMark : ℕ → Type 0
IsMark c = (is_pn_chars_base c ≡ false) × (is_digit c ≡ false)

-- a mark begins neither
pub scan_token-mark : (c : ℕ) (cs : List ℕ) → IsMark c → scan_token (c ∷ cs) ≡ scan_marked c cs
unfolding scan_token
scan_token-mark c cs (no_name, no_digit) = rw (no_name, no_digit) refl

-- a mark of strings is such a mark
pub marks : (c : ℕ) → is_quote c ≡ true → IsMark c
unfolding is_digit is_pn_chars_base
marks c quote = elim (or_cases _ _ quote) [
  | inl e ↦ subst IsMark (sym (eqb-true c 34 e)) (refl, refl)
  | inr e ↦ subst IsMark (sym (eqb-true c 39 e)) (refl, refl)
]

-- '<' begins an IRI
pub scan_token-less_than : (cs : List ℕ) → scan_token (60 ∷ cs) ≡ as_kind Iri (after_iri cs)
unfolding scan_token scan_marked is_digit is_pn_chars_base
scan_token-less_than cs = refl

-- a mark of strings begins a string
pub scan_token-quote : (mark : ℕ) (cs : List ℕ) → is_quote mark ≡ true → scan_token (mark ∷ cs) ≡ scan_quoted mark cs
unfolding scan_marked
scan_token-quote mark cs quote =
    let no_bracket : (mark == 60) ≡ false = grind (arith, nat_tests) in
    rw (scan_token-mark mark cs (marks mark quote), no_bracket, quote) refl

-- '@' begins a tag
pub scan_token-at_sign : (cs : List ℕ) → scan_token (64 ∷ cs) ≡ as_kind Tag (after_language_tag is_letter is_alphanumeric cs)
unfolding scan_token scan_marked is_digit is_pn_chars_base
scan_token-at_sign cs = refl

-- '_' begins a label
pub scan_token-low_line : (cs : List ℕ) → scan_token (95 ∷ cs) ≡ as_kind Blank (after_blank_label cs)
unfolding scan_token scan_marked is_digit is_pn_chars_base
scan_token-low_line cs = refl

-- ':' is a prefix
pub scan_token-colon : (cs : List ℕ) → scan_token (58 ∷ cs) ≡ Some (scan_local cs)
unfolding scan_token scan_marked is_digit is_pn_chars_base
scan_token-colon cs = refl

-- '?' begins a variable or is a sign
pub scan_token-question : (cs : List ℕ) → scan_token (63 ∷ cs) ≡ or_sign (as_kind Variable (after_variable_name cs)) cs
unfolding scan_token scan_marked scan_sign is_digit is_pn_chars_base
scan_token-question cs = refl

-- '$' begins a variable
pub scan_token-dollar : (cs : List ℕ) → scan_token (36 ∷ cs) ≡ as_kind Variable (after_variable_name cs)
unfolding scan_token scan_marked scan_sign is_digit is_pn_chars_base
scan_token-dollar cs = refl

-- '+' begins a number or is a sign
pub scan_token-plus : (cs : List ℕ) → scan_token (43 ∷ cs) ≡ or_sign (scan_number cs) cs
unfolding scan_token scan_marked scan_sign is_digit is_pn_chars_base
scan_token-plus cs = refl

-- '-' begins a number
pub scan_token-hyphen : (cs : List ℕ) → scan_token (45 ∷ cs) ≡ scan_number cs
unfolding scan_token scan_marked scan_sign is_digit is_pn_chars_base
scan_token-hyphen cs = refl

-- '.' begins a number or is a sign
pub scan_token-stop : (cs : List ℕ) → scan_token (46 ∷ cs) ≡ or_sign (scan_fraction cs) cs
unfolding scan_token scan_marked scan_sign is_digit is_pn_chars_base
scan_token-stop cs = refl

-- '^' begins a sign
pub scan_token-circumflex : (cs : List ℕ) → scan_token (94 ∷ cs) ≡ Some (Sign, after_circumflex cs)
unfolding scan_token scan_marked scan_sign is_digit is_pn_chars_base
scan_token-circumflex cs = refl
