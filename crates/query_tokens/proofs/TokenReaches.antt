-- No less is read than a token that is in front has.
use Rattle.std.proofs.Common.{◌≡◌, ℕ, true, ◌⊎◌, inl, inr, Some, None, List, [], ◌∷◌, ◌++◌, length, refl, ap, ◌∙◌, sym, subst, arith, append_assoc, length-append}
use Rattle.std.specs.List.{list_all}
use Rattle.std.specs.Option.{option_map_or}
use Rattle.std.proofs.lemmas.Bool.{eqb-true, eq-eqb, and_parts, or_cases}
use Rattle.rdf_text.specs.Classes.{is_letter, is_alphanumeric, is_digit, is_pn_chars_base, is_sparql_label_first, is_sparql_pn_chars}
use Rattle.rdf_text.specs.scanning.Text.{after_char, after_run}
use Rattle.rdf_text.specs.Text.{IsRun}
use Rattle.rdf_text.specs.Repetition.{Star}
use Rattle.rdf_text.proofs.TextLemmas.{length-after_run, after_char-some}
use Rattle.rdf_text.proofs.DottedNames.{after_dotted_name-reaches}
use Rattle.rdf_text.proofs.LanguageTags.{after_language_tag-reaches, no_letter, no_alphanumeric}
use Rattle.query_tokens.specs.declared.token.TokenKind.{TokenKind}
use Rattle.query_tokens.specs.declared.token.TokenKind.TheVariants.{Iri, Prefix, Prefixed, Variable, Quoted, Tag, Integer, Decimal, Double, Word, Blank, Sign, Quotes, Bad}
use Rattle.rdf_escapes.specs.Strings.{is_quote, IsStringPiece}
use Rattle.query_tokens.specs.Numbers.{is_number_sign, IsSigned, IsDigits, IsFraction, IsScientific}
use Rattle.rdf_text.specs.Text.{IsOf}
use Rattle.rdf_text.specs.Names.{IsLangtag, IsBlankNodeLabel}
use Rattle.rdf_escapes.specs.Iris.{IsIriRef}
use Rattle.query_tokens.specs.PrefixedNames.{IsPrefix, IsPrefixed}
use Rattle.query_tokens.specs.scanning.PrefixedNames.{scan_local, scan_name}
use Rattle.query_tokens.specs.Variables.{is_variable_inner, IsVariable}
use Rattle.query_tokens.specs.scanning.Variables.{after_variable_name}
use Rattle.query_tokens.specs.Strings.{IsQuoted, IsThreeQuotes}
use Rattle.query_tokens.specs.scanning.Strings.{after_string}
use Rattle.query_tokens.specs.scanning.Numbers.{scan_fraction, scan_number}
use Rattle.query_tokens.specs.Signs.{is_sign, IsSign}
use Rattle.query_tokens.specs.Token.{IsToken}
use Rattle.query_tokens.specs.scanning.ScannedToken.{ScannedToken}
use Rattle.query_tokens.specs.scanning.Tokens.{as_kind, or_sign, after_two_more, scan_quoted, after_blank_label, scan_sign, scan_marked, scan_token}
use Rattle.query_tokens.proofs.Reached.{Reached, reached_as, reached_past}
use Rattle.query_tokens.proofs.Iris.{after_iri-again}
use Rattle.query_tokens.proofs.QuotedStrings.{after_string-again, body_begins}
use Rattle.query_tokens.proofs.NumberTexts.{IsUnsigned, scan_number-takes, scan_number-reaches, length-unsigned, scan_fraction-shorter}
use Rattle.query_tokens.proofs.PrefixTexts.{prefix-reaches, prefixed-reaches, scan_name-prefix, word-reaches}
use Rattle.query_tokens.proofs.TokenTexts.{name-sound, name-again}
use Rattle.query_tokens.proofs.TokenFronts.{scan_token-name, scan_token-digit, scan_token-less_than, scan_token-quote, scan_token-at_sign, scan_token-low_line, scan_token-colon, scan_token-question, scan_token-dollar, scan_token-plus, scan_token-hyphen, scan_token-stop, scan_token-circumflex}

-- IRIs, prefixes and names
iri-reaches : (front more : List ℕ) → IsOf IsIriRef front → Reached (scan_token (front ++ more)) Iri more
iri-reaches front more (iri, spells) =
    let (after, split, reads) = after_iri-again iri front spells in
    rw (split, scan_token-less_than (after ++ more), reads more) (reached_as Iri more more (Some (Iri, more)) refl (omega arith))

-- each prefix is read, and then a local name
prefix_is_read : (front : List ℕ) → IsPrefix front → (rest : List ℕ) → scan_token (front ++ rest) ≡ Some (scan_local rest)
prefix_is_read front (name, inl nothing, spelled) rest = rw (spelled, nothing) (scan_token-colon rest)
prefix_is_read front (name, inr (c, others, begins, is_rest, split), spelled) rest =
    let whole : front ++ rest ≡ name ++ 58 ∷ rest = ap (λ xs. xs ++ rest) spelled ∙ append_assoc name (58 ∷ []) rest in
    let first : scan_token (name ++ 58 ∷ rest) ≡ scan_name (name ++ 58 ∷ rest) = rw split (scan_token-name c (others ++ 58 ∷ rest) begins) in
    ap scan_token whole ∙ first ∙ scan_name-prefix name rest (c, others, begins, is_rest, split)

-- each prefixed name in front is passed
prefixed_token-reaches : (front more : List ℕ) → IsPrefixed front → Reached (scan_token (front ++ more)) Prefixed more
prefixed_token-reaches front more (prefix, local, is, is_local, spelled) =
    rw (spelled, append_assoc prefix local more, prefix_is_read prefix is (local ++ more)) (prefixed-reaches local more is_local)

-- a letter begins a name
pub letter_is_base : (c : ℕ) → is_letter c ≡ true → is_pn_chars_base c ≡ true
unfolding is_letter is_pn_chars_base
letter_is_base c is = rw is refl

-- each word in front is passed
word_token-reaches : (front more : List ℕ) → IsRun is_letter front → Reached (scan_token (front ++ more)) Word more
word_token-reaches [] more (long, all) = absurd (omega arith)
word_token-reaches (c ∷ cs) more (long, all) =
    let (first, others) = and_parts (is_letter c) (list_all is_letter cs) all in
    rw (scan_token-name c (cs ++ more) (letter_is_base c first)) (word-reaches (c ∷ cs) more (long, all))

-- variables
variable-reaches : (front more : List ℕ) → IsVariable front → Reached (scan_token (front ++ more)) Variable more
variable-reaches front more (mark, name, is, named, spelled) =
    let rest = after_run is_variable_inner more in
    let read = name-again name more named in
    elim (or_cases _ _ is) [
      | inl e ↦ rw (spelled, eqb-true mark 63 e, scan_token-question (name ++ more), read) (reached_as Variable more rest (Some (Variable, rest)) refl (length-after_run is_variable_inner more))
      | inr e ↦ rw (spelled, eqb-true mark 36 e, scan_token-dollar (name ++ more), read) (reached_as Variable more rest (Some (Variable, rest)) refl (length-after_run is_variable_inner more))
    ]

-- tags and labels
tag-reaches : (front more : List ℕ) → IsOf IsLangtag front → Reached (scan_token (front ++ more)) Tag more
tag-reaches front more (tag, (is, spelled)) =
    let (rest, read, less) = after_language_tag-reaches is_letter is_alphanumeric no_letter no_alphanumeric tag more is in
    rw (spelled, scan_token-at_sign (tag ++ more), read) (reached_as Tag more rest (Some (Tag, rest)) refl less)

-- each label in front is passed
label-reaches : (front more : List ℕ) → IsOf (IsBlankNodeLabel is_sparql_label_first is_sparql_pn_chars) front → Reached (scan_token (front ++ more)) Blank more
unfolding after_blank_label
label-reaches front more (label, (is, spelled)) =
    let (rest, read, less) = after_dotted_name-reaches is_sparql_label_first is_sparql_pn_chars label more is in
    rw (spelled, scan_token-low_line (58 ∷ (label ++ more)), read) (reached_as Blank more rest (Some (Blank, rest)) refl less)

-- strings
empty-reaches : (mark : ℕ) (more : List ℕ) → is_quote mark ≡ true → Reached (scan_quoted mark (mark ∷ more)) Quoted more
unfolding scan_quoted after_two_more
empty-reaches mark more quote =
    let closes : after_string mark (mark ∷ more) ≡ Some more = after_string-again mark quote [] [] more refl in
    rw (eq-eqb mark mark refl, closes)
    (elim (after_char mark more) as (λ r. after_char mark more ≡ r → Reached (option_map_or (λ rest. Some (Quotes, rest)) r (Some (Quoted, more))) Quoted more) [
      | None ↦ λ e. reached_as Quoted more more (Some (Quoted, more)) refl (omega arith)
      | Some rest ↦ λ e. reached_past Quotes Quoted more rest (Some (Quotes, rest)) refl (omega (arith, ap length (after_char-some mark more rest e)))
    ] refl)

-- the characters of a string and its mark are passed
body-reaches : (mark : ℕ) (lexical body more : List ℕ) → is_quote mark ≡ true → Star (IsStringPiece mark) body lexical → Reached (scan_quoted mark (body ++ mark ∷ more)) Quoted more
unfolding scan_quoted after_two_more
body-reaches mark [] body more quote star = rw star (empty-reaches mark more quote)
body-reaches mark (c ∷ cs) body more quote star =
    rw (body_begins mark c cs body (mark ∷ more) quote star, after_string-again mark quote (c ∷ cs) body more star) (reached_as Quoted more more (Some (Quoted, more)) refl (omega arith))

-- each string in front is passed
quoted-reaches : (front more : List ℕ) → IsQuoted front → Reached (scan_token (front ++ more)) Quoted more
quoted-reaches front more (lexical, spells) =
    let (body, star, spelled) = spells.string in
    rw (spelled, append_assoc body (spells.mark ∷ []) more, scan_token-quote spells.mark (body ++ spells.mark ∷ more) spells.quote)
    (body-reaches spells.mark lexical body more spells.quote star)

-- three marks in front are passed
quotes-reaches : (front more : List ℕ) → IsThreeQuotes front → Reached (scan_token (front ++ more)) Quotes more
unfolding scan_quoted after_two_more
quotes-reaches front more (mark, quote, spelled) =
    rw (spelled, scan_token-quote mark (mark ∷ mark ∷ more) quote, eq-eqb mark mark refl, eq-eqb mark mark refl) (reached_as Quotes more more (Some (Quotes, more)) refl (omega arith))

-- numbers
scan_number-stop : (rest : List ℕ) → scan_number (46 ∷ rest) ≡ scan_fraction rest
unfolding scan_number is_digit
scan_number-stop rest = refl

-- a number without a sign begins with a digit or with a '.'
abbrev BeginsAsNumber : List ℕ → Type 0
BeginsAsNumber text = ((d : ℕ) × (rest : List ℕ) × (is_digit d ≡ true) × (text ≡ d ∷ rest)) ⊎ ((rest : List ℕ) × (text ≡ 46 ∷ rest))

-- digits begin a number
digits_begin : (digits rest : List ℕ) → IsDigits digits → BeginsAsNumber (digits ++ rest)
digits_begin [] rest (long, all) = absurd (omega arith)
digits_begin (d ∷ ds) rest (long, all) = let (first, others) = and_parts (is_digit d) (list_all is_digit ds) all in inl (d, ds ++ rest, first, refl)

-- so do digits and a point
whole_begins : (whole rest : List ℕ) → list_all is_digit whole ≡ true → BeginsAsNumber (whole ++ 46 ∷ rest)
whole_begins [] rest all = inr (rest, refl)
whole_begins (d ∷ ds) rest all = let (first, others) = and_parts (is_digit d) (list_all is_digit ds) all in inl (d, ds ++ 46 ∷ rest, first, refl)

-- so does each number
number_begins : (kind : TokenKind) (text more : List ℕ) → IsUnsigned kind text → BeginsAsNumber (text ++ more)
number_begins kind text more (inl (same, is)) = digits_begin text more is
number_begins kind text more (inr (inl (same, (whole, digits, all, is, spelled)))) =
    rw (spelled, append_assoc whole (46 ∷ digits) more) (whole_begins whole (digits ++ more) all)
number_begins kind text more (inr (inr (same, (number, exponent, inl (whole, digits, is, all, mantissa), is_exponent, spelled)))) =
    rw (spelled, mantissa, append_assoc (whole ++ 46 ∷ digits) exponent more, append_assoc whole (46 ∷ digits) (exponent ++ more)) (whole_begins whole (digits ++ (exponent ++ more)) is.1)
number_begins kind text more (inr (inr (same, (number, exponent, inr (inl (digits, is, mantissa)), is_exponent, spelled)))) =
    rw (spelled, mantissa) (inr ((digits ++ exponent) ++ more, refl))
number_begins kind text more (inr (inr (same, (number, exponent, inr (inr is), is_exponent, spelled)))) =
    rw (spelled, append_assoc number exponent more) (digits_begin number (exponent ++ more) is)

-- what begins a number is read as one
scan_token-number : (text : List ℕ) (found : ScannedToken) → BeginsAsNumber text → scan_number text ≡ Some found → scan_token text ≡ Some found
scan_token-number text found (inl (d, rest, is, split)) read =
    ap scan_token split ∙ scan_token-digit d rest is ∙ ap scan_number (sym split) ∙ read
scan_token-number text found (inr (rest, split)) read =
    let fraction : scan_fraction rest ≡ Some found = sym (scan_number-stop rest) ∙ ap scan_number (sym split) ∙ read in
    ap scan_token split ∙ scan_token-stop rest ∙ ap (λ r. or_sign r rest) fraction

-- each number in front is passed
unsigned-reaches : (kind : TokenKind) (text more : List ℕ) → IsUnsigned kind text → Reached (scan_token (text ++ more)) kind more
unsigned-reaches kind text more is =
    let reached = scan_number-reaches kind text more is in
    record {
      found = reached.found;
      read_is = scan_token-number (text ++ more) reached.found (number_begins kind text more is) reached.read_is;
      least = reached.least;
      same = reached.same;
    }

-- so with a sign
signed-reaches : (kind : TokenKind) (sign : ℕ) (text more : List ℕ) → is_number_sign sign ≡ true → IsUnsigned kind text → Reached (scan_token (sign ∷ (text ++ more))) kind more
signed-reaches kind sign text more mark is =
    let reached = scan_number-reaches kind text more is in
    elim (or_cases _ _ mark) [
      | inl e ↦ rw (eqb-true sign 43 e) record {
        found = reached.found;
        read_is = scan_token-plus (text ++ more) ∙ ap (λ r. or_sign r (text ++ more)) reached.read_is;
        least = reached.least;
        same = reached.same;
      }
      | inr e ↦ rw (eqb-true sign 45 e, scan_token-hyphen (text ++ more)) reached
    ]

-- so with a sign or without one
number-reaches : (kind : TokenKind) (Rule : List ℕ → Type 0) (front more : List ℕ) → ((text : List ℕ) → Rule text → IsUnsigned kind text) → IsSigned Rule front → Reached (scan_token (front ++ more)) kind more
number-reaches kind Rule front more unsigned (inl is) = unsigned-reaches kind front more (unsigned front is)
number-reaches kind Rule front more unsigned (inr (sign, rest, mark, is, spelled)) = rw spelled (signed-reaches kind sign rest more mark (unsigned rest is))

-- signs
sign_cases : (P : ℕ → Type 0) → P 123 → P 125 → P 46 → P 59 → P 44 → P 42 → P 94 → P 47 → P 124 → P 43 → P 63 → P 33 → P 40 → P 41 → P 91 → P 93 → (c : ℕ) → is_sign c ≡ true → P c
unfolding is_sign
sign_cases P of_123 of_125 of_46 of_59 of_44 of_42 of_94 of_47 of_124 of_43 of_63 of_33 of_40 of_41 of_91 of_93 c is =
    elim (or_cases _ _ is) [
      | inl h15 ↦ elim (or_cases _ _ h15) [
        | inl h14 ↦ elim (or_cases _ _ h14) [
          | inl h13 ↦ elim (or_cases _ _ h13) [
            | inl h12 ↦ elim (or_cases _ _ h12) [
              | inl h11 ↦ elim (or_cases _ _ h11) [
                | inl h10 ↦ elim (or_cases _ _ h10) [
                  | inl h9 ↦ elim (or_cases _ _ h9) [
                    | inl h8 ↦ elim (or_cases _ _ h8) [
                      | inl h7 ↦ elim (or_cases _ _ h7) [
                        | inl h6 ↦ elim (or_cases _ _ h6) [
                          | inl h5 ↦ elim (or_cases _ _ h5) [
                            | inl h4 ↦ elim (or_cases _ _ h4) [
                              | inl h3 ↦ elim (or_cases _ _ h3) [
                                | inl h2 ↦ elim (or_cases _ _ h2) [
                                  | inl h1 ↦ subst P (sym (eqb-true c 123 h1)) of_123
                                  | inr e ↦ subst P (sym (eqb-true c 125 e)) of_125
                                ]
                                | inr e ↦ subst P (sym (eqb-true c 46 e)) of_46
                              ]
                              | inr e ↦ subst P (sym (eqb-true c 59 e)) of_59
                            ]
                            | inr e ↦ subst P (sym (eqb-true c 44 e)) of_44
                          ]
                          | inr e ↦ subst P (sym (eqb-true c 42 e)) of_42
                        ]
                        | inr e ↦ subst P (sym (eqb-true c 94 e)) of_94
                      ]
                      | inr e ↦ subst P (sym (eqb-true c 47 e)) of_47
                    ]
                    | inr e ↦ subst P (sym (eqb-true c 124 e)) of_124
                  ]
                  | inr e ↦ subst P (sym (eqb-true c 43 e)) of_43
                ]
                | inr e ↦ subst P (sym (eqb-true c 63 e)) of_63
              ]
              | inr e ↦ subst P (sym (eqb-true c 33 e)) of_33
            ]
            | inr e ↦ subst P (sym (eqb-true c 40 e)) of_40
          ]
          | inr e ↦ subst P (sym (eqb-true c 41 e)) of_41
        ]
        | inr e ↦ subst P (sym (eqb-true c 91 e)) of_91
      ]
      | inr e ↦ subst P (sym (eqb-true c 93 e)) of_93
    ]

-- a sign of one character is passed
plain_sign : (c : ℕ) (more : List ℕ) → scan_token (c ∷ more) ≡ Some (Sign, more) → Reached (scan_token (c ∷ more)) Sign more
plain_sign c more read = reached_as Sign more more (scan_token (c ∷ more)) read (omega arith)

-- '?' in front is passed
question-reaches : (more : List ℕ) → Reached (scan_token (63 ∷ more)) Sign more
question-reaches more =
    rw (scan_token-question more)
    (elim (after_variable_name more) as (λ r. after_variable_name more ≡ r → Reached (or_sign (as_kind Variable r) more) Sign more) [
      | None ↦ λ e. reached_as Sign more more (Some (Sign, more)) refl (omega arith)
      | Some rest ↦ λ e.
          let (name, (c, others, first, all, spelled), split) = name-sound more rest e in
          reached_past Variable Sign more rest (Some (Variable, rest)) refl (omega (arith, ap length split, ap length spelled, length-append name rest))
    ] refl)

-- so is '+'
plus-reaches : (more : List ℕ) → Reached (scan_token (43 ∷ more)) Sign more
plus-reaches more =
    rw (scan_token-plus more)
    (elim (scan_number more) as (λ r. scan_number more ≡ r → Reached (or_sign r more) Sign more) [
      | None ↦ λ e. reached_as Sign more more (Some (Sign, more)) refl (omega arith)
      | Some found ↦ λ e.
          let taken = scan_number-takes more found e in
          reached_past found.0 Sign more found.1 (Some found) refl (omega (arith, ap length taken.split, length-append taken.front found.1, length-unsigned found.0 taken.front taken.is))
    ] refl)

-- so is '.'
full_stop-reaches : (more : List ℕ) → Reached (scan_token (46 ∷ more)) Sign more
full_stop-reaches more =
    rw (scan_token-stop more)
    (elim (scan_fraction more) as (λ r. scan_fraction more ≡ r → Reached (or_sign r more) Sign more) [
      | None ↦ λ e. reached_as Sign more more (Some (Sign, more)) refl (omega arith)
      | Some found ↦ λ e. reached_past found.0 Sign more found.1 (Some found) refl (scan_fraction-shorter more found e)
    ] refl)

-- so is '^'
circumflex-reaches : (more : List ℕ) → Reached (scan_token (94 ∷ more)) Sign more
circumflex-reaches more =
    rw (scan_token-circumflex more)
    (elim (after_char 94 more) as (λ r. after_char 94 more ≡ r → Reached (Some (Sign, option_map_or (λ rest. rest) r more)) Sign more) [
      | None ↦ λ e. reached_as Sign more more (Some (Sign, more)) refl (omega arith)
      | Some rest ↦ λ e. reached_as Sign more rest (Some (Sign, rest)) refl (omega (arith, ap length (after_char-some 94 more rest e)))
    ] refl)

-- so is each sign of one character
one_sign-reaches : (c : ℕ) → is_sign c ≡ true → (more : List ℕ) → Reached (scan_token (c ∷ more)) Sign more
unfolding scan_token scan_marked scan_sign is_sign is_digit is_pn_chars_base
one_sign-reaches c is =
    sign_cases (λ x. (more : List ℕ) → Reached (scan_token (x ∷ more)) Sign more)
    (λ more. plain_sign 123 more refl)
    (λ more. plain_sign 125 more refl)
    (λ more. full_stop-reaches more)
    (λ more. plain_sign 59 more refl)
    (λ more. plain_sign 44 more refl)
    (λ more. plain_sign 42 more refl)
    (λ more. circumflex-reaches more)
    (λ more. plain_sign 47 more refl)
    (λ more. plain_sign 124 more refl)
    (λ more. plus-reaches more)
    (λ more. question-reaches more)
    (λ more. plain_sign 33 more refl)
    (λ more. plain_sign 40 more refl)
    (λ more. plain_sign 41 more refl)
    (λ more. plain_sign 91 more refl)
    (λ more. plain_sign 93 more refl)
    c is

-- each sign in front is passed
sign-reaches : (front more : List ℕ) → IsSign front → Reached (scan_token (front ++ more)) Sign more
sign-reaches front more (inl (c, is, spelled)) = rw spelled (one_sign-reaches c is more)
sign-reaches front more (inr spelled) = rw (spelled, scan_token-circumflex (94 ∷ more)) (reached_as Sign more more (Some (Sign, more)) refl (omega arith))

-- each token in front is passed
pub scan_token-reaches : (kind : TokenKind) (front more : List ℕ) → IsToken kind front → Reached (scan_token (front ++ more)) kind more
scan_token-reaches Iri front more is = iri-reaches front more is
scan_token-reaches Prefix front more is = rw (prefix_is_read front is more) (prefix-reaches more)
scan_token-reaches Prefixed front more is = prefixed_token-reaches front more is
scan_token-reaches Variable front more is = variable-reaches front more is
scan_token-reaches Quoted front more is = quoted-reaches front more is
scan_token-reaches Tag front more is = tag-reaches front more is
scan_token-reaches Integer front more is = number-reaches Integer IsDigits front more (λ text rule. inl (refl, rule)) is
scan_token-reaches Decimal front more is = number-reaches Decimal IsFraction front more (λ text rule. inr (inl (refl, rule))) is
scan_token-reaches Double front more is = number-reaches Double IsScientific front more (λ text rule. inr (inr (refl, rule))) is
scan_token-reaches Word front more is = word_token-reaches front more is
scan_token-reaches Blank front more is = label-reaches front more is
scan_token-reaches Sign front more is = sign-reaches front more is
scan_token-reaches Quotes front more is = quotes-reaches front more is
scan_token-reaches Bad front more is = absurd is
