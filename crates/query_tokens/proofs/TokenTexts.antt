-- A token that is read is of its rule.
use Rattle.std.proofs.Common.{◌≡◌, ℕ, true, ◌==◌, if◌then◌else◌, inl, inr, Option, Some, None, List, [], ◌∷◌, ◌++◌, refl, ap, ◌∙◌, sym, subst}
use Rattle.std.specs.Option.{option_map_or}
use Rattle.std.proofs.lemmas.Bool.{eqb-true}
use Rattle.std.proofs.lemmas.Option.{cond_some, option_and_then_some, same_Some}
use Rattle.rdf_text.specs.Classes.{is_letter, is_alphanumeric, is_digit, is_pn_chars_base, is_sparql_label_first, is_sparql_pn_chars}
use Rattle.rdf_text.specs.scanning.Names.{after_dotted_name, after_language_tag}
use Rattle.rdf_text.specs.scanning.Text.{after_char, after_run}
use Rattle.rdf_text.proofs.TextLemmas.{after_run-split, after_run-append, after_char-some}
use Rattle.rdf_text.proofs.DottedNames.{after_dotted_name-sound}
use Rattle.rdf_text.proofs.LanguageTags.{after_language_tag-sound}
use Rattle.query_tokens.specs.declared.token.TokenKind.{TokenKind}
use Rattle.query_tokens.specs.declared.token.TokenKind.TheVariants.{Iri, Variable, Quoted, Tag, Blank, Sign, Quotes}
use Rattle.rdf_escapes.specs.Strings.{is_quote}
use Rattle.query_tokens.specs.Numbers.{is_number_sign}
use Rattle.query_tokens.specs.scanning.Iris.{after_iri}
use Rattle.query_tokens.specs.scanning.PrefixedNames.{scan_local, scan_name}
use Rattle.query_tokens.specs.Variables.{is_variable_mark, is_variable_inner, IsVariableName}
use Rattle.query_tokens.specs.scanning.Variables.{after_variable_name}
use Rattle.query_tokens.specs.scanning.Strings.{after_string}
use Rattle.query_tokens.specs.scanning.Numbers.{scan_fraction, scan_number}
use Rattle.query_tokens.specs.Signs.{is_sign}
use Rattle.query_tokens.specs.Token.{IsToken}
use Rattle.query_tokens.specs.scanning.ScannedToken.{ScannedToken}
use Rattle.query_tokens.specs.scanning.Tokens.{as_kind, or_sign, after_two_more, scan_quoted, after_blank_label, after_circumflex, scan_sign, scan_marked, scan_token}
use Rattle.query_tokens.proofs.Reached.{Takes, by_test}
use Rattle.query_tokens.proofs.Iris.{after_iri-sound}
use Rattle.query_tokens.proofs.QuotedStrings.{after_string-sound}
use Rattle.query_tokens.proofs.NumberTexts.{IsUnsigned, scan_fraction-takes, scan_number-takes}
use Rattle.query_tokens.proofs.PrefixTexts.{IsNamed, scan_local-takes, scan_name-takes}

-- What is read is a token.
named_is_token : (kind : TokenKind) (text : List ℕ) → IsNamed kind text → IsToken kind text
named_is_token kind text (inl (same, is)) = subst (λ k. IsToken k text) (sym same) is
named_is_token kind text (inr (inl (same, is))) = subst (λ k. IsToken k text) (sym same) is
named_is_token kind text (inr (inr (same, is))) = subst (λ k. IsToken k text) (sym same) is

-- a number is a token
unsigned_is_token : (kind : TokenKind) (text : List ℕ) → IsUnsigned kind text → IsToken kind text
unsigned_is_token kind text (inl (same, is)) = subst (λ k. IsToken k text) (sym same) (inl is)
unsigned_is_token kind text (inr (inl (same, is))) = subst (λ k. IsToken k text) (sym same) (inl is)
unsigned_is_token kind text (inr (inr (same, is))) = subst (λ k. IsToken k text) (sym same) (inl is)

-- so is a number with a sign
signed_is_token : (kind : TokenKind) (sign : ℕ) (text : List ℕ) → is_number_sign sign ≡ true → IsUnsigned kind text → IsToken kind (sign ∷ text)
signed_is_token kind sign text mark (inl (same, is)) = subst (λ k. IsToken k (sign ∷ text)) (sym same) (inr (sign, text, mark, is, refl))
signed_is_token kind sign text mark (inr (inl (same, is))) = subst (λ k. IsToken k (sign ∷ text)) (sym same) (inr (sign, text, mark, is, refl))
signed_is_token kind sign text mark (inr (inr (same, is))) = subst (λ k. IsToken k (sign ∷ text)) (sym same) (inr (sign, text, mark, is, refl))

-- a name that is taken is a token
named_takes : (text : List ℕ) (found : ScannedToken) → Takes IsNamed text found → Takes IsToken text found
named_takes text found taken = record { front = taken.front; is = named_is_token found.0 taken.front taken.is; split = taken.split }

-- a number that is taken is a token
unsigned_takes : (text : List ℕ) (found : ScannedToken) → Takes IsUnsigned text found → Takes IsToken text found
unsigned_takes text found taken = record { front = taken.front; is = unsigned_is_token found.0 taken.front taken.is; split = taken.split }

-- so with a sign
signed_takes : (sign : ℕ) (text : List ℕ) (found : ScannedToken) → is_number_sign sign ≡ true → Takes IsUnsigned text found → Takes IsToken (sign ∷ text) found
signed_takes sign text found mark taken =
    record { front = sign ∷ taken.front; is = signed_is_token found.0 sign taken.front mark taken.is; split = ap (λ xs. sign ∷ xs) taken.split }

-- a token of this kind whose first character is read
abbrev Follows : TokenKind → ℕ → (List ℕ → Option (List ℕ)) → Type 0
Follows kind c after = (text rest : List ℕ) → after text ≡ Some rest → (front : List ℕ) × IsToken kind (c ∷ front) × (text ≡ front ++ rest)

-- what follows a first character makes a token with it
as_kind-takes : (kind : TokenKind) (c : ℕ) (after : List ℕ → Option (List ℕ)) → Follows kind c after → (text : List ℕ) (found : ScannedToken) → as_kind kind (after text) ≡ Some found → Takes IsToken (c ∷ text) found
as_kind-takes kind c after follows text found e =
    elim (after text) as (λ r. after text ≡ r → as_kind kind r ≡ Some found → Takes IsToken (c ∷ text) found) [
      | None ↦ λ read h. absurd (cc)
      | Some rest ↦ λ read h.
          let (front, is, split) = follows text rest read in
          subst (Takes IsToken (c ∷ text)) (same_Some (kind, rest) found h) record { front = c ∷ front; is = is; split = ap (λ xs. c ∷ xs) split }
    ] refl e

-- a sign is a token
sign_takes : (c : ℕ) (text : List ℕ) → is_sign c ≡ true → Takes IsToken (c ∷ text) (Sign, text)
sign_takes c text is = record { front = c ∷ []; is = inl (c, is, refl); split = refl }

-- a sign, or what is longer, is a token
or_sign-takes : (c : ℕ) (read : Option ScannedToken) (text : List ℕ) (found : ScannedToken) → is_sign c ≡ true → ((longer : ScannedToken) → read ≡ Some longer → Takes IsToken (c ∷ text) longer) → or_sign read text ≡ Some found → Takes IsToken (c ∷ text) found
or_sign-takes c None text found is takes e = subst (Takes IsToken (c ∷ text)) (same_Some (Sign, text) found e) (sign_takes c text is)
or_sign-takes c (Some longer) text found is takes e = subst (Takes IsToken (c ∷ text)) (same_Some longer found e) (takes longer refl)

-- variables
pub name-sound : (text rest : List ℕ) → after_variable_name text ≡ Some rest → (name : List ℕ) × IsVariableName name × (text ≡ name ++ rest)
unfolding after_variable_name
name-sound [] rest e = absurd (cc)
name-sound (c ∷ cs) rest e =
    let (first, same) = cond_some (is_sparql_label_first c) (after_run is_variable_inner cs) rest e in
    let (run, all, split) = after_run-split is_variable_inner cs in
    (c ∷ run, (c, run, first, all, refl), ap (λ xs. c ∷ xs) (split ∙ ap (λ xs. run ++ xs) same))

-- the name of a variable is passed
pub name-again : (name more : List ℕ) → IsVariableName name → after_variable_name (name ++ more) ≡ Some (after_run is_variable_inner more)
unfolding after_variable_name
name-again name more (c, rest, first, all, spelled) = rw (spelled, first, after_run-append is_variable_inner rest more all) refl

-- after its mark a variable's name follows
variable-follows : (mark : ℕ) → is_variable_mark mark ≡ true → Follows Variable mark after_variable_name
variable-follows mark is text rest e = let (name, named, split) = name-sound text rest e in (name, (mark, name, is, named, refl), split)

-- IRIs, tags and labels
iri-follows : Follows Iri 60 after_iri
iri-follows text rest e = after_iri-sound text rest e

-- after '@' a language tag follows
tag-follows : Follows Tag 64 (after_language_tag is_letter is_alphanumeric)
tag-follows text rest e =
    let (tag, is, split) = after_language_tag-sound is_letter is_alphanumeric text rest e in
    (tag, (tag, (is, refl)), split)

-- after '_' a label follows
label-follows : Follows Blank 95 after_blank_label
unfolding after_blank_label
label-follows text rest e =
    option_and_then_some (after_dotted_name is_sparql_label_first is_sparql_pn_chars) (after_char 58 text) rest e (λ after colon named.
    let (label, is, split) = after_dotted_name-sound is_sparql_label_first is_sparql_pn_chars after rest named in
    (58 ∷ label, (label, (is, refl)), after_char-some 58 text after colon ∙ ap (λ xs. 58 ∷ xs) split))

-- strings
quoted-follows : (mark : ℕ) → is_quote mark ≡ true → Follows Quoted mark (after_string mark)
quoted-follows mark quote text rest e = after_string-sound mark quote text rest e

-- three marks are a token
two_more-takes : (mark : ℕ) (text rest : List ℕ) → is_quote mark ≡ true → after_two_more mark text ≡ Some rest → Takes IsToken (mark ∷ text) (Quotes, rest)
unfolding after_two_more
two_more-takes mark text rest quote e =
    option_and_then_some (after_char mark) (after_char mark text) rest e (λ after second third.
    record {
      front = mark ∷ mark ∷ mark ∷ [];
      is = (mark, quote, refl);
      split = ap (λ xs. mark ∷ xs) (after_char-some mark text after second ∙ ap (λ xs. mark ∷ xs) (after_char-some mark after rest third));
    })

-- what begins with a mark of strings is a token
scan_quoted-takes : (mark : ℕ) (text : List ℕ) (found : ScannedToken) → is_quote mark ≡ true → scan_quoted mark text ≡ Some found → Takes IsToken (mark ∷ text) found
unfolding scan_quoted
scan_quoted-takes mark text found quote e =
    elim (after_two_more mark text) as (λ r. after_two_more mark text ≡ r → option_map_or (λ rest. Some (Quotes, rest)) r (as_kind Quoted (after_string mark text)) ≡ Some found → Takes IsToken (mark ∷ text) found) [
      | None ↦ λ read h. as_kind-takes Quoted mark (after_string mark) (quoted-follows mark quote) text found h
      | Some rest ↦ λ read h. subst (Takes IsToken (mark ∷ text)) (same_Some (Quotes, rest) found h) (two_more-takes mark text rest quote read)
    ] refl e

-- '+' is a sign
is_plus_sign : is_sign 43 ≡ true
unfolding is_sign
is_plus_sign = refl

-- '.' is a sign
is_stop_sign : is_sign 46 ≡ true
unfolding is_sign
is_stop_sign = refl

-- '?' is a sign
is_question_sign : is_sign 63 ≡ true
unfolding is_sign
is_question_sign = refl

-- '^' is a sign
is_circumflex_sign : is_sign 94 ≡ true
unfolding is_sign
is_circumflex_sign = refl

-- one or two circumflexes are a token
circumflex-takes : (text : List ℕ) → Takes IsToken (94 ∷ text) (Sign, after_circumflex text)
circumflex-takes text =
    elim (after_char 94 text) as (λ r. after_char 94 text ≡ r → Takes IsToken (94 ∷ text) (Sign, option_map_or (λ rest. rest) r text)) [
      | None ↦ λ e. sign_takes 94 text is_circumflex_sign
      | Some rest ↦ λ e. record { front = 94 ∷ 94 ∷ []; is = inr refl; split = ap (λ xs. 94 ∷ xs) (after_char-some 94 text rest e) }
    ] refl

-- what is taken at a sign is a token
scan_sign-takes : (c : ℕ) (text : List ℕ) (found : ScannedToken) → scan_sign c text ≡ Some found → Takes IsToken (c ∷ text) found
unfolding scan_sign
scan_sign-takes c text found e =
    let at : ℕ → Type 0 = λ x. Takes IsToken (x ∷ text) found in
    let variable : Option ScannedToken = as_kind Variable (after_variable_name text) in
    let from_sign : Option ScannedToken = if is_sign c then Some (Sign, text) else None in
    let from_circumflex : Option ScannedToken = if c == 94 then Some (Sign, after_circumflex text) else from_sign in
    let from_stop : Option ScannedToken = if c == 46 then or_sign (scan_fraction text) text else from_circumflex in
    let from_hyphen : Option ScannedToken = if c == 45 then scan_number text else from_stop in
    let from_plus : Option ScannedToken = if c == 43 then or_sign (scan_number text) text else from_hyphen in
    let from_dollar : Option ScannedToken = if c == 36 then variable else from_plus in
    by_test (c == 63) (or_sign variable text) from_dollar found e
    (λ is h. subst at (sym (eqb-true c 63 is)) (or_sign-takes 63 variable text found is_question_sign (as_kind-takes Variable 63 after_variable_name (variable-follows 63 refl) text) h))
    (λ _ e. by_test (c == 36) variable from_plus found e
    (λ is h. subst at (sym (eqb-true c 36 is)) (as_kind-takes Variable 36 after_variable_name (variable-follows 36 refl) text found h))
    (λ _ e. by_test (c == 43) (or_sign (scan_number text) text) from_hyphen found e
    (λ is h. subst at (sym (eqb-true c 43 is)) (or_sign-takes 43 (scan_number text) text found is_plus_sign (λ longer read. signed_takes 43 text longer refl (scan_number-takes text longer read)) h))
    (λ _ e. by_test (c == 45) (scan_number text) from_stop found e
    (λ is h. subst at (sym (eqb-true c 45 is)) (signed_takes 45 text found refl (scan_number-takes text found h)))
    (λ _ e. by_test (c == 46) (or_sign (scan_fraction text) text) from_circumflex found e
    (λ is h. subst at (sym (eqb-true c 46 is)) (or_sign-takes 46 (scan_fraction text) text found is_stop_sign (λ longer read. unsigned_takes (46 ∷ text) longer (scan_fraction-takes text longer read)) h))
    (λ _ e. by_test (c == 94) (Some (Sign, after_circumflex text)) from_sign found e
    (λ is h. subst at (sym (eqb-true c 94 is)) (subst (Takes IsToken (94 ∷ text)) (same_Some (Sign, after_circumflex text) found h) (circumflex-takes text)))
    (λ _ e. let (is, same) = cond_some (is_sign c) (Sign, text) found e in subst (Takes IsToken (c ∷ text)) same (sign_takes c text is)))))))

-- what is taken at a mark is a token
scan_marked-takes : (c : ℕ) (text : List ℕ) (found : ScannedToken) → scan_marked c text ≡ Some found → Takes IsToken (c ∷ text) found
unfolding scan_marked
scan_marked-takes c text found e =
    let at : ℕ → Type 0 = λ x. Takes IsToken (x ∷ text) found in
    let iri : Option ScannedToken = as_kind Iri (after_iri text) in
    let tag : Option ScannedToken = as_kind Tag (after_language_tag is_letter is_alphanumeric text) in
    let label : Option ScannedToken = as_kind Blank (after_blank_label text) in
    let from_colon : Option ScannedToken = if c == 58 then Some (scan_local text) else scan_sign c text in
    let from_label : Option ScannedToken = if c == 95 then label else from_colon in
    let from_tag : Option ScannedToken = if c == 64 then tag else from_label in
    let from_quote : Option ScannedToken = if is_quote c then scan_quoted c text else from_tag in
    by_test (c == 60) iri from_quote found e
    (λ is h. subst at (sym (eqb-true c 60 is)) (as_kind-takes Iri 60 after_iri iri-follows text found h))
    (λ _ e. by_test (is_quote c) (scan_quoted c text) from_tag found e
    (λ quote h. scan_quoted-takes c text found quote h)
    (λ _ e. by_test (c == 64) tag from_label found e
    (λ is h. subst at (sym (eqb-true c 64 is)) (as_kind-takes Tag 64 (after_language_tag is_letter is_alphanumeric) tag-follows text found h))
    (λ _ e. by_test (c == 95) label from_colon found e
    (λ is h. subst at (sym (eqb-true c 95 is)) (as_kind-takes Blank 95 after_blank_label label-follows text found h))
    (λ _ e. by_test (c == 58) (Some (scan_local text)) (scan_sign c text) found e
    (λ is h. subst at (sym (eqb-true c 58 is)) (subst (Takes IsToken (58 ∷ text)) (same_Some (scan_local text) found h) (named_takes (58 ∷ text) (scan_local text) (scan_local-takes (58 ∷ []) text ([], inl refl, refl)))))
    (λ _ e. scan_sign-takes c text found e)))))

-- what is taken is a token
pub scan_token-takes : (text : List ℕ) (found : ScannedToken) → scan_token text ≡ Some found → Takes IsToken text found
unfolding scan_token
scan_token-takes [] found e = absurd (cc)
scan_token-takes (c ∷ cs) found e =
    let from_digit : Option ScannedToken = if is_digit c then scan_number (c ∷ cs) else scan_marked c cs in
    by_test (is_pn_chars_base c) (scan_name (c ∷ cs)) from_digit found e
    (λ _ h. named_takes (c ∷ cs) found (scan_name-takes (c ∷ cs) found h))
    (λ _ e. by_test (is_digit c) (scan_number (c ∷ cs)) (scan_marked c cs) found e
    (λ _ h. unsigned_takes (c ∷ cs) found (scan_number-takes (c ∷ cs) found h))
    (λ _ h. scan_marked-takes c cs found h))
