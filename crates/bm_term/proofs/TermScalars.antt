-- A term has characters only, so its text is UTF-8.
use Rattle.std.proofs.Common.{◌≡◌, ℕ, ◌<◌, Bool, true, ◌&&◌, ◌||◌, not, ◌==◌, nat_lt, inl, inr, ⊎_elim, List, [], ◌∷◌, ◌++◌, refl, ◌∙◌, sym, arith}
use Rattle.std.proofs.lemmas.Bool.{and_parts, or_cases, eqb-true}
use Rattle.std.proofs.lemmas.Bool.Decides.{nat_tests}
use Rattle.std.specs.Cmp.Derive.{both_true}
use Rattle.std.specs.List.{list_all}
use Rattle.std.specs.Str.{all_scalars}
use lib.Utf8.{scalar, low_scalar}
use Rattle.rdf_text.specs.Classes.{is_scalar, is_irichar, is_pn_chars_base, is_pn_chars_more, is_nt_pn_chars_u, is_nt_pn_chars, is_nt_label_first, is_digit, is_lower_letter, is_lower_alphanumeric, is_excluded_mark}
use Rattle.rdf_text.specs.Repetition.{Star}
use Rattle.rdf_text.specs.Names.{is_dotted, IsDottedName, IsSubtag, IsLanguageTag}
use Rattle.bm_term.specs.Canonical.{RdfTerm, iri, blank, plain, tagged, typed, IsTerm, canonical_chars}
use Rattle.rdf_text.specs.Spelling.{escaped}
use Rattle.rdf_text.proofs.Scalars.{is_scalar-scalar, all_scalars-append}
use Rattle.rdf_text.proofs.Spellings.{all_scalars-escaped}

-- an IRICHAR is a character
irichar_is_scalar : (c : ℕ) → is_irichar c ≡ true → scalar c ≡ true
unfolding is_irichar
irichar_is_scalar c e =
    let (above, unmarked) = and_parts (is_scalar c && nat_lt 0x20 c) (not (is_excluded_mark c)) e in
    let (is, after_space) = and_parts (is_scalar c) (nat_lt 0x20 c) above in
    sym (is_scalar-scalar c) ∙ is

-- so is a member of PN_CHARS_BASE
base_is_scalar : (c : ℕ) → is_pn_chars_base c ≡ true → scalar c ≡ true
unfolding is_pn_chars_base
base_is_scalar c e = grind (arith, nat_tests)

-- so is what PN_CHARS has besides PN_CHARS_U
more_is_scalar : (c : ℕ) → is_pn_chars_more c ≡ true → scalar c ≡ true
unfolding is_pn_chars_more
more_is_scalar c e = grind (arith, nat_tests)

-- so is a digit
digit_is_scalar : (c : ℕ) → is_digit c ≡ true → scalar c ≡ true
unfolding is_digit
digit_is_scalar c e = grind (arith, nat_tests)

-- so is a small letter
lower_letter_is_scalar : (c : ℕ) → is_lower_letter c ≡ true → scalar c ≡ true
unfolding is_lower_letter
lower_letter_is_scalar c e = grind (arith, nat_tests)

-- so is each mark below the surrogates
mark_is_scalar : (mark : ℕ) → mark < 55296 → (c : ℕ) → (c == mark) ≡ true → scalar c ≡ true
mark_is_scalar mark small c e = rw (eqb-true c mark e) (low_scalar mark small)

-- so is a member of PN_CHARS_U
nt_pn_chars_u_is_scalar : (c : ℕ) → is_nt_pn_chars_u c ≡ true → scalar c ≡ true
unfolding is_nt_pn_chars_u
nt_pn_chars_u_is_scalar c e =
    ⊎_elim
    (λ e. ⊎_elim (base_is_scalar c) (mark_is_scalar 0x5F (omega arith) c) (or_cases (is_pn_chars_base c) (c == 0x5F) e))
    (mark_is_scalar 0x3A (omega arith) c)
    (or_cases (is_pn_chars_base c || c == 0x5F) (c == 0x3A) e)

-- so is a member of PN_CHARS
nt_pn_chars_is_scalar : (c : ℕ) → is_nt_pn_chars c ≡ true → scalar c ≡ true
unfolding is_nt_pn_chars
nt_pn_chars_is_scalar c e = ⊎_elim (nt_pn_chars_u_is_scalar c) (more_is_scalar c) (or_cases (is_nt_pn_chars_u c) (is_pn_chars_more c) e)

-- so is the first character of a label
nt_label_first_is_scalar : (c : ℕ) → is_nt_label_first c ≡ true → scalar c ≡ true
unfolding is_nt_label_first
nt_label_first_is_scalar c e = ⊎_elim (nt_pn_chars_u_is_scalar c) (digit_is_scalar c) (or_cases (is_nt_pn_chars_u c) (is_digit c) e)

-- so is a small letter or digit
lower_alphanumeric_is_scalar : (c : ℕ) → is_lower_alphanumeric c ≡ true → scalar c ≡ true
unfolding is_lower_alphanumeric
lower_alphanumeric_is_scalar c e = ⊎_elim (lower_letter_is_scalar c) (digit_is_scalar c) (or_cases (is_lower_letter c) (is_digit c) e)

-- the class has characters only
abbrev HasScalars : (ℕ → Bool) → Type 0
HasScalars p = (c : ℕ) → p c ≡ true → scalar c ≡ true

-- members of such a class are characters
all_scalars-list_all : (p : ℕ → Bool) → HasScalars p → (cs : List ℕ) → list_all p cs ≡ true → all_scalars cs ≡ true
all_scalars-list_all p scalars [] all = refl
all_scalars-list_all p scalars (c ∷ cs) all =
    let (first, others) = and_parts (p c) (list_all p cs) all in
    both_true (scalars c first) (all_scalars-list_all p scalars cs others)

-- two texts of characters in a row are one
both_scalars : (xs ys : List ℕ) → all_scalars xs ≡ true → all_scalars ys ≡ true → all_scalars (xs ++ ys) ≡ true
both_scalars xs ys first second = all_scalars-append xs ys ∙ both_true first second

-- a dotted name is of characters
dotted_name_scalars : (first inner : ℕ → Bool) → HasScalars first → HasScalars inner → (name : List ℕ) → IsDottedName first inner name → all_scalars name ≡ true
dotted_name_scalars first inner first_scalars inner_scalars name (c, rest, begins, inl nothing, spelled) =
    rw (spelled, nothing, first_scalars c begins) refl
dotted_name_scalars first inner first_scalars inner_scalars name (c, rest, begins, inr (middle, last, dotted, ends, split), spelled) =
    let dots : HasScalars (is_dotted inner) = λ d e. ⊎_elim (inner_scalars d) (mark_is_scalar 46 (omega arith) d) (or_cases (inner d) (d == 46) e) in
    rw (spelled, split)
    (both_true (first_scalars c begins) (both_scalars middle (last ∷ []) (all_scalars-list_all (is_dotted inner) dots middle dotted) (both_true (inner_scalars last ends) refl)))

-- subtags are of characters
subtags_scalars : (alphanumeric : ℕ → Bool) → HasScalars alphanumeric → (subtags : List (List ℕ)) (text : List ℕ) → Star (IsSubtag alphanumeric) text subtags → all_scalars text ≡ true
subtags_scalars alphanumeric scalars [] text star = rw star refl
subtags_scalars alphanumeric scalars (subtag ∷ subtags) text (front, rest, (run, spelled), star, split) =
    rw (split, spelled)
    (both_scalars subtag rest (all_scalars-list_all alphanumeric scalars subtag run.1) (subtags_scalars alphanumeric scalars subtags rest star))

-- a language tag is of characters
language_tag_scalars : (letter alphanumeric : ℕ → Bool) → HasScalars letter → HasScalars alphanumeric → (tag : List ℕ) → IsLanguageTag letter alphanumeric tag → all_scalars tag ≡ true
language_tag_scalars letter alphanumeric letters alphanumerics tag (primary, rest, subtags, run, star, split) =
    rw split (both_scalars primary rest (all_scalars-list_all letter letters primary run.1) (subtags_scalars alphanumeric alphanumerics subtags rest star))

-- the text of a term is of characters
pub canonical_scalars : (term : RdfTerm) → IsTerm term → all_scalars (canonical_chars term) ≡ true
canonical_scalars (iri chars) is = both_scalars chars (62 ∷ []) (all_scalars-list_all is_irichar irichar_is_scalar chars is) refl
canonical_scalars (blank label) is = dotted_name_scalars is_nt_label_first is_nt_pn_chars nt_label_first_is_scalar nt_pn_chars_is_scalar label is
canonical_scalars (plain lexical) is = both_scalars (escaped lexical) (34 ∷ []) (all_scalars-escaped lexical ∙ is) refl
canonical_scalars (tagged lexical tag) is =
    both_scalars (escaped lexical) (34 ∷ 64 ∷ tag) (all_scalars-escaped lexical ∙ is.0)
    (language_tag_scalars is_lower_letter is_lower_alphanumeric lower_letter_is_scalar lower_alphanumeric_is_scalar tag is.1)
canonical_scalars (typed lexical datatype) is =
    both_scalars (escaped lexical) (34 ∷ 94 ∷ 94 ∷ 60 ∷ (datatype ++ 62 ∷ [])) (all_scalars-escaped lexical ∙ is.0)
    (both_scalars datatype (62 ∷ []) (all_scalars-list_all is_irichar irichar_is_scalar datatype is.1) refl)
