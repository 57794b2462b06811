-- Prefixes and local names: what stands before the colon, and what stands after it without backslashes.
use Rattle.std.proofs.Common.{◌≡◌, ℕ, Bool, true, false, ◌||◌, ◌==◌, ◌⊎◌, inl, inr, ⊎_elim, List, [], ◌∷◌, ◌++◌, refl, ap, ◌∙◌, sym, append-nil, arith}
use Rattle.std.proofs.lemmas.Bool.{and_parts, or_cases, eqb-true}
use Rattle.std.proofs.lemmas.Bool.Decides.{nat_tests}
use Rattle.std.proofs.lemmas.List.Elements.{filter-append}
use Rattle.std.proofs.lemmas.List.Folds.{list_all-append, concat-append}
use Rattle.std.specs.Cmp.Derive.{both_true}
use Rattle.std.specs.List.{list_all, filter, concat}
use Rattle.rdf_text.specs.Classes.{is_scalar, is_irichar, is_hex, is_digit, is_pn_chars_base, is_sparql_pn_chars_u, is_pn_chars_more, is_sparql_pn_chars}
use Rattle.rdf_text.specs.Marks.{colon, full_stop, backslash}
use Rattle.rdf_text.specs.Names.{is_dotted, IsDottedRest}
use Rattle.rdf_text.specs.Repetition.{Star}
use Rattle.rdf_text.specs.scanning.Text.{before}
use Rattle.rdf_text.proofs.TextLemmas.{after_run-append, after_run-stop, before-append}
use Rattle.query_tokens.specs.PrefixedNames.{IsPrefixName, is_local_escape, IsLocalPiece, is_local_first, is_local_inner, IsLocalRest, SpellsLocal}
use Rattle.query_values.specs.reading.Values.{is_no_colon, is_no_backslash, from_colon}

-- members of a class are other than a character that is none
others : (p : ℕ → Bool) (d : ℕ) → p d ≡ false → (c : ℕ) → p c ≡ true → (c == d) ≡ false
others p d none c is =
    elim (c == d) as (λ b. (c == d) ≡ b → b ≡ false) [
      | true ↦ λ e. let same = ap p (eqb-true c d e) in absurd (cc)
      | false ↦ λ e. refl
    ] refl

no_colon : (p : ℕ → Bool) → p colon ≡ false → (c : ℕ) → p c ≡ true → is_no_colon c ≡ true
unfolding is_no_colon
no_colon p none c is = rw (others p colon none c is) refl

no_colons : (p : ℕ → Bool) → p colon ≡ false → (cs : List ℕ) → list_all p cs ≡ true → list_all is_no_colon cs ≡ true
no_colons p none [] all = refl
no_colons p none (c ∷ cs) all =
    let (first, rest) = and_parts (p c) (list_all p cs) all in
    both_true (no_colon p none c first) (no_colons p none cs rest)

base_has_no_colon : is_pn_chars_base colon ≡ false
unfolding is_pn_chars_base
base_has_no_colon = refl

inner_has_no_colon : is_sparql_pn_chars colon ≡ false
unfolding is_sparql_pn_chars is_sparql_pn_chars_u is_pn_chars_base is_pn_chars_more
inner_has_no_colon = refl

dotted_has_no_colon : is_dotted is_sparql_pn_chars colon ≡ false
dotted_has_no_colon = rw inner_has_no_colon refl

rest_has_no_colon : (rest : List ℕ) → IsDottedRest is_sparql_pn_chars rest → list_all is_no_colon rest ≡ true
rest_has_no_colon rest (inl empty) = rw empty refl
rest_has_no_colon rest (inr (middle, last, all, is, spelled)) =
    rw spelled
    (list_all-append is_no_colon middle (last ∷ [])
    ∙ both_true (no_colons (is_dotted is_sparql_pn_chars) dotted_has_no_colon middle all) (both_true (no_colon is_sparql_pn_chars inner_has_no_colon last is) refl))

prefix_has_no_colon : (name : List ℕ) → (name ≡ []) ⊎ IsPrefixName name → list_all is_no_colon name ≡ true
prefix_has_no_colon name (inl empty) = rw empty refl
prefix_has_no_colon name (inr (c, rest, is, is_rest, spelled)) =
    rw spelled (both_true (no_colon is_pn_chars_base base_has_no_colon c is) (rest_has_no_colon rest is_rest))

colon_stops : is_no_colon colon ≡ false
unfolding is_no_colon
colon_stops = refl

pub from_colon-name : (name local : List ℕ) → (name ≡ []) ⊎ IsPrefixName name → from_colon (name ++ colon ∷ local) ≡ colon ∷ local
from_colon-name name local is =
    after_run-append is_no_colon name (colon ∷ local) (prefix_has_no_colon name is) ∙ after_run-stop is_no_colon colon local colon_stops

pub before_colon : (name local : List ℕ) → (name ≡ []) ⊎ IsPrefixName name → before (name ++ colon ∷ local) (from_colon (name ++ colon ∷ local)) ≡ name
before_colon name local is = rw (from_colon-name name local is) (before-append name (colon ∷ local))

-- a piece of a local name, without its backslash
stays : (p : ℕ → Bool) → p backslash ≡ false → (c : ℕ) → p c ≡ true → (cs : List ℕ) → filter is_no_backslash (c ∷ cs) ≡ c ∷ filter is_no_backslash cs
unfolding is_no_backslash
stays p none c is cs = rw (others p backslash none c is) refl

goes : (cs : List ℕ) → filter is_no_backslash (backslash ∷ cs) ≡ filter is_no_backslash cs
unfolding is_no_backslash
goes cs = refl

hex_no_backslash : is_hex backslash ≡ false
unfolding is_hex
hex_no_backslash = refl

escape_no_backslash : is_local_escape backslash ≡ false
unfolding is_local_escape
escape_no_backslash = refl

first_no_backslash : is_local_first backslash ≡ false
unfolding is_local_first is_sparql_pn_chars_u is_pn_chars_base is_digit
first_no_backslash = refl

inner_no_backslash : is_local_inner backslash ≡ false
unfolding is_local_inner is_sparql_pn_chars is_sparql_pn_chars_u is_pn_chars_base is_pn_chars_more
inner_no_backslash = refl

dotted_no_backslash : is_dotted is_local_inner backslash ≡ false
dotted_no_backslash = rw inner_no_backslash refl

percent_stays : (cs : List ℕ) → filter is_no_backslash (37 ∷ cs) ≡ 37 ∷ filter is_no_backslash cs
unfolding is_no_backslash
percent_stays cs = refl

piece_value : (members : ℕ → Bool) → members backslash ≡ false → (text value : List ℕ) → IsLocalPiece members text value → filter is_no_backslash text ≡ value
piece_value members none text value (inl (c, is, spelled, same)) = rw (same, spelled) (stays members none c is [])
piece_value members none text value (inr (inl (a, b, a_hex, b_hex, spelled, same))) =
    rw (same, spelled)
    (percent_stays (a ∷ b ∷ []) ∙ ap (λ xs. 37 ∷ xs) (stays is_hex hex_no_backslash a a_hex (b ∷ []) ∙ ap (λ xs. a ∷ xs) (stays is_hex hex_no_backslash b b_hex [])))
piece_value members none text value (inr (inr (c, is, spelled, same))) =
    rw (same, spelled) (goes (c ∷ []) ∙ stays is_local_escape escape_no_backslash c is [])

pieces_value : (members : ℕ → Bool) → members backslash ≡ false → (values : List (List ℕ)) (text : List ℕ) → Star (IsLocalPiece members) text values → filter is_no_backslash text ≡ concat values
pieces_value members none [] text star = rw star refl
pieces_value members none (value ∷ values) text (front, rest, piece, star, split) =
    rw (split, filter-append is_no_backslash front rest, piece_value members none front value piece, pieces_value members none values rest star) refl

rest_value : (text : List ℕ) (values : List (List ℕ)) → IsLocalRest text values → filter is_no_backslash text ≡ concat values
rest_value text values (inl (empty, none)) = rw (empty, none) refl
rest_value text values (inr (middle, last, value, before, star, piece, split, same)) =
    rw (split, same, filter-append is_no_backslash middle last, pieces_value (is_dotted is_local_inner) dotted_no_backslash before middle star, piece_value is_local_inner inner_no_backslash last value piece)
    (ap (λ xs. concat before ++ xs) (sym (append-nil value)) ∙ sym (concat-append before (value ∷ [])))

pub local_value : (text : List ℕ) (values : List (List ℕ)) → SpellsLocal text values → filter is_no_backslash text ≡ concat values
local_value text values (first, rest, value, others, piece, is_rest, split, same) =
    rw (split, same, filter-append is_no_backslash first rest, piece_value is_local_first first_no_backslash first value piece, rest_value rest others is_rest) refl

-- all of them may stand in an IRI
hex_in_iri : (c : ℕ) → is_hex c ≡ true → is_irichar c ≡ true
unfolding is_hex is_irichar is_scalar
hex_in_iri c is = grind (arith, nat_tests)

digit_in_iri : (c : ℕ) → is_digit c ≡ true → is_irichar c ≡ true
unfolding is_digit is_irichar is_scalar
digit_in_iri c is = grind (arith, nat_tests)

base_in_iri : (c : ℕ) → is_pn_chars_base c ≡ true → is_irichar c ≡ true
unfolding is_pn_chars_base is_irichar is_scalar
base_in_iri c is = grind (arith, nat_tests)

more_in_iri : (c : ℕ) → is_pn_chars_more c ≡ true → is_irichar c ≡ true
unfolding is_pn_chars_more is_irichar is_scalar
more_in_iri c is = grind (arith, nat_tests)

escape_in_iri : (c : ℕ) → is_local_escape c ≡ true → is_irichar c ≡ true
unfolding is_local_escape is_irichar is_scalar
escape_in_iri c is = grind (arith, nat_tests)

mark_in_iri : (mark : ℕ) → is_irichar mark ≡ true → (c : ℕ) → (c == mark) ≡ true → is_irichar c ≡ true
mark_in_iri mark member c same = rw (eqb-true c mark same) member

colon_in_iri : is_irichar colon ≡ true
unfolding is_irichar is_scalar
colon_in_iri = refl

low_line_in_iri : is_irichar 0x5F ≡ true
unfolding is_irichar is_scalar
low_line_in_iri = refl

full_stop_in_iri : is_irichar full_stop ≡ true
unfolding is_irichar is_scalar
full_stop_in_iri = refl

percent_in_iri : is_irichar 37 ≡ true
unfolding is_irichar is_scalar
percent_in_iri = refl

u_in_iri : (c : ℕ) → is_sparql_pn_chars_u c ≡ true → is_irichar c ≡ true
unfolding is_sparql_pn_chars_u
u_in_iri c is = ⊎_elim (base_in_iri c) (mark_in_iri 0x5F low_line_in_iri c) (or_cases (is_pn_chars_base c) (c == 0x5F) is)

first_in_iri : (c : ℕ) → is_local_first c ≡ true → is_irichar c ≡ true
unfolding is_local_first
first_in_iri c is =
    ⊎_elim
    (λ e. ⊎_elim (u_in_iri c) (mark_in_iri colon colon_in_iri c) (or_cases (is_sparql_pn_chars_u c) (c == colon) e))
    (digit_in_iri c)
    (or_cases (is_sparql_pn_chars_u c || c == colon) (is_digit c) is)

chars_in_iri : (c : ℕ) → is_sparql_pn_chars c ≡ true → is_irichar c ≡ true
unfolding is_sparql_pn_chars
chars_in_iri c is = ⊎_elim (u_in_iri c) (more_in_iri c) (or_cases (is_sparql_pn_chars_u c) (is_pn_chars_more c) is)

inner_in_iri : (c : ℕ) → is_local_inner c ≡ true → is_irichar c ≡ true
unfolding is_local_inner
inner_in_iri c is = ⊎_elim (chars_in_iri c) (mark_in_iri colon colon_in_iri c) (or_cases (is_sparql_pn_chars c) (c == colon) is)

dotted_in_iri : (c : ℕ) → is_dotted is_local_inner c ≡ true → is_irichar c ≡ true
dotted_in_iri c is = ⊎_elim (inner_in_iri c) (mark_in_iri full_stop full_stop_in_iri c) (or_cases (is_local_inner c) (c == full_stop) is)

piece_in_iri : (members : ℕ → Bool) → ((c : ℕ) → members c ≡ true → is_irichar c ≡ true) → (text value : List ℕ) → IsLocalPiece members text value → list_all is_irichar value ≡ true
piece_in_iri members in_iri text value (inl (c, is, spelled, same)) = rw (same, spelled) (both_true (in_iri c is) refl)
piece_in_iri members in_iri text value (inr (inl (a, b, a_hex, b_hex, spelled, same))) =
    rw (same, spelled) (both_true percent_in_iri (both_true (hex_in_iri a a_hex) (both_true (hex_in_iri b b_hex) refl)))
piece_in_iri members in_iri text value (inr (inr (c, is, spelled, same))) = rw same (both_true (escape_in_iri c is) refl)

pieces_in_iri : (members : ℕ → Bool) → ((c : ℕ) → members c ≡ true → is_irichar c ≡ true) → (values : List (List ℕ)) (text : List ℕ) → Star (IsLocalPiece members) text values → list_all is_irichar (concat values) ≡ true
pieces_in_iri members in_iri [] text star = refl
pieces_in_iri members in_iri (value ∷ values) text (front, rest, piece, star, split) =
    list_all-append is_irichar value (concat values) ∙ both_true (piece_in_iri members in_iri front value piece) (pieces_in_iri members in_iri values rest star)

rest_in_iri : (text : List ℕ) (values : List (List ℕ)) → IsLocalRest text values → list_all is_irichar (concat values) ≡ true
rest_in_iri text values (inl (empty, none)) = rw none refl
rest_in_iri text values (inr (middle, last, value, before, star, piece, split, same)) =
    rw (same, concat-append before (value ∷ []), append-nil value)
    (list_all-append is_irichar (concat before) value ∙ both_true (pieces_in_iri (is_dotted is_local_inner) dotted_in_iri before middle star) (piece_in_iri is_local_inner inner_in_iri last value piece))

pub local_in_iri : (text : List ℕ) (values : List (List ℕ)) → SpellsLocal text values → list_all is_irichar (concat values) ≡ true
local_in_iri text values (first, rest, value, others, piece, is_rest, split, same) =
    rw same
    (list_all-append is_irichar value (concat others) ∙ both_true (piece_in_iri is_local_first first_in_iri first value piece) (rest_in_iri rest others is_rest))
