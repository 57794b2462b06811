-- Where no prefix with a name begins: once a run of the characters of names was looked through, none begins within it.
use Rattle.std.proofs.Common.{◌≡◌, ℕ, ◌<◌, true, false, inl, inr, Some, None, List, [], ◌∷◌, ◌++◌, length, refl, ap, ◌∙◌, sym, subst, arith, append_assoc, append-nil, length-append}
use Rattle.std.specs.Prelude.{unwrap_or}
use Rattle.std.specs.List.{list_all}
use Rattle.std.specs.Option.{option_map, option_map_or}
use Rattle.std.specs.Cmp.Derive.{both_true}
use Rattle.std.specs.Str.{chars, IsUtf8, encode_utf8_all}
use Rattle.std.proofs.lemmas.Bool.{and_parts}
use Rattle.std.proofs.lemmas.List.{nil_from_length}
use Rattle.std.proofs.lemmas.List.Folds.{list_all-append}
use Rattle.std.proofs.lemmas.Option.{same_Some}
use Rattle.std.proofs.lemmas.Str.{encodes-append, encodes-chars}
use Rattle.rdf_text.specs.Classes.{is_letter, is_pn_chars_base, is_sparql_pn_chars_u, is_sparql_pn_chars}
use Rattle.rdf_text.specs.scanning.Text.{after_run, after_some}
use Rattle.rdf_text.specs.Text.{IsRun}
use Rattle.rdf_text.proofs.TextLemmas.{after_run-split, after_run-append, after_run-stop, after_run-after_run}
use Rattle.query_tokens.specs.declared.token.TokenKind.TheVariants.{Prefix, Prefixed, Word, Bad}
use Rattle.query_tokens.specs.PrefixedNames.{IsPrefixName}
use Rattle.query_tokens.specs.scanning.PrefixedNames.{is_prefix_char, after_local, scan_local, after_prefix, scan_name, HasNoPrefixBefore}
use Rattle.query_tokens.specs.Token.{IsToken}
use Rattle.query_tokens.specs.scanning.ScannedToken.{ScannedToken}
use Rattle.query_tokens.specs.scanning.Tokens.{scan_token, scan_or_bad}
use Rattle.query_tokens.proofs.Walks.{goes_on}
use Rattle.query_tokens.proofs.PrefixTexts.{no_colon, after_prefix-again, after_prefix-sound}
use Rattle.query_tokens.proofs.TokenTexts.{scan_token-takes}
use Rattle.query_tokens.proofs.TokenFronts.{scan_token-name}
use Rattle.query_tokens.proofs.TokenReaches.{letter_is_base}

-- in the whole text none begins where more bytes are left than it has
pub none_at_first : (text : List ℕ) → IsUtf8 text → HasNoPrefixBefore (length text) (chars text)
none_at_first text utf8 front after split more =
    let bytes = sym (encodes-chars text utf8) ∙ ap encode_utf8_all split ∙ encodes-append front after in
    absurd (omega (arith, ap length bytes, length-append (encode_utf8_all front) (encode_utf8_all after)))

-- nor in what is left of a text
pub none_in_rest : (left : ℕ) (text front rest : List ℕ) → HasNoPrefixBefore left text → text ≡ front ++ rest → HasNoPrefixBefore left rest
none_in_rest left text front rest none split before after cut more =
    none (front ++ before) after (split ∙ ap (λ xs. front ++ xs) cut ∙ sym (append_assoc front before after)) more

-- nor at its beginning, where it is longer
pub none_here : (left : ℕ) (text : List ℕ) → IsUtf8 text → HasNoPrefixBefore left (chars text) → left < length text → after_prefix (chars text) ≡ None
none_here left text utf8 none more =
    let bytes : length (encode_utf8_all (chars text)) ≡ length text = ap length (encodes-chars text utf8) in
    none [] (chars text) refl (omega arith)

-- all characters of a name
base_is_inner : (c : ℕ) → is_pn_chars_base c ≡ true → is_sparql_pn_chars c ≡ true
unfolding is_sparql_pn_chars is_sparql_pn_chars_u
base_is_inner c is = rw is refl

-- a character inside a prefix is one of prefixes
inner_is_char : (c : ℕ) → is_sparql_pn_chars c ≡ true → is_prefix_char c ≡ true
inner_is_char c is = rw is refl

-- the name of a prefix is of such characters
name_chars : (name : List ℕ) → IsPrefixName name → list_all is_prefix_char name ≡ true
name_chars name (c, rest, begins, inl nothing, spelled) = rw (spelled, nothing) (both_true (inner_is_char c (base_is_inner c begins)) refl)
name_chars name (c, rest, begins, inr (middle, last, dotted, ends, split), spelled) =
    let others : list_all is_prefix_char (middle ++ last ∷ []) ≡ true = rw list_all-append (both_true dotted (both_true (inner_is_char last ends) refl)) in
    rw (spelled, split) (both_true (inner_is_char c (base_is_inner c begins)) others)

-- the colon is none of them
no_prefix_colon : is_prefix_char 58 ≡ false
no_prefix_colon = rw no_colon refl

-- a run of such characters that begins as a name and ends as one is a name
longer_name : (c : ℕ) (middle name : List ℕ) → is_pn_chars_base c ≡ true → list_all is_prefix_char middle ≡ true → IsPrefixName name → IsPrefixName (c ∷ (middle ++ name))
longer_name c middle name begins all (d, rest, base, inl nothing, spelled) =
    (c, middle ++ name, begins, inr (middle, d, all, base_is_inner d base, ap (λ xs. middle ++ xs) (spelled ∙ ap (λ xs. d ∷ xs) nothing)), refl)
longer_name c middle name begins all (d, rest, base, inr (inner, last, dotted, ends, split), spelled) =
    let whole : middle ++ name ≡ (middle ++ d ∷ inner) ++ last ∷ [] = ap (λ xs. middle ++ xs) (spelled ∙ ap (λ xs. d ∷ xs) split) ∙ sym (append_assoc middle (d ∷ inner) (last ∷ [])) in
    let front : list_all is_prefix_char (middle ++ d ∷ inner) ≡ true = rw list_all-append (both_true all (both_true (inner_is_char d (base_is_inner d base)) dotted)) in
    (c, middle ++ name, begins, inr (middle ++ d ∷ inner, last, front, ends, whole), refl)

-- the run ends where a prefix within it has its colon
ends_at_colon : (more end name rest : List ℕ) → list_all is_prefix_char more ≡ true → after_run is_prefix_char end ≡ end → IsPrefixName name → more ++ end ≡ name ++ 58 ∷ rest → end ≡ 58 ∷ rest
ends_at_colon more end name rest all stuck is split =
    let left : after_run is_prefix_char (more ++ end) ≡ end = after_run-append is_prefix_char more end all ∙ stuck in
    let right : after_run is_prefix_char (name ++ 58 ∷ rest) ≡ 58 ∷ rest =
    after_run-append is_prefix_char name (58 ∷ rest) (name_chars name is) ∙ after_run-stop is_prefix_char 58 rest no_prefix_colon in
    sym left ∙ ap (after_run is_prefix_char) split ∙ right

-- texts with the same rest have the same front
same_front : (xs ys zs : List ℕ) → xs ++ zs ≡ ys ++ zs → xs ≡ ys
same_front xs ys zs same = elim (goes_on xs zs ys zs same) [
  | inl (more, ys_is, zs_is) ↦ let none : more ≡ [] = nil_from_length more (omega (arith, ap length zs_is, length-append more zs)) in sym (ys_is ∙ ap (λ m. xs ++ m) none ∙ append-nil xs)
  | inr (more, xs_is, zs_is) ↦ let none : more ≡ [] = nil_from_length more (omega (arith, ap length zs_is, length-append more zs)) in xs_is ∙ ap (λ m. ys ++ m) none ∙ append-nil ys
]

-- a name with its colon after such characters makes a longer name
named_front : (c : ℕ) (cs front name rest : List ℕ) → is_pn_chars_base c ≡ true → list_all is_prefix_char front ≡ true → IsPrefixName name → c ∷ cs ≡ front ++ (name ++ 58 ∷ rest) → after_prefix (c ∷ cs) ≡ Some rest
named_front c cs [] name rest begins all is text = ap after_prefix text ∙ after_prefix-again name rest is
named_front c cs (d ∷ ds) name rest begins all is text =
    let (first, others) = and_parts (is_prefix_char d) (list_all is_prefix_char ds) all in
    let same : d ≡ c = cc in
    let longer = longer_name c ds name begins others is in
    let spelled : c ∷ cs ≡ (c ∷ (ds ++ name)) ++ 58 ∷ rest = text ∙ ap (λ x. x ∷ (ds ++ (name ++ 58 ∷ rest))) same ∙ ap (λ xs. c ∷ xs) (sym (append_assoc ds name (58 ∷ rest))) in
    ap after_prefix spelled ∙ after_prefix-again (c ∷ (ds ++ name)) rest longer

-- so where such a run is no prefix, none begins within it
prefix_in_front : (c : ℕ) (cs run end front more name rest : List ℕ) → is_pn_chars_base c ≡ true → c ∷ cs ≡ run ++ end → list_all is_prefix_char run ≡ true → after_run is_prefix_char end ≡ end
    → run ≡ front ++ more → IsPrefixName name → more ++ end ≡ name ++ 58 ∷ rest → after_prefix (c ∷ cs) ≡ Some rest
prefix_in_front c cs run end front more name rest begins whole all stuck run_is is split =
    let front_and_more : list_all is_prefix_char (front ++ more) ≡ true = subst (λ xs. list_all is_prefix_char xs ≡ true) run_is all in
    let (front_all, more_all) = and_parts (list_all is_prefix_char front) (list_all is_prefix_char more) (rw list_all-append at front_and_more) in
    let colon = ends_at_colon more end name rest more_all stuck is split in
    let same : more ≡ name = same_front more name (58 ∷ rest) (ap (λ xs. more ++ xs) (sym colon) ∙ split) in
    let text : c ∷ cs ≡ front ++ (name ++ 58 ∷ rest) = whole ∙ ap (λ xs. xs ++ end) run_is ∙ append_assoc front more end ∙ ap (λ xs. front ++ xs) split in
    named_front c cs front name rest begins front_all is text

-- a text that begins as a name does, and with no prefix
pub record BeginsUnprefixed (text : List ℕ) : Type 0 where
  pub c : ℕ
  pub cs : List ℕ
  pub spelled : text ≡ c ∷ cs
  pub begins : is_pn_chars_base c ≡ true
  pub none : after_prefix text ≡ None

-- no prefix begins inside a run of such characters
none_in_run : (text front after : List ℕ) → BeginsUnprefixed text → text ≡ front ++ after → length (encode_utf8_all (after_run is_prefix_char text)) < length (encode_utf8_all after) → after_prefix after ≡ None
none_in_run text front after unprefixed split more =
    let end = after_run is_prefix_char text in
    let (run, all, run_split) = after_run-split is_prefix_char text in
    elim (after_prefix after) as (λ r. after_prefix after ≡ r → r ≡ None) [
      | None ↦ λ e. refl
      | Some rest ↦ λ e.
          let (name, is, named) = after_prefix-sound after rest e in
          elim (goes_on run end front after (sym run_split ∙ split)) [
            | inl (between, front_is, end_is) ↦
                let bytes = ap encode_utf8_all end_is ∙ encodes-append between after in
                absurd (omega (arith, ap length bytes, length-append (encode_utf8_all between) (encode_utf8_all after)))
            | inr (between, run_is, after_is) ↦
                let found : after_prefix (unprefixed.c ∷ unprefixed.cs) ≡ Some rest =
                prefix_in_front unprefixed.c unprefixed.cs run end front between name rest unprefixed.begins (sym unprefixed.spelled ∙ run_split) all (after_run-after_run is_prefix_char text) run_is is (sym after_is ∙ named) in
                let nothing : after_prefix (unprefixed.c ∷ unprefixed.cs) ≡ None = ap after_prefix (sym unprefixed.spelled) ∙ unprefixed.none in
                absurd (cc)
          ]
    ] refl

-- so none begins where more is left than follows the run
pub none_after_run : (text rest : List ℕ) → IsUtf8 rest → BeginsUnprefixed (chars text) → chars rest ≡ after_run is_prefix_char (chars text) → HasNoPrefixBefore (length rest) (chars text)
none_after_run text rest utf8 unprefixed left front after split more =
    let bytes : length (encode_utf8_all (after_run is_prefix_char (chars text))) ≡ length rest = ap (λ cs. length (encode_utf8_all cs)) (sym left) ∙ ap length (encodes-chars rest utf8) in
    none_in_run (chars text) front after unprefixed split (omega arith)

-- a word begins so
local_is_no_word : (rest : List ℕ) → (scan_local rest).0 ≡ Word → ⊥
local_is_no_word rest e =
    elim (after_local rest) as (λ r. (option_map_or {U = ScannedToken} (λ rest. (Prefixed, rest)) r (Prefix, rest)).0 ≡ Word → ⊥) [
      | None ↦ λ h. cc
      | Some after ↦ λ h. cc
    ] e

-- a word is no prefix
named_word : (text : List ℕ) (found : ScannedToken) → scan_name text ≡ Some found → found.0 ≡ Word → after_prefix text ≡ None
unfolding scan_name
named_word text found read is =
    elim (after_prefix text) as (λ r. option_map_or (λ rest. Some (scan_local rest)) r (option_map (λ rest. (Word, rest)) (after_some is_letter text)) ≡ Some found → r ≡ None) [
      | None ↦ λ h. refl
      | Some rest ↦ λ h. absurd (local_is_no_word rest (ap (λ (p : ScannedToken). p.0) (same_Some (scan_local rest) found h) ∙ is))
    ] read

-- a word begins with a letter, and no prefix begins there
letters_begin : (text front : List ℕ) (found : ScannedToken) → scan_token text ≡ Some found → found.0 ≡ Word → IsRun is_letter front → text ≡ front ++ found.1 → BeginsUnprefixed text
letters_begin text [] found read is (long, all) split = absurd (omega arith)
letters_begin text (c ∷ cs) found read is (long, all) split =
    let (first, others) = and_parts (is_letter c) (list_all is_letter cs) all in
    let base = letter_is_base c first in
    let named : scan_name text ≡ Some found = ap scan_name split ∙ sym (scan_token-name c (cs ++ found.1) base) ∙ ap scan_token (sym split) ∙ read in
    record { c = c; cs = cs ++ found.1; spelled = split; begins = base; none = named_word text found named is }

-- so for a token that is a word
word_text : (text : List ℕ) (found : ScannedToken) → scan_token text ≡ Some found → found.0 ≡ Word → BeginsUnprefixed text
word_text text found read is =
    let taken = scan_token-takes text found read in
    let word : IsRun is_letter taken.front = subst (λ k. IsToken k taken.front) is taken.is in
    letters_begin text taken.front found read is word taken.split

-- so for what is read at a place
pub word_begins : (text : List ℕ) → (scan_or_bad text).0 ≡ Word → BeginsUnprefixed text
unfolding scan_or_bad
word_begins text is =
    elim (scan_token text) as (λ r. scan_token text ≡ r → (unwrap_or r (Bad, [])).0 ≡ Word → BeginsUnprefixed text) [
      | None ↦ λ e h. absurd (cc)
      | Some found ↦ λ e h. word_text text found e h
    ] refl is
