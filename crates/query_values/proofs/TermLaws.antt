-- Texts that are written part by part, and the terms whose canonical texts they are.
use Rattle.std.proofs.Common.{◌≡◌, ◌≢◌, ℕ, Result, Ok, Err, Bool, true, false, if◌then◌else◌, bytes_eq, cond, List, [], ◌∷◌, ◌++◌, map, refl, ap, ◌∙◌, sym, append-nil, arith}
use Rattle.std.specs.Prelude.{encode_utf8, is_ok, OnOk}
use Rattle.std.specs.Char.{to_ascii_lowercase}
use Rattle.std.specs.Cmp.Derive.{both_true}
use Rattle.std.specs.List.{filter}
use Rattle.std.specs.Str.{chars, encode_utf8_all, all_scalars, IsUtf8}
use Rattle.std.proofs.lemmas.Bool.{and_parts}
use Rattle.std.proofs.lemmas.Bool.Decides.{nat_tests}
use Rattle.std.proofs.lemmas.Slice.Eq.{bytes_eq-Decides}
use Rattle.std.proofs.lemmas.Str.{encodes-chars}
use lib.Utf8.{scalar}
use Rattle.rdf_text.specs.Classes.{is_scalar}
use Rattle.bm_term.specs.Canonical.{RdfTerm, iri, plain, typed, IsTerm, IsCanonical, canonical_text}
use Rattle.rdf_text.specs.Spelling.{escaped}
use Rattle.rdf_text.specs.Marks.{quotation_mark, circumflex}
use Rattle.rdf_text.proofs.Scalars.{is_scalar-scalar}
use Rattle.bm_term.proofs.WrittenTerms.{marked_bytes, typed_bytes}

-- the canonical text of a term is canonical
pub is_canonical : (term : RdfTerm) (text : List ℕ) → IsTerm term → text ≡ canonical_text term → ∥ IsCanonical text ∥₁
is_canonical term text is spelled = ∣ record { term = term; is = is; spelled = spelled } ∣₁

-- text that is put in, and its characters
pub text_bytes : (out new text : List ℕ) → IsUtf8 text → new ≡ out ++ text → new ≡ out ++ encode_utf8_all (chars text)
text_bytes out new text utf8 pushed = pushed ∙ ap (λ xs. out ++ xs) (sym (encodes-chars text utf8))

-- in lower case a character is one
lower_is_scalar : (c : ℕ) → is_scalar c ≡ true → is_scalar (to_ascii_lowercase c) ≡ true
unfolding is_scalar
lower_is_scalar c e = grind (arith, nat_tests)

pub lower_characters : (cs : List ℕ) → all_scalars cs ≡ true → all_scalars (map to_ascii_lowercase cs) ≡ true
lower_characters [] all = refl
lower_characters (c ∷ cs) all =
    let (first, others) = and_parts (scalar c) (all_scalars cs) all in
    both_true (sym (is_scalar-scalar (to_ascii_lowercase c)) ∙ lower_is_scalar c (is_scalar-scalar c ∙ first)) (lower_characters cs others)

-- texts that the test tells apart are two
pub other_text : (a b : List ℕ) → bytes_eq a b ≡ false → a ≢ b
other_text a b e same = let t = (bytes_eq-Decides a b).1 same in absurd (cc)

pub pushed_one : {A E : Type 0} (result : Result A E) (before new : List ℕ) (c : ℕ) → new ≡ (if is_ok result then before ++ encode_utf8 c else before) → OnOk result (new ≡ before ++ encode_utf8_all (c ∷ []))
pushed_one (Ok u) before new c pushed = pushed ∙ ap (λ xs. before ++ xs) (sym (append-nil (encode_utf8 c)))
pushed_one (Err e) before new c pushed = tt

-- the text of a literal with a datatype, written part by part
pub literal_bytes : (lexical datatype start first second third fourth : List ℕ) → start ≡ [] → first ≡ start ++ encode_utf8 quotation_mark → second ≡ first ++ encode_utf8_all (escaped lexical) → third ≡ second ++ encode_utf8 quotation_mark → fourth ≡ third ++ (circumflex ∷ circumflex ∷ []) ++ canonical_text (iri datatype) → fourth ≡ canonical_text (typed lexical datatype)
literal_bytes lexical datatype start first second third fourth empty opens inner closes tail =
    typed_bytes lexical datatype third fourth
    (marked_bytes start first second third (escaped lexical) quotation_mark quotation_mark opens inner closes ∙ ap (λ xs. xs ++ canonical_text (plain lexical)) empty)
    tail

-- some of the characters of a text
pub some_characters : (p : ℕ → Bool) (cs : List ℕ) → all_scalars cs ≡ true → all_scalars (filter p cs) ≡ true
some_characters p [] all = refl
some_characters p (c ∷ cs) all =
    let (first, others) = and_parts (scalar c) (all_scalars cs) all in
    elim (p c) as (λ b. all_scalars (cond b (c ∷ filter p cs) (filter p cs)) ≡ true) [
      | true ↦ both_true first (some_characters p cs others)
      | false ↦ some_characters p cs others
    ]
