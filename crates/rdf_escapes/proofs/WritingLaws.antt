-- What is written character by character is what the characters stand for.
use Rattle.std.proofs.Common.{◌≡◌, ℕ, Option, Some, None, List, ◌++◌, ap, ◌∙◌, sym, append_assoc, append-nil}
use Rattle.std.specs.Prelude.{encode_utf8}
use Rattle.std.specs.Str.{encode_utf8_all}
use Rattle.std.proofs.lemmas.Str.{encodes-append}
use Rattle.rdf_text.specs.Spelling.{spelling, escaped}
use Rattle.rdf_escapes.specs.scanning.Pieces.{values}
use Rattle.rdf_escapes.specs.scanning.Iris.{iri_piece}
use Rattle.rdf_escapes.specs.scanning.Strings.{string_piece}
use Rattle.rdf_escapes.proofs.CharacterLaws.{iri_values-more, iri_values-none, string_values-more, string_values-none}

-- what is written and what is left make the whole
pub appended : (out new front others all total : List ℕ) → new ≡ out ++ front → all ≡ front ++ others → out ++ all ≡ total → new ++ others ≡ total
appended out new front others all total pushed split before =
    ap (λ xs. xs ++ others) pushed ∙ append_assoc out front others ∙ ap (λ xs. out ++ xs) (sym split) ∙ before

-- one character of an IRI more is written
pub iri_step : (out new rest after total : List ℕ) (c : ℕ) → new ≡ out ++ encode_utf8 c → ◌≡◌ {A = Option (ℕ × List ℕ)} (Some (c, after)) (iri_piece rest) → out ++ encode_utf8_all (values iri_piece rest) ≡ total → new ++ encode_utf8_all (values iri_piece after) ≡ total
iri_step out new rest after total c pushed step before =
    appended out new (encode_utf8 c) (encode_utf8_all (values iri_piece after)) (encode_utf8_all (values iri_piece rest)) total pushed
    (ap encode_utf8_all (iri_values-more rest after c (sym step))) before

-- at its end all of the IRI is written
pub iri_end : (out rest total : List ℕ) → None ≡ iri_piece rest → out ++ encode_utf8_all (values iri_piece rest) ≡ total → out ≡ total
iri_end out rest total none before =
    sym (append-nil out) ∙ ap (λ xs. out ++ encode_utf8_all xs) (sym (iri_values-none rest (sym none))) ∙ before

-- one character of a string more is written
pub string_step : (mark : ℕ) (out new rest after total : List ℕ) (c : ℕ) → new ≡ out ++ encode_utf8_all (spelling c) → ◌≡◌ {A = Option (ℕ × List ℕ)} (Some (c, after)) (string_piece mark rest) → out ++ encode_utf8_all (escaped (values (string_piece mark) rest)) ≡ total → new ++ encode_utf8_all (escaped (values (string_piece mark) after)) ≡ total
string_step mark out new rest after total c pushed step before =
    appended out new (encode_utf8_all (spelling c)) (encode_utf8_all (escaped (values (string_piece mark) after))) (encode_utf8_all (escaped (values (string_piece mark) rest))) total pushed
    (ap (λ cs. encode_utf8_all (escaped cs)) (string_values-more mark rest after c (sym step)) ∙ encodes-append (spelling c) (escaped (values (string_piece mark) after))) before

-- at its end all of the string is written
pub string_end : (mark : ℕ) (out rest total : List ℕ) → None ≡ string_piece mark rest → out ++ encode_utf8_all (escaped (values (string_piece mark) rest)) ≡ total → out ≡ total
string_end mark out rest total none before =
    sym (append-nil out) ∙ ap (λ xs. out ++ encode_utf8_all (escaped xs)) (sym (string_values-none mark rest (sym none))) ∙ before
