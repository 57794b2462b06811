-- The text of a term is read as that term, and what is written for its parts is its object.
use Rattle.std.proofs.Common.{◌≡◌, ℕ, Bool, true, false, ◌==◌, ◌&&◌, ◌||◌, not, List, [], ◌∷◌, ◌++◌, refl, sym, ◌∙◌, ap, arith}
use Rattle.std.proofs.lemmas.Bool.{and_parts, eqb-true}
use Rattle.std.proofs.lemmas.Bool.Decides.{nat_tests}
use Rattle.std.specs.List.{list_all, list_any}
use Rattle.std.specs.Str.{encode_utf8_all}
use Rattle.std.proofs.lemmas.Str.{chars-encodes}
use Rattle.serde_json.specs.Written.{compact_text}
use Rattle.rdf_text.specs.Marks.{quotation_mark, greater_than}
use Rattle.rdf_text.specs.Classes.{is_irichar, is_scalar, is_lower_letter, is_lower_alphanumeric, is_digit}
use Rattle.rdf_text.specs.Repetition.{Star}
use Rattle.rdf_text.specs.Names.{IsSubtag, IsLanguageTag}
use Rattle.rdf_text.specs.Spelling.{escaped, unescaped, SpellsForm, IsBody}
use Rattle.rdf_text.proofs.Unescaping.{unescaped-escaped}
use Rattle.bm_term.specs.declared.term_parts.TermKind.{TermKind}
use Rattle.bm_term.specs.declared.term_parts.TermKind.TheVariants.{Iri, Blank, Plain, Tagged, Typed}
use Rattle.bm_term.specs.declared.term_parts.Parts.{Parts}
use Rattle.bm_term.specs.Parts.{IsBodyOf, Shows, ArePartsOf}
use Rattle.bm_term.specs.Canonical.{RdfTerm, iri, blank, plain, tagged, typed, IsTerm, kind_of, body_of, canonical_chars, canonical_text}
use Rattle.bm_term.proofs.TermScalars.{canonical_scalars}
use Rattle.result_write.specs.TermText.{cut_at_last, literal_with, term_of_chars, term_with_text}
use Rattle.result_write.specs.JsonResult.{term_members, term_json, cell_json}
use Rattle.result_write.specs.held.Written.{is_literal, kind_data, value_of, term_data, cell_data}
use Rattle.result_write.proofs.Encodings.{strings-written}

-- a mark that is in a text
mark_within : (mark : ℕ) (xs ys : List ℕ) → list_any (λ c. c == mark) (xs ++ mark ∷ ys) ≡ true
mark_within mark [] ys = rw (nat_eq_itself mark) refl
  where
    nat_eq_itself : (n : ℕ) → (n == n) ≡ true
    nat_eq_itself n = grind (arith, nat_tests)
mark_within mark (x ∷ xs) ys = rw (mark_within mark xs ys) (or_true (x == mark))
  where
    or_true : (b : Bool) → (b || true) ≡ true
    or_true true = refl
    or_true false = refl

-- a text is cut at the mark behind which there is none
cut_at_last-is : (mark : ℕ) (xs ys : List ℕ) → list_any (λ c. c == mark) ys ≡ false → cut_at_last mark (xs ++ mark ∷ ys) ≡ (xs, ys)
cut_at_last-is mark [] ys none =
    let here : (mark == mark) ≡ true = grind (arith, nat_tests) in rw (here, none) refl
cut_at_last-is mark (x ∷ xs) ys none =
    let later : (x == mark && not (list_any (λ c. c == mark) (xs ++ mark ∷ ys))) ≡ false = ap (λ b. x == mark && not b) (mark_within mark xs ys) ∙ and_false (x == mark) in
    rw later (ap (λ (cut : List ℕ × List ℕ). (x ∷ cut.0, cut.1)) (cut_at_last-is mark xs ys none))
  where
    and_false : (b : Bool) → (b && false) ≡ false
    and_false true = refl
    and_false false = refl

-- no character of a class is a mark that is not in it
no_mark : (p : ℕ → Bool) (mark : ℕ) → p mark ≡ false → (text : List ℕ) → list_all p text ≡ true → list_any (λ c. c == mark) text ≡ false
no_mark p mark outside [] all = refl
no_mark p mark outside (c ∷ cs) all =
    let (first, others) = and_parts (p c) (list_all p cs) all in
    elim (c == mark) as (λ b. (c == mark) ≡ b → (b || list_any (λ c. c == mark) cs) ≡ false) [
      | true ↦ λ e. let no : p mark ≡ true = ap p (sym (eqb-true c mark e)) ∙ first in absurd (cc)
      | false ↦ λ e. no_mark p mark outside cs others
    ] refl

-- neither of two texts has it
no_mark-append : (mark : ℕ) (xs ys : List ℕ) → list_any (λ c. c == mark) xs ≡ false → list_any (λ c. c == mark) ys ≡ false → list_any (λ c. c == mark) (xs ++ ys) ≡ false
no_mark-append mark [] ys first second = second
no_mark-append mark (x ∷ xs) ys first second =
    elim (x == mark) as (λ b. (b || list_any (λ c. c == mark) xs) ≡ false → (b || list_any (λ c. c == mark) (xs ++ ys)) ≡ false) [
      | true ↦ λ e. absurd (cc)
      | false ↦ λ e. no_mark-append mark xs ys e second
    ] first

-- a language tag has no quotation mark
subtags_no_mark : (subtags : List (List ℕ)) (text : List ℕ) → Star (IsSubtag is_lower_alphanumeric) text subtags → list_any (λ c. c == quotation_mark) text ≡ false
unfolding is_lower_alphanumeric is_lower_letter is_digit
subtags_no_mark [] text star = rw star refl
subtags_no_mark (subtag ∷ subtags) text (front, rest, (run, spelled), star, split) =
    rw (split, spelled) (no_mark-append quotation_mark subtag rest (no_mark is_lower_alphanumeric quotation_mark refl subtag run.1) (subtags_no_mark subtags rest star))

tag_no_mark : (tag : List ℕ) → IsLanguageTag is_lower_letter is_lower_alphanumeric tag → list_any (λ c. c == quotation_mark) tag ≡ false
unfolding is_lower_letter
tag_no_mark tag (primary, rest, subtags, run, star, split) =
    rw split (no_mark-append quotation_mark primary rest (no_mark is_lower_letter quotation_mark refl primary run.1) (subtags_no_mark subtags rest star))

-- what follows the lexical form of a literal with a datatype has no quotation mark
datatype_no_mark : (datatype : List ℕ) → list_all is_irichar datatype ≡ true → list_any (λ c. c == quotation_mark) (94 ∷ 94 ∷ 60 ∷ (datatype ++ 62 ∷ [])) ≡ false
unfolding is_irichar is_scalar
datatype_no_mark datatype all = no_mark-append quotation_mark datatype (62 ∷ []) (no_mark is_irichar quotation_mark refl datatype all) refl

-- the characters of a term's text are read as the term
pub term_of_chars-is : (term : RdfTerm) → IsTerm term → term_of_chars (canonical_chars term) ≡ term
term_of_chars-is (iri cs) is = ap (λ (cut : List ℕ × List ℕ). iri cut.0) (cut_at_last-is greater_than cs [] refl)
term_of_chars-is (blank label) is = refl
term_of_chars-is (plain lexical) is =
    ap (λ (cut : List ℕ × List ℕ). literal_with cut.0 cut.1) (cut_at_last-is quotation_mark (escaped lexical) [] refl)
    ∙ ap plain (unescaped-escaped lexical)
term_of_chars-is (tagged lexical tag) is =
    ap (λ (cut : List ℕ × List ℕ). literal_with cut.0 cut.1) (cut_at_last-is quotation_mark (escaped lexical) (64 ∷ tag) (tag_no_mark tag is.1))
    ∙ ap (λ form. tagged form tag) (unescaped-escaped lexical)
term_of_chars-is (typed lexical datatype) is =
    ap (λ (cut : List ℕ × List ℕ). literal_with cut.0 cut.1) (cut_at_last-is quotation_mark (escaped lexical) (94 ∷ 94 ∷ 60 ∷ (datatype ++ 62 ∷ [])) (datatype_no_mark datatype is.1))
    ∙ ap (λ (cut : List ℕ × List ℕ). typed (unescaped (escaped lexical)) cut.0) (cut_at_last-is greater_than datatype [] refl)
    ∙ ap (λ form. typed form datatype) (unescaped-escaped lexical)

-- so is the text
pub term_with_text-is : (term : RdfTerm) → IsTerm term → term_with_text (canonical_text term) ≡ term
unfolding term_with_text
term_with_text-is term is = ap term_of_chars (chars-encodes (canonical_chars term) (canonical_scalars term is)) ∙ term_of_chars-is term is

-- the object of a term, from its text
pub cell_json-is : (term : RdfTerm) → IsTerm term → cell_json (canonical_text term) ≡ encode_utf8_all (term_json term)
unfolding cell_json
cell_json-is term is = ap (λ term. encode_utf8_all (term_json term)) (term_with_text-is term is)

-- what is written for the parts of a term
term-written : (term : RdfTerm) → compact_text (term_data term) ≡ encode_utf8_all (term_json term)
unfolding lib.Utf8.encode
term-written (iri cs) = strings-written (term_members (iri cs))
term-written (blank label) = strings-written (term_members (blank label))
term-written (plain lexical) = strings-written (term_members (plain lexical))
term-written (tagged lexical tag) = strings-written (term_members (tagged lexical tag))
term-written (typed lexical datatype) = strings-written (term_members (typed lexical datatype))

-- so for the text of a term
pub cell-written : (text : List ℕ) → compact_text (cell_data text) ≡ cell_json text
unfolding cell_data cell_json
cell-written text = term-written (term_with_text text)

-- the object of a term by its parts
module _ (text : List ℕ) (parts : Parts) (are : ArePartsOf text parts) where
  abbrev term : RdfTerm
  term = are.kind.canonical.term

  shows : Shows parts term
  shows = are.of_term term are.kind.canonical.is are.kind.canonical.spelled

  same_term : term_with_text text ≡ term
  same_term = ap term_with_text are.kind.canonical.spelled ∙ term_with_text-is term are.kind.canonical.is

  module _ (value tail : List ℕ) (tail_is : tail ≡ parts.tail.now) where
    from_value : value ≡ encode_utf8_all (value_of term) → kind_data parts.kind value tail ≡ cell_data text
    unfolding cell_data
    from_value is =
        ap (λ kind. kind_data kind value tail) shows.kind
        ∙ ap (λ value. kind_data (kind_of term) value tail) is
        ∙ ap (λ tail. kind_data (kind_of term) (encode_utf8_all (value_of term)) tail) (tail_is ∙ shows.tail)
        ∙ ap term_data (sym same_term)

    other_value : (t : RdfTerm) → parts.body.now ≡ encode_utf8_all (body_of t) → is_literal (kind_of t) ≡ false → parts.body.now ≡ encode_utf8_all (value_of t)
    other_value (iri cs) body e = body
    other_value (blank label) body e = body
    other_value (plain lexical) body e = absurd (cc)
    other_value (tagged lexical tag) body e = absurd (cc)
    other_value (typed lexical datatype) body e = absurd (cc)

    -- the value of a term that is no literal is the body
    pub other_data : value ≡ parts.body.now → is_literal parts.kind ≡ false → kind_data parts.kind value tail ≡ cell_data text
    other_data is other = from_value (is ∙ other_value term shows.body (ap is_literal (sym shows.kind) ∙ other))

    literal_value : ((lexical : List ℕ) → SpellsForm parts.body.now lexical → value ≡ encode_utf8_all lexical) → (t : RdfTerm) → IsTerm t → parts.body.now ≡ encode_utf8_all (body_of t) → is_literal (kind_of t) ≡ true → value ≡ encode_utf8_all (value_of t)
    literal_value spelled (iri cs) is body e = absurd (cc)
    literal_value spelled (blank label) is body e = absurd (cc)
    literal_value spelled (plain lexical) is body e = spelled lexical (record { characters = is; spelled = body })
    literal_value spelled (tagged lexical tag) is body e = spelled lexical (record { characters = is.0; spelled = body })
    literal_value spelled (typed lexical datatype) is body e = spelled lexical (record { characters = is.0; spelled = body })

    -- and that of a literal is the form which the body spells
    pub literal_data : ((lexical : List ℕ) → SpellsForm parts.body.now lexical → value ≡ encode_utf8_all lexical) → is_literal parts.kind ≡ true → kind_data parts.kind value tail ≡ cell_data text
    literal_data spelled literal = from_value (literal_value spelled term are.kind.canonical.is shows.body (ap is_literal (sym shows.kind) ∙ literal))

-- a body of a literal spells a form
pub literal_body : (kind : TermKind) (body : List ℕ) → IsBodyOf kind body → is_literal kind ≡ true → IsBody body
literal_body Iri body is literal = absurd (cc)
literal_body Blank body is literal = absurd (cc)
literal_body Plain body is literal = is
literal_body Tagged body is literal = is
literal_body Typed body is literal = is
