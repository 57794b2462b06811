-- How each terminal of a line is read.
use Rattle.std.proofs.Common.{◌≡◌, ℕ, ◌≤◌, true, false, ◌==◌, if◌then◌else◌, Option, Some, None, List, [], ◌∷◌, ◌++◌, map, length, refl, ap, subst, ◌∙◌, sym}
use Rattle.std.proofs.lemmas.Bool.{eqb-true}
use Rattle.std.proofs.lemmas.Option.{option_and_then_some, some_pair_parts}
use Rattle.std.specs.Char.{to_ascii_lowercase}
use Rattle.std.specs.Option.{option_map}
use Rattle.rdf_text.specs.Classes.{is_letter, is_alphanumeric, is_nt_label_first, is_nt_pn_chars}
use Rattle.bm_term.specs.Canonical.{IsLabel}
use Rattle.rdf_text.specs.Marks.{quotation_mark, colon, less_than, at_sign, full_stop, circumflex, low_line}
use Rattle.rdf_text.specs.scanning.Names.{after_dotted_name, after_language_tag}
use Rattle.rdf_text.specs.scanning.Text.{after_char, before, ◌>>=◌}
use Rattle.rdf_text.proofs.DottedNames.{after_dotted_name-sound, after_dotted_name-reaches}
use Rattle.rdf_text.proofs.LanguageTags.{no_letter, no_alphanumeric, after_language_tag-sound, after_language_tag-reaches}
use Rattle.rdf_text.proofs.TextLemmas.{after_char-some, before-append}
use Rattle.rdf_escapes.specs.Iris.{IsIriRef}
use Rattle.rdf_escapes.specs.scanning.Iris.{scan_iri_ref}
use Rattle.rdf_escapes.specs.scanning.Strings.{scan_string}
use Rattle.rdf_escapes.specs.Strings.{IsString}
use Rattle.rdf_escapes.proofs.SpellingLaws.{iri_ref-sound, iri_ref-again, string-sound, string-again}
use Rattle.nt_read.specs.Terminals.{IsLowerLangtag, IsNtLabel, IsMark, is_blank}
use Rattle.nt_read.specs.scanning.Terminals.{scan_langtag, scan_label}
use Rattle.nt_read.proofs.TerminalLaws.{Reads, reads_exactly}

-- white space is no mark
blank_is_other : (mark : ℕ) → is_blank mark ≡ false → (c : ℕ) (cs : List ℕ) → is_blank c ≡ true → after_char mark (c ∷ cs) ≡ None
blank_is_other mark other c cs is =
    elim (c == mark) as (λ b. (c == mark) ≡ b → ◌≡◌ {A = Option (List ℕ)} (if b then Some cs else None) None) [
      | true ↦ λ e. let same = ap is_blank (eqb-true c mark e) in absurd (cc)
      | false ↦ λ e. refl
    ] refl

-- IRIREF
iri_ref-nil : scan_iri_ref [] ≡ None
unfolding scan_iri_ref
iri_ref-nil = refl

-- no IRI begins with white space
iri_ref-blank : (c : ℕ) (cs : List ℕ) → is_blank c ≡ true → scan_iri_ref (c ∷ cs) ≡ None
unfolding scan_iri_ref is_blank
iri_ref-blank c cs is = rw (blank_is_other less_than refl c cs is) refl

-- IRIREF is read
pub iri_ref-reads : Reads IsIriRef scan_iri_ref
iri_ref-reads = reads_exactly IsIriRef scan_iri_ref iri_ref-sound iri_ref-again iri_ref-nil iri_ref-blank

-- STRING_LITERAL_QUOTE
string-nil : scan_string quotation_mark [] ≡ None
unfolding scan_string
string-nil = refl

-- no string begins with white space
string-blank : (c : ℕ) (cs : List ℕ) → is_blank c ≡ true → scan_string quotation_mark (c ∷ cs) ≡ None
unfolding scan_string is_blank
string-blank c cs is = rw (blank_is_other quotation_mark refl c cs is) refl

-- STRING_LITERAL_QUOTE is read
pub string-reads : Reads (IsString quotation_mark) (scan_string quotation_mark)
string-reads =
    reads_exactly (IsString quotation_mark) (scan_string quotation_mark) (string-sound quotation_mark)
    (λ front more v is. string-again quotation_mark front more v refl is) string-nil string-blank

-- LANGTAG
langtag-sound : (text rest tag : List ℕ) → scan_langtag text ≡ Some (tag, rest) → (front : List ℕ) × IsLowerLangtag front tag × (text ≡ front ++ rest)
unfolding scan_langtag
langtag-sound text rest tag e =
    option_and_then_some _ (after_char at_sign text) (tag, rest) e (λ written mark e.
    option_and_then_some _ (after_language_tag is_letter is_alphanumeric written) (tag, rest) e (λ end found e.
    let (lower, ends) = some_pair_parts (map to_ascii_lowercase (before written end)) tag end rest e in
    let (front, is, split) = after_language_tag-sound is_letter is_alphanumeric written end found in
    let cut : before written end ≡ front = ap (λ xs. before xs end) split ∙ before-append front end in (
      at_sign ∷ front,
      (front, (is, refl), sym lower ∙ ap (map to_ascii_lowercase) cut),
      after_char-some at_sign text written mark ∙ ap (λ xs. at_sign ∷ xs) (split ∙ ap (λ xs. front ++ xs) ends),
    )))

-- a tag that is found is put in lower case
langtag-found : (written more end : List ℕ) → after_language_tag is_letter is_alphanumeric (written ++ more) ≡ Some end → scan_langtag (at_sign ∷ (written ++ more)) ≡ Some (map to_ascii_lowercase (before (written ++ more) end), end)
unfolding scan_langtag
langtag-found written more end e = rw e refl

-- each tag in front is passed
langtag-reaches : (text more tag : List ℕ) → IsLowerLangtag text tag → (other : List ℕ) × (rest : List ℕ) × (scan_langtag (text ++ more) ≡ Some (other, rest)) × (length rest ≤ length more)
langtag-reaches text more tag (written, (is, spelled), lower) =
    let (end, found, less) = after_language_tag-reaches is_letter is_alphanumeric no_letter no_alphanumeric written more is in
    (map to_ascii_lowercase (before (written ++ more) end), end, ap (λ xs. scan_langtag (xs ++ more)) spelled ∙ langtag-found written more end found, less)

-- a tag has one value
langtag-one : (text tag other : List ℕ) → IsLowerLangtag text tag → IsLowerLangtag text other → tag ≡ other
langtag-one text tag other (written, (is, spelled), lower) (written', (is', spelled'), lower') =
    let same : written ≡ written' = cc in
    lower ∙ ap (map to_ascii_lowercase) same ∙ sym lower'

-- no tag is in nothing
langtag-nil : scan_langtag [] ≡ None
unfolding scan_langtag
langtag-nil = refl

-- no tag begins with white space
langtag-blank : (c : ℕ) (cs : List ℕ) → is_blank c ≡ true → scan_langtag (c ∷ cs) ≡ None
unfolding scan_langtag is_blank
langtag-blank c cs is = rw (blank_is_other at_sign refl c cs is) refl

-- LANGTAG is read
pub langtag-reads : Reads IsLowerLangtag scan_langtag
langtag-reads = record { sound = langtag-sound; reaches = langtag-reaches; one = langtag-one; nil = langtag-nil; blank = langtag-blank }

-- BLANK_NODE_LABEL
label-sound : (text rest label : List ℕ) → scan_label text ≡ Some (label, rest) → (front : List ℕ) × IsNtLabel front label × (text ≡ front ++ rest)
unfolding scan_label
label-sound text rest label e =
    option_and_then_some _ (after_char low_line text) (label, rest) e (λ mark mark_is e.
    option_and_then_some _ (after_char colon mark) (label, rest) e (λ written colon_is e.
    option_and_then_some _ (after_dotted_name is_nt_label_first is_nt_pn_chars written) (label, rest) e (λ end found e.
    let (same, ends) = some_pair_parts (before written end) label end rest e in
    let (front, is, split) = after_dotted_name-sound is_nt_label_first is_nt_pn_chars written end found in
    let cut : front ≡ label = sym (ap (λ xs. before xs end) split ∙ before-append front end) ∙ same in (
      low_line ∷ colon ∷ label,
      (subst IsLabel cut is, refl),
      after_char-some low_line text mark mark_is
          ∙ ap (λ xs. low_line ∷ xs) (after_char-some colon mark written colon_is ∙ ap (λ xs. colon ∷ xs) (split ∙ ap (λ xs. xs ++ end) cut ∙ ap (λ xs. label ++ xs) ends)),
    ))))

-- a label that is found is without its mark
label-found : (label more end : List ℕ) → after_dotted_name is_nt_label_first is_nt_pn_chars (label ++ more) ≡ Some end → scan_label (low_line ∷ colon ∷ (label ++ more)) ≡ Some (before (label ++ more) end, end)
unfolding scan_label
label-found label more end e = rw e refl

-- each label in front is passed
label-reaches : (text more label : List ℕ) → IsNtLabel text label → (other : List ℕ) × (rest : List ℕ) × (scan_label (text ++ more) ≡ Some (other, rest)) × (length rest ≤ length more)
label-reaches text more label (is, spelled) =
    let (end, found, less) = after_dotted_name-reaches is_nt_label_first is_nt_pn_chars label more is in
    (before (label ++ more) end, end, ap (λ xs. scan_label (xs ++ more)) spelled ∙ label-found label more end found, less)

-- a label has one value
label-one : (text label other : List ℕ) → IsNtLabel text label → IsNtLabel text other → label ≡ other
label-one text label other (is, spelled) (is', spelled') = cc

-- no label is in nothing
label-nil : scan_label [] ≡ None
unfolding scan_label
label-nil = refl

-- no label begins with white space
label-blank : (c : ℕ) (cs : List ℕ) → is_blank c ≡ true → scan_label (c ∷ cs) ≡ None
unfolding scan_label is_blank
label-blank c cs is = rw (blank_is_other low_line refl c cs is) refl

-- BLANK_NODE_LABEL is read
pub label-reads : Reads IsNtLabel scan_label
label-reads = record { sound = label-sound; reaches = label-reaches; one = label-one; nil = label-nil; blank = label-blank }

-- a mark of one character, and the mark of a datatype
abbrev pub marked : Option (List ℕ) → Option (Unit {0} × List ℕ)
marked found = option_map (λ rest. (tt, rest)) found

-- a mark that is found is passed
marked-some : (found : Option (List ℕ)) (rest : List ℕ) (v : Unit {0}) → marked found ≡ Some (v, rest) → found ≡ Some rest
marked-some None rest v e = absurd (cc)
marked-some (Some end) rest v e = ap Some (some_pair_parts tt v end rest e).1

-- the dot that ends a statement
abbrev pub scan_dot : List ℕ → Option (Unit {0} × List ℕ)
scan_dot text = marked (after_char full_stop text)

-- no dot begins with white space
dot-blank : (c : ℕ) (cs : List ℕ) → is_blank c ≡ true → scan_dot (c ∷ cs) ≡ None
unfolding is_blank
dot-blank c cs is = ap marked (blank_is_other full_stop refl c cs is)

-- the dot is read
pub dot-reads : Reads (IsMark (full_stop ∷ [])) scan_dot
dot-reads =
    reads_exactly (IsMark (full_stop ∷ [])) scan_dot
    (λ text rest v e. (full_stop ∷ [], refl, after_char-some full_stop text rest (marked-some (after_char full_stop text) rest v e)))
    (λ front more v is. rw is refl) refl dot-blank

-- what follows the two circumflexes
abbrev pub after_datatype_mark : List ℕ → Option (List ℕ)
after_datatype_mark text = after_char circumflex text >>= after_char circumflex

-- the mark of a datatype
abbrev pub scan_datatype_mark : List ℕ → Option (Unit {0} × List ℕ)
scan_datatype_mark text = marked (after_datatype_mark text)

-- what is taken are two circumflexes
datatype_mark-sound : (text rest : List ℕ) → after_datatype_mark text ≡ Some rest → text ≡ circumflex ∷ circumflex ∷ rest
datatype_mark-sound text rest e =
    option_and_then_some (after_char circumflex) (after_char circumflex text) rest e (λ other first second.
    after_char-some circumflex text other first ∙ ap (λ xs. circumflex ∷ xs) (after_char-some circumflex other rest second))

-- no such mark begins with white space
datatype_mark-blank : (c : ℕ) (cs : List ℕ) → is_blank c ≡ true → scan_datatype_mark (c ∷ cs) ≡ None
unfolding is_blank
datatype_mark-blank c cs is = ap (λ found. marked (found >>= after_char circumflex)) (blank_is_other circumflex refl c cs is)

-- the mark of a datatype is read
pub datatype_mark-reads : Reads (IsMark (circumflex ∷ circumflex ∷ [])) scan_datatype_mark
datatype_mark-reads =
    reads_exactly (IsMark (circumflex ∷ circumflex ∷ [])) scan_datatype_mark
    (λ text rest v e. (circumflex ∷ circumflex ∷ [], refl, datatype_mark-sound text rest (marked-some (after_datatype_mark text) rest v e)))
    (λ front more v is. rw is refl) refl datatype_mark-blank
