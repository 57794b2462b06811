-- A line is read as what it spells.
use Rattle.std.proofs.Common.{◌≡◌, ℕ, true, false, inl, inr, if◌then◌else◌, Some, None, List, refl, ap, subst, ◌∙◌, sym}
use Rattle.std.proofs.lemmas.Option.{option_and_then_some, cond_some}
use Rattle.std.proofs.lemmas.Str.{is_utf8-from_IsUtf8, IsUtf8-from_is_utf8}
use Rattle.std.specs.Str.{chars, IsUtf8, is_utf8}
use Rattle.bm_term.specs.declared.triple.Triple.{Triple}
use Rattle.bm_term.specs.declared.term_parts.TermKind.TheVariants.{Iri}
use Rattle.bm_term.specs.Canonical.{RdfTerm, iri, blank, plain, tagged, typed, IsTerm, canonical_text, IsTextOf}
use Rattle.bm_term.specs.Triple.{IsNode, IsRdfTriple}
use Rattle.rdf_text.specs.Marks.{full_stop}
use Rattle.rdf_text.specs.scanning.Text.{after_char}
use Rattle.nt_read.specs.Line.{IsSubject, IsPredicate, SpellsTerms, IsEnd, triple_of, Spells, SpellsNothing, IsBadLine}
use Rattle.nt_read.specs.scanning.Line.{ScannedLine, bad, nothing, spelled, after_blanks, scan_subject, scan_predicate, scan_object, is_end, scan_statement, line_of_terms, scan_chars, scan_line}
use Rattle.nt_read.proofs.TermLaws.{subject_is_term, predicate_is_term, object_is_term}
use Rattle.nt_read.proofs.PlaceLaws.{subject_found, subject_read, predicate_found, predicate_read, object_found, object_read, dot_found, dot_stands, end_found, end_read, subject_no_end}

-- three terms
abbrev Terms : Type 0
Terms = RdfTerm × RdfTerm × RdfTerm

-- what is read as a statement is one
pub statement_found : (text : List ℕ) (subject predicate object : RdfTerm) → scan_statement text ≡ Some (subject, predicate, object) → SpellsTerms text subject predicate object
unfolding scan_statement
statement_found text subject predicate object e =
    option_and_then_some _ (scan_subject text) (subject, predicate, object) e (λ s s_is e.
    option_and_then_some _ (scan_predicate s.1) (subject, predicate, object) e (λ p p_is e.
    option_and_then_some _ (scan_object p.1) (subject, predicate, object) e (λ o o_is e.
    option_and_then_some _ (after_char full_stop (after_blanks o.1)) (subject, predicate, object) e (λ rest dot e.
    let terms : Terms = (s.0, p.0, o.0) in
    let given : Terms = (subject, predicate, object) in
    let (ends, same) = cond_some (is_end rest) terms given e in
    let first : s.0 ≡ subject = ap (λ (t : Terms). t.0) same in
    let second : p.0 ≡ predicate = ap (λ (t : Terms). t.1) same in
    let third : o.0 ≡ object = ap (λ (t : Terms). t.2) same in
    record {
      after_subject = s.1;
      after_predicate = p.1;
      after_object = o.1;
      after_dot = rest;
      subject_is = subject_found text s.1 subject (s_is ∙ ap (λ t. Some (t, s.1)) first);
      predicate_is = predicate_found s.1 p.1 predicate (p_is ∙ ap (λ t. Some (t, p.1)) second);
      object_is = object_found p.1 o.1 object (o_is ∙ ap (λ t. Some (t, o.1)) third);
      dot = dot_found o.1 rest dot;
      end = end_found rest ends;
    }))))

-- each statement is read
pub statement_read : (text : List ℕ) (subject predicate object : RdfTerm) → SpellsTerms text subject predicate object → scan_statement text ≡ Some (subject, predicate, object)
unfolding scan_statement
statement_read text subject predicate object t =
    let dot = dot_stands t.after_object t.after_dot t.dot in
    let s = subject_read subject text t.after_subject t.subject_is in
    let p = predicate_read predicate t.after_subject t.after_predicate t.predicate_is in
    let o = object_read object t.after_predicate t.after_object t.after_dot t.object_is dot in
    rw (s, p, o, dot, end_read t.after_dot t.end) refl

-- of characters
spelled_chars : (text : List ℕ) (subject predicate object : RdfTerm) → SpellsTerms text subject predicate object → scan_chars text ≡ spelled (triple_of subject predicate object)
unfolding scan_chars
spelled_chars text subject predicate object t =
    let no_end = subject_no_end text t.after_subject subject (subject_read subject text t.after_subject t.subject_is) in
    rw (no_end, statement_read text subject predicate object t) refl

-- what spells nothing is read as that
nothing_chars : (text : List ℕ) → IsEnd text → scan_chars text ≡ nothing
unfolding scan_chars
nothing_chars text end = rw (end_read text end) refl

record SpellsTriple (text : List ℕ) (triple : Triple) : Type 0 where
  subject : RdfTerm
  predicate : RdfTerm
  object : RdfTerm
  terms : SpellsTerms text subject predicate object
  is : triple ≡ triple_of subject predicate object

-- what is read as a triple spells it
chars_spelled : (text : List ℕ) (triple : Triple) → scan_chars text ≡ spelled triple → SpellsTriple text triple
unfolding scan_chars
chars_spelled text triple e =
    elim (is_end text) as (λ b. (if b then nothing else line_of_terms (scan_statement text)) ≡ spelled triple → SpellsTriple text triple) [
      | true ↦ λ h. absurd (cc)
      | false ↦ λ h.
          elim (scan_statement text) as (λ r. scan_statement text ≡ r → line_of_terms r ≡ spelled triple → SpellsTriple text triple) [
            | None ↦ λ f k. absurd (cc)
            | Some terms ↦ λ f k. record {
              subject = terms.0;
              predicate = terms.1;
              object = terms.2;
              terms = statement_found text terms.0 terms.1 terms.2 f;
              is = cc;
            }
          ] refl h
    ] e

-- what is read as nothing spells nothing
chars_nothing : (text : List ℕ) → scan_chars text ≡ nothing → IsEnd text
unfolding scan_chars
chars_nothing text e =
    elim (is_end text) as (λ b. is_end text ≡ b → (if b then nothing else line_of_terms (scan_statement text)) ≡ nothing → IsEnd text) [
      | true ↦ λ f h. end_found text f
      | false ↦ λ f h.
          elim (scan_statement text) as (λ r. line_of_terms r ≡ nothing → IsEnd text) [
            | None ↦ λ k. absurd (cc)
            | Some terms ↦ λ k. absurd (cc)
          ] h
    ] refl e

-- of bytes
pub line_of_text : (line : List ℕ) → IsUtf8 line → scan_line line ≡ scan_chars (chars line)
unfolding scan_line
line_of_text line utf8 = rw (is_utf8-from_IsUtf8 line utf8) refl

-- bytes that are not UTF-8 are bad
pub line_of_other_bytes : (line : List ℕ) → ¬ IsUtf8 line → scan_line line ≡ bad
unfolding scan_line
line_of_other_bytes line no_text =
    elim (is_utf8 line) as (λ b. is_utf8 line ≡ b → (if b then scan_chars (chars line) else bad) ≡ bad) [
      | true ↦ λ e. absurd (no_text (IsUtf8-from_is_utf8 line e))
      | false ↦ λ e. refl
    ] refl

-- a line that is read as something else than bad is a text
is_text : (line : List ℕ) (scanned : ScannedLine) → scan_line line ≡ scanned → (scanned ≡ bad → ⊥) → IsUtf8 line × (scan_chars (chars line) ≡ scanned)
unfolding scan_line
is_text line scanned e good =
    elim (is_utf8 line) as (λ b. is_utf8 line ≡ b → (if b then scan_chars (chars line) else bad) ≡ scanned → IsUtf8 line × (scan_chars (chars line) ≡ scanned)) [
      | true ↦ λ f h. (IsUtf8-from_is_utf8 line f, h)
      | false ↦ λ f h. absurd (good (sym h))
    ] refl e

-- the triple that a line spells is read
pub spelled_is_read : (line : List ℕ) (triple : Triple) → Spells line triple → scan_line line ≡ spelled triple
spelled_is_read line triple s =
    line_of_text line s.utf8 ∙ spelled_chars (chars line) s.subject s.predicate s.object s.terms ∙ ap spelled (sym s.is)

-- a line that spells nothing is read as that
pub nothing_is_read : (line : List ℕ) → SpellsNothing line → scan_line line ≡ nothing
nothing_is_read line s = line_of_text line s.utf8 ∙ nothing_chars (chars line) s.end

-- a triple that is read is spelled
pub scanned_is_spelled : (line : List ℕ) (triple : Triple) → scan_line line ≡ spelled triple → Spells line triple
scanned_is_spelled line triple e =
    let (utf8, read) = is_text line (spelled triple) e (λ b. cc) in
    let s = chars_spelled (chars line) triple read in
    record { utf8 = utf8; subject = s.subject; predicate = s.predicate; object = s.object; terms = s.terms; is = s.is }

-- a line that is read as nothing spells nothing
pub scanned_is_nothing : (line : List ℕ) → scan_line line ≡ nothing → SpellsNothing line
scanned_is_nothing line e =
    let (utf8, read) = is_text line nothing e (λ b. cc) in
    record { utf8 = utf8; end = chars_nothing (chars line) read }

-- a bad line is read as bad
pub bad_is_read : (line : List ℕ) → IsBadLine line → scan_line line ≡ bad
bad_is_read line is =
    elim (scan_line line) as (λ r. scan_line line ≡ r → r ≡ bad) [
      | bad ↦ λ e. refl
      | nothing ↦ λ e. absurd (is.spells_something (scanned_is_nothing line e))
      | spelled triple ↦ λ e. absurd (is.spells_none triple (scanned_is_spelled line triple e))
    ] refl

-- a line that is read as bad is bad
pub scanned_is_bad : (line : List ℕ) → scan_line line ≡ bad → IsBadLine line
scanned_is_bad line e = record {
  spells_none = λ triple s. let other = spelled_is_read line triple s in cc;
  spells_something = λ s. let other = nothing_is_read line s in cc;
}

-- a line spells one triple at most, and then it does not spell nothing
pub one_triple : (line : List ℕ) (triple other : Triple) → Spells line triple → Spells line other → triple ≡ other
one_triple line triple other s t =
    let first = spelled_is_read line triple s in
    let second = spelled_is_read line other t in
    let same : spelled triple ≡ spelled other = sym first ∙ second in
    cc

-- a line that spells a triple does not spell nothing
pub not_both : (line : List ℕ) (triple : Triple) → Spells line triple → ¬ SpellsNothing line
not_both line triple s n =
    let first = spelled_is_read line triple s in
    let second = nothing_is_read line n in
    cc

-- what is spelled is a triple of RDF
subject_is_node : (term : RdfTerm) (whole rest : List ℕ) → IsSubject whole term rest → IsNode (canonical_text term)
subject_is_node (iri cs) whole rest t =
    inl (record { canonical = record { term = iri cs; is = subject_is_term (iri cs) whole rest t; spelled = refl }; kind_is = refl })
subject_is_node (blank label) whole rest t =
    inr (record { canonical = record { term = blank label; is = subject_is_term (blank label) whole rest t; spelled = refl }; kind_is = refl })
subject_is_node (plain lexical) whole rest t = absurd t
subject_is_node (tagged lexical tag) whole rest t = absurd t
subject_is_node (typed lexical datatype) whole rest t = absurd t

-- a predicate is an IRI
predicate_is_iri : (term : RdfTerm) (whole rest : List ℕ) → IsPredicate whole term rest → IsTextOf Iri (canonical_text term)
predicate_is_iri (iri cs) whole rest t =
    record { canonical = record { term = iri cs; is = predicate_is_term (iri cs) whole rest t; spelled = refl }; kind_is = refl }
predicate_is_iri (blank label) whole rest t = absurd t
predicate_is_iri (plain lexical) whole rest t = absurd t
predicate_is_iri (tagged lexical tag) whole rest t = absurd t
predicate_is_iri (typed lexical datatype) whole rest t = absurd t

-- what a line spells is a triple of RDF
pub spelled_is_rdf : (line : List ℕ) (triple : Triple) → Spells line triple → IsRdfTriple triple
spelled_is_rdf line triple s =
    let t = s.terms in
    subst IsRdfTriple (sym s.is) (record {
      subject = subject_is_node s.subject (chars line) t.after_subject t.subject_is;
      predicate = predicate_is_iri s.predicate t.after_subject t.after_predicate t.predicate_is;
      object = record { term = s.object; is = object_is_term s.object t.after_predicate t.after_object t.object_is; spelled = refl };
    })

-- the terms of a statement are terms
pub statement_is_terms : (text : List ℕ) (subject predicate object : RdfTerm) → scan_statement text ≡ Some (subject, predicate, object) → IsTerm subject × IsTerm predicate × IsTerm object
statement_is_terms text subject predicate object e =
    let t = statement_found text subject predicate object e in (
      subject_is_term subject text t.after_subject t.subject_is,
      predicate_is_term predicate t.after_subject t.after_predicate t.predicate_is,
      object_is_term object t.after_predicate t.after_object t.object_is,
    )

-- a text that is no end is read as its statement
pub statement_is_spelled : (text : List ℕ) (terms : Terms) → is_end text ≡ false → Some terms ≡ scan_statement text → scan_chars text ≡ spelled (triple_of terms.0 terms.1 terms.2)
unfolding scan_chars
statement_is_spelled text terms no_end found = rw (no_end, ← found) refl

-- a text that is neither its end nor a statement is bad
pub no_statement_is_bad : (text : List ℕ) → is_end text ≡ false → None ≡ scan_statement text → scan_chars text ≡ bad
unfolding scan_chars
no_statement_is_bad text no_end found = rw (no_end, ← found) refl

-- a text that is an end spells nothing
pub end_is_nothing : (text : List ℕ) → is_end text ≡ true → scan_chars text ≡ nothing
unfolding scan_chars
end_is_nothing text e = rw e refl
