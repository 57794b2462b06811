-- IRIs in brackets and strings between marks: what is read is what is spelled.
use Rattle.std.proofs.Common.{◌≡◌, ℕ, true, false, ◌==◌, Some, List, [], ◌∷◌, ◌++◌, refl, ap, ◌∙◌, sym, arith, append_assoc}
use Rattle.std.proofs.lemmas.Bool.Decides.{nat_tests}
use Rattle.std.proofs.lemmas.Option.{option_and_then_some, some_pair_parts}
use Rattle.rdf_text.specs.Marks.{less_than, greater_than, backslash}
use Rattle.rdf_text.specs.Repetition.{Star}
use Rattle.rdf_text.specs.scanning.Text.{after_char}
use Rattle.rdf_text.proofs.TextLemmas.{after_char-some}
use Rattle.rdf_escapes.specs.Iris.{IsIriPiece, IsIriRef}
use Rattle.rdf_escapes.specs.Strings.{is_quote, IsStringPiece, IsString}
use Rattle.rdf_text.specs.Text.{BeginsWith}
use Rattle.rdf_escapes.specs.scanning.Pieces.{values, after_values}
use Rattle.rdf_escapes.specs.scanning.Iris.{iri_piece, scan_iri_body, scan_iri_ref}
use Rattle.rdf_escapes.specs.scanning.Strings.{string_piece, scan_string_body, scan_string}
use Rattle.rdf_escapes.proofs.PieceLaws.{splits, passed_to_end}
use Rattle.rdf_escapes.proofs.CharacterLaws.{iri_piece-passes, iri_piece-forward, iri_piece-over, iri_piece-closed, string_piece-passes, string_piece-forward, string_piece-over, string_piece-closed}

-- text between an opening and a closing mark
pub enclosed : (open_mark close : ℕ) (body rest : List ℕ) → (open_mark ∷ (body ++ close ∷ [])) ++ rest ≡ open_mark ∷ (body ++ close ∷ rest)
enclosed open_mark close body rest = ap (λ xs. open_mark ∷ xs) (append_assoc body (close ∷ []) rest)

-- what is read as an IRI in brackets is one
pub iri_ref-sound : (text rest iri : List ℕ) → scan_iri_ref text ≡ Some (iri, rest) → BeginsWith IsIriRef text iri rest
unfolding scan_iri_ref scan_iri_body
iri_ref-sound text rest iri e =
    option_and_then_some _ (after_char less_than text) (iri, rest) e (λ body opens e.
    option_and_then_some _ (after_char greater_than (after_values iri_piece body)) (iri, rest) e (λ end closes e.
    let (same, ends) = some_pair_parts (values iri_piece body) iri end rest e in
    let (front, star, split) = splits iri_piece iri_piece-forward IsIriPiece iri_piece-passes body in (
      less_than ∷ (front ++ greater_than ∷ []),
      (front, rw (← same) star, refl),
      after_char-some less_than text body opens
          ∙ ap (λ xs. less_than ∷ xs) (split ∙ ap (λ xs. front ++ xs) (after_char-some greater_than (after_values iri_piece body) end closes ∙ ap (λ xs. greater_than ∷ xs) ends))
          ∙ sym (enclosed less_than greater_than front rest),
    )))

-- characters of an IRI in brackets are read
iri_ref-closed : (body rest iri : List ℕ) → Star IsIriPiece body iri → scan_iri_ref (less_than ∷ (body ++ greater_than ∷ rest)) ≡ Some (iri, rest)
unfolding scan_iri_ref scan_iri_body
iri_ref-closed body rest iri star =
    let all = passed_to_end iri_piece iri_piece-forward IsIriPiece iri_piece-over iri body (greater_than ∷ rest) star (iri_piece-closed rest) in
    let found : values iri_piece (body ++ greater_than ∷ rest) ≡ iri = ap (λ (p : List ℕ × List ℕ). p.0) all in
    let end : after_values iri_piece (body ++ greater_than ∷ rest) ≡ greater_than ∷ rest = ap (λ (p : List ℕ × List ℕ). p.1) all in
    rw (end, found) refl

-- each IRI in brackets is read, whatever follows it
pub iri_ref-again : (text rest iri : List ℕ) → IsIriRef text iri → scan_iri_ref (text ++ rest) ≡ Some (iri, rest)
iri_ref-again text rest iri (body, star, spelled) =
    ap scan_iri_ref (ap (λ xs. xs ++ rest) spelled ∙ enclosed less_than greater_than body rest) ∙ iri_ref-closed body rest iri star

-- a text in brackets spells one IRI
pub iri_ref-one : (text iri other : List ℕ) → IsIriRef text iri → IsIriRef text other → iri ≡ other
iri_ref-one text iri other is is' = (some_pair_parts iri other [] [] (sym (iri_ref-again text [] iri is) ∙ iri_ref-again text [] other is')).0

-- what is read as a string is one
pub string-sound : (mark : ℕ) (text rest lexical : List ℕ) → scan_string mark text ≡ Some (lexical, rest) → BeginsWith (IsString mark) text lexical rest
unfolding scan_string scan_string_body
string-sound mark text rest lexical e =
    option_and_then_some _ (after_char mark text) (lexical, rest) e (λ body opens e.
    option_and_then_some _ (after_char mark (after_values (string_piece mark) body)) (lexical, rest) e (λ end closes e.
    let (same, ends) = some_pair_parts (values (string_piece mark) body) lexical end rest e in
    let (front, star, split) = splits (string_piece mark) (string_piece-forward mark) (IsStringPiece mark) (string_piece-passes mark) body in (
      mark ∷ (front ++ mark ∷ []),
      (front, rw (← same) star, refl),
      after_char-some mark text body opens
          ∙ ap (λ xs. mark ∷ xs) (split ∙ ap (λ xs. front ++ xs) (after_char-some mark (after_values (string_piece mark) body) end closes ∙ ap (λ xs. mark ∷ xs) ends))
          ∙ sym (enclosed mark mark front rest),
    )))

-- a mark of strings is no backslash
quote_no_backslash : (mark : ℕ) → is_quote mark ≡ true → (mark == backslash) ≡ false
quote_no_backslash mark e = grind (arith, nat_tests)

-- a mark is itself
same_mark : (mark : ℕ) → (mark == mark) ≡ true
same_mark mark = grind (arith, nat_tests)

-- characters of a string between marks are read
string-closed : (mark : ℕ) → is_quote mark ≡ true → (body rest lexical : List ℕ) → Star (IsStringPiece mark) body lexical → scan_string mark (mark ∷ (body ++ mark ∷ rest)) ≡ Some (lexical, rest)
unfolding scan_string scan_string_body
string-closed mark quote body rest lexical star =
    let all = passed_to_end (string_piece mark) (string_piece-forward mark) (IsStringPiece mark) (string_piece-over mark) lexical body (mark ∷ rest) star (string_piece-closed mark rest (quote_no_backslash mark quote)) in
    let found : values (string_piece mark) (body ++ mark ∷ rest) ≡ lexical = ap (λ (p : List ℕ × List ℕ). p.0) all in
    let end : after_values (string_piece mark) (body ++ mark ∷ rest) ≡ mark ∷ rest = ap (λ (p : List ℕ × List ℕ). p.1) all in
    rw (same_mark mark, end, same_mark mark, found) refl

-- each string is read, whatever follows it
pub string-again : (mark : ℕ) (text rest lexical : List ℕ) → is_quote mark ≡ true → IsString mark text lexical → scan_string mark (text ++ rest) ≡ Some (lexical, rest)
string-again mark text rest lexical quote (body, star, spelled) =
    ap (scan_string mark) (ap (λ xs. xs ++ rest) spelled ∙ enclosed mark mark body rest) ∙ string-closed mark quote body rest lexical star

-- a text between marks spells one lexical form
pub string-one : (mark : ℕ) (text lexical other : List ℕ) → is_quote mark ≡ true → IsString mark text lexical → IsString mark text other → lexical ≡ other
string-one mark text lexical other quote is is' =
    (some_pair_parts lexical other [] [] (sym (string-again mark text [] lexical quote is) ∙ string-again mark text [] other quote is')).0
