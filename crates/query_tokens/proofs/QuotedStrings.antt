-- Strings between marks: what is read is one, and each is read.
use Rattle.std.proofs.Common.{◌≡◌, ℕ, true, false, ◌==◌, ◌||◌, not, inl, inr, Some, None, List, [], ◌∷◌, ◌++◌, refl, ap, ◌∙◌, sym, arith, append_assoc}
use Rattle.std.proofs.lemmas.Bool.{and_parts, eq-eqb}
use Rattle.std.proofs.lemmas.Bool.Decides.{nat_tests}
use Rattle.rdf_text.specs.Classes.{is_scalar}
use Rattle.rdf_text.specs.scanning.Text.{after_char}
use Rattle.rdf_text.specs.Repetition.{Star}
use Rattle.rdf_text.proofs.TextLemmas.{after_char-some}
use Rattle.rdf_escapes.specs.Strings.{is_quote, is_string_char, IsStringPiece}
use Rattle.rdf_escapes.specs.scanning.Pieces.{values, after_values}
use Rattle.rdf_escapes.specs.scanning.Strings.{string_piece}
use Rattle.rdf_escapes.proofs.PieceLaws.{splits, passed_to_end}
use Rattle.rdf_escapes.proofs.CharacterLaws.{string_piece-passes, string_piece-forward, string_piece-over, string_piece-closed}
use Rattle.query_tokens.specs.Strings.{IsQuoted}
use Rattle.query_tokens.specs.scanning.Strings.{after_string}

module _ (mark : ℕ) where
  -- what is read after a mark is a string
  pub after_string-sound : is_quote mark ≡ true → (text rest : List ℕ) → after_string mark text ≡ Some rest → (front : List ℕ) × IsQuoted (mark ∷ front) × (text ≡ front ++ rest)
  unfolding after_string
  after_string-sound quote text rest e =
      let (body, star, split) = splits (string_piece mark) (string_piece-forward mark) (IsStringPiece mark) (string_piece-passes mark) text in (
        body ++ mark ∷ [],
        (values (string_piece mark) text, record { mark = mark; quote = quote; string = (body, star, refl) }),
        split ∙ ap (λ xs. body ++ xs) (after_char-some mark (after_values (string_piece mark) text) rest e) ∙ sym (append_assoc body (mark ∷ []) rest),
      )

  -- each string is read, and no more
  pub after_string-again : is_quote mark ≡ true → (lexical : List ℕ) (body rest : List ℕ) → Star (IsStringPiece mark) body lexical → after_string mark (body ++ mark ∷ rest) ≡ Some rest
  unfolding after_string
  after_string-again quote lexical body rest star =
      let other : (mark == 92) ≡ false = grind (arith, nat_tests) in
      let all = passed_to_end (string_piece mark) (string_piece-forward mark) (IsStringPiece mark) (string_piece-over mark) lexical body (mark ∷ rest) star (string_piece-closed mark rest other) in
      let end : after_values (string_piece mark) (body ++ mark ∷ rest) ≡ mark ∷ rest = ap (λ (p : List ℕ × List ℕ). p.1) all in
      rw (end, eq-eqb mark mark refl) refl

  -- a text that begins with another character does not begin with the mark
  begins_other : (x : ℕ) (xs body rest : List ℕ) → body ≡ x ∷ xs → (x == mark) ≡ false → after_char mark (body ++ rest) ≡ None
  begins_other x xs body rest split other = rw (split, other) refl

  -- a raw character is not the mark
  raw_other : (c : ℕ) → is_string_char mark c ≡ true → (c == mark) ≡ false
  unfolding is_string_char
  raw_other c raw =
      let (_, good) = and_parts (is_scalar c) (not (c == mark || c == 92 || c == 10 || c == 13)) raw in
      elim (c == mark) as (λ v. not (v || c == 92 || c == 10 || c == 13) ≡ true → v ≡ false) [ true ↦ λ h. absurd (cc) | false ↦ λ h. refl ] good

  -- a backslash is not the mark
  quote_other : is_quote mark ≡ true → (92 == mark) ≡ false
  quote_other quote = grind (arith, nat_tests)

  -- a string with a character in it does not begin with two marks
  pub body_begins : (c : ℕ) (lexical : List ℕ) (body rest : List ℕ) → is_quote mark ≡ true → Star (IsStringPiece mark) body (c ∷ lexical) → after_char mark (body ++ rest) ≡ None
  body_begins c lexical body rest quote (front, others, inl (raw, spelled), star, split) =
      begins_other c others body rest (split ∙ ap (λ xs. xs ++ others) spelled) (raw_other c raw)
  body_begins c lexical body rest quote (front, others, inr (inl (letter, stands, spelled)), star, split) =
      begins_other 92 (letter ∷ others) body rest (split ∙ ap (λ xs. xs ++ others) spelled) (quote_other quote)
  body_begins c lexical body rest quote (front, others, inr (inr uchar), star, split) =
      begins_other 92 (uchar.letter ∷ (uchar.digits ++ others)) body rest (split ∙ ap (λ xs. xs ++ others) uchar.spelled) (quote_other quote)
