-- IRIs between angle brackets: what is read is one, and each is read.
use Rattle.std.proofs.Common.{◌≡◌, ℕ, Some, List, [], ◌∷◌, ◌++◌, refl, ap, ◌∙◌, sym, append_assoc}
use Rattle.rdf_text.proofs.TextLemmas.{after_char-some}
use Rattle.rdf_escapes.specs.Iris.{IsIriPiece, IsIriRef}
use Rattle.rdf_escapes.specs.scanning.Pieces.{values, after_values}
use Rattle.rdf_escapes.specs.scanning.Iris.{iri_piece}
use Rattle.rdf_escapes.proofs.PieceLaws.{splits, passed_to_end}
use Rattle.rdf_escapes.proofs.CharacterLaws.{iri_piece-passes, iri_piece-forward, iri_piece-over, iri_piece-closed}
use Rattle.rdf_text.specs.Text.{IsOf}
use Rattle.rdf_escapes.specs.Iris.{IsIriRef}
use Rattle.query_tokens.specs.scanning.Iris.{after_iri}

-- what is read after a '<' is an IRI
pub after_iri-sound : (text rest : List ℕ) → after_iri text ≡ Some rest → (front : List ℕ) × IsOf IsIriRef (60 ∷ front) × (text ≡ front ++ rest)
unfolding after_iri
after_iri-sound text rest e =
    let (body, star, split) = splits iri_piece iri_piece-forward IsIriPiece iri_piece-passes text in (
      body ++ 62 ∷ [],
      (values iri_piece text, (body, star, refl)),
      split ∙ ap (λ xs. body ++ xs) (after_char-some 62 (after_values iri_piece text) rest e) ∙ sym (append_assoc body (62 ∷ []) rest),
    )

-- each IRI is read, and no more
pub after_iri-again : (iri text : List ℕ) → IsIriRef text iri → (front : List ℕ) × (text ≡ 60 ∷ front) × ((rest : List ℕ) → after_iri (front ++ rest) ≡ Some rest)
unfolding after_iri
after_iri-again iri text (body, star, spelled) = (
  body ++ 62 ∷ [],
  spelled,
  λ rest.
      let all = passed_to_end iri_piece iri_piece-forward IsIriPiece iri_piece-over iri body (62 ∷ rest) star (iri_piece-closed rest) in
      let end : after_values iri_piece (body ++ 62 ∷ rest) ≡ 62 ∷ rest = ap (λ (p : List ℕ × List ℕ). p.1) all in
      rw (append_assoc body (62 ∷ []) rest, end) refl,
)
