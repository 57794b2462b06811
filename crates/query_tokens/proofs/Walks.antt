-- Walks over pieces in a row, each of which is passed whatever follows it.
use Rattle.std.proofs.Common.{◌≡◌, ℕ, ◌<◌, ◌≤◌, ◌⊎◌, inl, inr, Option, Some, None, List, [], ◌∷◌, ◌++◌, length, refl, ap, ◌∙◌, sym, arith, length-append}
use Rattle.std.proofs.lemmas.Bool.{eq-eqb}
use Rattle.rdf_text.specs.scanning.Text.{after_char}
use Rattle.rdf_text.specs.Repetition.{Star}
use Rattle.rdf_text.specs.scanning.Repetition.{after_pieces}
use Rattle.rdf_text.proofs.TextLemmas.{after_char-some}
use Rattle.rdf_text.proofs.RepetitionLemmas.{GoesForward, after_pieces-step, PassesPieces, splits, passed}

-- the front of a text that one step passes
pub record Passed {V : Type 0} (P : List ℕ → V → Type 0) (text rest : List ℕ) : Type 0 where
  pub front : List ℕ
  pub value : V
  pub piece : P front value
  pub split : text ≡ front ++ rest

module _ {V : Type 0} (P : List ℕ → V → Type 0) (step : List ℕ → Option (List ℕ)) where
  -- what a step takes is a piece
  abbrev pub IsSound : Type 0
  IsSound = (text rest : List ℕ) → step text ≡ Some rest → Passed P text rest

  -- each piece has a character
  abbrev pub HaveLength : Type 0
  HaveLength = (front : List ℕ) (v : V) → P front v → 0 < length front

  -- a step passes each piece
  abbrev pub PassesEach : Type 0
  PassesEach = (front rest : List ℕ) (v : V) → P front v → step (front ++ rest) ≡ Some rest

  -- so it passes over pieces
  pub passes : IsSound → PassesPieces P step
  passes sound text rest e = let found = sound text rest e in (found.front, found.value, found.piece, found.split)

  -- so it goes forward
  pub forward : IsSound → HaveLength → GoesForward step
  forward sound long text rest e =
      let found = sound text rest e in
      omega (arith, ap length found.split, length-append found.front rest, long found.front found.value found.piece)

  -- what follows the pieces is no longer than the text
  pub length-after_pieces : IsSound → HaveLength → (text : List ℕ) → length (after_pieces step text) ≤ length text
  length-after_pieces sound long text =
      let (front, vs, star, split) = splits P step (passes sound) (forward sound long) text in
      omega (arith, ap length split, length-append front (after_pieces step text))

  module _ (close : ℕ) where
    -- pieces, and then the closing mark
    pub record Closed (text rest : List ℕ) : Type 0 where
      pub body : List ℕ
      pub values : List V
      pub star : Star P body values
      pub split : text ≡ body ++ close ∷ rest

    -- pieces up to a closing character
    pub closed : IsSound → HaveLength → (text rest : List ℕ) → after_char close (after_pieces step text) ≡ Some rest → Closed text rest
    closed sound long text rest e =
        let (front, vs, star, split) = splits P step (passes sound) (forward sound long) text in
        let ends = after_char-some close (after_pieces step text) rest e in
        record {
          body = front;
          values = vs;
          star = star;
          split = split ∙ ap (λ xs. front ++ xs) ends;
        }

    -- the closing mark is no piece, so just what follows it is read
    pub closed_again : IsSound → HaveLength → PassesEach → ((rest : List ℕ) → step (close ∷ rest) ≡ None)
        → (vs : List V) (body rest : List ℕ) → Star P body vs → after_char close (after_pieces step (body ++ close ∷ rest)) ≡ Some rest
    closed_again sound long each stops vs body rest star =
        let ahead = forward sound long in
        let whole = passed P step (λ _. Unit {0}) (λ _ _ _ _. tt) ahead (λ front more v piece _. each front more v piece) vs body (close ∷ rest) star tt in
        let stop : after_pieces step (close ∷ rest) ≡ close ∷ rest = rw (after_pieces-step step ahead (close ∷ rest), stops rest) refl in
        rw (whole, stop, eq-eqb close close refl) refl

-- after one piece the others follow
pub after_pieces-more : (step : List ℕ → Option (List ℕ)) → GoesForward step → (text rest : List ℕ) → step text ≡ Some rest → after_pieces step text ≡ after_pieces step rest
after_pieces-more step ahead text rest e = rw (after_pieces-step step ahead text, e) refl

-- where no piece is in front, nothing is passed
pub after_pieces-none : (step : List ℕ → Option (List ℕ)) → GoesForward step → (text : List ℕ) → step text ≡ None → after_pieces step text ≡ text
after_pieces-none step ahead text e = rw (after_pieces-step step ahead text, e) refl

-- of two fronts of a text one goes on in the other
abbrev pub GoesOn : List ℕ → List ℕ → List ℕ → List ℕ → Type 0
GoesOn a x b y = (more : List ℕ) × (b ≡ a ++ more) × (x ≡ more ++ y)

-- of two fronts of a text one goes on after the other
pub goes_on : (a x b y : List ℕ) → a ++ x ≡ b ++ y → GoesOn a x b y ⊎ GoesOn b y a x
goes_on [] x b y whole = inl (b, refl, whole)
goes_on (c ∷ cs) x [] y whole = inr (c ∷ cs, refl, sym whole)
goes_on (c ∷ cs) x (d ∷ ds) y whole =
    let first : c ≡ d = cc in
    let others : cs ++ x ≡ ds ++ y = cc in
    elim (goes_on cs x ds y others) [
      | inl (more, b_is, x_is) ↦ inl (more, rw first (ap (λ xs. d ∷ xs) b_is), x_is)
      | inr (more, a_is, y_is) ↦ inr (more, rw first (ap (λ xs. d ∷ xs) a_is), y_is)
    ]
