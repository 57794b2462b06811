-- Reading a repetition piece by piece.
use Rattle.std.proofs.Common.{◌≡◌, ℕ, zero, suc, ◌<◌, ◌≤◌, Option, Some, None, List, [], ◌∷◌, ◌++◌, length, refl, ap, ◌∙◌, sym, arith, append_assoc}
use Rattle.std.specs.Option.{option_map_or}
use Rattle.rdf_text.specs.Repetition.{Star}
use Rattle.rdf_text.specs.scanning.Repetition.{after_up_to, after_pieces}

-- a step goes forward
abbrev pub GoesForward : (List ℕ → Option (List ℕ)) → Type 0
GoesForward step = (text rest : List ℕ) → step text ≡ Some rest → length rest < length text

-- more steps than there are characters change nothing
after_up_to-enough : (step : List ℕ → Option (List ℕ)) → GoesForward step → (m n : ℕ) (text : List ℕ) → length text ≤ m → length text ≤ n → after_up_to m step text ≡ after_up_to n step text
after_up_to-enough step forward zero zero text small small' = refl
after_up_to-enough step forward zero (suc n) text small small' =
    elim (step text) as (λ r. step text ≡ r → text ≡ option_map_or (after_up_to n step) r text) [
      | None ↦ λ e. refl
      | Some rest ↦ λ e. absurd (omega (arith, forward text rest e))
    ] refl
after_up_to-enough step forward (suc m) zero text small small' =
    elim (step text) as (λ r. step text ≡ r → option_map_or (after_up_to m step) r text ≡ text) [
      | None ↦ λ e. refl
      | Some rest ↦ λ e. absurd (omega (arith, forward text rest e))
    ] refl
after_up_to-enough step forward (suc m) (suc n) text small small' =
    elim (step text) as (λ r. step text ≡ r → option_map_or (after_up_to m step) r text ≡ option_map_or (after_up_to n step) r text) [
      | None ↦ λ e. refl
      | Some rest ↦ λ e. let less = forward text rest e in after_up_to-enough step forward m n rest (omega arith) (omega arith)
    ] refl

-- all pieces are the first one, and all pieces of what follows it
pub after_pieces-step : (step : List ℕ → Option (List ℕ)) → GoesForward step → (text : List ℕ) → after_pieces step text ≡ option_map_or (after_pieces step) (step text) text
unfolding after_pieces
after_pieces-step step forward text =
    after_up_to-enough step forward (length text) (suc (length text)) text (omega arith) (omega arith)
    ∙ elim (step text) as (λ r. step text ≡ r → option_map_or (after_up_to (length text) step) r text ≡ option_map_or (after_pieces step) r text) [
      | None ↦ λ e. refl
      | Some rest ↦ λ e. let less = forward text rest e in after_up_to-enough step forward (length text) (length rest) rest (omega arith) (omega arith)
    ] refl

module _ {V : Type 0} (P : List ℕ → V → Type 0) (step : List ℕ → Option (List ℕ)) where
  -- what step passes over is a piece
  abbrev pub PassesPieces : Type 0
  PassesPieces = (text rest : List ℕ) → step text ≡ Some rest → (front : List ℕ) × (v : V) × P front v × (text ≡ front ++ rest)

  -- a text is pieces, and something on which no further step can be made
  abbrev pub SplitsInPieces : List ℕ → Type 0
  SplitsInPieces text = (front : List ℕ) × (vs : List V) × Star P front vs × (text ≡ front ++ after_pieces step text)

  -- one more piece at the front
  splits-more : (text rest front : List ℕ) (v : V) → P front v → text ≡ front ++ rest → after_pieces step text ≡ after_pieces step rest → SplitsInPieces rest → SplitsInPieces text
  splits-more text rest front v piece split same (pieces, vs, star, splits) = (
    front ++ pieces,
    v ∷ vs,
    (front, pieces, piece, star, refl),
    rw same (split ∙ ap (λ xs. front ++ xs) splits ∙ sym (append_assoc front pieces (after_pieces step rest))),
  )

  -- where no piece is in front, nothing is passed
  splits-none : GoesForward step → (text : List ℕ) → step text ≡ None → after_pieces step text ≡ text
  splits-none forward text stuck = rw (after_pieces-step step forward text, stuck) refl

  -- so up to n characters
  splits-up_to : PassesPieces → GoesForward step → (n : ℕ) (text : List ℕ) → length text ≤ n → SplitsInPieces text
  splits-up_to passes forward zero text small =
      elim (step text) as (λ r. step text ≡ r → SplitsInPieces text) [
        | None ↦ λ e. ([], [], refl, sym (splits-none forward text e))
        | Some rest ↦ λ e. absurd (omega (arith, forward text rest e))
      ] refl
  splits-up_to passes forward (suc n) text small =
      elim (step text) as (λ r. step text ≡ r → SplitsInPieces text) [
        | None ↦ λ e. ([], [], refl, sym (splits-none forward text e))
        | Some rest ↦ λ e.
            let less = forward text rest e in
            let (front, v, piece, split) = passes text rest e in
            let same : after_pieces step text ≡ after_pieces step rest = rw (after_pieces-step step forward text, e) refl in
            splits-more text rest front v piece split same (splits-up_to passes forward n rest (omega arith))
      ] refl

  -- each text is pieces and a rest
  pub splits : PassesPieces → GoesForward step → (text : List ℕ) → SplitsInPieces text
  splits passes forward text = splits-up_to passes forward (length text) text (omega arith)

  -- no step can be made where the pieces end
  stuck-up_to : GoesForward step → (n : ℕ) (text : List ℕ) → length text ≤ n → step (after_pieces step text) ≡ None
  stuck-up_to forward zero text small =
      elim (step text) as (λ r. step text ≡ r → step (after_pieces step text) ≡ None) [
        | None ↦ λ e. rw (splits-none forward text e) e
        | Some rest ↦ λ e. absurd (omega (arith, forward text rest e))
      ] refl
  stuck-up_to forward (suc n) text small =
      elim (step text) as (λ r. step text ≡ r → step (after_pieces step text) ≡ None) [
        | None ↦ λ e. rw (splits-none forward text e) e
        | Some rest ↦ λ e.
            let less = forward text rest e in
            let same : after_pieces step text ≡ after_pieces step rest = rw (after_pieces-step step forward text, e) refl in
            rw same (stuck-up_to forward n rest (omega arith))
      ] refl

  -- after all pieces no further step can be made
  pub stuck : GoesForward step → (text : List ℕ) → step (after_pieces step text) ≡ None
  stuck forward text = stuck-up_to forward (length text) text (omega arith)

  module _ (MayFollow : List ℕ → Type 0) (piece_may : (front rest : List ℕ) (v : V) → P front v → MayFollow (front ++ rest)) where
    -- pieces may follow where one of them may
    pieces_may : (vs : List V) (text rest : List ℕ) → Star P text vs → MayFollow rest → MayFollow (text ++ rest)
    pieces_may [] text rest star may = rw star may
    pieces_may (v ∷ vs) text rest (front, others, piece, star, split) may = rw (split, append_assoc front others rest) (piece_may front (others ++ rest) v piece)

    -- pieces at the front of a text are passed over, where each is passed over before what may follow it
    pub passed : GoesForward step
        → ((front rest : List ℕ) (v : V) → P front v → MayFollow rest → step (front ++ rest) ≡ Some rest)
        → (vs : List V) (text rest : List ℕ) → Star P text vs → MayFollow rest → after_pieces step (text ++ rest) ≡ after_pieces step rest
    passed forward passes [] text rest star may = rw star refl
    passed forward passes (v ∷ vs) text rest (front, others, piece, star, split) may =
        let made : step (text ++ rest) ≡ Some (others ++ rest) = rw (split, append_assoc front others rest) (passes front (others ++ rest) v piece (pieces_may vs others rest star may)) in
        rw (after_pieces-step step forward (text ++ rest), made) (passed forward passes vs others rest star may)
