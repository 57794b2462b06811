-- White space and comments: what is dropped is the longest text of them.
use Rattle.std.proofs.Common.{◌≡◌, ℕ, ◌≤◌, true, false, ◌==◌, if◌then◌else◌, inl, inr, Some, None, List, [], ◌∷◌, ◌++◌, length, refl, ap, ◌∙◌, arith, append_assoc, length-append}
use Rattle.std.proofs.lemmas.Bool.{eqb-true}
use Rattle.std.proofs.lemmas.Option.{same_Some}
use Rattle.rdf_text.specs.scanning.Text.{after_run}
use Rattle.rdf_text.specs.Repetition.{Star}
use Rattle.rdf_text.proofs.RepetitionLemmas.{GoesForward, splits}
use Rattle.rdf_text.proofs.TextLemmas.{after_run-split, after_run-append, length-after_run}
use Rattle.query_tokens.specs.Blanks.{is_white_space, IsBlank, AreBlanks}
use Rattle.rdf_text.specs.Classes.{is_comment_char}
use Rattle.query_tokens.specs.scanning.Blanks.{after_blank, after_blanks}
use Rattle.query_tokens.proofs.Walks.{Passed, IsSound, HaveLength, passes, forward, after_pieces-more, after_pieces-none}

-- what a step takes is white space or a comment
blank-sound : IsSound IsBlank after_blank
unfolding after_blank
blank-sound [] rest e = absurd (cc)
blank-sound (c ∷ cs) rest e =
    elim (is_white_space c) as (λ v. is_white_space c ≡ v → (if v then Some cs else (if c == 35 then Some (after_run is_comment_char cs) else None)) ≡ Some rest → Passed IsBlank (c ∷ cs) rest) [
      | true ↦ λ white h. record { front = c ∷ []; value = c ∷ []; piece = (inl (c, white, refl), refl); split = cc }
      | false ↦ λ white h.
          elim (c == 35) as (λ v. (c == 35) ≡ v → (if v then Some (after_run is_comment_char cs) else None) ≡ Some rest → Passed IsBlank (c ∷ cs) rest) [
            | true ↦ λ is k.
                let (words, all, split) = after_run-split is_comment_char cs in
                let first = eqb-true c 35 is in
                let same = same_Some (after_run is_comment_char cs) rest k in
                record {
                  front = c ∷ words;
                  value = c ∷ words;
                  piece = (inr (words, all, ap (λ x. x ∷ words) first), refl);
                  split = ap (λ xs. c ∷ xs) (split ∙ ap (λ xs. words ++ xs) same);
                }
            | false ↦ λ is k. absurd (cc)
          ] refl h
    ] refl e

-- each of them has a character
blank-long : HaveLength IsBlank after_blank
blank-long front v (inl (c, white, spelled), same) = rw spelled (omega arith)
blank-long front v (inr (words, all, spelled), same) = rw spelled (omega arith)

-- a step goes forward
pub blank-forward : GoesForward after_blank
blank-forward = forward IsBlank after_blank blank-sound blank-long

-- after one of them the others follow
pub blanks-more : (text rest : List ℕ) → after_blank text ≡ Some rest → after_blanks text ≡ after_blanks rest
unfolding after_blanks
blanks-more = after_pieces-more after_blank blank-forward

-- where none is in front, nothing is passed
pub blanks-none : (text : List ℕ) → after_blank text ≡ None → after_blanks text ≡ text
unfolding after_blanks
blanks-none = after_pieces-none after_blank blank-forward

pub ruleset blanks = (blank-forward, blanks-more, blanks-none)

-- a text is the blanks that it begins with, and what follows them
pub blanks-split : (text : List ℕ) → (front : List ℕ) × AreBlanks front × (text ≡ front ++ after_blanks text)
unfolding after_blanks
blanks-split text =
    let (front, vs, star, split) = splits IsBlank after_blank (passes IsBlank after_blank blank-sound) blank-forward text in
    (front, (vs, star), split)

-- what follows them is no longer than the text
length-after_blanks : (text : List ℕ) → length (after_blanks text) ≤ length text
length-after_blanks text = let (front, are, split) = blanks-split text in omega (arith, ap length split, length-append front (after_blanks text))

-- what is white space and ends no line goes on in a comment; the '#' is no white space
no_white_mark : is_white_space 35 ≡ false
unfolding is_white_space
no_white_mark = refl

-- a number sign may be in a comment
mark_in_comment : is_comment_char 35 ≡ true
unfolding is_comment_char
mark_in_comment = refl

-- Blanks in front are passed, and also where a comment goes on into them.
pub record PassesBlanks (text more : List ℕ) : Type 0 where
  pub plain : length (after_blanks (text ++ more)) ≤ length more
  pub in_comment : length (after_blanks (after_run is_comment_char (text ++ more))) ≤ length more

-- one character of white space is passed
white_step : (c : ℕ) (others : List ℕ) → is_white_space c ≡ true → after_blanks (c ∷ others) ≡ after_blanks others
unfolding after_blank
white_step c others white = blanks-more (c ∷ others) others (rw white refl)

-- a comment is passed
comment_step : (others : List ℕ) → after_blanks (35 ∷ others) ≡ after_blanks (after_run is_comment_char others)
unfolding after_blank
comment_step others = blanks-more (35 ∷ others) (after_run is_comment_char others) (rw no_white_mark refl)

-- a number sign in a comment is passed
mark_step : (others : List ℕ) → after_run is_comment_char (35 ∷ others) ≡ after_run is_comment_char others
unfolding after_run
mark_step others = rw mark_in_comment refl

-- white space after a comment is in it, or after it
white_in_comment : (c : ℕ) (others more : List ℕ) → is_white_space c ≡ true → PassesBlanks others more → length (after_blanks (after_run is_comment_char (c ∷ (others ++ more)))) ≤ length more
unfolding after_run
white_in_comment c others more white below =
    elim (is_comment_char c) as (λ v. is_comment_char c ≡ v → length (after_blanks (if v then after_run is_comment_char (others ++ more) else c ∷ (others ++ more))) ≤ length more) [
      | true ↦ λ goes. below.in_comment
      | false ↦ λ stops. rw (white_step c (others ++ more) white) below.plain
    ] refl

-- white space and comments in a row are passed
blanks_pass : (blanks : List (List ℕ)) (text more : List ℕ) → Star IsBlank text blanks → PassesBlanks text more
blanks_pass [] text more star =
    rw star record {
      plain = length-after_blanks more;
      in_comment = omega (arith, length-after_blanks (after_run is_comment_char more), length-after_run is_comment_char more);
    }
blanks_pass (blank ∷ blanks) text more (front, others, (inl (c, white, spelled), same), star, split) =
    let below = blanks_pass blanks others more star in
    rw (split, spelled) record {
      plain = rw (white_step c (others ++ more) white) below.plain;
      in_comment = white_in_comment c others more white below;
    }
blanks_pass (blank ∷ blanks) text more (front, others, (inr (words, all, spelled), same), star, split) =
    let below = blanks_pass blanks others more star in
    let comment : length (after_blanks (after_run is_comment_char (words ++ (others ++ more)))) ≤ length more = rw (after_run-append is_comment_char words (others ++ more) all) below.in_comment in
    rw (split, spelled) record {
      plain = rw (append_assoc words others more, comment_step (words ++ (others ++ more))) comment;
      in_comment = rw (append_assoc words others more, mark_step (words ++ (others ++ more))) comment;
    }

-- those in front are passed
pub blanks_reach : (front more : List ℕ) → AreBlanks front → length (after_blanks (front ++ more)) ≤ length more
blanks_reach front more (blanks, star) = (blanks_pass blanks front more star).plain
