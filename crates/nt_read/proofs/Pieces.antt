-- The lines of two texts joined, from those of each: the last line of the first goes on in the first line of the second.
use Rattle.std.proofs.Common.{◌≡◌, ℕ, suc, ◌+◌, ◌-◌, Bool, true, false, ◌==◌, inl, inr, if◌then◌else◌, List, [], ◌∷◌, ◌++◌, length, get_or, ◌<◌, refl, sym, ap, ◌∙◌, append_assoc, arith}
use Rattle.std.specs.List.{concat}
use Rattle.std.proofs.lemmas.List.{append-nil, length-append}
use Rattle.std.proofs.lemmas.Bool.Decides.{eqb_tells}
use Rattle.nt_read.specs.scanning.Lines.{before_first_line, lines_after, lines_of}
use Rattle.nt_read.specs.Lines.{HasNoEnd}
use Rattle.nt_read.specs.Pieces.{Stream, new_stream, counted, without_lf, ends_with_cr, ended, unfinished, lines_with, ended_in, cut, cut_all, ended_in_all}
use Rattle.nt_read.proofs.Splits.{plain, after_cr}
use Rattle.nt_read.proofs.Cuts.{not_end, unfinished-no_end}

-- a text before the first line
abbrev pub in_front : List ℕ → List (List ℕ) → List (List ℕ)
in_front text [] = text ∷ []
in_front text (line ∷ lines) = (text ++ line) ∷ lines

-- lines after lines: the last goes on in the first
abbrev pub joined : List (List ℕ) → List (List ℕ) → List (List ℕ)
joined lines more = ended lines ++ in_front (unfinished lines) more

-- there is a line
pub data HasLine : List (List ℕ) → Type 0 where
  has_line : (line : List ℕ) (lines : List (List ℕ)) → HasLine (line ∷ lines)

-- before the first line there is one
front-line : (b : ℕ) (lines : List (List ℕ)) → HasLine (before_first_line b lines)
front-line b [] = has_line (b ∷ []) []
front-line b (line ∷ lines) = has_line (b ∷ line) lines

-- bytes have a line, if an empty one
pub some_line : (cr : Bool) (bytes : List ℕ) → HasLine (lines_after cr bytes)
some_line cr [] = has_line [] []
some_line cr (b ∷ bytes) =
    elim (b == 10) as (λ lf. HasLine (if lf then (if cr then lines_after false bytes else [] ∷ lines_after false bytes) else (if b == 13 then [] ∷ lines_after true bytes else before_first_line b (lines_after false bytes)))) [
      | true ↦ elim cr as (λ cr. HasLine (if cr then lines_after false bytes else [] ∷ lines_after false bytes)) [
        | true ↦ some_line false bytes
        | false ↦ has_line [] (lines_after false bytes)
      ]
      | false ↦ elim (b == 13) as (λ c. HasLine (if c then [] ∷ lines_after true bytes else before_first_line b (lines_after false bytes))) [
        | true ↦ has_line [] (lines_after true bytes)
        | false ↦ front-line b (lines_after false bytes)
      ]
    ]

-- nothing in front changes nothing
in_front-nil : (lines : List (List ℕ)) → HasLine lines → in_front [] lines ≡ lines
in_front-nil lines (has_line line others) = refl

-- an empty line more before lines that are joined
joined-empty : (lines more : List (List ℕ)) → HasLine lines → [] ∷ joined lines more ≡ joined ([] ∷ lines) more
joined-empty lines more (has_line line others) = refl

-- a byte more before lines that are joined
joined-byte : (b : ℕ) (lines more : List (List ℕ)) → HasLine lines → HasLine more → before_first_line b (joined lines more) ≡ joined (before_first_line b lines) more
joined-byte b lines more (has_line line []) (has_line next others) = refl
joined-byte b lines more (has_line line (second ∷ later)) is = refl

-- the lines of texts joined are their lines joined
pub lines-joined : (cr : Bool) (xs ys : List ℕ) → lines_after cr (xs ++ ys) ≡ joined (lines_after cr xs) (lines_after (ends_with_cr cr xs) ys)
lines-joined cr [] ys = sym (in_front-nil (lines_after cr ys) (some_line cr ys))
lines-joined cr (b ∷ xs) ys =
    elim (eqb_tells b 10) [
      | inl lf ↦ rw lf.1 (elim cr as (λ cr. (if cr then lines_after false (xs ++ ys) else [] ∷ lines_after false (xs ++ ys)) ≡ joined (if cr then lines_after false xs else [] ∷ lines_after false xs) (lines_after (ends_with_cr false xs) ys)) [
        | true ↦ lines-joined false xs ys
        | false ↦ ap (λ lines. [] ∷ lines) (lines-joined false xs ys) ∙ joined-empty (lines_after false xs) (lines_after (ends_with_cr false xs) ys) (some_line false xs)
      ])
      | inr other ↦ elim (eqb_tells b 13) [
        | inl is ↦ rw is.1 (ap (λ lines. [] ∷ lines) (lines-joined true xs ys) ∙ joined-empty (lines_after true xs) (lines_after (ends_with_cr true xs) ys) (some_line true xs))
        | inr neither ↦ rw (other.0, neither.0) (ap (before_first_line b) (lines-joined false xs ys)
            ∙ joined-byte b (lines_after false xs) (lines_after (ends_with_cr false xs) ys) (some_line false xs) (some_line (ends_with_cr false xs) ys))
      ]
    ]

-- the lines after a CR or not are those without the LF that belongs to it
pub lines-without : (cr : Bool) (bytes : List ℕ) → lines_after cr bytes ≡ lines_after false (without_lf cr bytes)
lines-without true bytes = after_cr bytes
lines-without false bytes = refl

-- a byte and a text in front of the first line
front-byte : (b : ℕ) (text : List ℕ) (lines : List (List ℕ)) → HasLine lines → before_first_line b (in_front text lines) ≡ in_front (b ∷ text) lines
front-byte b text lines (has_line line others) = refl

-- a text without a line end is in front of the first line
pub lines-in_front : (text bytes : List ℕ) → HasNoEnd text → lines_after false (text ++ bytes) ≡ in_front text (lines_after false bytes)
lines-in_front [] bytes never = sym (in_front-nil (lines_after false bytes) (some_line false bytes))
lines-in_front (b ∷ text) bytes never =
    let later = lines-in_front text bytes (λ k d below. never (suc k) d (omega arith)) in
    plain b (text ++ bytes) (not_end b (never 0 b (omega arith))) ∙ ap (before_first_line b) later ∙ front-byte b text (lines_after false bytes) (some_line false bytes)

-- a first line that begins with a text
pub first_line-front : (text bytes line : List ℕ) (lines : List (List ℕ)) → HasNoEnd text → lines_of bytes ≡ line ∷ lines → lines_of (text ++ bytes) ≡ (text ++ line) ∷ lines
unfolding lines_of
first_line-front text bytes line lines never is = lines-in_front text bytes never ∙ ap (in_front text) is

-- lines that have ended, and the last one, are all lines
ended-all : (lines : List (List ℕ)) → HasLine lines → ended lines ++ unfinished lines ∷ [] ≡ lines
ended-all lines (has_line line []) = refl
ended-all lines (has_line line (next ∷ others)) = ap (λ rest. line ∷ rest) (ended-all (next ∷ others) (has_line next others))

-- a line more in front of some lines
next : (line : List ℕ) (lines : List (List ℕ)) → HasLine lines → ended (line ∷ lines) ≡ line ∷ ended lines
next line lines (has_line first others) = refl

-- and the last of them stays
next_last : (line : List ℕ) (lines : List (List ℕ)) → HasLine lines → unfinished (line ∷ lines) ≡ unfinished lines
next_last line lines (has_line first others) = refl

-- so of a file
pub lines_of-ended : (bytes : List ℕ) → ended (lines_of bytes) ++ unfinished (lines_of bytes) ∷ [] ≡ lines_of bytes
unfolding lines_of
lines_of-ended bytes = ended-all (lines_after false bytes) (some_line false bytes)

-- a line more in front of those that have ended
pub ended-next : (line bytes : List ℕ) → ended (line ∷ lines_of bytes) ≡ line ∷ ended (lines_of bytes)
unfolding lines_of
ended-next line bytes = next line (lines_after false bytes) (some_line false bytes)

-- and the last line stays
pub unfinished-next : (line bytes : List ℕ) → unfinished (line ∷ lines_of bytes) ≡ unfinished (lines_of bytes)
unfolding lines_of
unfinished-next line bytes = next_last line (lines_after false bytes) (some_line false bytes)

-- those that have ended of two lists in a row
ended-append : (lines more : List (List ℕ)) → HasLine more → ended (lines ++ more) ≡ lines ++ ended more
ended-append [] more is = refl
ended-append (line ∷ []) more (has_line first others) = refl
ended-append (line ∷ next ∷ lines) more is = ap (λ rest. line ∷ rest) (ended-append (next ∷ lines) more is)

-- the last of two lists in a row
unfinished-append : (lines more : List (List ℕ)) → HasLine more → unfinished (lines ++ more) ≡ unfinished more
unfinished-append [] more is = refl
unfinished-append (line ∷ []) more (has_line first others) = refl
unfinished-append (line ∷ next ∷ lines) more is = unfinished-append (next ∷ lines) more is

-- whether bytes in a row end with CR
ends_with_cr-append : (was : Bool) (xs ys : List ℕ) → ends_with_cr was (xs ++ ys) ≡ ends_with_cr (ends_with_cr was xs) ys
ends_with_cr-append was [] ys = refl
ends_with_cr-append was (b ∷ xs) ys = ends_with_cr-append (b == 13) xs ys

-- the last byte says it, where there is one
pub ends_with_last : (was : Bool) (bytes : List ℕ) → 0 < length bytes → ends_with_cr was bytes ≡ (get_or bytes (length bytes - 1) 0 == 13)
ends_with_last was [] some = absurd (omega arith)
ends_with_last was (b ∷ []) some = refl
ends_with_last was (b ∷ c ∷ bytes) some =
    let at : length (b ∷ c ∷ bytes) - 1 ≡ suc (length (c ∷ bytes) - 1) = omega arith in
    rw at (ends_with_last (b == 13) (c ∷ bytes) (omega arith))

-- the stream after some bytes, and the lines of a piece after it
abbrev after : List ℕ → Stream
after bytes = cut new_stream bytes

-- there is a line of a piece
lines_with-some : (stream : Stream) (piece : List ℕ) → HasLine (lines_with stream piece)
unfolding lines_of
lines_with-some stream piece = some_line false (stream.text ++ without_lf stream.after_cr piece)

-- the lines of bytes and a piece after them: those that have ended in the bytes, and those of the piece
pub lines-cut : (bytes piece : List ℕ) → lines_of (bytes ++ piece) ≡ ended (lines_of bytes) ++ lines_with (cut new_stream bytes) piece
unfolding lines_of
lines-cut bytes piece =
    let last = unfinished (lines_after false bytes) in
    let cr = ends_with_cr false bytes in
    lines-joined false bytes piece ∙ ap (λ lines. ended (lines_after false bytes) ++ lines) (ap (in_front last) (lines-without cr piece)
    ∙ sym (lines-in_front last (without_lf cr piece) (unfinished-no_end bytes)))

-- those of them that have ended
pub ended-cut : (bytes piece : List ℕ) → ended_in new_stream (bytes ++ piece) ≡ ended_in new_stream bytes ++ ended_in (cut new_stream bytes) piece
ended-cut bytes piece = ap ended (lines-cut bytes piece) ∙ ended-append (ended (lines_of bytes)) (lines_with (after bytes) piece) (lines_with-some (after bytes) piece)

-- and the one that has not
unfinished-cut : (bytes piece : List ℕ) → unfinished (lines_of (bytes ++ piece)) ≡ unfinished (lines_with (cut new_stream bytes) piece)
unfinished-cut bytes piece = ap unfinished (lines-cut bytes piece) ∙ unfinished-append (ended (lines_of bytes)) (lines_with (after bytes) piece) (lines_with-some (after bytes) piece)

-- numbers of line ends in a row
pub counted-twice : (a b c : ℕ) → counted (counted (a + b) + c) ≡ counted (a + (b + c))
counted-twice a b c = omega arith

-- a stream is its three values
same_stream : (m n : ℕ) (xs ys : List ℕ) (a b : Bool) → m ≡ n → xs ≡ ys → a ≡ b → ◌≡◌ {A = Stream} (record { ends = m; text = xs; after_cr = a }) (record { ends = n; text = ys; after_cr = b })
same_stream m n xs ys a b ends text cr = rw (ends, text, cr) refl

-- the values of a stream after a piece
pub cut_is : (stream : Stream) (piece bytes text : List ℕ) (ends : ℕ) (cr : Bool) → bytes ≡ without_lf stream.after_cr piece → text ≡ unfinished (lines_of (stream.text ++ bytes))
    → ends ≡ counted (stream.ends + length (ended (lines_of (stream.text ++ bytes)))) → cr ≡ ends_with_cr stream.after_cr piece → ◌≡◌ {A = Stream} (record { ends = ends; text = text; after_cr = cr }) (cut stream piece)
cut_is stream piece bytes text ends cr is last counts mark =
    let P : List ℕ → ℕ = λ xs. counted (stream.ends + length (ended (lines_of (stream.text ++ xs)))) in
    same_stream _ _ _ _ _ _ (counts ∙ ap P is) (last ∙ ap (λ xs. unfinished (lines_of (stream.text ++ xs))) is) mark

-- a piece after bytes is cut as one text with them
pub cut-twice : (bytes piece : List ℕ) → cut (cut new_stream bytes) piece ≡ cut new_stream (bytes ++ piece)
cut-twice bytes piece =
    let b = ended_in new_stream bytes in
    let p = ended_in (after bytes) piece in
    let ends : counted ((after bytes).ends + length p) ≡ counted (0 + length (ended_in new_stream (bytes ++ piece))) =
    counted-twice 0 (length b) (length p) ∙ ap (λ n. counted (0 + n)) (sym (ap length (ended-cut bytes piece) ∙ length-append b p)) in
    let text = sym (unfinished-cut bytes piece) in
    let cr = sym (ends_with_cr-append false bytes piece) in
    same_stream _ _ _ _ _ _ ends text cr

-- nothing leaves a new stream
pub cut-nothing : cut new_stream [] ≡ new_stream
unfolding lines_of
cut-nothing = refl

-- pieces after bytes are cut as one text with them
cut_all-after : (bytes : List ℕ) (pieces : List (List ℕ)) → cut_all (cut new_stream bytes) pieces ≡ cut new_stream (bytes ++ concat pieces)
cut_all-after bytes [] = ap (cut new_stream) (sym (append-nil bytes))
cut_all-after bytes (piece ∷ pieces) =
    ap (λ stream. cut_all stream pieces) (cut-twice bytes piece) ∙ cut_all-after (bytes ++ piece) pieces ∙ ap (cut new_stream) (append_assoc bytes piece (concat pieces))

-- pieces are cut as one
pub pieces-cut : (pieces : List (List ℕ)) → cut_all new_stream pieces ≡ cut new_stream (concat pieces)
pieces-cut pieces = ap (λ stream. cut_all stream pieces) (sym cut-nothing) ∙ cut_all-after [] pieces

-- the lines that end in bytes and in pieces after them
ended-after : (bytes : List ℕ) (pieces : List (List ℕ)) → ended_in new_stream bytes ++ ended_in_all (cut new_stream bytes) pieces ≡ ended_in new_stream (bytes ++ concat pieces)
ended-after bytes [] = append-nil (ended_in new_stream bytes) ∙ ap (ended_in new_stream) (sym (append-nil bytes))
ended-after bytes (piece ∷ pieces) =
    let b = ended_in new_stream bytes in
    let p = ended_in (after bytes) piece in
    sym (append_assoc b p (ended_in_all (cut (after bytes) piece) pieces))
    ∙ ap (λ lines. lines ++ ended_in_all (cut (after bytes) piece) pieces) (sym (ended-cut bytes piece))
    ∙ ap (λ stream. ended_in new_stream (bytes ++ piece) ++ ended_in_all stream pieces) (cut-twice bytes piece)
    ∙ ended-after (bytes ++ piece) pieces
    ∙ ap (ended_in new_stream) (append_assoc bytes piece (concat pieces))

-- no line ends in nothing
pub ended-nothing : ended_in new_stream [] ≡ []
unfolding lines_of
ended-nothing = refl

-- the lines that end in pieces, and the unfinished line, are those of the pieces joined
pub pieces-lines : (pieces : List (List ℕ)) → ended_in_all new_stream pieces ++ (cut_all new_stream pieces).text ∷ [] ≡ lines_of (concat pieces)
pieces-lines pieces =
    let ends : ended_in_all new_stream pieces ≡ ended_in new_stream (concat pieces) =
    ap (λ stream. ended_in_all stream pieces) (sym cut-nothing) ∙ ap (λ lines. lines ++ ended_in_all (after []) pieces) (sym ended-nothing) ∙ ended-after [] pieces in
    ap (λ lines. lines ++ (cut_all new_stream pieces).text ∷ []) ends
    ∙ ap (λ stream. ended_in new_stream (concat pieces) ++ stream.text ∷ []) (pieces-cut pieces)
    ∙ lines_of-ended (concat pieces)
