-- A text that is printed through a buffer, piece by piece.
use Rattle.std.proofs.Common.{◌≡◌, ℕ, ◌+◌, ◌<◌, List, [], ◌∷◌, ◌++◌, length, take, drop, get_or, Option, refl, sym, ◌∙◌, ap, append_assoc, take-append-drop}
use Rattle.std.specs.Prelude.{slice_index_or}
use Rattle.std.specs.List.{concat}
use Rattle.std.proofs.lemmas.List.{append-nil, take_more}
use Rattle.bm_world.specs.Meanings.{Meanings, with_printed}
use Rattle.bm_world.specs.World.{Step, AppendsSome}
use Rattle.bm_world.proofs.Steps.{Step-then, Step-weaken, Step-stay}
use Rattle.bm_world.proofs.Appending.{printed_appends}
use Rattle.result_write.specs.held.Buffered.{HandedOn}

-- nothing is printed
printed_nothing : (m : Meanings) → m ≡ with_printed m []
printed_nothing m = ap (λ (text : List ℕ). record m { printed = text }) (sym (append-nil m.printed))

-- the front of a longer text is one of its fronts
some_front : (whole front more : List ℕ) (m n : Meanings) → whole ≡ front ++ more → n ≡ with_printed m front → AppendsSome with_printed whole m n
some_front whole front more m n is moved = (length front, moved ∙ ap (with_printed m) (sym (ap (take (length front)) is ∙ front_of front more)))
  where
    front_of : (xs ys : List ℕ) → take (length xs) (xs ++ ys) ≡ xs
    front_of [] ys = refl
    front_of (x ∷ xs) ys = ap (λ zs. x ∷ zs) (front_of xs ys)

-- nothing was handed on yet
pub hands_none : {a : Option Meanings} (text : List ℕ) → Step a a (HandedOn text text)
hands_none text = Step-stay (λ m. record { front = []; whole = refl; moved = printed_nothing m })

-- all was handed on
pub hands_all : {a b : Option Meanings} (text printed buffer : List ℕ) → printed ≡ text → buffer ≡ [] → Step a b (λ m n. n ≡ with_printed m printed) → Step a b (HandedOn text buffer)
hands_all text printed buffer is empty step = Step-weaken step (λ m n moved. record {
  front = text;
  whole = ap (λ buffer. text ++ buffer) empty ∙ append-nil text;
  moved = moved ∙ ap (with_printed m) is;
})

-- a front of an equal text
pub hands_some : {a b : Option Meanings} (text printed : List ℕ) → printed ≡ text → Step a b (AppendsSome with_printed printed) → Step a b (AppendsSome with_printed text)
hands_some text printed is step = Step-weaken step (λ m n moved. (moved.0, moved.1 ∙ ap (λ text. with_printed m (take moved.0 text)) is))

-- a piece more is handed on
pub hands_more : {a b c : Option Meanings} (text buffer piece after whole : List ℕ) → whole ≡ text ++ piece → Step a b (HandedOn text buffer) → Step b c (HandedOn (buffer ++ piece) after) → Step a c (HandedOn whole after)
hands_more text buffer piece after whole is before call = Step-then before call (λ m k n so_far moved. record {
  front = so_far.front ++ moved.front;
  whole = append_assoc so_far.front moved.front after ∙ ap (λ rest. so_far.front ++ rest) moved.whole
      ∙ sym (append_assoc so_far.front buffer piece) ∙ ap (λ text. text ++ piece) so_far.whole ∙ sym is;
  moved = moved.moved ∙ ap (λ k. with_printed k moved.front) so_far.moved ∙ printed_appends m so_far.front moved.front;
})

-- a piece fails: a front of the whole is printed
pub hands_no_more : {a b c : Option Meanings} (text buffer piece more whole : List ℕ) → whole ≡ (text ++ piece) ++ more → Step a b (HandedOn text buffer) → Step b c (AppendsSome with_printed (buffer ++ piece)) → Step a c (AppendsSome with_printed whole)
hands_no_more text buffer piece more whole is before call = Step-then before call (λ m k n so_far moved.
    some_front whole (so_far.front ++ take moved.0 (buffer ++ piece)) (drop moved.0 (buffer ++ piece) ++ more) m n
    (is ∙ ap (λ text. (text ++ piece) ++ more) (sym so_far.whole) ∙ ap (λ text. text ++ more) (append_assoc so_far.front buffer piece)
    ∙ ap (λ rest. (so_far.front ++ rest) ++ more) (sym (take-append-drop moved.0 (buffer ++ piece)))
    ∙ ap (λ text. text ++ more) (sym (append_assoc so_far.front (take moved.0 (buffer ++ piece)) (drop moved.0 (buffer ++ piece))))
    ∙ append_assoc (so_far.front ++ take moved.0 (buffer ++ piece)) (drop moved.0 (buffer ++ piece)) more)
    (moved.1 ∙ ap (λ k. with_printed k (take moved.0 (buffer ++ piece))) so_far.moved ∙ printed_appends m so_far.front (take moved.0 (buffer ++ piece))))

-- the rest is printed
pub hands_last : {a b c : Option Meanings} (text buffer printed : List ℕ) → printed ≡ buffer → Step a b (HandedOn text buffer) → Step b c (λ m n. n ≡ with_printed m printed) → Step a c (λ m n. n ≡ with_printed m text)
hands_last text buffer printed is before call = Step-then before call (λ m k n so_far moved.
    moved ∙ ap (with_printed k) is ∙ ap (λ k. with_printed k buffer) so_far.moved ∙ printed_appends m so_far.front buffer ∙ ap (with_printed m) so_far.whole)

-- a part of the rest is printed
pub hands_not_last : {a b c : Option Meanings} (text buffer : List ℕ) → Step a b (HandedOn text buffer) → Step b c (AppendsSome with_printed buffer) → Step a c (AppendsSome with_printed text)
hands_not_last text buffer before call = Step-then before call (λ m k n so_far moved.
    some_front text (so_far.front ++ take moved.0 buffer) (drop moved.0 buffer) m n
    (sym so_far.whole ∙ ap (λ rest. so_far.front ++ rest) (sym (take-append-drop moved.0 buffer)) ∙ sym (append_assoc so_far.front (take moved.0 buffer) (drop moved.0 buffer)))
    (moved.1 ∙ ap (λ k. with_printed k (take moved.0 buffer)) so_far.moved ∙ printed_appends m so_far.front (take moved.0 buffer)))

concat-append : (xs ys : List (List ℕ)) → concat (xs ++ ys) ≡ concat xs ++ concat ys
concat-append [] ys = refl
concat-append (x ∷ xs) ys = ap (λ rest. x ++ rest) (concat-append xs ys) ∙ sym (append_assoc x (concat xs) (concat ys))

-- the pieces joined, with one more
pub concat-more : (pieces : List (List ℕ)) (i : ℕ) → i < length pieces → concat (take (i + 1) pieces) ≡ concat (take i pieces) ++ slice_index_or pieces i []
concat-more pieces i within =
    ap concat (take_more pieces i [] within) ∙ concat-append (take i pieces) (get_or pieces i [] ∷ [])
    ∙ ap (λ piece. concat (take i pieces) ++ piece) (append-nil (get_or pieces i []))

-- and all of them
pub concat-around : (pieces : List (List ℕ)) (i : ℕ) → i < length pieces → concat pieces ≡ (concat (take i pieces) ++ slice_index_or pieces i []) ++ concat (drop (i + 1) pieces)
concat-around pieces i within =
    ap concat (sym (take-append-drop (i + 1) pieces)) ∙ concat-append (take (i + 1) pieces) (drop (i + 1) pieces)
    ∙ ap (λ text. text ++ concat (drop (i + 1) pieces)) (concat-more pieces i within)
