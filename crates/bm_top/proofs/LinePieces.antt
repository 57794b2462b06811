-- A line that is complained piece by piece.
use Rattle.std.proofs.Common.{◌≡◌, ℕ, zero, suc, ◌+◌, ◌<◌, ◌≤◌, ◌++◌, List, [], ◌∷◌, Bor, Option, Some, None, codes, decimal, append_assoc, length, take, drop, get_or, refl, arith, take-append-drop, drop-cons, sym, ◌∙◌, ap}
use Rattle.std.proofs.lemmas.Grind.{common_steps, flat_map-append}
use Rattle.std.proofs.lemmas.List.{take_more, append-nil}
use Rattle.std.specs.List.{flat_map}
use Rattle.bm_world.specs.Meanings.{Meanings}
use Rattle.bm_world.specs.World.{AppendsSome}
use Rattle.bm_world.proofs.Appending.{AppendsUpTo}
use Rattle.sparql_parse.specs.Causes.{cause_text, byte_of}
use Rattle.sparql_parse.specs.declared.fault.QueryFault.{QueryFault}
use Rattle.bm_top.specs.Lines.{at_byte, fault_line}

-- stands for a piece past the last
abbrev pub no_piece : Bor (List ℕ)
no_piece = record { ref_ptr = (0, 0); now = [] }

-- the text of the pieces
abbrev pub all_of : List (Bor (List ℕ)) → List ℕ
all_of pieces = flat_map (λ piece. piece.now) pieces

pub pieces-more : (pieces : List (Bor (List ℕ))) (i : ℕ) (d : Bor (List ℕ)) → i < length pieces → all_of (take (i + 1) pieces) ≡ all_of (take i pieces) ++ (get_or pieces i d).now
pieces-more pieces i d h =
    ap all_of (take_more pieces i d h) ∙ flat_map-append (λ piece. piece.now) (take i pieces) (get_or pieces i d ∷ [])
    ∙ ap (λ rest. all_of (take i pieces) ++ rest) (append-nil (get_or pieces i d).now)

pub pieces-whole : (pieces : List (Bor (List ℕ))) (i : ℕ) → length pieces ≤ i → all_of (take i pieces) ≡ all_of pieces
pieces-whole pieces i h = let whole : take i pieces ≡ pieces = grind (arith, common_steps) in ap all_of whole

-- what has come, and what is left: a piece and those after it
pub AppendsUpTo-pieces : (change : Meanings → List ℕ → Meanings) (pieces : List (Bor (List ℕ))) (i : ℕ) (d : Bor (List ℕ)) → i < length pieces → (m n : Meanings) → n ≡ change m (all_of (take i pieces)) → AppendsUpTo change (all_of pieces) ((get_or pieces i d).now ++ all_of (drop (suc i) pieces)) m n
AppendsUpTo-pieces change pieces i d h m n moved = record {
  front = all_of (take i pieces);
  whole = ap (λ rest. all_of (take i pieces) ++ all_of rest) (sym (drop-cons pieces i d h))
      ∙ sym (flat_map-append (λ piece. piece.now) (take i pieces) (drop i pieces)) ∙ ap all_of (take-append-drop i pieces);
  moved = moved;
}

-- a front of a piece is a front of what begins with it
front_of : (n : ℕ) (xs ys : List ℕ) → (k : ℕ) × (take k (xs ++ ys) ≡ take n xs)
front_of zero xs ys = (0, refl)
front_of (suc n) [] ys = (0, refl)
front_of (suc n) (x ∷ xs) ys = let rest = front_of n xs ys in (suc rest.0, ap (λ zs. x ∷ zs) rest.1)

pub AppendsSome-wider : (change : Meanings → List ℕ → Meanings) (piece later : List ℕ) (m n : Meanings) → AppendsSome change piece m n → AppendsSome change (piece ++ later) m n
AppendsSome-wider change piece later m n (count, moved) =
    let front = front_of count piece later in
    (front.0, moved ∙ ap (change m) (sym front.1))

-- the pieces of the line of a fault that has a byte
pub fault-pieces : (fault : QueryFault) (cause word number : List ℕ) (at : ℕ) → cause ++ word ≡ cause_text fault → Some at ≡ byte_of fault → number ≡ decimal at
    → codes "query refused: " ++ (cause ++ (word ++ (codes " at byte " ++ (number ++ codes "\n")))) ≡ fault_line fault
fault-pieces fault cause word number at words byte is =
    ap (λ (text : List ℕ). codes "query refused: " ++ text)
    (sym (append_assoc cause word (codes " at byte " ++ (number ++ codes "\n")))
    ∙ ap (λ (front : List ℕ). front ++ (codes " at byte " ++ (number ++ codes "\n"))) words
    ∙ ap (λ (digits : List ℕ). cause_text fault ++ (codes " at byte " ++ (digits ++ codes "\n"))) is
    ∙ ap (λ (o : Option ℕ). cause_text fault ++ (at_byte o ++ codes "\n")) byte)

-- and of one that has none
pub fault-pieces_without : (fault : QueryFault) (cause word : List ℕ) → cause ++ word ≡ cause_text fault → None ≡ byte_of fault
    → codes "query refused: " ++ (cause ++ (word ++ codes "\n")) ≡ fault_line fault
fault-pieces_without fault cause word words byte =
    ap (λ (text : List ℕ). codes "query refused: " ++ text)
    (sym (append_assoc cause word (codes "\n"))
    ∙ ap (λ (front : List ℕ). front ++ codes "\n") words
    ∙ ap (λ (o : Option ℕ). cause_text fault ++ (at_byte o ++ codes "\n")) byte)
