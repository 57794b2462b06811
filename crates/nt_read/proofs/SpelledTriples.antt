-- The triples that lines spell.
use Rattle.std.proofs.Common.{◌≡◌, ◌≢◌, ◌↔◌, ℕ, suc, List, [], ◌∷◌, ◌++◌, All, refl, sym, ◌∙◌, ap, subst, inl, inr, arith}
use Rattle.std.proofs.lemmas.List.Elements.{All-nil, All-cons}
use Rattle.bm_term.specs.declared.triple.Triple.{Triple}
use Rattle.nt_read.specs.Line.{IsBadLine}
use Rattle.nt_read.specs.scanning.Line.{ScannedLine, bad, nothing, spelled, scan_line}
use Rattle.nt_read.specs.scanning.Lines.{triples_in, triples_of}
use Rattle.nt_read.specs.Lines.{SpellTriples}
use Rattle.nt_read.proofs.LineLaws.{bad_is_read, scanned_is_bad, spelled_is_read, nothing_is_read, scanned_is_spelled, scanned_is_nothing}

-- no line is bad
abbrev NoneIsBad : List (List ℕ) → Type 0
NoneIsBad lines = All (λ line. ¬ IsBadLine line) lines

-- a line that is not read as bad is not bad
not_bad : (line : List ℕ) (scanned : ScannedLine) → scan_line line ≡ scanned → scanned ≢ bad → ¬ IsBadLine line
not_bad line scanned e other is = other (sym e ∙ bad_is_read line is)

-- lines that spell triples have those that are read
spelled_are : (lines : List (List ℕ)) (triples : List Triple) → SpellTriples lines triples → NoneIsBad lines × (triples ≡ triples_of lines)
spelled_are [] triples e = (All-nil (λ line. ¬ IsBadLine line), e)
spelled_are (line ∷ lines) triples (inl (nothing_here, others)) =
    let read : scan_line line ≡ nothing = nothing_is_read line nothing_here in
    let (none, same) = spelled_are lines triples others in
    (All-cons (λ line. ¬ IsBadLine line) line lines (not_bad line nothing read (λ e. absurd (cc))) none, rw read same)
spelled_are (line ∷ lines) triples (inr (triple, others, here, rest, e)) =
    let read : scan_line line ≡ spelled triple = spelled_is_read line triple here in
    let (none, same) = spelled_are lines others rest in
    (All-cons (λ line. ¬ IsBadLine line) line lines (not_bad line (spelled triple) read (λ e. absurd (cc))) none, rw read (e ∙ ap (λ ts. triple ∷ ts) same))

-- lines of which none is bad spell the triples that are read
are_spelled : (lines : List (List ℕ)) → NoneIsBad lines → SpellTriples lines (triples_of lines)
are_spelled [] none = refl
are_spelled (line ∷ lines) none =
    let others = are_spelled lines (λ k d below. none (suc k) d (omega arith)) in
    elim (scan_line line) as (λ r. scan_line line ≡ r → SpellTriples (line ∷ lines) (triples_in r ++ triples_of lines)) [
      | bad ↦ λ e. absurd (none 0 line (omega arith) (scanned_is_bad line e))
      | nothing ↦ λ e. inl (scanned_is_nothing line e, others)
      | spelled triple ↦ λ e. inr (triple, triples_of lines, scanned_is_spelled line triple e, others, refl)
    ] refl

-- both ways
pub spelled-triples_of : (lines : List (List ℕ)) (triples : List Triple) → SpellTriples lines triples ↔ (NoneIsBad lines × (triples ≡ triples_of lines))
spelled-triples_of lines triples = (spelled_are lines triples, λ (none, same). subst (λ ts. SpellTriples lines ts) (sym same) (are_spelled lines none))
