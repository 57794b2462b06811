-- The triples that are read from lines: they are triples of RDF, and so are those of a list that has taken them.
use Rattle.std.proofs.Common.{◌≡◌, List, [], ◌∷◌, ℕ, All, refl, sym, ap, ◌∙◌, subst}
use Rattle.std.proofs.lemmas.List.Elements.{All-nil, All-cons, All-append}
use Rattle.bm_term.specs.Kept.{Kept, HasTaken, unlimited}
use Rattle.bm_term.specs.Triple.{IsRdfTriple}
use Rattle.bm_term.specs.declared.triple.Triple.{Triple}
use Rattle.bm_term.proofs.Taking.{after_all-unlimited}
use Rattle.nt_read.specs.scanning.Line.{ScannedLine, bad, nothing, spelled, scan_line}
use Rattle.nt_read.specs.scanning.Lines.{triples_of, triples_in}
use Rattle.nt_read.proofs.LineLaws.{scanned_is_spelled, spelled_is_rdf}

-- the triple of one line is a triple of RDF
triples_in-rdf : (line : List ℕ) (scanned : ScannedLine) → scan_line line ≡ scanned → All IsRdfTriple (triples_in scanned)
triples_in-rdf line bad read = All-nil IsRdfTriple
triples_in-rdf line nothing read = All-nil IsRdfTriple
triples_in-rdf line (spelled triple) read = All-cons IsRdfTriple triple [] (spelled_is_rdf line triple (scanned_is_spelled line triple read)) (All-nil IsRdfTriple)

-- so are those of all lines
pub triples_of-rdf : (lines : List (List ℕ)) → All IsRdfTriple (triples_of lines)
triples_of-rdf [] = All-nil IsRdfTriple
triples_of-rdf (line ∷ lines) = All-append IsRdfTriple (triples_in (scan_line line)) (triples_of lines) (triples_in-rdf line (scan_line line) refl) (triples_of-rdf lines)

-- an empty list that has taken triples is these
pub list_taken : (list triples : List Triple) → HasTaken (unlimited []) (unlimited list) triples → list ≡ triples
list_taken list triples taken = ap (λ (kept : Kept). kept.list) (taken ∙ after_all-unlimited [] triples)

-- and one that has taken the triples of lines has triples of RDF
pub taken-rdf : (list : List Triple) (lines : List (List ℕ)) → HasTaken (unlimited []) (unlimited list) (triples_of lines) → All IsRdfTriple list
taken-rdf list lines taken = subst (All IsRdfTriple) (sym (list_taken list (triples_of lines) taken)) (triples_of-rdf lines)
