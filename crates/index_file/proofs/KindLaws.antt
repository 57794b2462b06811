-- Laws of the kinds of texts: they are told by the parts of a text.
use Rattle.std.proofs.Common.{◌≡◌, ◌↔◌, ◌⊎◌, inl, inr, ℕ, List, ◌∙◌, subst}
use Rattle.bm_term.specs.Canonical.{IsCanonical, IsTextOf}
use Rattle.bm_term.specs.Parts.{ArePartsOf}
use Rattle.bm_term.specs.declared.term_parts.Parts.{Parts}
use Rattle.bm_term.specs.declared.term_parts.TermKind.{TermKind}
use Rattle.bm_term.specs.declared.term_parts.TermKind.TheVariants.{Iri, Blank}
use Rattle.index_file.proofs.StoredLaws.{node_is_canonical}
use Rattle.index_file.specs.steps.Groups.{HasKind, MayBe}
use Rattle.index_file.specs.declared.terms.TextKind.{TextKind}
use Rattle.index_file.specs.declared.terms.TextKind.TheVariants.{Node, Predicate, Term}

-- a text of a kind is canonical
pub kind_is_canonical : (kind : TextKind) (text : List ℕ) → HasKind kind text → IsCanonical text
kind_is_canonical Node text is = node_is_canonical text is
kind_is_canonical Predicate text is = is.canonical
kind_is_canonical Term text is = is

-- the kind of a text is that of its parts
kind_of_parts : (text : List ℕ) (p : Parts) (k : TermKind) → ArePartsOf text p → IsTextOf k text → p.kind ≡ k
kind_of_parts text p k are is =
    let canonical = is.canonical in (are.of_term canonical.term canonical.is canonical.spelled).kind ∙ is.kind_is

text_of_kind : (text : List ℕ) (p : Parts) (k : TermKind) → ArePartsOf text p → p.kind ≡ k → IsTextOf k text
text_of_kind text p k are same = subst (λ kind. IsTextOf kind text) same are.kind

pub kind_by_parts : (kind : TextKind) (text : List ℕ) (p : Parts) → ArePartsOf text p → MayBe kind p.kind ↔ HasKind kind text
kind_by_parts Node text p are = (to, from)
  where
    to : (p.kind ≡ Iri) ⊎ (p.kind ≡ Blank) → HasKind Node text
    to (inl iri) = inl (text_of_kind text p Iri are iri)
    to (inr blank) = inr (text_of_kind text p Blank are blank)

    from : HasKind Node text → (p.kind ≡ Iri) ⊎ (p.kind ≡ Blank)
    from (inl iri) = inl (kind_of_parts text p Iri are iri)
    from (inr blank) = inr (kind_of_parts text p Blank are blank)
kind_by_parts Predicate text p are = ((λ same. text_of_kind text p Iri are same), (λ is. kind_of_parts text p Iri are is))
kind_by_parts Term text p are = ((λ _. are.kind.canonical), (λ _. tt))
