-- Which triples there are. RDF 1.1 Concepts, section 3.1.
use Rattle.std.specs.Prelude.{ℕ, ◌⊎◌, List}
use Rattle.bm_term.specs.declared.term_parts.TermKind.TheVariants.{Iri, Blank}
use Rattle.bm_term.specs.declared.triple.Triple.{Triple}
use Rattle.bm_term.specs.Canonical.{IsCanonical, IsTextOf}

-- the text of an IRI or of a blank node
abbrev pub IsNode : List ℕ → Type 0
IsNode text = IsTextOf Iri text ⊎ IsTextOf Blank text

-- the subject is an IRI or a blank node, the predicate is an IRI, and the object is a term
pub record IsRdfTriple (triple : Triple) : Type 0 where
  pub subject : IsNode triple.subject
  pub predicate : IsTextOf Iri triple.predicate
  pub object : IsCanonical triple.object
