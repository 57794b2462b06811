use Rattle.query_values.specs.Iris.{rdf_type}
use Rattle.query_values.proofs.TokenLaws.{rdf_type-chars, rdf_type-irichars}
use Rattle.query_values.proofs.terms.type_term.Goals as goal

pub iri_term-requires : goal.iri_term-requires
unfolding rdf_type
iri_term-requires c = rw rdf_type-chars rdf_type-irichars

pub returns : goal.returns
unfolding rdf_type
returns c = rw rdf_type-chars at c.iri_term.ensures
