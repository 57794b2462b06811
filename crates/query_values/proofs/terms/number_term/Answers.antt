use Rattle.bm_term.specs.Canonical.{xsd_string}
use Rattle.query_values.specs.reading.Values.{number_type}
use Rattle.query_values.proofs.TermLaws.{other_text}
use Rattle.query_values.proofs.TokenLaws.{number_type-chars, number_type-irichars, number_type-other}
use Rattle.query_values.proofs.terms.number_term.Goals as goal

pub literal_term-requires-clause-characters : goal.literal_term-requires-clause-characters
literal_term-requires-clause-characters c =
    rw (c.number_type.ensures, number_type-chars c.args.token.kind) (number_type-irichars c.args.token.kind)

pub literal_term-requires-clause-other : goal.literal_term-requires-clause-other
literal_term-requires-clause-other c =
    rw (c.number_type.ensures, number_type-chars c.args.token.kind)
    (other_text (number_type c.args.token.kind) xsd_string (number_type-other c.args.token.kind))

pub returns : goal.returns
returns c = rw (c.text_of.ensures, c.number_type.ensures, number_type-chars c.args.token.kind) at c.literal_term.ensures
