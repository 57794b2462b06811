-- All characters of an IRI may stand in one.
use Rattle.std.specs.Prelude.{string_bytes}
use Rattle.std.specs.Str.{chars}
use Rattle.query_tokens.specs.Token.{shown}
use Rattle.sparql_parse.specs.held.Scopes.{scope_in}
use Rattle.query_values.specs.reading.Values.{iri_of, prefixed_iri}
use Rattle.sparql_parse.specs.computed.Meaning.{iri_in}
use Rattle.sparql_parse.proofs.PlaceLaws.{ok_irichars, ok_same, iri_in-other, prefixed-irichars}
use Rattle.query_values.proofs.SpelledValues.{iri_of-irichars}
use Rattle.sparql_parse.proofs.place.iri_of.Goals as goal

pub returns-in-Prefixed-clause-characters : goal.returns-in-Prefixed-clause-characters
returns-in-Prefixed-clause-characters c =
    let token = shown c.args.token in
    ok_irichars (λ s. chars (string_bytes s)) c.prefixed_iri.result (prefixed_iri (chars c.namespace.result.now) token)
    (prefixed-irichars (chars c.namespace.result.now) token c.namespace.ensures.iri c.requires c.in-Prefixed.is) c.prefixed_iri.ensures

pub returns-in_default : goal.returns-in_default
returns-in_default c =
    let token = shown c.args.token in
    record {
      iri = ok_same (λ s. chars (string_bytes s)) c.iri.result (iri_of token) (iri_in (scope_in c.args.symbols.now) token) (iri_in-other (scope_in c.args.symbols.now) token c.in_default.not-Prefix c.in_default.not-Prefixed) c.iri.ensures;
      characters = ok_irichars (λ s. chars (string_bytes s)) c.iri.result (iri_of token) (iri_of-irichars token) c.iri.ensures;
    }
