use Rattle.query_tokens.specs.Token.{shown}
use Rattle.query_values.proofs.SpelledValues.{iri_of-irichars}
use Rattle.sparql_parse.proofs.namespaces.namespace_of.Goals as goal

pub returns-clause-text : goal.returns-clause-text
returns-clause-text c = record {
  prefix_is_text = rw c.in_ok-from_str.ensures.ok c.utf8.prefix;
  iri_characters = rw c.in_ok-iri.ensures (iri_of-irichars (shown c.args.token));
}
