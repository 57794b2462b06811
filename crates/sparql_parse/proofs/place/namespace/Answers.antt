-- no characters
use Rattle.std.proofs.Common.{List, ℕ, [], Option, refl, ap, ◌∙◌}
use Rattle.std.specs.Option.{option_map_or}
use Rattle.std.proofs.lemmas.Str.{chars-nil}
use Rattle.sparql_parse.specs.computed.Names.{namespace_of}
use Rattle.sparql_parse.specs.held.Scopes.{scope_in}
use Rattle.sparql_parse.proofs.place.namespace.Goals as goal

pub returns-in-None-clause-namespace : goal.returns-in-None-clause-namespace
returns-in-None-clause-namespace c =
    let found = c.in-None.ensures.found ∙ ap (namespace_of (scope_in c.args.symbols.now).namespaces) c.prefix.ensures in
    chars-nil ∙ ap (λ (o : Option (List ℕ)). option_map_or (λ iri. iri) o []) found

pub returns-in-None-clause-iri : goal.returns-in-None-clause-iri
returns-in-None-clause-iri c = rw chars-nil refl
