-- Carries proofs only: the names and namespaces of the code, as a scope.
use Rattle.sparql_parse.specs.computed.Meaning.{Scope}
use Rattle.sparql_parse.specs.computed.Symbols.{Symbols}

abbrev pub scope_in : Symbols → Scope
scope_in kept = record { names = kept.names; namespaces = kept.declarations.namespaces }
