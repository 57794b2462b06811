-- Carries proofs only: declarations of prefixes as the code keeps them.
use Rattle.std.specs.Prelude.{string_bytes}
use Rattle.std.specs.Str.{chars, IsUtf8}
use Rattle.sparql_parse.specs.declared.namespaces.Namespace.{Namespace}
use Rattle.query_values.specs.reading.Values.{AreIriChars}
use Rattle.sparql_parse.specs.computed.Names.{namespace_with}
use Rattle.sparql_parse.specs.computed.Names as names

-- a declaration, in characters
abbrev pub declared : Namespace → names.Namespace
declared n = namespace_with (chars (string_bytes n.prefix)) (chars (string_bytes n.iri))

-- the prefix is a text, and the characters of the IRI may stand in one
pub record IsNamespace (n : Namespace) : Type 0 where
  pub prefix_is_text : IsUtf8 (string_bytes n.prefix)
  pub iri_characters : AreIriChars (chars (string_bytes n.iri))
