-- Carries proofs only: the name of a variable, read from the front of a text.
use Rattle.std.specs.Prelude.{ℕ, if◌then◌else◌, Option, Some, None, List, [], ◌∷◌}
use Rattle.rdf_text.specs.Classes.{is_sparql_label_first}
use Rattle.rdf_text.specs.scanning.Text.{after_run}
use Rattle.query_tokens.specs.Variables.{is_variable_inner}

-- what follows the longest name
unfoldable pub after_variable_name : List ℕ → Option (List ℕ)
after_variable_name [] = None
after_variable_name (c ∷ cs) = if is_sparql_label_first c then Some (after_run is_variable_inner cs) else None
