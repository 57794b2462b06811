-- Carries proofs only: what the code has read, as it is computed.
use Rattle.std.specs.Prelude.{◌≡◌, ◌≤◌, All, List, map, Some}
use Rattle.query_grammar.specs.Roles.{Labelled, tokens_of}
use Rattle.query_grammar.specs.Expecting.{Progress, read_tokens, start}
use Rattle.query_grammar.specs.declared.expect.State.{State}
use Rattle.alg_model.specs.Limits.{max_open_groups}
use Rattle.sparql_parse.specs.declared.query.Reader.{Reader}
use Rattle.sparql_parse.specs.held.Builds.{labelled_in}
use Rattle.sparql_parse.specs.computed.Symbols.{Symbols, symbols_of, IsWithin}
use Rattle.query_values.specs.reading.Values.{IsSpelled}

abbrev pub labels_in : Reader → List Labelled
labels_in r = map labelled_in r.tokens.items

abbrev pub reading_in : Reader → Progress
reading_in r = record { labelled = labels_in r; state = r.state }

-- what is kept is that of the tokens that are read
pub record IsKeptOf (labelled : List Labelled) (state : State) (kept : Symbols) : Type 0 where
  pub run : read_tokens start (tokens_of labelled) ≡ Some (record { labelled = labelled; state = state })
  pub same : kept ≡ symbols_of labelled
  pub shallow : state.groups ≤ max_open_groups
  pub within : IsWithin kept.names kept.tally
  pub spelled : All (λ l. IsSpelled l.token) labelled

abbrev pub IsKept : Reader → Type 0
IsKept r = IsKeptOf (labels_in r) r.state r.symbols
