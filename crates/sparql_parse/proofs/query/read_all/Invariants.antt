use Rattle.std.proofs.Common.{◌≡◌, drop, map}
use Rattle.query_tokens.specs.Token.{shown}
use Rattle.sparql_parse.specs.computed.Reading.{first, read_on}
use Rattle.sparql_parse.specs.held.Readers.{IsKept, reading_in}
use Rattle.sparql_parse.proofs.query.read_all.Given as goal

-- what is left is read from where the reader stands
abbrev pub invariant-loop-token : goal.invariant-loop-token
invariant-loop-token l =
    (read_on (reading_in l.reader) (map shown (drop l.token-index l.tokens)) ≡ read_on first (map shown l.tokens)) × IsKept l.reader
