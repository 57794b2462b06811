-- The limit of a graph. It is this project's own, and no standard's.
use Rattle.std.specs.Prelude.{ℕ}

-- at most so many distinct triples: data that is asked has no more, nor has an index file
abbrev pub max_triples : ℕ
max_triples = 8388608
