-- Triples as they come: each counts where it comes first.
use Rattle.std.specs.Prelude.{ℕ, Some, List, [], false}
use Rattle.indexmap.specs.IndexSet.{insert_all}
use Rattle.bm_term.specs.declared.triple.Triple.{Triple}
use Rattle.bm_term.specs.Kept.{Kept, triple_eq}

-- the distinct triples of a list, in the order of first sight
abbrev pub first_sights : List Triple → List Triple
first_sights triples = insert_all triple_eq [] triples

-- what a taker with a limit keeps before the first triple
abbrev pub nothing_yet : ℕ → Kept
nothing_yet limit = record { list = []; limit = Some limit; were_more = false }
