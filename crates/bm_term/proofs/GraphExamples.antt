-- Worked examples of graphs, by computation.
use Rattle.std.proofs.Common.{◌≡◌, ℕ, List, [], ◌∷◌, codes, refl}
use Rattle.std.specs.declared.cmp.Ordering.TheVariants.{Less}
use Rattle.bm_term.specs.declared.triple.Triple.{Triple}
use Rattle.bm_term.specs.Graph.{triple_cmp, IsGraph, graph_of}
use Rattle.bm_term.proofs.Elements.{Contains-nil, Contains-head}
use Rattle.bm_term.proofs.Sets.{IsSetOf-set_of}
use Rattle.bm_term.proofs.TripleOrder.{triple_cmp-total, triple_cmp-exact}

-- the triple of the IRIs with these names
abbrev triple : List ℕ → List ℕ → List ℕ → Triple
triple subject predicate object = record { subject = subject; predicate = predicate; object = object }

abbrev a : List ℕ
a = codes "<a>"

abbrev b : List ℕ
b = codes "<b>"

-- the predicate is compared before the object
predicate_first : triple_cmp (triple a a b) (triple a b a) ≡ Less
predicate_first = refl

-- a triple that stands twice is there once, and the subject goes first
repeated : graph_of (triple b a a ∷ triple a b b ∷ triple b a a ∷ []) ≡ triple a b b ∷ triple b a a ∷ []
repeated = refl

-- and this is a graph of these triples
a_graph : IsGraph (triple b a a ∷ triple a b b ∷ triple b a a ∷ []) (triple a b b ∷ triple b a a ∷ [])
a_graph = (IsSetOf-set_of triple_cmp triple_cmp-total triple_cmp-exact (triple b a a ∷ triple a b b ∷ triple b a a ∷ []) (triple a b b ∷ triple b a a ∷ [])).1 refl

-- a list that lacks one of them is not
not_a_graph : ¬ IsGraph (triple a b b ∷ []) []
not_a_graph is = Contains-nil (triple a b b) ((is.same (triple a b b)).1 (Contains-head (triple a b b) []))
