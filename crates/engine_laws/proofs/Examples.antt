-- A worked example, by computation: the rows of a pattern with an OPTIONAL over a graph of three triples, and its flat rows
-- over the places of the graph's terms.
use Rattle.std.proofs.Common.{◌≡◌, ℕ, List, [], ◌∷◌, if◌then◌else◌, map, Some, None, codes, refl}
use Rattle.std.specs.Prelude.{◌==◌}
use Rattle.bm_term.specs.declared.triple.Triple.{Triple}
use Rattle.alg_model.specs.declared.pattern.Place.TheVariants as places
use Rattle.alg_model.specs.declared.pattern.TriplePat.{TriplePat}
use Rattle.alg_model.specs.Eval.{as_terms, eval}
use Rattle.alg_model.specs.Pattern.{Algebra, Bgp, LeftJoin}
use Rattle.alg_model.specs.Row.{Row}
use Rattle.multiway_join.specs.FlatRows.{flat_rows_of}
use Rattle.naming_laws.specs.Naming.{named_row}
use Rattle.pattern_tree.specs.Tree.{tree_of}
use Rattle.term_numbers.specs.Numbering.{Terms}
use Rattle.tree_relations.specs.Readings.{NumberTriple}
use Rattle.engine_laws.specs.Terms.{text_at, texts_at, values_of}

-- b is a subject and an object; a is a subject alone, c an object alone; p is a predicate
abbrev terms : Terms
terms = record { shared = codes "b" ∷ []; subjects = codes "a" ∷ []; objects = codes "c" ∷ []; predicates = codes "p" ∷ [] }

abbrev fact : List ℕ → List ℕ → Triple
fact subject object = record { subject = subject; predicate = codes "p"; object = object }

abbrev graph : List Triple
graph = fact (codes "a") (codes "b") ∷ fact (codes "a") (codes "c") ∷ fact (codes "b") (codes "c") ∷ []

-- the same triples as places in the term table
abbrev places_of : ℕ → ℕ → NumberTriple
places_of subject object = record { subject = subject; predicate = 3; object = object }

abbrev values : List NumberTriple
values = places_of 1 0 ∷ places_of 1 2 ∷ places_of 0 2 ∷ []

names : map (texts_at terms) values ≡ graph
names = refl

-- ?x p ?y OPTIONAL { ?y p ?z }
abbrev triple : ℕ → ℕ → ℕ → TriplePat
triple x y number = record { subject = places.Var (record { 0 = x }); predicate = places.Term (codes "p"); object = places.Var (record { 0 = y }); number = number }

abbrev pattern : Algebra
pattern = LeftJoin (Bgp (triple 0 1 1 ∷ [])) (Bgp (triple 1 2 2 ∷ []))

abbrev best : List (Row ℕ)
best = (Some 1 ∷ Some 0 ∷ Some 2 ∷ []) ∷ (Some 1 ∷ Some 2 ∷ None ∷ []) ∷ (Some 0 ∷ Some 2 ∷ None ∷ []) ∷ []

-- pruning leaves of the second triple pattern the one triple whose subject is an object of the first
flat : flat_rows_of (values_of terms) 3 (λ pattern. if pattern.number == 1 then values else places_of 0 2 ∷ []) (tree_of pattern) ≡ best
flat = refl

-- the flat rows, named, are the rows of evaluation
whole_way : eval as_terms 3 pattern graph ≡ map (named_row (text_at terms)) best
whole_way = refl
