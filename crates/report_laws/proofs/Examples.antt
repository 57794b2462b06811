-- Worked examples, by computation: the lengths and the flat rows of a pattern with an OPTIONAL over a graph of three
-- triples, and the same rows over the places of the graph's terms.
use Rattle.std.proofs.Common.{◌≡◌, ◌⊎◌, ℕ, inl, inr, List, [], ◌∷◌, if◌then◌else◌, length, map, Contains, Some, codes, refl, subst}
use Rattle.std.specs.Prelude.{◌==◌, slice_get}
use Rattle.bm_term.specs.declared.triple.Triple.{Triple}
use Rattle.bm_term.proofs.Elements.{Contains-single, Contains-cons_cases}
use Rattle.alg_model.specs.declared.pattern.Place.TheVariants as places
use Rattle.alg_model.specs.declared.pattern.TriplePat.{TriplePat}
use Rattle.alg_model.specs.Eval.{as_terms}
use Rattle.alg_model.specs.Pattern.{Algebra, Bgp, LeftJoin}
use Rattle.multiway_join.specs.FlatRows.{flat_rows_of}
use Rattle.naming_laws.specs.Naming.{named_row, named_family}
use Rattle.pattern_tree.specs.Solution.{Family, all_matches}
use Rattle.pattern_tree.specs.Tree.{tree_of}
use Rattle.pattern_tree.proofs.Standing.{stands-listed}
use Rattle.pruning_laws.specs.Shown.{entry_of}
use Rattle.term_numbers.specs.Numbering.{Terms}
use Rattle.tree_relations.specs.Readings.{NumberTriple}
use Rattle.engine_laws.specs.Terms.{text_at, texts_at, values_of}
use Rattle.report_laws.specs.Report.{AreLengths}

abbrev fact : List ℕ → List ℕ → Triple
fact subject object = record { subject = subject; predicate = codes "p"; object = object }

abbrev graph : List Triple
graph = fact (codes "a") (codes "b") ∷ fact (codes "a") (codes "c") ∷ fact (codes "b") (codes "c") ∷ []

-- ?x p ?y OPTIONAL { ?y p ?z }
abbrev triple : ℕ → ℕ → ℕ → TriplePat
triple x y number = record { subject = places.Var (record { 0 = x }); predicate = places.Term (codes "p"); object = places.Var (record { 0 = y }); number = number }

abbrev pattern : Algebra
pattern = LeftJoin (Bgp (triple 0 1 1 ∷ [])) (Bgp (triple 1 2 2 ∷ []))

-- lengths of both triple patterns are lengths by place
abbrev IsCounted : {X : Type 0} → Family X → List ℕ → TriplePat → Type 0
IsCounted family lengths part = slice_get lengths (entry_of part) ≡ Some (length (family part))

both : {X : Type 0} (family : Family X) (lengths : List ℕ) → length lengths ≡ 2 → IsCounted family lengths (triple 0 1 1) → IsCounted family lengths (triple 1 2 2) → AreLengths pattern family lengths
both family lengths long is is' = record { long = long; each = λ k part stands. each part (Contains-cons_cases (triple 0 1 1) (triple 1 2 2 ∷ []) part (stands-listed pattern k part stands)) } where
  each : (part : TriplePat) → (triple 0 1 1 ≡ part) ⊎ Contains (triple 1 2 2 ∷ []) part → IsCounted family lengths part
  each part (inl same) = subst (IsCounted family lengths) same is
  each part (inr later) = subst (IsCounted family lengths) (Contains-single (triple 1 2 2) part later) is'

-- each of the two matches all three
before : AreLengths pattern (all_matches as_terms 3 graph) (3 ∷ 3 ∷ [])
before = both (all_matches as_terms 3 graph) (3 ∷ 3 ∷ []) refl refl refl

-- pruning leaves of the second the one triple whose subject is an object of the first
abbrev left : Family Triple
left part = if part.number == 1 then graph else fact (codes "b") (codes "c") ∷ []

after : AreLengths pattern left (3 ∷ 1 ∷ [])
after = both left (3 ∷ 1 ∷ []) refl refl refl

-- three rows are listed
listed : length (flat_rows_of as_terms 3 left (tree_of pattern)) ≡ 3
listed = refl

-- ---- the same over places: b is a subject and an object, a is a subject alone, c an object alone, and p a predicate

abbrev terms : Terms
terms = record { shared = codes "b" ∷ []; subjects = codes "a" ∷ []; objects = codes "c" ∷ []; predicates = codes "p" ∷ [] }

abbrev places_of : ℕ → ℕ → NumberTriple
places_of subject object = record { subject = subject; predicate = 3; object = object }

abbrev numbers : Family NumberTriple
numbers part = if part.number == 1 then places_of 1 0 ∷ places_of 1 2 ∷ places_of 0 2 ∷ [] else places_of 0 2 ∷ []

named : named_family (texts_at terms) numbers (triple 1 2 2) ≡ left (triple 1 2 2)
named = refl

rows_named : flat_rows_of as_terms 3 left (tree_of pattern) ≡ map (named_row (text_at terms)) (flat_rows_of (values_of terms) 3 numbers (tree_of pattern))
rows_named = refl
