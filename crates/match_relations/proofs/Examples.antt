-- Worked examples.
use Rattle.std.proofs.Common.{◌≡◌, [], ◌∷◌, codes, refl}
use Rattle.alg_model.specs.declared.pattern.Place.TheVariants as places
use Rattle.alg_model.specs.declared.pattern.TriplePat.{TriplePat}
use Rattle.bm_term.specs.declared.triple.Triple.{Triple}
use Rattle.term_numbers.specs.Numbering.{Terms}
use Rattle.tree_relations.specs.Readings.{NumberTriple}
use Rattle.match_relations.specs.Matches.{AreValuesOf}
use Rattle.match_relations.specs.steps.Numbers.{extent_of}

-- b is a subject and an object, a a subject alone, c an object alone, and p a predicate
abbrev terms : Terms
terms = record { shared = codes "b" ∷ []; subjects = codes "a" ∷ []; objects = codes "c" ∷ []; predicates = codes "p" ∷ [] }

abbrev first : NumberTriple
first = record { subject = 1; predicate = 3; object = 0 }

abbrev fact : Triple
fact = record { subject = codes "a"; predicate = codes "p"; object = codes "b" }

-- a p b has the values 1, 3 and 0
values : AreValuesOf terms first fact
values = record { subject = refl; predicate = refl; object = refl }

abbrev pattern : TriplePat
pattern = record { subject = places.Var (record { 0 = 4 }); predicate = places.Term (codes "p"); object = places.Var (record { 0 = 2 }); number = 7 }

-- the numbers of ?4 p ?2, which is triple pattern 7, go to 7 and to 4
extent : extent_of (pattern ∷ []) ≡ record { patterns = 7; vars = 5 }
extent = refl
