-- Worked examples, by computation: the OPTIONALs of a pattern, one that fails, and a pattern that is well designed.
use Rattle.std.proofs.Common.{◌≡◌, ℕ, ◌<◌, [], ◌∷◌, Some, None, codes, refl, lit<}
use Rattle.std.proofs.lemmas.List.Elements.{All-nil, All-cons}
use Rattle.alg_model.specs.declared.pattern.Place.TheVariants as places
use Rattle.alg_model.specs.declared.pattern.TriplePat.{TriplePat}
use Rattle.alg_model.specs.Pattern.{Algebra, Bgp, LeftJoin}
use Rattle.alg_model.specs.VarSet.{TripleFits, PatternFits}
use Rattle.alg_model.specs.WellDesigned.{optionals_of, IsWellDesigned, IsOffender}
use Rattle.well_designed.proofs.Offenders.{fine-verdict, offender-verdict}
use Rattle.well_designed.proofs.Sides.{test-verdict}
use Rattle.well_designed.proofs.Verdicts.{fault}

-- ?v p ?w
abbrev triple : ℕ → ℕ → TriplePat
triple v w = record { subject = places.Var (record { 0 = v }); predicate = places.Term (codes "<p>"); object = places.Var (record { 0 = w }); number = 1 }

abbrev pattern : ℕ → ℕ → Algebra
pattern v w = Bgp (triple v w ∷ [])

fits : (v w : ℕ) → v < 64 → w < 64 → PatternFits (pattern v w)
fits v w low high = All-cons TripleFits (triple v w) [] (record { subject = low; predicate = tt; object = high }) (All-nil TripleFits)

-- {?0 p ?1} OPTIONAL {?1 p ?2} OPTIONAL {?1 p ?2}
abbrev two_optionals : Algebra
two_optionals = LeftJoin (LeftJoin (pattern 0 1) (pattern 1 2)) (pattern 1 2)

-- outside of the first OPTIONAL stand the variables of the second, and outside of that nothing
their_parts : optionals_of two_optionals ≡ record { left = pattern 0 1; right = pattern 1 2; outside = 1 ∷ 2 ∷ [] } ∷ record { left = LeftJoin (pattern 0 1) (pattern 1 2); right = pattern 1 2; outside = [] } ∷ []
their_parts = refl

-- so the first fails, with ?2, which its left side lacks
first_fails : IsOffender two_optionals 1 2
unfolding lib.Count.count_trailing_zeros
first_fails = offender-verdict two_optionals (Some (fault 1 2)) (fault 1 2) (test-verdict two_optionals ((fits 0 1 (lit< tt) (lit< tt), fits 1 2 (lit< tt) (lit< tt)), fits 1 2 (lit< tt) (lit< tt))) refl

-- {?0 p ?1} OPTIONAL {?1 p ?2 OPTIONAL {?2 p ?3}} is well designed
nested : IsWellDesigned (LeftJoin (pattern 0 1) (LeftJoin (pattern 1 2) (pattern 2 3)))
nested = fine-verdict (LeftJoin (pattern 0 1) (LeftJoin (pattern 1 2) (pattern 2 3))) None
    (test-verdict (LeftJoin (pattern 0 1) (LeftJoin (pattern 1 2) (pattern 2 3))) (fits 0 1 (lit< tt) (lit< tt), (fits 1 2 (lit< tt) (lit< tt), fits 2 3 (lit< tt) (lit< tt)))) refl
