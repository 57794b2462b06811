-- A worked example of the law of basic graph patterns over numbers, which are places in a table of terms. A term that
-- is a predicate and a node stands twice in the table, so it has two values, and still the law applies.
use Rattle.std.proofs.Common.{◌≡◌, ◌≢◌, ℕ, eqb, List, [], ◌∷◌, get_or, Contains, IsTrue, Some, codes, refl, sym, ◌∙◌, arith, lit<, eq-eqb, eqb-true}
use Rattle.std.specs.Prelude.{◌==◌}
use Rattle.std.specs.Cmp.Lexicographic.{pointwise}
use Rattle.bm_term.proofs.Elements.{Contains-single}
use Rattle.alg_model.specs.declared.pattern.Place.TheVariants as places
use Rattle.alg_model.specs.declared.pattern.TriplePat.{TriplePat}
use Rattle.alg_model.specs.Pattern.{Bgp, HasVarsBelow}
use Rattle.alg_model.specs.Eval.{Interpretation, bgp_rows}
use Rattle.alg_model.specs.Solution.{AreSolutions, TellsValues, TellsTriples}
use Rattle.alg_model.proofs.BasicPatterns.{basic-solutions}

-- three places of a table of terms
pub record Places : Type 0 where
  pub subject : ℕ
  pub predicate : ℕ
  pub object : ℕ

-- the nodes <a> and <p>, and then the predicate <p>
abbrev table : List (List ℕ)
table = codes "<a>" ∷ codes "<p>" ∷ codes "<p>" ∷ []

abbrev as_places : Interpretation ℕ Places
as_places = record {
  subject = λ t. t.subject;
  predicate = λ t. t.predicate;
  object = λ t. t.object;
  same = eqb;
  stands_for = λ value text. pointwise ◌==◌ (get_or table value []) text;
}

-- the triple <a> <p> <p>
abbrev triple : Places
triple = record { subject = 0; predicate = 2; object = 1 }

-- two values that differ stand for <p>
both_stand : IsTrue (as_places.stands_for 1 (codes "<p>")) × IsTrue (as_places.stands_for 2 (codes "<p>")) × ◌≢◌ {A = ℕ} 1 2
both_stand = (refl, refl, λ same. omega arith)

-- the test tells places apart
tells : TellsValues as_places
tells v w = (λ h. eqb-true v w h, λ e. eq-eqb v w e)

-- at each place of the one triple a text has one value
apart : TellsTriples as_places (triple ∷ [])
apart =
    let one = λ (t u : Places) (at_t : Contains (triple ∷ []) t) (at_u : Contains (triple ∷ []) u). sym (Contains-single triple t at_t) ∙ Contains-single triple u at_u in
    record {
      subjects = λ t u text at_t at_u _ _. λ i. (one t u at_t at_u i).subject;
      predicates = λ t u text at_t at_u _ _. λ i. (one t u at_t at_u i).predicate;
      objects = λ t u text at_t at_u _ _. λ i. (one t u at_t at_u i).object;
      one_triple = λ t u at_t at_u _ _ _. one t u at_t at_u;
    }

-- ?x <p> <p>
abbrev patterns : List TriplePat
patterns = record { subject = places.Var (record { 0 = 0 }); predicate = places.Term (codes "<p>"); object = places.Term (codes "<p>"); number = 1 } ∷ []

-- its one row binds ?x to the place of <a>
found : bgp_rows as_places 1 patterns (triple ∷ []) ≡ (Some 0 ∷ []) ∷ []
found = refl

below : HasVarsBelow 1 (Bgp patterns)
below k d within = let first : k ≡ 0 = omega arith in rw first (lit< tt)

-- and so the rows are exactly the solutions, each once
law : AreSolutions as_places 1 patterns (triple ∷ []) (bgp_rows as_places 1 patterns (triple ∷ []))
law = basic-solutions as_places tells 1 patterns (triple ∷ []) apart below (λ i j d before within. absurd (omega arith))
