-- What a pattern matches, and evaluation. SPARQL 1.1 Query, sections 18.3 and 18.5.
use Rattle.std.specs.Prelude.{ℕ, Bool, if◌then◌else◌, List, [], ◌∷◌, fold, Option, Some, None, ◌==◌}
use Rattle.std.specs.List.{filter_map}
use Rattle.std.specs.Cmp.Lexicographic.{pointwise}
use Rattle.bm_term.specs.declared.triple.Triple.{Triple}
use Rattle.alg_model.specs.declared.pattern.Place.{Place}
use Rattle.alg_model.specs.declared.pattern.Place.TheVariants as places
use Rattle.alg_model.specs.declared.pattern.TriplePat.{TriplePat}
use Rattle.alg_model.specs.Row.{Row, unbound, single, both_rows, join, left_join}
use Rattle.alg_model.specs.Pattern.{Algebra, Bgp, Join, LeftJoin}

-- How triples of the type X are read as values of the type V: the three places of a triple, when two
-- values are the same, and whether a value stands for the term with a text.
pub record Interpretation (V X : Type 0) : Type 0 where
  pub subject : X → V
  pub predicate : X → V
  pub object : X → V
  pub same : V → V → Bool
  pub stands_for : V → List ℕ → Bool

-- triples of terms: a value is a term's text
abbrev pub as_terms : Interpretation (List ℕ) Triple
as_terms = record {
  subject = λ t. t.subject;
  predicate = λ t. t.predicate;
  object = λ t. t.object;
  same = pointwise ◌==◌;
  stands_for = pointwise ◌==◌;
}

module _ {V X : Type 0} (interpretation : Interpretation V X) (n : ℕ) where
  -- what a place matches: a term itself, and a variable any value, which it then binds
  abbrev pub place_row : Place → V → Option (Row V)
  place_row (places.Term text) value = if interpretation.stands_for value text then Some (unbound V n) else None
  place_row (places.Var var) value = Some (single n var.0 value)

  -- the row under which a triple pattern becomes a triple, and which binds just the pattern's variables
  abbrev pub match_of : TriplePat → X → Option (Row V)
  match_of pattern triple =
      let subject = place_row pattern.subject (interpretation.subject triple) in
      let predicate = place_row pattern.predicate (interpretation.predicate triple) in
      let object = place_row pattern.object (interpretation.object triple) in
      both_rows interpretation.same (both_rows interpretation.same subject predicate) object

  -- the matches of a triple pattern
  abbrev pub matches_of : TriplePat → List X → List (Row V)
  matches_of pattern triples = filter_map (match_of pattern) triples

  -- a basic graph pattern: the Join of the matches of its members, from the row that binds nothing
  abbrev pub bgp_rows : List TriplePat → List X → List (Row V)
  bgp_rows patterns triples =
      fold (λ rows pattern. join interpretation.same rows (matches_of pattern triples)) (unbound V n ∷ []) patterns

  -- evaluation of a pattern over triples
  abbrev pub eval : Algebra → List X → List (Row V)
  eval (Bgp patterns) triples = bgp_rows patterns triples
  eval (Join left right) triples = join interpretation.same (eval left triples) (eval right triples)
  eval (LeftJoin left right) triples = left_join interpretation.same (eval left triples) (eval right triples)
