-- What is prepared, as names of matches: where a triple pattern has a term, a value that stands for it.
use Rattle.std.proofs.Common.{◌≡◌, ℕ, Bool, true, false, List, if◌then◌else◌, filter, Contains, Option, Some, None, IsTrue, is_some, refl, sym, ◌∙◌, ap, subst}
use Rattle.std.specs.Prelude.{slice_get, nat_lt, ◌+◌}
use Rattle.bm_term.specs.declared.triple.Triple.{Triple}
use Rattle.alg_model.specs.declared.pattern.Place.{Place}
use Rattle.alg_model.specs.declared.pattern.Place.TheVariants as places
use Rattle.alg_model.specs.declared.pattern.TriplePat.{TriplePat}
use Rattle.alg_model.specs.Eval.{Interpretation, as_terms, place_row, match_of}
use Rattle.alg_model.specs.Row.{Row, both_rows}
use Rattle.pattern_tree.specs.Tree.{TreeNode}
use Rattle.pattern_tree.proofs.Evaluation.{filter-Contains}
use Rattle.pattern_tree.proofs.Pruning.{Contains-map}
use Rattle.pruning_laws.specs.Shown.{entry_of, shown}
use Rattle.term_numbers.specs.Numbering.{Terms}
use Rattle.tree_relations.specs.declared.prepared.PlaceKind.{PlaceKind}
use Rattle.tree_relations.specs.declared.prepared.PlaceKind.TheVariants.{Subject, Object, Predicate}
use Rattle.tree_relations.specs.declared.prepared.SidePlace.{SidePlace}
use Rattle.tree_relations.specs.declared.prepared.Prepared.{Prepared}
use Rattle.tree_relations.specs.Fits.{place_at}
use Rattle.tree_relations.specs.Readings.{NumberTriple, part_at, value_of, lists_left, ReadsSide, IsReading}
use Rattle.engine_laws.specs.Shown.{ShowsMatches, ShowsTerms, HasEntriesOf}
use Rattle.engine_laws.specs.Terms.{texts_at, stands_in}

-- ---- what a triple pattern matches

module _ {V X : Type 0} (interpretation : Interpretation V X) (n : ℕ) where
  both_are : (r s : Option (Row V)) → is_some (both_rows interpretation.same r s) ≡ true → (is_some r ≡ true) × (is_some s ≡ true)
  both_are (Some r) (Some s) some = (refl, refl)
  both_are (Some r) None some = absurd cc
  both_are None s some = absurd cc

  if_some : (b : Bool) (row : Row V) → is_some (if b then Some row else None) ≡ true → b ≡ true
  if_some true row some = refl
  if_some false row some = absurd cc

  stands_there : (place : Place) (value : V) (text : List ℕ) → place ≡ places.Term text → is_some (place_row interpretation n place value) ≡ true → IsTrue (interpretation.stands_for value text)
  stands_there place value text is some =
      if_some (interpretation.stands_for value text) _ (subst (λ place. is_some (place_row interpretation n place value) ≡ true) is some)

-- the text of a triple at a place of this kind
abbrev part_of : PlaceKind → Triple → List ℕ
part_of Subject t = t.subject
part_of Object t = t.object
part_of Predicate t = t.predicate

both_parts : (n : ℕ) (pattern : TriplePat) (match : Triple) → is_some (match_of as_terms n pattern match) ≡ true →
    (is_some (both_rows as_terms.same (place_row as_terms n pattern.subject match.subject) (place_row as_terms n pattern.predicate match.predicate)) ≡ true) × (is_some (place_row as_terms n pattern.object match.object) ≡ true)
both_parts n pattern match some =
    both_are as_terms n (both_rows as_terms.same (place_row as_terms n pattern.subject match.subject) (place_row as_terms n pattern.predicate match.predicate)) (place_row as_terms n pattern.object match.object) some

-- a triple that the triple pattern matches has its terms
matched_part : (n : ℕ) (pattern : TriplePat) (match : Triple) (kind : PlaceKind) (text : List ℕ) → is_some (match_of as_terms n pattern match) ≡ true → place_at kind pattern ≡ places.Term text →
    IsTrue (as_terms.stands_for (part_of kind match) text)
matched_part n pattern match Subject text some is =
    stands_there as_terms n pattern.subject match.subject text is (both_are as_terms n (place_row as_terms n pattern.subject match.subject) (place_row as_terms n pattern.predicate match.predicate) (both_parts n pattern match some).0).0
matched_part n pattern match Predicate text some is =
    stands_there as_terms n pattern.predicate match.predicate text is (both_are as_terms n (place_row as_terms n pattern.subject match.subject) (place_row as_terms n pattern.predicate match.predicate) (both_parts n pattern match some).0).1
matched_part n pattern match Object text some is =
    stands_there as_terms n pattern.object match.object text is (both_parts n pattern match some).1

-- ---- the shown matches

module _ (terms : Terms) (graph : List Triple) (n : ℕ) (tree : List TreeNode) (p : Prepared) (triple : ℕ → ℕ × ℕ → NumberTriple) (shows : ShowsMatches terms graph n tree p triple) where
  -- where a triple pattern has a term, the values stand for it
  pub whole_terms : ShowsTerms terms tree (lists_left p) triple
  whole_terms k pattern kind text pair stands is among =
      let i = entry_of pattern in
      let values = triple i pair in
      let listed : Contains (shown triple (lists_left p) pattern) values = Contains-map (triple i) (lists_left p i) pair among in
      let match = (shows.matches k pattern (texts_at terms values) stands).0 (Contains-map (texts_at terms) (shown triple (lists_left p) pattern) values listed) in
      let some = (filter-Contains (λ triple. is_some (match_of as_terms n pattern triple)) graph (texts_at terms values) match).1 in
      subst IsTrue (at_kind kind values text) (matched_part n pattern (texts_at terms values) kind text some is) where
        at_kind : (kind : PlaceKind) (values : NumberTriple) (text : List ℕ) → as_terms.stands_for (part_of kind (texts_at terms values)) text ≡ stands_in terms (part_at kind values) text
        at_kind Subject values text = refl
        at_kind Object values text = refl
        at_kind Predicate values text = refl

  pub left_terms : (left : ℕ → List (ℕ × ℕ)) → ((i : ℕ) → (test : ℕ × ℕ → Bool) × (left i ≡ filter test (lists_left p i))) → ShowsTerms terms tree left triple
  left_terms left in_order k pattern kind text pair stands is among =
      let i = entry_of pattern in
      whole_terms k pattern kind text pair stands is (filter-Contains (in_order i).0 (lists_left p i) pair (subst (λ list. Contains list pair) (in_order i).1 among)).0

-- ---- one reading for the same entries

module _ (p other : Prepared) (same : HasEntriesOf p other) where
  value_same : (kind : PlaceKind) (number : ℕ) → value_of other kind number ≡ value_of p kind number
  value_same Subject number = refl
  value_same Object number = λ i. if nat_lt number (sym same.shared i) then number else number + sym same.subjects i
  value_same Predicate number = λ i. sym same.shared i + sym same.subjects i + sym same.objects i + number

  reads_same : (place : Option SidePlace) (number : ℕ) (t : NumberTriple) → ReadsSide other place number t → ReadsSide p place number t
  reads_same None number t reads = tt
  reads_same (Some place) number t reads = reads ∙ value_same place.kind number

  pub reading_same : (triple : ℕ → ℕ × ℕ → NumberTriple) → IsReading other triple → IsReading p triple
  reading_same triple reading = record {
    first = λ i e pair at among. reads_same e.first pair.0 (triple i pair) (reading.first i e pair (ap (λ entries. slice_get entries i) (sym same.entries) ∙ at) among);
    second = λ i e pair at among. reads_same e.second pair.1 (triple i pair) (reading.second i e pair (ap (λ entries. slice_get entries i) (sym same.entries) ∙ at) among);
  }
