-- What the engine counts in values is the report over the graph's texts.
use Rattle.std.proofs.Common.{◌≡◌, ◌≢◌, ◌↔◌, ℕ, Bool, List, length, map, AllPairs, Contains, IsTrue, is_some, refl, sym, ◌∙◌, ap, subst}
use Rattle.std.specs.Prelude.{IsPermutation}
use Rattle.std.proofs.lemmas.List.{length-map}
use Rattle.std.proofs.lemmas.List.Kept.{AllPairs-filter}
use Rattle.std.proofs.lemmas.List.Sorted.{length_permutation}
use Rattle.bm_term.specs.declared.triple.Triple.{Triple}
use Rattle.alg_model.specs.declared.pattern.TriplePat.{TriplePat}
use Rattle.alg_model.specs.Eval.{Interpretation, as_terms, match_of}
use Rattle.alg_model.specs.Pattern.{Algebra}
use Rattle.alg_model.specs.Row.{Row}
use Rattle.alg_model.proofs.BasicPatterns.{as_terms-values}
use Rattle.index_file.specs.Version.{NumbersGraph}
use Rattle.multiway_join.specs.FlatRows.{flat_rows_of}
use Rattle.multiway_join.specs.JoinOrder.{IsJoinOrder}
use Rattle.naming_laws.specs.Naming.{IsNaming, TellsApart, named_row, named_family}
use Rattle.pattern_tree.specs.BestRows.{AreBest}
use Rattle.pattern_tree.specs.Consistent.{IsGreatestConsistent}
use Rattle.pattern_tree.specs.Solution.{Family, all_matches}
use Rattle.pattern_tree.specs.Standing.{StandsAt}
use Rattle.pattern_tree.specs.Tree.{TreeNode, tree_of}
use Rattle.pattern_tree.proofs.Evaluation.{filter-Contains}
use Rattle.pruning_laws.specs.Shown.{entry_of, shown, AreLeftOf}
use Rattle.term_numbers.specs.Numbering.{Terms, Numbering}
use Rattle.tree_relations.specs.declared.prepared.Prepared.{Prepared}
use Rattle.tree_relations.specs.Readings.{NumberTriple, lists_left}
use Rattle.engine_laws.specs.Shown.{ShowsMatches, TellsShown}
use Rattle.engine_laws.specs.Terms.{text_at, texts_at, values_of}
use Rattle.engine_laws.proofs.Bags.{once, one_bag}
use Rattle.engine_laws.proofs.Engine.{values_tell}
use Rattle.engine_laws.proofs.Tables.{graph_differs, nodes_differ, predicates_differ, nodes_first}
use Rattle.engine_laws.proofs.VariableKinds.{apart}
use Rattle.report_laws.specs.Report.{IsSimpleTree, AreLengths, IsReport}
use Rattle.report_laws.proofs.Lengths.{same_lengths}
use Rattle.report_laws.proofs.NamedConsistent.{greatest_named}
use Rattle.report_laws.proofs.NamedTree.{flat_rows_named, best_rows_named}
use Rattle.report_laws.proofs.Once.{map_once}

-- families with the same triples have the same greatest consistent family within
greatest_alike : {V X : Type 0} (interpretation : Interpretation V X) (tree : List TreeNode) (whole other left : Family X) → ((k : ℕ) (part : TriplePat) (t : X) → StandsAt tree k part → Contains (whole part) t ↔ Contains (other part) t) →
    IsGreatestConsistent interpretation tree whole left → IsGreatestConsistent interpretation tree other left
greatest_alike interpretation tree whole other left same is = record {
  within = λ k part t stands at. (same k part t stands).0 (is.within k part t stands at);
  consistent = is.consistent;
  greatest = λ lower within. is.greatest lower (λ k part t stands at. (same k part t stands).1 (within k part t stands at));
}

-- the values of an index name the texts of its terms
texts_named : (terms : Terms) → IsNaming (values_of terms) as_terms (text_at terms) (texts_at terms)
texts_named terms = record { subject = λ t. refl; predicate = λ t. refl; object = λ t. refl; stands_for = λ value text. refl }

module _ (graph : List Triple) (numbering : Numbering) (n : ℕ) (pattern : Algebra) (p pruned : Prepared) (triple : ℕ → ℕ × ℕ → NumberTriple)
    (numbers : NumbersGraph graph numbering) (shows : ShowsMatches numbering.terms graph n (tree_of pattern) p triple) (tells : TellsShown numbering.terms (tree_of pattern) p triple)
    (left : AreLeftOf (values_of numbering.terms) (tree_of pattern) triple (lists_left p) (lists_left pruned)) where
  abbrev terms : Terms
  terms = numbering.terms

  abbrev tree : List TreeNode
  tree = tree_of pattern

  abbrev values : Interpretation ℕ NumberTriple
  values = values_of terms

  -- the families of texts that the lists stand for
  abbrev texts_of : (ℕ → List (ℕ × ℕ)) → Family Triple
  texts_of lists = named_family (texts_at terms) (shown triple lists)

  as_long : (lists : ℕ → List (ℕ × ℕ)) (part : TriplePat) → length (lists (entry_of part)) ≡ length (texts_of lists part)
  as_long lists part = sym (length-map (shown triple lists part) (texts_at terms) ∙ length-map (lists (entry_of part)) (triple (entry_of part)))

  -- ---- no triple stands twice

  texts_once : (lists : ℕ → List (ℕ × ℕ)) → ((i : ℕ) → AllPairs (λ x y. x ≢ y) (lists i)) → ((i : ℕ) (pair : ℕ × ℕ) → Contains (lists i) pair → Contains (lists_left p i) pair) →
      ((k : ℕ) (part : TriplePat) (x : NumberTriple) → StandsAt tree k part → Contains (shown triple lists part) x → Contains (shown triple (lists_left p) part) x) →
      (k : ℕ) (part : TriplePat) → StandsAt tree k part → AllPairs (λ t u. t ≢ u) (texts_of lists part)
  texts_once lists pairs among shown_among k part stands =
      let i = entry_of part in
      map_once (texts_at terms) (shown triple lists part)
      (map_once (triple i) (lists i) (pairs i) (λ x y at at' same. tells.apart i x y (among i x at) (among i y at') same))
      (λ x y at at' same. tells.told k part x y stands (shown_among k part x stands at) (shown_among k part y stands at') same)

  among_whole : (i : ℕ) (pair : ℕ × ℕ) → Contains (lists_left pruned i) pair → Contains (lists_left p i) pair
  among_whole i pair at = (filter-Contains (left.in_order i).0 (lists_left p i) pair (subst (λ list. Contains list pair) (left.in_order i).1 at)).0

  pruned_once : (i : ℕ) → AllPairs (λ x y. x ≢ y) (lists_left pruned i)
  pruned_once i = subst (AllPairs (λ x y. x ≢ y)) (sym (left.in_order i).1) (AllPairs-filter (λ x y. x ≢ y) (left.in_order i).0 (lists_left p i) (tells.once i))

  -- ---- as many as there are matches

  matches_long : (k : ℕ) (part : TriplePat) → StandsAt tree k part → length (lists_left p (entry_of part)) ≡ length (all_matches as_terms n graph part)
  matches_long k part stands =
      let here = texts_of (lists_left p) part in
      let there = all_matches as_terms n graph part in
      let is_once = texts_once (lists_left p) tells.once (λ i pair at. at) (λ k part x stands at. at) k part stands in
      let matches_once = AllPairs-filter (λ t u. t ≢ u) (λ t. is_some (match_of as_terms n part t)) graph (graph_differs graph numbering numbers) in
      let bag : IsPermutation here there = one_bag here there (once here is_once) (once there matches_once) (λ t. shows.matches k part t stands) in
      as_long (lists_left p) part ∙ sym (length_permutation here there bag)

  -- ---- what is left

  whole_apart : TellsApart values (text_at terms) tree (shown triple (lists_left p))
  whole_apart = apart tree p shows.fits triple shows.reading terms shows.counts shows.no_cross_places (nodes_differ graph numbering numbers) (predicates_differ graph numbering numbers) (nodes_first terms)

  left_apart : TellsApart values (text_at terms) tree (shown triple (lists_left pruned))
  left_apart = record {
    one = λ k j part other y z var v w stands stands' at at'.
        whole_apart.one k j part other y z var v w stands stands' (left.greatest.within k part y stands at) (left.greatest.within j other z stands' at');
  }

  left_greatest : IsGreatestConsistent as_terms tree (all_matches as_terms n graph) (texts_of (lists_left pruned))
  left_greatest =
      greatest_alike as_terms tree (texts_of (lists_left p)) (all_matches as_terms n graph) (texts_of (lists_left pruned)) (λ k part t stands. shows.matches k part t stands)
      (greatest_named values as_terms (text_at terms) (texts_at terms) (texts_named terms) as_terms-values tree (shown triple (lists_left p)) whole_apart (shown triple (lists_left pruned)) left.greatest)

  -- ---- the report

  pub is_report : (ordered : List TreeNode) (simple : Bool) (before after : List ℕ) (rows best : List (Row ℕ)) → (IsTrue simple ↔ IsSimpleTree tree) →
      AreLengths pattern (λ part. lists_left p (entry_of part)) before → AreLengths pattern (λ part. lists_left pruned (entry_of part)) after →
      IsJoinOrder (λ part. length (lists_left pruned (entry_of part))) tree ordered → rows ≡ flat_rows_of values n (shown triple (lists_left pruned)) ordered → AreBest rows best →
      IsReport n pattern graph simple before after (length rows) (length best)
  is_report ordered simple before after rows best shape were are order flat chosen = record {
    shape = shape;
    matched = same_lengths pattern (λ part. lists_left p (entry_of part)) (all_matches as_terms n graph) before matches_long were;
    left = texts_of (lists_left pruned);
    greatest = left_greatest;
    once = texts_once (lists_left pruned) pruned_once among_whole (λ k part x stands at. left.greatest.within k part x stands at);
    pruned = same_lengths pattern (λ part. lists_left pruned (entry_of part)) (texts_of (lists_left pruned)) after (λ k part stands. as_long (lists_left pruned) part) are;
    ordered = ordered;
    order = subst (λ (counts : TriplePat → ℕ). IsJoinOrder counts tree ordered) (λ i part. as_long (lists_left pruned) part i) order;
    flat = ap (λ rows. length rows) flat ∙ sym (length-map found (named_row (text_at terms))) ∙ ap (λ rows. length rows) (sym (flat_rows_named values as_terms (text_at terms) (texts_at terms) n tree (shown triple (lists_left pruned)) counts ordered
        (values_tell terms) as_terms-values (texts_named terms) left_apart order));
    best = map (named_row (text_at terms)) best;
    chosen = best_rows_named values as_terms (text_at terms) (texts_at terms) n tree (shown triple (lists_left pruned)) counts ordered
        (values_tell terms) as_terms-values (texts_named terms) left_apart order best (subst (λ rows. AreBest rows best) flat chosen);
    counted = sym (length-map best (named_row (text_at terms)));
  } where
    counts : TriplePat → ℕ
    counts part = length (lists_left pruned (entry_of part))

    found : List (Row ℕ)
    found = flat_rows_of values n (shown triple (lists_left pruned)) ordered
