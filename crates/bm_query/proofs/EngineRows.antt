-- The steps of the engine over an index: their rows name the rows of the pattern over its graph.
use Rattle.std.proofs.Common.{◌≡◌, ◌↔◌, ℕ, ◌≤◌, ◌<◌, Bool, List, [], ◌∷◌, All, Contains, append-nil, refl, sym, ap, ◌∙◌, subst, arith}
use Rattle.std.proofs.lemmas.List.Elements.{All-contains}
use Rattle.bm_term.specs.declared.triple.Triple.{Triple}
use Rattle.alg_model.specs.declared.pattern.TriplePat.{TriplePat}
use Rattle.alg_model.specs.Eval.{as_terms}
use Rattle.alg_model.specs.Limits.{max_variables, PatternKeepsLimits}
use Rattle.alg_model.specs.Pattern.{Algebra, Bgp, HasVarsBelow, triple_vars, vars_of}
use Rattle.alg_model.specs.WellDesigned.{IsWellDesigned}
use Rattle.alg_model.proofs.Lists.{source-flat_map}
use Rattle.engine_laws.specs.Shown.{ShowsMatches, TellsShown, HasEntriesOf}
use Rattle.engine_laws.specs.Terms.{texts_at, stands_in, values_of}
use Rattle.engine_laws.specs.WholeWay.{AreFlat}
use Rattle.engine_laws.proofs.Engine.{engine_bag, engine_texts, texts_from, matches_from, HavePlaces}
use Rattle.engine_laws.proofs.ShownTerms.{left_terms, reading_same}
use Rattle.engine_laws.proofs.Unmatched.{flat_rows_are_best}
use Rattle.index_file.specs.Version.{NumbersGraph}
use Rattle.index_file.proofs.StoredLaws.{All-members}
use Rattle.mask_steps.specs.Held.{HasLayoutOf}
use Rattle.match_relations.specs.AcceptedTrees.{IsAcceptedTree}
use Rattle.match_relations.specs.Matches.{AreValuesOf, HasMatches}
use Rattle.minimality_laws.specs.SimpleTree.{AreForests, SharesOne}
use Rattle.multiway_join.specs.FlatRows.{flat_rows_of}
use Rattle.multiway_join.specs.Joined.{count_left, AreFlatRows}
use Rattle.multiway_join.proofs.FlatLaws.{tree_below}
use Rattle.pattern_tree.specs.BestRows.{AreBest}
use Rattle.pattern_tree.specs.FlatTable.{FlatTable}
use Rattle.pattern_tree.specs.PatternTree.{IsPatternTree}
use Rattle.pattern_tree.specs.Solution.{all_matches}
use Rattle.pattern_tree.specs.Standing.{StandsAt, OccursAt}
use Rattle.pattern_tree.specs.Tree.{TreeNode, tree_of}
use Rattle.pruning_laws.specs.Shown.{shown, AreLeftOf}
use Rattle.term_numbers.specs.Numbering.{Terms, Numbering}
use Rattle.tree_relations.specs.declared.prepared.Prepared.{Prepared}
use Rattle.tree_relations.specs.Fits.{FitsTree}
use Rattle.tree_relations.specs.Readings.{NumberTriple, as_numbers, lists_left, IsReading}
use Rattle.bm_query.specs.steps.Named.{IsBestOf}
use Rattle.bm_query.proofs.NamedRows.{named_text}

-- a pattern over few variables is one over the most that there can be
pub below_most : (n : ℕ) (pattern : Algebra) → n ≤ max_variables → PatternKeepsLimits n pattern → PatternKeepsLimits max_variables pattern
below_most n pattern few keeps = record {
  vars_below = All-members (λ v. v < max_variables) (vars_of pattern) (λ v at. let low = All-contains (λ v. v < n) (vars_of pattern) v keeps.vars_below at in omega (arith, low, few));
  few_optional = keeps.few_optional;
  few_triples = keeps.few_triples;
  numbered = keeps.numbered;
}

-- a variable that occurs in the tree is below n
pub occurs_below : (n : ℕ) (pattern : Algebra) → HasVarsBelow n pattern → (k var : ℕ) → OccursAt (tree_of pattern) k var → var < n
occurs_below n pattern vars_below k var occurs =
    let from = source-flat_map triple_vars occurs.node.patterns var occurs.among in
    tree_below n pattern vars_below k from.0 var (record { node = occurs.node; stands = occurs.stands; among = from.1 }) from.2

-- ---- what is prepared, and what is left of it

-- what the steps of the engine leave for a tree
pub record AreSteps (numbering : Numbering) (n : ℕ) (p pruned : Prepared) (table : FlatTable) (tree : List TreeNode) : Type 0 where
  pub fits : FitsTree tree p
  pub has : HasMatches numbering tree p
  pub accepted : IsAcceptedTree tree
  pub layout : HasLayoutOf p pruned
  pub prunes : IsPatternTree tree → (stands_for : ℕ → List ℕ → Bool) (triple : ℕ → ℕ × ℕ → NumberTriple) → IsReading p triple →
      AreLeftOf (as_numbers stands_for) tree triple (lists_left p) (lists_left pruned)
  pub joined : AreFlatRows pruned tree n table

module _ (graph : List Triple) (numbering : Numbering) (n : ℕ) (pattern : Algebra) (p pruned : Prepared) (table : FlatTable)
    (numbers : NumbersGraph graph numbering) (well : IsWellDesigned pattern) (keeps : PatternKeepsLimits n pattern) (few : n ≤ max_variables)
    (steps : AreSteps numbering n p pruned table (tree_of pattern)) where
  abbrev has : HasMatches numbering (tree_of pattern) p
  has = steps.has

  abbrev joined : AreFlatRows pruned (tree_of pattern) n table
  joined = steps.joined

  abbrev terms : Terms
  terms = numbering.terms

  abbrev tree : List TreeNode
  tree = tree_of pattern

  below : (k : ℕ) (q : TriplePat) → StandsAt tree k q → HasVarsBelow n (Bgp (q ∷ []))
  below k q stands =
      subst (All (λ v. v < n)) (sym (append-nil (triple_vars q))) (All-members (λ v. v < n) (triple_vars q) (λ v at. tree_below n pattern keeps.vars_below k q v stands at))

  -- the values of a triple are the places of its terms, part by part
  shows : ShowsMatches terms graph n tree p has.triple
  shows = record {
    fits = steps.fits;
    counts = record { shared = has.counts.shared; subjects = has.counts.subjects; objects = has.counts.objects; predicates = has.counts.predicates };
    no_cross_places = steps.accepted.no_cross_place;
    reading = has.reading;
    texts = texts_from terms graph n tree p has.triple (AreValuesOf terms) places values has.named matches;
    matches = matches_from terms graph n tree p has.triple (AreValuesOf terms) places values has.named matches;
  } where
    places : (x : NumberTriple) (t : Triple) → AreValuesOf terms x t → HavePlaces terms x t
    places x t are = (are.subject, are.predicate, are.object)

    values : (x : NumberTriple) (t : Triple) → HavePlaces terms x t → AreValuesOf terms x t
    values x t have = record { subject = have.0; predicate = have.1; object = have.2 }

    matches : (k : ℕ) (q : TriplePat) (t : Triple) → StandsAt tree k q → ((x : NumberTriple) × Contains (shown has.triple (lists_left p) q) x × AreValuesOf terms x t) ↔ Contains (all_matches as_terms n graph q) t
    matches k q t stands = has.matches graph n k q t numbers stands (below k q stands)

  texts_are : (x : NumberTriple) (t : Triple) → AreValuesOf terms x t → texts_at terms x ≡ t
  texts_are x t are =
      let s = named_text terms x.subject t.subject are.subject in
      let r = named_text terms x.predicate t.predicate are.predicate in
      let o = named_text terms x.object t.object are.object in
      λ i. record { subject = s i; predicate = r i; object = o i }

  tells : TellsShown terms tree p has.triple
  tells = record {
    once = has.once;
    apart = has.apart;
    told = λ k q x y stands at at' same.
        let own = has.named k q x stands at in
        let other = has.named k q y stands at' in
        let one : other.0 ≡ own.0 = sym (texts_are y other.0 other.1) ∙ sym same ∙ texts_are x own.0 own.1 in
        has.told k q x y own.0 stands at at' own.1 (subst (AreValuesOf terms y) one other.1);
  }

  left : AreLeftOf (values_of terms) tree has.triple (lists_left p) (lists_left pruned)
  left = steps.prunes (record { pattern = pattern; is = refl; well_designed = well; keeps_limits = below_most n pattern few keeps }) (stands_in terms) has.triple has.reading

  entries : HasEntriesOf pruned p
  entries = record {
    entries = ap (λ (p : Prepared). p.entries) steps.layout.same;
    shared = ap (λ (p : Prepared). p.shared) steps.layout.same;
    subjects = ap (λ (p : Prepared). p.subjects) steps.layout.same;
    objects = ap (λ (p : Prepared). p.objects) steps.layout.same;
    predicates = ap (λ (p : Prepared). p.predicates) steps.layout.same;
  }

  rows_are : table.rows ≡ flat_rows_of (values_of terms) n (shown has.triple (lists_left pruned)) joined.ordered
  rows_are = joined.rows (stands_in terms) has.triple (reading_same pruned p entries has.triple has.reading) (left_terms terms graph n tree p has.triple shows (lists_left pruned) left.in_order)

  flat : AreFlat (values_of terms) n tree (shown has.triple (lists_left pruned)) table.rows
  flat = record {
    counts = count_left pruned;
    ordered = joined.ordered;
    order = joined.in_order;
    same = λ row. (subst (λ rows. Contains rows row) rows_are, subst (λ rows. Contains rows row) (sym rows_are));
  }

  -- the best of the flat rows name the rows of the pattern
  pub best_named : (best : FlatTable) → AreBest table.rows best.rows → IsBestOf terms graph n pattern best
  best_named best chosen = record {
    texts = engine_texts graph numbering n pattern p pruned has.triple table.rows best.rows numbers well keeps shows left flat chosen;
    bag = engine_bag graph numbering n pattern p pruned has.triple table.rows best.rows numbers well keeps shows left flat chosen;
  }

  -- and so do the flat rows themselves, on a simple tree
  pub flat_named : AreForests tree → SharesOne tree → IsBestOf terms graph n pattern table
  flat_named forests share =
      best_named table (subst (λ rows. AreBest rows rows) (sym rows_are)
      (flat_rows_are_best graph numbering n pattern p has.triple numbers well keeps shows tells pruned left (count_left pruned) joined.ordered forests share joined.in_order))
