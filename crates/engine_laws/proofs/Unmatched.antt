-- On simple trees no best-match is needed: the flat rows over what pruning leaves are their own best rows.
use Rattle.std.proofs.Common.{◌≡◌, ◌≢◌, ℕ, inl, inr, List, [], ◌∷◌, map, flat_map, filter, AllPairs, Contains, Option, Some, None, IsTrue, is_some, true, option_to_list, refl, sym, ◌∙◌, ap, subst}
use Rattle.std.proofs.lemmas.List.Kept.{AllPairs-filter}
use Rattle.bm_term.proofs.Elements.{Contains-head, Contains-single}
use Rattle.bm_term.specs.declared.triple.Triple.{Triple}
use Rattle.alg_model.specs.declared.pattern.Place.{Place}
use Rattle.alg_model.specs.declared.pattern.Place.TheVariants as places
use Rattle.alg_model.specs.declared.pattern.TriplePat.{TriplePat}
use Rattle.alg_model.specs.Eval.{as_terms, match_of}
use Rattle.alg_model.specs.Limits.{PatternKeepsLimits}
use Rattle.alg_model.specs.Pattern.{Algebra, IsVar}
use Rattle.alg_model.specs.Row.{Row, binding}
use Rattle.alg_model.specs.Solution.{Becomes, Makes}
use Rattle.alg_model.specs.WellDesigned.{IsWellDesigned}
use Rattle.alg_model.proofs.BasicPatterns.{as_terms-values, rows_of_match}
use Rattle.alg_model.proofs.Lists.{AllPairs-option, once-flat_map}
use Rattle.index_file.specs.Version.{NumbersGraph}
use Rattle.minimality_laws.specs.SimpleTree.{AreForests, SharesOne}
use Rattle.multiway_join.specs.FlatRows.{flat_rows_of}
use Rattle.multiway_join.specs.JoinOrder.{IsJoinOrder}
use Rattle.multiway_join.proofs.FlatLaws.{tree_below}
use Rattle.pattern_tree.specs.BestRows.{AreBest}
use Rattle.pattern_tree.specs.Consistent.{TakesValue}
use Rattle.pattern_tree.specs.Standing.{StandsAt}
use Rattle.pattern_tree.specs.Tree.{TreeNode, tree_of}
use Rattle.pattern_tree.proofs.Evaluation.{filter-Contains}
use Rattle.pattern_tree.proofs.Pruning.{Contains-map, map-Contains}
use Rattle.pruning_laws.specs.Matches.{MayStand, AreMatches}
use Rattle.pruning_laws.specs.Shown.{entry_of, shown, AreLeftOf}
use Rattle.simple_join_laws.specs.EachOnce.{HasEachOnce}
use Rattle.simple_join_laws.proofs.SimpleRows.{rows_are_best}
use Rattle.term_numbers.specs.Numbering.{Terms, Numbering}
use Rattle.tree_relations.specs.declared.prepared.PlaceKind.{PlaceKind}
use Rattle.tree_relations.specs.declared.prepared.PlaceKind.TheVariants.{Subject, Object, Predicate}
use Rattle.tree_relations.specs.declared.prepared.Prepared.{Prepared}
use Rattle.tree_relations.specs.Fits.{place_at}
use Rattle.tree_relations.specs.Readings.{NumberTriple, part_at, lists_left}
use Rattle.engine_laws.specs.Shown.{ShowsMatches, TellsShown}
use Rattle.engine_laws.specs.Terms.{text_at, texts_at, stands_in, values_of}
use Rattle.engine_laws.proofs.Engine.{values_tell}
use Rattle.engine_laws.proofs.ShownTerms.{whole_terms}
use Rattle.engine_laws.proofs.Tables.{nodes_differ, predicates_differ, nodes_first}
use Rattle.engine_laws.proofs.VariableKinds.{apart}

-- ---- lists

map_single : {X Y : Type 0} (f : X → Y) (xs : List X) → flat_map (λ x. f x ∷ []) xs ≡ map f xs
map_single f [] = refl
map_single f (x ∷ xs) = ap (λ l. f x ∷ l) (map_single f xs)

-- items that are told apart by what they become, and of which none stands twice
map_once : {X Y : Type 0} (f : X → Y) (xs : List X) → AllPairs (λ x z. x ≢ z) xs → ((x z : X) → Contains xs x → Contains xs z → f x ≡ f z → x ≡ z) → AllPairs (λ y z. y ≢ z) (map f xs)
map_once {X} {Y} f xs once tell =
    subst (AllPairs (λ y z. y ≢ z)) (map_single f xs)
    (once-flat_map (λ x. f x ∷ []) xs once (λ x at. AllPairs-option (λ (y z : Y). y ≢ z) (Some (f x)))
    (λ x z y at at' own own'. tell x z at at' (Contains-single (f x) y own ∙ sym (Contains-single (f z) y own'))))

some_is : {X : Type 0} (x y : X) → Some x ≡ Some y → x ≡ y
some_is x y is = cc

is_there : {X : Type 0} (o : Option X) → is_some o ≡ true → (x : X) × Contains (option_to_list o) x
is_there None is = cc
is_there (Some x) is = (x, Contains-head x [])

-- ---- places

-- the variable of a place is bound to its value
becomes_bound : (row : Row (List ℕ)) (place : Place) (value : List ℕ) (v : ℕ) → Becomes as_terms row place value → IsVar place v → binding row v ≡ Some value
becomes_bound row (places.Var var) value v is at = subst (λ k. binding row k ≡ Some value) at is
becomes_bound row (places.Term text) value v is at = absurd at

-- what a place becomes under one row has one text
same_text : (terms : Terms) (row : Row ℕ) (place : Place) (v w : ℕ) → Becomes (values_of terms) row place v → Becomes (values_of terms) row place w → text_at terms v ≡ text_at terms w
same_text terms row (places.Var var) v w first second = ap (text_at terms) (some_is v w (sym first ∙ second))
same_text terms row (places.Term text) v w first second = (as_terms-values (text_at terms v) text).0 first ∙ sym ((as_terms-values (text_at terms w) text).0 second)

may_stand : (terms : Terms) (place : Place) (value : ℕ) → ((text : List ℕ) → place ≡ places.Term text → IsTrue (stands_in terms value text)) → MayStand (values_of terms) place value
may_stand terms (places.Var var) value stands = tt
may_stand terms (places.Term text) value stands = stands text refl

-- a value that a variable takes has the text to which a match binds the variable
taken_bound : (terms : Terms) (q : TriplePat) (x : NumberTriple) (row : Row (List ℕ)) (var v : ℕ) → Makes as_terms row q (texts_at terms x) → TakesValue (values_of terms) q x var v → binding row var ≡ Some (text_at terms v)
taken_bound terms q x row var v makes (inl at) = becomes_bound row q.subject (text_at terms x.subject) var makes.subject at.0 ∙ ap (λ v. Some (text_at terms v)) (sym at.1)
taken_bound terms q x row var v makes (inr (inl at)) = becomes_bound row q.predicate (text_at terms x.predicate) var makes.predicate at.0 ∙ ap (λ v. Some (text_at terms v)) (sym at.1)
taken_bound terms q x row var v makes (inr (inr at)) = becomes_bound row q.object (text_at terms x.object) var makes.object at.0 ∙ ap (λ v. Some (text_at terms v)) (sym at.1)

-- ---- what is prepared

module _ (graph : List Triple) (numbering : Numbering) (n : ℕ) (pattern : Algebra) (p : Prepared) (triple : ℕ → ℕ × ℕ → NumberTriple)
    (numbers : NumbersGraph graph numbering) (well : IsWellDesigned pattern) (keeps : PatternKeepsLimits n pattern)
    (shows : ShowsMatches numbering.terms graph n (tree_of pattern) p triple) where
  abbrev terms : Terms
  terms = numbering.terms

  abbrev tree : List TreeNode
  tree = tree_of pattern

  -- the texts of a triple of values are a match
  match_row : (k : ℕ) (q : TriplePat) (x : NumberTriple) → StandsAt tree k q → Contains (shown triple (lists_left p) q) x → (row : Row (List ℕ)) × Makes as_terms row q (texts_at terms x)
  match_row k q x stands among =
      let texts = texts_at terms x in
      let match = (shows.matches k q texts stands).0 (Contains-map (texts_at terms) (shown triple (lists_left p) q) x among) in
      let some = (filter-Contains (λ t. is_some (match_of as_terms n q t)) graph texts match).1 in
      let row = is_there (match_of as_terms n q texts) some in
      (row.0, ((rows_of_match as_terms as_terms-values n q texts (λ v at. tree_below n pattern keeps.vars_below k q v stands at)).sound row.0 row.1).holds)

  term_stands : (k : ℕ) (q : TriplePat) (x : NumberTriple) → StandsAt tree k q → Contains (shown triple (lists_left p) q) x → (kind : PlaceKind) (text : List ℕ) →
      place_at kind q ≡ places.Term text → IsTrue (stands_in terms (part_at kind x) text)
  term_stands k q x stands among kind text is =
      let from = map-Contains (triple (entry_of q)) (lists_left p (entry_of q)) x among in
      subst (λ x. IsTrue (stands_in terms (part_at kind x) text)) from.2 (whole_terms terms graph n tree p triple shows k q kind text from.0 stands is from.1)

  are_matches : AreMatches (values_of terms) tree (shown triple (lists_left p))
  are_matches k q x stands among =
      let term = term_stands k q x stands among in
      let row = match_row k q x stands among in
      let differ = apart tree p shows.fits triple shows.reading terms shows.counts shows.no_cross_places (nodes_differ graph numbering numbers) (predicates_differ graph numbering numbers) (nodes_first terms) in
      record {
        subject = may_stand terms q.subject x.subject (term Subject);
        predicate = may_stand terms q.predicate x.predicate (term Predicate);
        object = may_stand terms q.object x.object (term Object);
        one = λ var v w first second.
            differ.one k k q q x x var v w stands stands among among first second
            (some_is (text_at terms v) (text_at terms w) (sym (taken_bound terms q x row.0 var v row.1 first) ∙ taken_bound terms q x row.0 var w row.1 second));
      }

  -- ---- and what is left of it

  module _ (tells : TellsShown terms tree p triple) (pruned : Prepared) (left : AreLeftOf (values_of terms) tree triple (lists_left p) (lists_left pruned)) where
    among_whole : (i : ℕ) (pair : ℕ × ℕ) → Contains (lists_left pruned i) pair → Contains (lists_left p i) pair
    among_whole i pair at = (filter-Contains (left.in_order i).0 (lists_left p i) pair (subst (λ list. Contains list pair) (left.in_order i).1 at)).0

    each_once : HasEachOnce (values_of terms) tree (shown triple (lists_left pruned))
    each_once = record {
      once = λ k q stands.
          let i = entry_of q in
          let once : AllPairs (λ x y. x ≢ y) (lists_left pruned i) = subst (AllPairs (λ x y. x ≢ y)) (sym (left.in_order i).1) (AllPairs-filter (λ x y. x ≢ y) (left.in_order i).0 (lists_left p i) (tells.once i)) in
          map_once (triple i) (lists_left pruned i) once (λ x y at at' same. tells.apart i x y (among_whole i x at) (among_whole i y at') same);
      one = λ k q t u row stands at at' makes makes'.
          let s = same_text terms row q.subject t.subject u.subject makes.subject makes'.subject in
          let r = same_text terms row q.predicate t.predicate u.predicate makes.predicate makes'.predicate in
          let o = same_text terms row q.object t.object u.object makes.object makes'.object in
          tells.told k q t u stands (left.greatest.within k q t stands at) (left.greatest.within k q u stands at') (λ i. record { subject = s i; predicate = r i; object = o i });
    }

    pub flat_rows_are_best : (counts : TriplePat → ℕ) (ordered : List TreeNode) → AreForests tree → SharesOne tree → IsJoinOrder counts tree ordered →
        AreBest (flat_rows_of (values_of terms) n (shown triple (lists_left pruned)) ordered) (flat_rows_of (values_of terms) n (shown triple (lists_left pruned)) ordered)
    flat_rows_are_best counts ordered forests share order =
        rows_are_best (values_of terms) n counts pattern ordered (shown triple (lists_left p)) (shown triple (lists_left pruned)) (values_tell terms) well keeps forests share
        are_matches left.greatest order each_once
