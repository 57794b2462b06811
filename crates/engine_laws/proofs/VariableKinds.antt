-- The values that a variable takes are of one kind, nodes or predicates, and within a kind no two have one text.
use Rattle.std.proofs.Common.{◌≡◌, ◌≢◌, ◌⊎◌, inl, inr, Bool, true, false, ℕ, ◌+◌, ◌-◌, ◌<◌, ◌≤◌, ◌++◌, List, [], length, get_or, AllPairs, Contains, Option, Some, None, if◌then◌else◌, sym, ◌∙◌, ap, subst, arith}
use Rattle.std.specs.Prelude.{nat_lt}
use Rattle.std.proofs.lemmas.Bool.{cases_lt}
use Rattle.std.proofs.lemmas.List.{get_or_append_left, get_or-append_right, length-append}
use Rattle.std.proofs.lemmas.Option.{slice_get_within, get_or_from_slice_get}
use Rattle.alg_model.specs.declared.pattern.TriplePat.{TriplePat}
use Rattle.alg_model.specs.Pattern.{IsVar}
use Rattle.cube_slices.specs.Lines.{pairs_of}
use Rattle.mask_pool.specs.Region.{words_of}
use Rattle.naming_laws.specs.Naming.{TellsApart}
use Rattle.pattern_rel.specs.declared.side.Side.{Side}
use Rattle.pattern_rel.specs.declared.side.Side.TheVariants.{First, Second}
use Rattle.pattern_rel.specs.Left.{IsAtSide, is_left}
use Rattle.pattern_tree.specs.Consistent.{TakesValue}
use Rattle.pattern_tree.specs.Standing.{StandsAt}
use Rattle.pattern_tree.specs.Tree.{TreeNode}
use Rattle.pattern_tree.proofs.Evaluation.{filter-Contains}
use Rattle.pattern_tree.proofs.Pruning.{map-Contains}
use Rattle.pruning_laws.specs.Shown.{entry_of, shown}
use Rattle.term_numbers.specs.Numbering.{Terms, term_table}
use Rattle.tree_relations.specs.declared.prepared.PlaceKind.{PlaceKind}
use Rattle.tree_relations.specs.declared.prepared.PlaceKind.TheVariants.{Subject, Object, Predicate}
use Rattle.tree_relations.specs.declared.prepared.SidePlace.{SidePlace}
use Rattle.tree_relations.specs.declared.prepared.Entry.{Entry}
use Rattle.tree_relations.specs.declared.prepared.Prepared.{Prepared}
use Rattle.tree_relations.specs.Prepared.{count_of, FitsPlace, FitsEntry}
use Rattle.tree_relations.specs.Fits.{place_at, IsSide, FitsTree}
use Rattle.tree_relations.specs.Readings.{NumberTriple, part_at, value_of, lists_left, left_of, ReadsSide, IsReading}
use Rattle.engine_laws.specs.Terms.{text_at, values_of, CountsTerms, HasNoCrossPlaces}

-- no text stands at two places of a list in which nothing stands twice
pub one_place : (texts : List (List ℕ)) → AllPairs (λ x y. x ≢ y) texts → (i j : ℕ) → i < length texts → j < length texts → get_or texts i [] ≡ get_or texts j [] → i ≡ j
one_place texts pairs i j low low' same = elim (cases_lt i j) as (λ _. i ≡ j) [
  | inl before ↦ absurd (pairs i j [] before low' same)
  | inr other ↦ elim (cases_lt j i) as (λ _. i ≡ j) [
    | inl after ↦ absurd (pairs j i [] after low (sym same))
    | inr not ↦ omega (arith, other, not)
  ]
]

-- how many nodes there are
abbrev pub node_count : Prepared → ℕ
node_count p = p.shared + p.subjects + p.objects

-- the value is that of a number of this kind
record IsOfKind (p : Prepared) (kind : PlaceKind) (value : ℕ) : Type 0 where
  number : ℕ
  below : number < count_of p kind
  is : value ≡ value_of p kind number

module _ (p : Prepared) where
  -- a number of a side
  side_kind : (side : Side) (place : Option SidePlace) (e : Entry) (n : ℕ) (kind : PlaceKind) (var : ℕ) (t : NumberTriple) → IsAtSide side (pairs_of e.rel.lines) n → FitsPlace p side e place →
      ReadsSide p place n t → IsSide place kind var → IsOfKind p kind (part_at kind t)
  side_kind side None e n kind var t at fits reads is = absurd is
  side_kind side (Some place) e n kind var t at fits reads is =
      subst (λ kind. IsOfKind p kind (part_at kind t)) is.0 (record { number = n; below = fits.0 n at; is = reads })

  object_below : (n : ℕ) (b : Bool) → n < p.shared + p.objects → (if b then n else n + p.subjects) < node_count p
  object_below n true low = omega (arith, low)
  object_below n false low = omega (arith, low)

  -- the values of nodes come before those of predicates
  subject_node : (value : ℕ) → IsOfKind p Subject value → value < node_count p
  subject_node value is = (let low = is.below in let same = is.is in omega (arith, low, same))

  object_node : (value : ℕ) → IsOfKind p Object value → value < node_count p
  object_node value is = subst (λ value. value < node_count p) (sym is.is) (object_below is.number (nat_lt is.number p.shared) is.below)

  predicate_after : (value : ℕ) → IsOfKind p Predicate value → (node_count p ≤ value) × (value < node_count p + p.predicates)
  predicate_after value is = (let low = is.below in let same = is.is in (omega (arith, same), omega (arith, low, same)))

module _ (tree : List TreeNode) (p : Prepared) (fits : FitsTree tree p) (triple : ℕ → ℕ × ℕ → NumberTriple) (reading : IsReading p triple) where
  -- the value of a variable place
  var_kind : (k : ℕ) (pattern : TriplePat) (kind : PlaceKind) (var : ℕ) (t : NumberTriple) → StandsAt tree k pattern → Contains (shown triple (lists_left p) pattern) t →
      IsVar (place_at kind pattern) var → IsOfKind p kind (part_at kind t)
  var_kind k pattern kind var t stands among is =
      let i = entry_of pattern in
      let from = map-Contains (triple i) (lists_left p i) t among in
      let pair = from.0 in
      let entry = fits.entries k pattern stands in
      let e = entry.0 in
      let at = entry.1.at in
      let left : Contains (left_of p (Some e)) pair = subst (λ o. Contains (left_of p o) pair) at from.1 in
      let there : Contains (pairs_of e.rel.lines) pair = (filter-Contains (is_left (words_of p.pool e.rel.first) (words_of p.pool e.rel.second)) (pairs_of e.rel.lines) pair left).0 in
      let own : FitsEntry p e = subst (FitsEntry p) (get_or_from_slice_get p.entries i e e at) (fits.together.entries i e (slice_get_within p.entries i e at)) in
      subst (λ t. IsOfKind p kind (part_at kind t)) from.2 (elim ((entry.1.sides kind var).0 is) as (λ _. IsOfKind p kind (part_at kind (triple i pair))) [
        | inl side ↦ side_kind p First e.first e pair.0 kind var (triple i pair) (pair.1, there) own.first (reading.first i e pair at there) side
        | inr side ↦ side_kind p Second e.second e pair.1 kind var (triple i pair) (pair.0, there) own.second (reading.second i e pair at there) side
      ])

  -- a value that a variable takes is a node's, where the variable stands at a node place, or a predicate's
  abbrev IsNodeOf : TriplePat → ℕ → ℕ → Type 0
  IsNodeOf pattern var value = (value < node_count p) × (IsVar pattern.subject var ⊎ IsVar pattern.object var)

  abbrev IsPredicateOf : TriplePat → ℕ → ℕ → Type 0
  IsPredicateOf pattern var value = (node_count p ≤ value) × (value < node_count p + p.predicates) × IsVar pattern.predicate var

  taken_kind : (terms : Terms) (k : ℕ) (pattern : TriplePat) (t : NumberTriple) (var value : ℕ) → StandsAt tree k pattern → Contains (shown triple (lists_left p) pattern) t →
      TakesValue (values_of terms) pattern t var value → IsNodeOf pattern var value ⊎ IsPredicateOf pattern var value
  taken_kind terms k pattern t var value stands among (inl at) =
      inl (subst (λ v. v < node_count p) (sym at.1) (subject_node p t.subject (var_kind k pattern Subject var t stands among at.0)), inl at.0)
  taken_kind terms k pattern t var value stands among (inr (inl at)) =
      let after = predicate_after p t.predicate (var_kind k pattern Predicate var t stands among at.0) in
      inr (subst (λ v. node_count p ≤ v) (sym at.1) after.0, subst (λ v. v < node_count p + p.predicates) (sym at.1) after.1, at.0)
  taken_kind terms k pattern t var value stands among (inr (inr at)) =
      inl (subst (λ v. v < node_count p) (sym at.1) (object_node p t.object (var_kind k pattern Object var t stands among at.0)), inr at.0)

  -- so the texts of the values of a variable tell them apart
  module _ (terms : Terms) (counts : CountsTerms terms p) (cross : HasNoCrossPlaces tree) (nodes_differ : AllPairs (λ x y. x ≢ y) (terms.shared ++ (terms.subjects ++ terms.objects))) (predicates_differ : AllPairs (λ x y. x ≢ y) terms.predicates)
      (table : term_table terms ≡ (terms.shared ++ (terms.subjects ++ terms.objects)) ++ terms.predicates) where
    long : length (terms.shared ++ (terms.subjects ++ terms.objects)) ≡ node_count p
    long =
        let s = counts.shared in
        let b = counts.subjects in
        let o = counts.objects in
        omega (arith, s, b, o, length-append terms.shared (terms.subjects ++ terms.objects), length-append terms.subjects terms.objects)

    node_text : (value : ℕ) → value < node_count p → text_at terms value ≡ get_or (terms.shared ++ (terms.subjects ++ terms.objects)) value []
    node_text value low = ap (λ texts. get_or texts value []) table ∙ get_or_append_left (terms.shared ++ (terms.subjects ++ terms.objects)) terms.predicates [] value (omega (arith, low, long))

    predicate_text : (value : ℕ) → node_count p ≤ value → text_at terms value ≡ get_or terms.predicates (value - node_count p) []
    predicate_text value high = ap (λ texts. get_or texts value []) table ∙ get_or-append_right (terms.shared ++ (terms.subjects ++ terms.objects)) terms.predicates (node_count p) value [] long high

    pub apart : TellsApart (values_of terms) (text_at terms) tree (shown triple (lists_left p))
    apart = record {
      one = λ k j pattern other y z var v w stands stands' among among' takes takes' same.
          one pattern other var v w (cross k j pattern other var stands stands') (cross j k other pattern var stands' stands)
          (taken_kind terms k pattern y var v stands among takes) (taken_kind terms j other z var w stands' among' takes') same;
    } where
      one : (pattern other : TriplePat) (var v w : ℕ) → (IsVar pattern.predicate var → ¬ (IsVar other.subject var ⊎ IsVar other.object var)) → (IsVar other.predicate var → ¬ (IsVar pattern.subject var ⊎ IsVar pattern.object var)) →
          IsNodeOf pattern var v ⊎ IsPredicateOf pattern var v → IsNodeOf other var w ⊎ IsPredicateOf other var w → text_at terms v ≡ text_at terms w → v ≡ w
      one pattern other var v w never never' (inl a) (inl b) same =
          one_place (terms.shared ++ (terms.subjects ++ terms.objects)) nodes_differ v w (let low = a.0 in omega (arith, low, long)) (let low = b.0 in omega (arith, low, long)) (sym (node_text v a.0) ∙ same ∙ node_text w b.0)
      one pattern other var v w never never' (inl a) (inr b) same = absurd (never' b.2 a.1)
      one pattern other var v w never never' (inr a) (inl b) same = absurd (never a.2 b.1)
      one pattern other var v w never never' (inr a) (inr b) same =
          let high = a.0 in
          let low = a.1 in
          let high' = b.0 in
          let low' = b.1 in
          let count = counts.predicates in
          let is = one_place terms.predicates predicates_differ (v - node_count p) (w - node_count p) (omega (arith, low, high, count)) (omega (arith, low', high', count))
          (sym (predicate_text v high) ∙ same ∙ predicate_text w high') in
          omega (arith, is, high, high')
