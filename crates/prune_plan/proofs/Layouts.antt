-- What stays while only the pool changes, and what two steps do one after the other.
use Rattle.std.proofs.Common.{◌≡◌, ◌≢◌, ◌↔◌, ◌-◌, inl, inr, true, ℕ, ◌&&◌, List, filter, Bool, Option, Some, None, Contains, refl, sym, ◌∙◌, ap, subst, arith}
use Rattle.std.specs.Prelude.{slice_get}
use Rattle.std.proofs.lemmas.Bool.{cases_eq}
use Rattle.join_graph.specs.declared.steps.Step.TheVariants.{Pattern, Variable}
use Rattle.join_graph.specs.Members.{Member}
use Rattle.bm_term.proofs.Elements.{Contains-nil}
use Rattle.cube_slices.specs.Lines.{pairs_of}
use Rattle.mask_pool.specs.Region.{Region, words_of}
use Rattle.pattern_rel.specs.Left.{is_left}
use Rattle.pattern_rel.proofs.NextLaws.{filter_true}
use Rattle.pattern_rel.proofs.PairLaws.{Contains-filter, filter_both}
use Rattle.pattern_tree.specs.Tree.{TreeNode}
use Rattle.pruning_laws.specs.TreePasses.{Item, Triple, Value}
use Rattle.tree_relations.specs.declared.prepared.PlaceKind.{PlaceKind}
use Rattle.tree_relations.specs.declared.prepared.PlaceKind.TheVariants.{Subject, Object, Predicate}
use Rattle.tree_relations.specs.declared.prepared.SidePlace.{SidePlace}
use Rattle.tree_relations.specs.declared.prepared.Entry.{Entry}
use Rattle.tree_relations.specs.declared.prepared.Prepared.{Prepared}
use Rattle.tree_relations.specs.Fits.{FitsTree}
use Rattle.tree_relations.specs.Readings.{value_of, SideGives, EntryGives, left_of, lists_left}
use Rattle.mask_steps.specs.Held.{GivesAt, IsVarAt, HasLayoutOf}
use Rattle.mask_steps.specs.Measure.{mask_bits, Narrows}
use Rattle.prune_plan.specs.steps.Nodes.{IsPairOf}
use Rattle.prune_plan.specs.steps.Members.{agrees_in, AreSides, AreInOrder}

-- ---- one step after another

pub layout_then : (a b c : Prepared) → HasLayoutOf a b → HasLayoutOf b c → HasLayoutOf a c
layout_then a b c first second = record {
  same = second.same ∙ ap {A = Prepared} (λ b. record b { pool = c.pool }) first.same;
  fits = second.fits;
}

pub entries_stay : (old new : Prepared) → HasLayoutOf old new → new.entries ≡ old.entries
entries_stay old new layout = ap (λ p. p.entries) layout.same

pub tree_fits : (tree : List TreeNode) (old new : Prepared) → HasLayoutOf old new → FitsTree tree old → FitsTree tree new
tree_fits tree old new layout fits = record {
  together = layout.fits;
  entries = λ k pattern stands. (
      let found = fits.entries k pattern stands in
      (found.0, record { at = ap (λ entries. slice_get entries (pattern.number - 1)) (entries_stay old new layout) ∙ found.1.at; sides = found.1.sides })
      );
}

-- ---- lists in order

pub in_order_same : (old new : Prepared) → ((i : ℕ) → lists_left new i ≡ lists_left old i) → AreInOrder old new
in_order_same old new same i = (λ pair. true, same i ∙ sym (filter_true (lists_left old i)))

-- one list by a test, and the others as they were
pub in_order_one : (old new : Prepared) (i : ℕ) → ((test : ℕ × ℕ → Bool) × (lists_left new i ≡ filter test (lists_left old i))) → ((j : ℕ) → j ≢ i → lists_left new j ≡ lists_left old j) → AreInOrder old new
in_order_one old new i one others j = elim (cases_eq j i) as (λ _. (test : ℕ × ℕ → Bool) × (lists_left new j ≡ filter test (lists_left old j))) [
  | inl is ↦ subst (λ j. (test : ℕ × ℕ → Bool) × (lists_left new j ≡ filter test (lists_left old j))) (sym is) one
  | inr apart ↦ (λ pair. true, others j apart ∙ sym (filter_true (lists_left old j)))
]

pub in_order_then : (a b c : Prepared) → AreInOrder a b → AreInOrder b c → AreInOrder a c
in_order_then a b c first second i =
    let p = (first i).0 in
    let q = (second i).0 in
    (λ pair. p pair && q pair, (second i).1 ∙ ap (filter q) (first i).1 ∙ sym (filter_both q p (λ pair. p pair && q pair) (λ pair. refl) (lists_left a i)))

pub left_before : (old new : Prepared) → AreInOrder old new → (i : ℕ) (pair : ℕ × ℕ) → Contains (lists_left new i) pair → Contains (lists_left old i) pair
left_before old new in_order i pair at = ((Contains-filter (in_order i).0 (lists_left old i) pair).0 (subst (λ l. Contains l pair) (in_order i).1 at)).0

pub lists_same : (old new : Prepared) → ((i : ℕ) → lists_left new i ≡ lists_left old i) → (i : ℕ) (pair : ℕ × ℕ) → Contains (lists_left new i) pair ↔ Contains (lists_left old i) pair
lists_same old new same i pair = (λ at. subst (λ l. Contains l pair) (same i) at, λ at. subst (λ l. Contains l pair) (sym (same i)) at)

-- ---- the measure

pub narrows_same : (old new : Prepared) → mask_bits new ≡ mask_bits old → ((i : ℕ) → lists_left new i ≡ lists_left old i) → Narrows old new
narrows_same old new bits lists = record { fewer = omega (arith, bits); same = λ is. lists }

pub narrows_then : (a b c : Prepared) → Narrows a b → Narrows b c → Narrows a c
narrows_then a b c first second = record {
  fewer = omega (arith, first.fewer, second.fewer);
  same = λ is i. (
      let few = first.fewer in
      let fewer = second.fewer in
      let last : mask_bits c ≡ mask_bits b = omega (arith, is, few, fewer) in
      let front : mask_bits b ≡ mask_bits a = omega (arith, is, few, fewer) in
      second.same last i ∙ first.same front i
      );
}

-- ---- what pairs give

value_stays : (p : Prepared) (q : Region) (kind : PlaceKind) (n : ℕ) → value_of (record p { pool = q }) kind n ≡ value_of p kind n
value_stays p q Subject n = refl
value_stays p q Object n = refl
value_stays p q Predicate n = refl

side_stays : (p : Prepared) (q : Region) (side : Option SidePlace) (n v x : ℕ) → SideGives (record p { pool = q }) side n v x ↔ SideGives p side n v x
side_stays p q None n v x = (λ h. h, λ h. h)
side_stays p q (Some place) n v x = (λ h. (h.0, sym (value_stays p q place.kind n) ∙ h.1), λ h. (h.0, value_stays p q place.kind n ∙ h.1))

entry_stays : (p : Prepared) (q : Region) (e : Entry) (pair : ℕ × ℕ) (v x : ℕ) → EntryGives (record p { pool = q }) e pair v x ↔ EntryGives p e pair v x
entry_stays p q e pair v x = (
  λ h. elim h as (λ _. EntryGives p e pair v x) [ inl l ↦ inl ((side_stays p q e.first pair.0 v x).0 l) | inr r ↦ inr ((side_stays p q e.second pair.1 v x).0 r) ],
  λ h. elim h as (λ _. EntryGives (record p { pool = q }) e pair v x) [ inl l ↦ inl ((side_stays p q e.first pair.0 v x).1 l) | inr r ↦ inr ((side_stays p q e.second pair.1 v x).1 r) ],
)

gives_pool : (p : Prepared) (q : Region) (i : ℕ) (pair : ℕ × ℕ) (v x : ℕ) → GivesAt (record p { pool = q }) i pair v x ↔ GivesAt p i pair v x
gives_pool p q i pair v x = (λ h. (h.0, h.1, (entry_stays p q h.0 pair v x).0 h.2), λ h. (h.0, h.1, (entry_stays p q h.0 pair v x).1 h.2))

pub gives_stay : (old new : Prepared) → HasLayoutOf old new → (i : ℕ) (pair : ℕ × ℕ) (v x : ℕ) → GivesAt new i pair v x ↔ GivesAt old i pair v x
gives_stay old new layout i pair v x = subst (λ p. GivesAt p i pair v x ↔ GivesAt old i pair v x) (sym layout.same) (gives_pool old new.pool i pair v x)

pub agree_stays : (old new : Prepared) → HasLayoutOf old new → (m n : Member) (i j : Item ℕ (ℕ × ℕ)) → agrees_in new m i n j ↔ agrees_in old m i n j
agree_stays old new layout (Pattern k) (Variable v) (Triple t) (Value x) = gives_stay old new layout k t v x
agree_stays old new layout (Variable v) (Pattern k) (Value x) (Triple t) = gives_stay old new layout k t v x
agree_stays old new layout (Pattern k) (Variable v) (Triple t) (Triple s) = (λ h. h, λ h. h)
agree_stays old new layout (Pattern k) (Variable v) (Value x) j = (λ h. h, λ h. h)
agree_stays old new layout (Pattern k) (Pattern l) i j = (λ h. h, λ h. h)
agree_stays old new layout (Variable v) (Pattern k) (Value x) (Value y) = (λ h. h, λ h. h)
agree_stays old new layout (Variable v) (Pattern k) (Triple t) j = (λ h. h, λ h. h)
agree_stays old new layout (Variable v) (Variable w) i j = (λ h. h, λ h. h)

-- ---- sides

pub var_stays : (old new : Prepared) → HasLayoutOf old new → (i v : ℕ) → IsVarAt old i v → IsVarAt new i v
var_stays old new layout i v is = record {
  entry = is.entry;
  at = ap (λ entries. slice_get entries i) (entries_stay old new layout) ∙ is.at;
  some = is.some;
  meet = is.meet;
}

pub sides_stay : (old new : Prepared) → HasLayoutOf old new → (m n : Member) → AreSides old m n → AreSides new m n
sides_stay old new layout (Pattern i) (Variable v) sides = (var_stays old new layout i v sides.0, sides.1)
sides_stay old new layout (Variable v) (Pattern i) sides = (var_stays old new layout i v sides.0, sides.1)
sides_stay old new layout (Pattern i) (Pattern j) sides = sides
sides_stay old new layout (Variable v) (Variable w) sides = sides

pub sides_back : (p : Prepared) (m n : Member) → AreSides p m n → AreSides p n m
sides_back p (Pattern i) (Variable v) sides = sides
sides_back p (Variable v) (Pattern i) sides = sides
sides_back p (Pattern i) (Pattern j) sides = sides
sides_back p (Variable v) (Variable w) sides = sides

-- ---- pairs of a relation

-- a pair that is left is one of them
pub pair_of_left : (p : Prepared) (i : ℕ) (pair : ℕ × ℕ) → Contains (lists_left p i) pair → IsPairOf p i pair
pair_of_left p i pair at = by (slice_get p.entries i) refl where
  by : (o : Option Entry) → slice_get p.entries i ≡ o → IsPairOf p i pair
  by None is = absurd (Contains-nil pair (subst (λ o. Contains (left_of p o) pair) is at))
  by (Some e) is = (
    e,
    is,
    ((Contains-filter (is_left (words_of p.pool e.rel.first) (words_of p.pool e.rel.second)) (pairs_of e.rel.lines) pair).0 (subst (λ o. Contains (left_of p o) pair) is at)).0,
  )

-- and they stay
pub pair_stays : (old new : Prepared) → HasLayoutOf old new → (i : ℕ) (pair : ℕ × ℕ) → IsPairOf new i pair → IsPairOf old i pair
pair_stays old new layout i pair is = (is.0, ap (λ entries. slice_get entries i) (sym (entries_stay old new layout)) ∙ is.1, is.2)

pub pair_back : (old new : Prepared) → HasLayoutOf old new → (i : ℕ) (pair : ℕ × ℕ) → IsPairOf old i pair → IsPairOf new i pair
pair_back old new layout i pair is = (is.0, ap (λ entries. slice_get entries i) (entries_stay old new layout) ∙ is.1, is.2)
