-- Relations that are cleared, one triple pattern after another.
use Rattle.std.proofs.Common.{◌≡◌, ◌≢◌, ℕ, inl, inr, ◌+◌, ◌<◌, List, [], ◌∷◌, length, filter, get_or, false, Contains, refl, sym, ◌∙◌, ap, subst, arith}
use Rattle.std.specs.Prelude.{slice_get, Some}
use Rattle.std.proofs.lemmas.Bool.{cases_eq}
use Rattle.std.proofs.lemmas.List.Elements.{Contains-get_or}
use Rattle.alg_model.specs.declared.pattern.TriplePat.{TriplePat}
use Rattle.node_plans.proofs.Limits.{node_there}
use Rattle.pattern_tree.specs.Standing.{StandsAt}
use Rattle.pattern_tree.specs.Tree.{TreeNode}
use Rattle.pruning_laws.specs.Shown.{entry_of}
use Rattle.pruning_laws.specs.TreePasses.{IsFilled}
use Rattle.pruning_laws.proofs.SceneShows.{no_pattern}
use Rattle.tree_relations.specs.declared.prepared.Prepared.{Prepared}
use Rattle.tree_relations.specs.Prepared.{FitsTogether}
use Rattle.tree_relations.specs.Readings.{lists_left}
use Rattle.mask_steps.specs.Held.{HasLayoutOf}
use Rattle.mask_steps.specs.Measure.{Narrows}
use Rattle.prune_plan.specs.steps.Members.{is_left_of, AreInOrder}
use Rattle.prune_plan.specs.steps.Nodes.{HasPlace, IsNodeFilled}
use Rattle.prune_plan.proofs.Layouts.{layout_then, in_order_one, in_order_same, in_order_then, narrows_same, narrows_then}

filter_none : {X : Type 0} (xs : List X) → filter (λ x. false) xs ≡ []
filter_none [] = refl
filter_none (x ∷ xs) = filter_none xs

-- ---- cleared lists

pub record AreCleared (old : Prepared) (patterns : List TriplePat) (n : ℕ) (new : Prepared) : Type 0 where
  pub none : (j : ℕ) (d : TriplePat) → j < n → lists_left new (entry_of (get_or patterns j d)) ≡ []
  pub others : (q : ℕ) → ((j : ℕ) (d : TriplePat) → j < n → entry_of (get_or patterns j d) ≢ q) → lists_left new q ≡ lists_left old q
  pub in_order : AreInOrder old new
  pub narrows : Narrows old new
  pub layout : HasLayoutOf old new

pub cleared_none : (p : Prepared) (patterns : List TriplePat) → FitsTogether p → AreCleared p patterns 0 p
cleared_none p patterns fits = record {
  none = λ j d low. absurd (omega (arith, low));
  others = λ q apart. refl;
  in_order = in_order_same p p (λ i. refl);
  narrows = narrows_same p p refl (λ i. refl);
  layout = record { same = refl; fits = fits };
}

pub cleared_more : (old mid new : Prepared) (patterns : List TriplePat) (n i : ℕ) → ((d : TriplePat) → entry_of (get_or patterns n d) ≡ i) → AreCleared old patterns n mid → lists_left new i ≡ [] →
    ((j : ℕ) → j ≢ i → lists_left new j ≡ lists_left mid j) → Narrows mid new → HasLayoutOf mid new → AreCleared old patterns (n + 1) new
cleared_more old mid new patterns n i is before none others narrows layout = record {
  none = λ j d low. elim (cases_eq (entry_of (get_or patterns j d)) i) as (λ _. lists_left new (entry_of (get_or patterns j d)) ≡ []) [
    | inl here ↦ ap (lists_left new) here ∙ none
    | inr apart ↦ others (entry_of (get_or patterns j d)) apart ∙ before.none j d (earlier j d low apart)
  ];
  others = λ q apart. (
      let last : q ≢ i = λ e. apart n no_pattern (omega arith) (is no_pattern ∙ sym e) in
      others q last ∙ before.others q (λ j d low. apart j d (omega (arith, low)))
      );
  in_order = in_order_then old mid new before.in_order (in_order_one mid new i (λ pair. false, none ∙ sym (filter_none (lists_left mid i))) others);
  narrows = narrows_then old mid new before.narrows narrows;
  layout = layout_then old mid new before.layout layout;
} where
  earlier : (j : ℕ) (d : TriplePat) → j < n + 1 → entry_of (get_or patterns j d) ≢ i → j < n
  earlier j d low apart = elim (cases_eq j n) as (λ _. j < n) [
    | inl last ↦ absurd (apart (subst (λ j. entry_of (get_or patterns j d) ≡ i) (sym last) (is d)))
    | inr other ↦ omega (arith, low, other)
  ]

-- ---- the triple patterns of a node

module _ (tree : List TreeNode) (k : ℕ) (patterns : List TriplePat) (are : (at : TreeNode) → slice_get tree k ≡ Some at → patterns ≡ at.patterns) where
  -- a triple pattern of the node is in the list
  among : (pattern : TriplePat) → StandsAt tree k pattern → Contains patterns pattern
  among pattern stands = subst (λ l. Contains l pattern) (sym (are stands.node stands.stands)) stands.among

  pub stands_there : k < length tree → (j : ℕ) (d : TriplePat) → j < length patterns → StandsAt tree k (get_or patterns j d)
  stands_there low j d inside =
      let there = node_there tree k low in
      record { node = there.0; stands = there.1; among = subst (λ l. Contains l (get_or patterns j d)) (are there.0 there.1) (Contains-get_or patterns j d inside) }

  pub cleared_here : (old new : Prepared) → AreCleared old patterns (length patterns) new → (i : ℕ) → HasPlace tree k i → lists_left new i ≡ []
  cleared_here old new cleared i place =
      let at = among place.0 place.1 in
      subst (λ i. lists_left new i ≡ []) (ap entry_of at.2 ∙ place.2) (cleared.none at.0 place.0 at.1)

  pub cleared_others : k < length tree → (old new : Prepared) → AreCleared old patterns (length patterns) new → (i : ℕ) → ¬ HasPlace tree k i → lists_left new i ≡ lists_left old i
  cleared_others low old new cleared i none = cleared.others i (λ j d inside e. none (get_or patterns j d, stands_there low j d inside, e))

  pub filled_all : (p : Prepared) → ((j : ℕ) (d : TriplePat) → j < length patterns → IsFilled (is_left_of p) (entry_of (get_or patterns j d))) → IsNodeFilled tree p k
  filled_all p each pattern stands =
      let at = among pattern stands in
      subst (λ i. IsFilled (is_left_of p) i) (ap entry_of at.2) (each at.0 pattern at.1)
