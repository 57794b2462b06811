-- What is left of lists whose items stand for different triples is one.
use Rattle.std.proofs.Common.{◌≡◌, ℕ, List, Contains, sym, ◌∙◌, subst}
use Rattle.alg_model.specs.declared.pattern.TriplePat.{TriplePat}
use Rattle.alg_model.specs.Eval.{Interpretation}
use Rattle.pattern_tree.specs.Consistent.{IsPartOf}
use Rattle.pattern_tree.specs.Standing.{StandsAt}
use Rattle.pattern_tree.specs.Tree.{TreeNode}
use Rattle.pattern_tree.proofs.Evaluation.{filter-Contains}
use Rattle.pattern_tree.proofs.Pruning.{Contains-map, map-Contains, kept_one}
use Rattle.pruning_laws.specs.Shown.{entry_of, shown, AreLeftOf, TellItems}

module _ {V X Y : Type 0} (interpretation : Interpretation V X) (tree : List TreeNode) (triple : ℕ → Y → X) (whole : ℕ → List Y) (apart : TellItems triple whole) where
  -- an item that is left is one of the whole
  of_whole : (left : ℕ → List Y) → AreLeftOf interpretation tree triple whole left → (p : ℕ) (t : Y) → Contains (left p) t → Contains (whole p) t
  of_whole left is p t at = let a = is.in_order p in (filter-Contains a.0 (whole p) t (subst (λ l. Contains l t) a.1 at)).0

  -- and is left of the other too
  in_other : (left other : ℕ → List Y) → AreLeftOf interpretation tree triple whole left → AreLeftOf interpretation tree triple whole other → (k : ℕ) (pattern : TriplePat) → StandsAt tree k pattern →
      (t : Y) → Contains (left (entry_of pattern)) t → Contains (other (entry_of pattern)) t
  in_other left other is is' k pattern stands t at =
      let p = entry_of pattern in
      let to : IsPartOf tree (shown triple left) (shown triple other) = is'.greatest.greatest (shown triple left) is.greatest.within is.greatest.consistent in
      let found = map-Contains (triple p) (other p) (triple p t) (to k pattern (triple p t) stands (Contains-map (triple p) (left p) t at)) in
      let same = apart p found.0 t (of_whole other is' p found.0 found.1) (of_whole left is p t at) found.2 in
      subst (Contains (other p)) same found.1

  pub left_items_are_one : (left other : ℕ → List Y) → AreLeftOf interpretation tree triple whole left → AreLeftOf interpretation tree triple whole other → (k : ℕ) (pattern : TriplePat) → StandsAt tree k pattern →
      left (entry_of pattern) ≡ other (entry_of pattern)
  left_items_are_one left other is is' k pattern stands =
      let p = entry_of pattern in
      let a = is.in_order p in
      let b = is'.in_order p in
      a.1 ∙ kept_one (whole p) a.0 b.0 (λ t. (
        λ at. subst (λ l. Contains l t) b.1 (in_other left other is is' k pattern stands t (subst (λ l. Contains l t) (sym a.1) at)),
        λ at. subst (λ l. Contains l t) a.1 (in_other other left is' is k pattern stands t (subst (λ l. Contains l t) (sym b.1) at)),
      )) ∙ sym b.1
