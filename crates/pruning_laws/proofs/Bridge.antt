-- From a scene to the tree that it shows: lists that are arc consistent there stand for a consistent family, and the
-- greatest for the greatest.
use Rattle.std.proofs.Common.{◌≡◌, ◌⊎◌, inl, inr, ℕ, ◌<◌, ◌≤◌, List, [], ◌∷◌, length, map, Contains, refl, sym, ◌∙◌, ap, subst, arith}
use Rattle.std.specs.Prelude.{slice_index}
use Rattle.std.proofs.lemmas.Bool.{cases_lt}
use Rattle.bm_term.proofs.Elements.{Contains-head, Contains-tail, Contains-cons_cases, Contains-nil}
use Rattle.alg_model.specs.declared.pattern.TriplePat.{TriplePat}
use Rattle.alg_model.specs.Eval.{Interpretation}
use Rattle.alg_model.specs.Pattern.{triple_vars}
use Rattle.pattern_tree.specs.Consistent.{TakesValue, IsConsistent, IsPartOf, IsGreatestConsistent}
use Rattle.pattern_tree.specs.Solution.{Family}
use Rattle.pattern_tree.specs.Standing.{StandsAt, IsWithin, itself, below}
use Rattle.pattern_tree.specs.Tree.{TreeNode}
use Rattle.pattern_tree.proofs.Connected.{node_low, node_there}
use Rattle.pattern_tree.proofs.Pruning.{Contains-map, map-Contains}
use Rattle.pruning_laws.specs.Scene.{Scene, node_of, Has, Gives, IsAtOrAbove, here, above, StandsIn, Governs}
use Rattle.pruning_laws.specs.Shown.{entry_of, shown}
use Rattle.pruning_laws.specs.TreePasses.{Holding}
use Rattle.pruning_laws.proofs.ArcConsistent.{listed, LiesWithin, IsArcConsistent, IsGreatest, governs_from}
use Rattle.pruning_laws.proofs.Shows.{Shows}

module _ {V X Y : Type 0} (interpretation : Interpretation V X) (tree : List TreeNode) (scene : Scene V Y) (triple : ℕ → Y → X) (shows : Shows interpretation tree scene triple) where
  -- ---- above and within

  pub up : (a k : ℕ) → k < length tree → IsAtOrAbove scene.parents a k → IsWithin tree a k
  up a k low here = itself
  up a k low (above positive way) =
      let node = node_there tree k low in
      let first = shows.first k positive in
      below node.0 node.1 (shows.hangs k node.0 positive node.1) (up a (slice_index scene.parents k) (omega (arith, low, first)) way)

  pub down : (a k : ℕ) → IsWithin tree a k → IsAtOrAbove scene.parents a k
  down a k itself = here
  down a k (below {parent = parent} node is has rest) =
      let at = shows.parent k parent node is has in
      above at.0 (subst (λ k. IsAtOrAbove scene.parents a k) (sym at.1) (down a parent rest))

  pub governs_down : (k higher : ℕ) (pattern other : TriplePat) → StandsAt tree k pattern → StandsAt tree higher other → IsWithin tree higher k → Governs scene (entry_of other) (entry_of pattern)
  governs_down k higher pattern other stands stands' within =
      governs_from scene (entry_of other) (entry_of pattern) higher k (shows.found higher other stands') (shows.found k pattern stands).1 (down higher k within)

  pub governs_up : (p q : ℕ) → q < length scene.patterns → Governs scene p q → IsWithin tree (node_of scene p) (node_of scene q)
  governs_up p q low governs =
      let s = shows.stands q (node_of scene q) (low, refl) in
      up (node_of scene p) (node_of scene q) (node_low tree (node_of scene q) s.node s.stands) governs.above

  -- ---- lists that are arc consistent

  pub consistent_shown : (lists : ℕ → List Y) → IsArcConsistent scene (listed lists) → IsConsistent interpretation tree (shown triple lists)
  consistent_shown lists consistent = record {
    values = λ k higher pattern other x var value stands stands' within at takes has.
        let q = entry_of pattern in
        let p = entry_of other in
        let t = map-Contains (triple q) (lists q) x at in
        let in_q = shows.found k pattern stands in
        let in_p = shows.found higher other stands' in
        let gives : Gives scene q t.0 var value = (shows.gives q t.0 var value in_q.0).1
        (subst (λ r. TakesValue interpretation r (triple q t.0) var value) (sym (shows.at_entry k pattern stands)) (subst (λ y. TakesValue interpretation pattern y var value) (sym t.2) takes)) in
        let has_p : Has scene p var = (shows.has p var in_p.0).1 (subst (λ r. Contains (triple_vars r) var) (sym (shows.at_entry higher other stands')) has) in
        let o = consistent.values p q var value (governs_down k higher pattern other stands stands' within) has_p (t.0, t.1, gives) in (
          triple p o.0,
          Contains-map (triple p) (lists p) o.0 o.1,
          subst (λ r. TakesValue interpretation r (triple p o.0) var value) (shows.at_entry higher other stands') ((shows.gives p o.0 var value in_p.0).0 o.2),
        );
    emptied = λ k higher pattern other stands stands' within empty. none k higher pattern other stands stands' within empty (lists (entry_of pattern)) refl;
  } where
    none : (k higher : ℕ) (pattern other : TriplePat) → StandsAt tree k pattern → StandsAt tree higher other → IsWithin tree higher k → shown triple lists other ≡ [] → (list : List Y) → lists (entry_of pattern) ≡ list → shown triple lists pattern ≡ []
    none k higher pattern other stands stands' within empty [] e = ap (map (triple (entry_of pattern))) e
    none k higher pattern other stands stands' within empty (t ∷ list) e =
        let p = entry_of other in
        let f = consistent.filled p (entry_of pattern) (governs_down k higher pattern other stands stands' within) (t, subst (λ l. Contains l t) (sym e) (Contains-head t list)) in
        absurd (Contains-nil (triple p f.0) (subst (λ l. Contains l (triple p f.0)) empty (Contains-map (triple p) (lists p) f.0 f.1)))

  -- ---- a family within the lists, as lists: for each of its triples an item that stands for it

  -- an item of the list that stands for the triple
  abbrev IsFrom : ℕ → List Y → X → Type 0
  IsFrom p whole x = (t : Y) × Contains whole t × (triple p t ≡ x)

  pick : (p : ℕ) (whole : List Y) (xs : List X) → ((x : X) → Contains xs x → IsFrom p whole x) → List Y
  pick p whole [] from = []
  pick p whole (x ∷ xs) from = (from x (Contains-head x xs)).0 ∷ pick p whole xs (λ y c. from y (Contains-tail x xs y c))

  pick-source : (p : ℕ) (whole : List Y) (xs : List X) (from : (x : X) → Contains xs x → IsFrom p whole x) (t : Y) → Contains (pick p whole xs from) t → Contains whole t × Contains xs (triple p t)
  unfolding pick
  pick-source p whole [] from t at = absurd (Contains-nil t at)
  pick-source p whole (x ∷ xs) from t at =
      let own = from x (Contains-head x xs) in
      let rest = pick p whole xs (λ y c. from y (Contains-tail x xs y c)) in
      elim (Contains-cons_cases own.0 rest t at) as (λ _. Contains whole t × Contains (x ∷ xs) (triple p t)) [
        | inl is ↦ (subst (Contains whole) is own.1, subst (λ t. Contains (x ∷ xs) (triple p t)) is (subst (Contains (x ∷ xs)) (sym own.2) (Contains-head x xs)))
        | inr later ↦ let found = pick-source p whole xs (λ y c. from y (Contains-tail x xs y c)) t later in (found.0, Contains-tail x xs (triple p t) found.1)
      ]

  pick-each : (p : ℕ) (whole : List Y) (xs : List X) (from : (x : X) → Contains xs x → IsFrom p whole x) (x : X) → Contains xs x → (t : Y) × Contains (pick p whole xs from) t × (triple p t ≡ x)
  unfolding pick
  pick-each p whole [] from x at = absurd (Contains-nil x at)
  pick-each p whole (y ∷ xs) from x at =
      let own = from y (Contains-head y xs) in
      let rest = pick p whole xs (λ z c. from z (Contains-tail y xs z c)) in
      elim (Contains-cons_cases y xs x at) as (λ _. (t : Y) × Contains (own.0 ∷ rest) t × (triple p t ≡ x)) [
        | inl is ↦ (own.0, Contains-head own.0 rest, own.2 ∙ is)
        | inr later ↦ let found = pick-each p whole xs (λ z c. from z (Contains-tail y xs z c)) x later in (found.0, Contains-tail own.0 rest found.0 found.1, found.2)
      ]

  module _ (whole : ℕ → List Y) (other : Family X) (part : IsPartOf tree other (shown triple whole)) where
    from_whole : (p : ℕ) → p < length scene.patterns → (x : X) → Contains (other (shows.pattern_at p)) x → IsFrom p (whole p) x
    from_whole p low x at =
        let stands : StandsIn scene p (node_of scene p) = (low, refl) in
        let there = part (node_of scene p) (shows.pattern_at p) x (shows.stands p (node_of scene p) stands) at in
        map-Contains (triple p) (whole p) x (subst (λ e. Contains (map (triple e) (whole e)) x) (shows.entry_at p (node_of scene p) stands) there)

    picked_by : (p : ℕ) → (p < length scene.patterns) ⊎ (length scene.patterns ≤ p) → List Y
    picked_by p (inl low) = pick p (whole p) (other (shows.pattern_at p)) (from_whole p low)
    picked_by p (inr past) = []

    abbrev picked : ℕ → List Y
    picked p = picked_by p (cases_lt p (length scene.patterns))

    picked-source : (p : ℕ) (t : Y) → Contains (picked p) t → (p < length scene.patterns) × Contains (whole p) t × Contains (other (shows.pattern_at p)) (triple p t)
    unfolding picked_by
    picked-source p t at = by (cases_lt p (length scene.patterns)) at where
      by : (cases : (p < length scene.patterns) ⊎ (length scene.patterns ≤ p)) → Contains (picked_by p cases) t → (p < length scene.patterns) × Contains (whole p) t × Contains (other (shows.pattern_at p)) (triple p t)
      by (inl low) at = let found = pick-source p (whole p) (other (shows.pattern_at p)) (from_whole p low) t at in (low, found.0, found.1)
      by (inr past) at = absurd (Contains-nil t at)

    picked-each : (p : ℕ) → p < length scene.patterns → (x : X) → Contains (other (shows.pattern_at p)) x → (t : Y) × Contains (picked p) t × (triple p t ≡ x)
    unfolding picked_by
    picked-each p low x at = by (cases_lt p (length scene.patterns)) where
      by : (cases : (p < length scene.patterns) ⊎ (length scene.patterns ≤ p)) → (t : Y) × Contains (picked_by p cases) t × (triple p t ≡ x)
      by (inl low') = pick-each p (whole p) (other (shows.pattern_at p)) (from_whole p low') x at
      by (inr past) = absurd (omega (arith, low, past))

    module _ (consistent : IsConsistent interpretation tree other) where
      picked-consistent : IsArcConsistent scene (listed picked)
      picked-consistent = record {
        values = λ p q v x governs has o.
            let from = picked-source q o.0 o.1 in
            let in_q = shows.stands q (node_of scene q) (from.0, refl) in
            let in_p = shows.stands p (node_of scene p) (governs.exists, refl) in
            let found = consistent.values (node_of scene q) (node_of scene p) (shows.pattern_at q) (shows.pattern_at p) (triple q o.0) v x in_q in_p (governs_up p q from.0 governs) from.2
            ((shows.gives q o.0 v x from.0).0 o.2) ((shows.has p v governs.exists).0 has) in
            let t = picked-each p governs.exists found.0 found.1 in
            (t.0, t.1, (shows.gives p t.0 v x governs.exists).1 (subst (λ y. TakesValue interpretation (shows.pattern_at p) y v x) (sym t.2) found.2));
        filled = λ p q governs f.
            let from = picked-source q f.0 f.1 in
            some p q governs from.0 (triple q f.0) from.2 (other (shows.pattern_at p)) refl;
      } where
        some : (p q : ℕ) → Governs scene p q → q < length scene.patterns → (x : X) → Contains (other (shows.pattern_at q)) x → (list : List X) → other (shows.pattern_at p) ≡ list → (t : Y) × Contains (picked p) t
        some p q governs low x at [] e =
            let in_q = shows.stands q (node_of scene q) (low, refl) in
            let in_p = shows.stands p (node_of scene p) (governs.exists, refl) in
            let empty = consistent.emptied (node_of scene q) (node_of scene p) (shows.pattern_at q) (shows.pattern_at p) in_q in_p (governs_up p q low governs) e in
            absurd (Contains-nil x (subst (λ l. Contains l x) empty at))
        some p q governs low x at (y ∷ list) e = let t = picked-each p governs.exists y (subst (λ l. Contains l y) (sym e) (Contains-head y list)) in (t.0, t.1)

      -- so what has each arc-consistent list has an item for each triple of the family
      pub item_for : (target : Holding Y) → ((each : ℕ → List Y) → IsArcConsistent scene (listed each) → LiesWithin (listed each) (listed whole) → LiesWithin (listed each) target) →
          (k : ℕ) (pattern : TriplePat) (x : X) → StandsAt tree k pattern → Contains (other pattern) x → (t : Y) × target (entry_of pattern) t × (triple (entry_of pattern) t ≡ x)
      item_for target largest k pattern x stands at =
          let p = entry_of pattern in
          let in_p = shows.found k pattern stands in
          let t = picked-each p in_p.0 x (subst (λ r. Contains (other r) x) (sym (shows.at_entry k pattern stands)) at) in
          (t.0, largest picked picked-consistent (λ q s c. (picked-source q s c).1) p t.0 t.1, t.2)

      -- and lists that have each have the family
      pub holds_family : (left : ℕ → List Y) → ((each : ℕ → List Y) → IsArcConsistent scene (listed each) → LiesWithin (listed each) (listed whole) → LiesWithin (listed each) (listed left)) →
          IsPartOf tree other (shown triple left)
      holds_family left largest k pattern x stands at =
          let p = entry_of pattern in
          let t = item_for (listed left) largest k pattern x stands at in
          subst (Contains (map (triple p) (left p))) t.2 (Contains-map (triple p) (left p) t.0 t.1)

  pub within_shown : (whole left : ℕ → List Y) → LiesWithin (listed left) (listed whole) → IsPartOf tree (shown triple left) (shown triple whole)
  within_shown whole left within k pattern x stands at =
      let p = entry_of pattern in
      let t = map-Contains (triple p) (left p) x at in
      subst (Contains (map (triple p) (whole p))) t.2 (Contains-map (triple p) (whole p) t.0 (within p t.0 t.1))

  pub greatest_shown : (whole left : ℕ → List Y) → IsGreatest scene (listed whole) (listed left) → IsGreatestConsistent interpretation tree (shown triple whole) (shown triple left)
  greatest_shown whole left greatest = record {
    within = within_shown whole left greatest.within;
    consistent = consistent_shown left greatest.consistent;
    greatest = λ other part consistent. holds_family whole other part consistent left greatest.largest;
  }
