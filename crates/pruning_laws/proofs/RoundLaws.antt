-- Rounds over families of triples: they keep each consistent family, and what one leaves as it is, is consistent.
use Rattle.std.proofs.Common.{◌≡◌, ◌↔◌, inl, inr, ℕ, ◌<◌, ◌≤◌, List, [], ◌∷◌, length, map, Contains, refl, sym, ◌∙◌, ap, subst, arith}
use Rattle.std.proofs.lemmas.Bool.{cases_lt}
use Rattle.std.proofs.lemmas.List.{get_or-map, get_or_past, length-map}
use Rattle.bm_term.proofs.Elements.{Contains-nil}
use Rattle.alg_model.specs.declared.pattern.TriplePat.{TriplePat}
use Rattle.alg_model.specs.Eval.{Interpretation}
use Rattle.alg_model.specs.Limits.{PatternKeepsLimits}
use Rattle.alg_model.specs.Pattern.{Algebra, triple_patterns}
use Rattle.alg_model.specs.WellDesigned.{IsWellDesigned}
use Rattle.join_graph.specs.Members.{Member}
use Rattle.pattern_tree.specs.Consistent.{IsConsistent, IsPartOf, IsGreatestConsistent}
use Rattle.pattern_tree.specs.Solution.{Family}
use Rattle.pattern_tree.specs.Standing.{StandsAt}
use Rattle.pattern_tree.specs.Tree.{TreeNode, tree_of}
use Rattle.pattern_tree.proofs.Connected.{tree-connected}
use Rattle.pattern_tree.proofs.Pruning.{Contains-map, map-Contains}
use Rattle.pruning_laws.specs.Matches.{AreMatches}
use Rattle.pruning_laws.specs.Plans.{IsStripped, pairs_by, IsPlanOf, round_of}
use Rattle.pruning_laws.specs.Scene.{Scene, node_of, StandsIn}
use Rattle.pruning_laws.specs.SceneOf.{scene_of, lists_of}
use Rattle.pruning_laws.specs.Shown.{entry_of, shown}
use Rattle.pruning_laws.specs.TreePasses.{tree_passes}
use Rattle.pruning_laws.proofs.ArcConsistent.{listed, LiesWithin, IsArcConsistent, Fits}
use Rattle.pruning_laws.proofs.Bridge.{consistent_shown, item_for}
use Rattle.pruning_laws.proofs.Columns.{length-columns}
use Rattle.pruning_laws.proofs.NodePlans.{plan_shown, stripped_is_enough}
use Rattle.pruning_laws.proofs.SceneShows.{no_pattern, text_at, scene_shows}
use Rattle.pruning_laws.proofs.Settling.{IsEnough}
use Rattle.pruning_laws.proofs.Shape.{unchanged_shown, two_passes_shown}
use Rattle.pruning_laws.proofs.Shows.{Shows}
use Rattle.pruning_laws.proofs.TreeRounds.{round_keeps, round_within}

-- ---- families that are the same at the triple patterns of the tree

abbrev pub AreSame : {X : Type 0} → List TreeNode → Family X → Family X → Type 0
AreSame tree family other = (k : ℕ) (part : TriplePat) → StandsAt tree k part → family part ≡ other part

module _ {V X : Type 0} (interpretation : Interpretation V X) (tree : List TreeNode) where
  pub consistent_same : (family other : Family X) → AreSame tree family other → IsConsistent interpretation tree family → IsConsistent interpretation tree other
  consistent_same family other same consistent = record {
    values = λ k above part higher triple var value stands stands' within at takes has.
        let found = consistent.values k above part higher triple var value stands stands' within (subst (λ l. Contains l triple) (sym (same k part stands)) at) takes has in
        (found.0, subst (λ l. Contains l found.0) (same above higher stands') found.1, found.2);
    emptied = λ k above part higher stands stands' within empty.
        sym (same k part stands) ∙ consistent.emptied k above part higher stands stands' within (same above higher stands' ∙ empty);
  }

  pub greatest_same : (whole left all most : Family X) → AreSame tree whole all → AreSame tree left most → IsGreatestConsistent interpretation tree whole left → IsGreatestConsistent interpretation tree all most
  greatest_same whole left all most same same' greatest = record {
    within = λ k part triple stands at. subst (λ l. Contains l triple) (same k part stands) (greatest.within k part triple stands (subst (λ l. Contains l triple) (sym (same' k part stands)) at));
    consistent = consistent_same left most same' greatest.consistent;
    greatest = λ other part consistent k p triple stands at. subst (λ l. Contains l triple) (same' k p stands)
        (greatest.greatest other (λ j q t s c. subst (λ l. Contains l t) (sym (same j q s)) (part j q t s c)) consistent k p triple stands at);
  }

map_itself : {X : Type 0} (xs : List X) → map (λ x. x) xs ≡ xs
map_itself [] = refl
map_itself (x ∷ xs) = ap (λ rest. x ∷ rest) (map_itself xs)

-- ---- families as lists in the order of the text

module _ {V X : Type 0} (interpretation : Interpretation V X) (n : ℕ) (pattern : Algebra) (keeps : PatternKeepsLimits n pattern) where
  abbrev tree : List TreeNode
  tree = tree_of pattern

  abbrev scene : Scene V X
  scene = scene_of (λ p. interpretation) pattern

  -- items stand for themselves
  abbrev itself : ℕ → X → X
  itself p t = t

  abbrev shows : Shows interpretation tree scene itself
  shows = scene_shows interpretation (λ p. interpretation) itself (record { subject = λ p y. refl; predicate = λ p y. refl; object = λ p y. refl }) n pattern keeps

  module _ (family : Family X) where
    abbrev lists : ℕ → List X
    lists = lists_of pattern family

    fits : Fits scene (listed lists)
    fits p t at = elim (cases_lt p (length scene.patterns)) as (λ _. p < length scene.patterns) [
      | inl low ↦ low
      | inr past ↦
          let e = length-columns (λ p. interpretation) 0 (triple_patterns pattern) in
          let none : lists p ≡ [] = get_or_past (map family (triple_patterns pattern)) p [] (omega (arith, past, e, length-map (triple_patterns pattern) family)) in
          absurd (Contains-nil t (subst (λ l. Contains l t) none at))
    ]

    at_entry : (k : ℕ) (part : TriplePat) → StandsAt tree k part → lists (entry_of part) ≡ family part
    at_entry k part stands =
        let text = text_at interpretation (λ p. interpretation) itself (record { subject = λ p y. refl; predicate = λ p y. refl; object = λ p y. refl }) n pattern keeps k part stands in
        get_or-map family (triple_patterns pattern) (entry_of part) no_pattern [] text.0 ∙ ap family text.1

    at_place : (p k : ℕ) → StandsIn scene p k → lists p ≡ family (shows.pattern_at p)
    at_place p k stands = subst (λ p'. lists p' ≡ family (shows.pattern_at p)) (shows.entry_at p k stands) (at_entry k (shows.pattern_at p) (shows.stands p k stands))

    -- the lists show the family
    shown_is : (k : ℕ) (part : TriplePat) → StandsAt tree k part → shown itself lists part ≡ family part
    shown_is k part stands = map_itself (lists (entry_of part)) ∙ at_entry k part stands

    to_family : (p : ℕ) (t : X) → Contains (lists p) t → (k : ℕ) × StandsIn scene p k × StandsAt tree k (shows.pattern_at p) × Contains (family (shows.pattern_at p)) t
    to_family p t at =
        let k = node_of scene p in
        let stands : StandsIn scene p k = (fits p t at, refl) in
        (k, stands, shows.stands p k stands, subst (λ l. Contains l t) (at_place p k stands) at)

    are_matches : AreMatches interpretation tree family → AreMatches interpretation tree (shown itself lists)
    are_matches matches k part triple stands at = matches k part triple stands (subst (λ l. Contains l triple) (shown_is k part stands) at)

  -- a part of a family, as lists
  lists_within : (less more : Family X) → IsPartOf tree less more → LiesWithin (listed (lists_of pattern less)) (listed (lists_of pattern more))
  lists_within less more part p t at =
      let from = to_family less p t at in
      subst (λ l. Contains l t) (sym (at_place more p from.0 from.1)) (part from.0 (shows.pattern_at p) t from.2 from.3)

  -- ---- a round adds nothing, and keeps each consistent part

  pub round_adds_nothing : (pairs : ℕ → List (Member × Member)) (family : Family X) (k : ℕ) (part : TriplePat) (triple : X) → StandsAt tree k part → round_of interpretation pattern pairs family part triple → Contains (family part) triple
  round_adds_nothing pairs family k part triple stands h =
      subst (λ l. Contains l triple) (at_entry family k part stands) (round_within scene pairs (listed (lists_of pattern family)) (length tree) (entry_of part) triple h)

  pub round_keeps_parts : (pairs : ℕ → List (Member × Member)) → IsPlanOf tree pairs → (family other : Family X) → IsPartOf tree other family → IsConsistent interpretation tree other →
      (k : ℕ) (part : TriplePat) (triple : X) → StandsAt tree k part → Contains (other part) triple → round_of interpretation pattern pairs family part triple
  round_keeps_parts pairs plan family other is_part consistent k part triple stands at =
      let whole = lists_of pattern family in
      let part_shown : IsPartOf tree other (shown itself whole) = (λ k p t s c. subst (λ l. Contains l t) (sym (shown_is family k p s)) (is_part k p t s c)) in
      let few : length tree ≤ length scene.parents = omega (arith, shows.nodes) in
      let found = item_for interpretation tree scene itself shows whole other part_shown consistent (tree_passes scene pairs (length tree) (listed whole))
      (λ each c within. round_keeps scene pairs (plan_shown interpretation tree scene itself shows pairs plan) (listed each) c (listed whole) within (length tree) few)
      k part triple stands at in
      subst (λ t. round_of interpretation pattern pairs family part t) found.2 found.1

  -- ---- what a round leaves as it is

  module _ (well : IsWellDesigned pattern) (pairs : ℕ → List (Member × Member)) (whole left : Family X) (matches : AreMatches interpretation tree whole) where
    pub unchanged_is_greatest : IsPlanOf tree pairs → IsPartOf tree left whole →
        ((other : Family X) → IsPartOf tree other whole → IsConsistent interpretation tree other → IsPartOf tree other left) →
        ((k : ℕ) (part : TriplePat) (triple : X) → StandsAt tree k part → Contains (left part) triple → round_of interpretation pattern pairs left part triple) →
        IsGreatestConsistent interpretation tree whole left
    unchanged_is_greatest plan part has stays =
        let all = lists_of pattern whole in
        let most = lists_of pattern left in
        greatest_same interpretation tree (shown itself all) (shown itself most) whole left (shown_is whole) (shown_is left)
        (unchanged_shown interpretation tree scene itself shows (tree-connected pattern well) pairs (plan_shown interpretation tree scene itself shows pairs plan) all most (fits whole) (are_matches whole matches)
        (lists_within left whole part) kept_lists unchanged) where
          kept_lists : (each : ℕ → List X) → IsArcConsistent scene (listed each) → LiesWithin (listed each) (listed (lists_of pattern whole)) → LiesWithin (listed each) (listed (lists_of pattern left))
          kept_lists each consistent within p t at =
              let from = to_family whole p t (within p t at) in
              let is_entry = shows.entry_at p from.0 from.1 in
              let shown_at : Contains (shown itself each (shows.pattern_at p)) t = subst (λ e. Contains (map (itself e) (each e)) t) (sym is_entry) (Contains-map (itself p) (each p) t at) in
              let is_part : IsPartOf tree (shown itself each) whole = (λ k q s stands c.
              let found = map-Contains (itself (entry_of q)) (each (entry_of q)) s c in
              let there = within (entry_of q) found.0 found.1 in
              subst (λ l. Contains l s) (at_entry whole k q stands) (subst (Contains (lists_of pattern whole (entry_of q))) found.2 there)) in
              let there = has (shown itself each) is_part (consistent_shown interpretation tree scene itself shows each consistent) from.0 (shows.pattern_at p) t from.2 shown_at in
              subst (λ l. Contains l t) (sym (at_place left p from.0 from.1)) there

          unchanged : LiesWithin (listed (lists_of pattern left)) (tree_passes scene pairs (length scene.parents) (listed (lists_of pattern left)))
          unchanged p t at =
              let from = to_family left p t at in
              let there = stays from.0 (shows.pattern_at p) t from.2 from.3 in
              subst (λ n. tree_passes scene pairs n (listed (lists_of pattern left)) p t) (sym shows.nodes)
              (subst (λ p. tree_passes scene pairs (length tree) (listed (lists_of pattern left)) p t) (shows.entry_at p from.0 from.1) there)

    -- on forests one round leaves the greatest
    pub passes_are_greatest : (sets : ℕ → List ℕ) (steps : ℕ → List Member) → ((k : ℕ) → k < length tree → IsStripped tree k (sets k) (steps k)) → ((k : ℕ) → pairs k ≡ pairs_by (sets k) (steps k)) →
        ((k : ℕ) (part : TriplePat) (triple : X) → StandsAt tree k part → Contains (left part) triple ↔ round_of interpretation pattern pairs whole part triple) →
        IsGreatestConsistent interpretation tree whole left
    passes_are_greatest sets steps stripped are is =
        let all = lists_of pattern whole in
        let most = lists_of pattern left in
        greatest_same interpretation tree (shown itself all) (shown itself most) whole left (shown_is whole) (shown_is left)
        (two_passes_shown interpretation tree scene itself shows (tree-connected pattern well) pairs enough all most (fits whole) (are_matches whole matches) left_is) where
          enough : (k : ℕ) → k < length scene.parents → IsEnough scene k (pairs k)
          enough k low = subst (IsEnough scene k) (sym (are k)) (stripped_is_enough interpretation tree scene itself shows k (sets k) (steps k) (stripped k (subst (λ n. k < n) shows.nodes low)))

          left_is : (p : ℕ) (t : X) → Contains (lists_of pattern left p) t ↔ tree_passes scene pairs (length scene.parents) (listed (lists_of pattern whole)) p t
          left_is p t = (
            λ at. (
                let from = to_family left p t at in
                let there = (is from.0 (shows.pattern_at p) t from.2).0 from.3 in
                subst (λ n. tree_passes scene pairs n (listed (lists_of pattern whole)) p t) (sym shows.nodes)
                (subst (λ p. tree_passes scene pairs (length tree) (listed (lists_of pattern whole)) p t) (shows.entry_at p from.0 from.1) there)
                ),
            λ h. (
                let from = to_family whole p t (round_within scene pairs (listed (lists_of pattern whole)) (length scene.parents) p t h) in
                let there : round_of interpretation pattern pairs whole (shows.pattern_at p) t =
                subst (λ p. tree_passes scene pairs (length tree) (listed (lists_of pattern whole)) p t) (sym (shows.entry_at p from.0 from.1))
                (subst (λ n. tree_passes scene pairs n (listed (lists_of pattern whole)) p t) shows.nodes h) in
                subst (λ l. Contains l t) (sym (at_place left p from.0 from.1)) ((is from.0 (shows.pattern_at p) t from.2).1 there)
                ),
          )
