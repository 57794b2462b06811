-- The scene of a pattern whose items are the pairs of relations.
use Rattle.std.proofs.Common.{◌≡◌, ◌↔◌, ◌⊎◌, inl, inr, Bool, ℕ, ◌<◌, List, Option, Some, None, All, Contains, refl, sym, ◌∙◌, ap, subst, arith}
use Rattle.std.specs.Prelude.{slice_get}
use Rattle.std.proofs.lemmas.Bool.Decides.{nat_tests}
use Rattle.std.proofs.lemmas.Option.{get_or_from_slice_get, slice_get_within}
use Rattle.alg_model.specs.declared.pattern.TriplePat.{TriplePat}
use Rattle.alg_model.specs.declared.var.Var.{Var}
use Rattle.alg_model.specs.Pattern.{IsVar}
use Rattle.cube_slices.specs.Lines.{pairs_of}
use Rattle.node_plans.proofs.Limits.{node_there}
use Rattle.pattern_tree.specs.Consistent.{TakesValue}
use Rattle.pattern_tree.specs.Standing.{StandsAt}
use Rattle.pattern_tree.specs.Tree.{TreeNode}
use Rattle.pruning_laws.specs.Scene.{Scene, StandsIn, node_of}
use Rattle.pruning_laws.specs.Shown.{entry_of}
use Rattle.pruning_laws.proofs.Bridge.{up, down}
use Rattle.pruning_laws.proofs.NodePlans.{from_edge, to_edge}
use Rattle.pruning_laws.proofs.Shows.{Shows}
use Rattle.tree_relations.specs.declared.prepared.PlaceKind.{PlaceKind}
use Rattle.tree_relations.specs.declared.prepared.PlaceKind.TheVariants.{Subject, Object, Predicate}
use Rattle.tree_relations.specs.declared.prepared.SidePlace.{SidePlace}
use Rattle.tree_relations.specs.declared.prepared.Entry.{Entry}
use Rattle.tree_relations.specs.declared.prepared.Prepared.{Prepared}
use Rattle.tree_relations.specs.Prepared.{MeetsItself, FitsEntry}
use Rattle.tree_relations.specs.Fits.{place_at, IsSide, FitsTree}
use Rattle.tree_relations.specs.Readings.{NumberTriple, as_numbers, part_at, value_of, SideGives, EntryGives, ReadsSide, IsReading}
use Rattle.mask_steps.specs.Held.{MayMeet, GivesAt}
use Rattle.prune_plan.specs.Accepted.{HasNoCrossPlace}
use Rattle.prune_plan.specs.steps.Nodes.{IsPairOf, IsSceneOf}
use Rattle.prune_plan.proofs.Places.{may_meet}

-- ---- one side

side_gives : (p : Prepared) (side : Option SidePlace) (n : ℕ) (t : NumberTriple) → ReadsSide p side n t → (kind : PlaceKind) (v x : ℕ) → IsSide side kind v → x ≡ part_at kind t → SideGives p side n v x
side_gives p None n t reads kind v x is same = absurd is
side_gives p (Some place) n t reads kind v x is same = (is.1, sym reads ∙ ap (λ (kind : PlaceKind). part_at kind t) is.0 ∙ sym same)

gives_side : (p : Prepared) (side : Option SidePlace) (n : ℕ) (t : NumberTriple) → ReadsSide p side n t → (v x : ℕ) → SideGives p side n v x → (kind : PlaceKind) × IsSide side kind v × (x ≡ part_at kind t)
gives_side p None n t reads v x gives = absurd gives
gives_side p (Some place) n t reads v x gives = (place.kind, (refl, gives.0), sym gives.1 ∙ sym reads)

one_side : (p : Prepared) (side : Option SidePlace) (n v x y : ℕ) → SideGives p side n v x → SideGives p side n v y → x ≡ y
one_side p None n v x y first second = absurd first
one_side p (Some place) n v x y first second = sym first.1 ∙ second.1

-- ---- both sides

-- a shared number has one value at subjects and objects
shared_value : (p : Prepared) (a b : PlaceKind) (n : ℕ) → MayMeet a b → n < p.shared → value_of p a n ≡ value_of p b n
shared_value p Subject Subject n meet low = refl
shared_value p Object Object n meet low = refl
shared_value p Predicate Predicate n meet low = refl
shared_value p Subject Object n meet low = grind (arith, nat_tests)
shared_value p Object Subject n meet low = grind (arith, nat_tests)
shared_value p Subject Predicate n meet low = absurd (cc (meet.1 refl))
shared_value p Object Predicate n meet low = absurd (cc (meet.1 refl))
shared_value p Predicate Subject n meet low = absurd (cc (meet.0 refl))
shared_value p Predicate Object n meet low = absurd (cc (meet.0 refl))

same_var : (a b : Var) → a.0 ≡ b.0 → a ≡ b
same_var a b is = ap (λ (n : ℕ). record { 0 = n }) is

two_sides : (p : Prepared) (e : Entry) (first second : Option SidePlace) → MeetsItself p e first second → (pair : ℕ × ℕ) → Contains (pairs_of e.rel.lines) pair → (v x y : ℕ) →
    ((a b : PlaceKind) → IsSide first a v → IsSide second b v → MayMeet a b) → SideGives p first pair.0 v x → SideGives p second pair.1 v y → x ≡ y
two_sides p e None second meets pair there v x y may one other = absurd one
two_sides p e (Some a) None meets pair there v x y may one other = absurd other
two_sides p e (Some a) (Some b) meets pair there v x y may one other =
    let shared = meets (same_var a.var b.var (one.0 ∙ sym other.0)) pair.0 pair.1 there in
    let values = shared_value p a.kind b.kind pair.0 (may a.kind b.kind (refl, one.0) (refl, other.0)) shared.1 in
    sym one.1 ∙ values ∙ ap (λ (n : ℕ). value_of p b.kind n) shared.0 ∙ other.1

-- ---- the triple pattern of an entry

module _ (stands_for : ℕ → List ℕ → Bool) (pattern : TriplePat) (t : NumberTriple) (v x : ℕ) where
  to_takes : (kind : PlaceKind) → IsVar (place_at kind pattern) v → x ≡ part_at kind t → TakesValue (as_numbers stands_for) pattern t v x
  to_takes Subject is same = inl (is, same)
  to_takes Predicate is same = inr (inl (is, same))
  to_takes Object is same = inr (inr (is, same))

  from_takes : TakesValue (as_numbers stands_for) pattern t v x → (kind : PlaceKind) × IsVar (place_at kind pattern) v × (x ≡ part_at kind t)
  from_takes (inl h) = (Subject, h.0, h.1)
  from_takes (inr (inl h)) = (Predicate, h.0, h.1)
  from_takes (inr (inr h)) = (Object, h.0, h.1)

-- the entry of a place
one_entry : (p : Prepared) (i : ℕ) (e other : Entry) → slice_get p.entries i ≡ Some e → slice_get p.entries i ≡ Some other → e ≡ other
one_entry p i e other at at' = let same : Some e ≡ Some other = sym at ∙ at' in cc

of_entry : (p : Prepared) (i : ℕ) (e : Entry) (pair : ℕ × ℕ) → slice_get p.entries i ≡ Some e → IsPairOf p i pair → Contains (pairs_of e.rel.lines) pair
of_entry p i e pair at is = subst (λ e. Contains (pairs_of e.rel.lines) pair) (one_entry p i is.0 e is.1 at) is.2

entry_fits : (p : Prepared) (i : ℕ) (e : Entry) → All (FitsEntry p) p.entries → slice_get p.entries i ≡ Some e → FitsEntry p e
entry_fits p i e all at = subst (FitsEntry p) (get_or_from_slice_get p.entries i e e at) (all i e (slice_get_within p.entries i e at))

module _ (tree : List TreeNode) (p : Prepared) (fits : FitsTree tree p) where
  -- an entry of the tree gives a variable one value
  pub gives_one : HasNoCrossPlace tree → (k : ℕ) (pattern : TriplePat) → StandsAt tree k pattern → (pair : ℕ × ℕ) → IsPairOf p (entry_of pattern) pair → (v x y : ℕ) →
      GivesAt p (entry_of pattern) pair v x → GivesAt p (entry_of pattern) pair v y → x ≡ y
  gives_one accepted k pattern stands pair left v x y (e, at, gives) (other, at', gives') =
      let i = entry_of pattern in
      let found = fits.entries k pattern stands in
      let same : e ≡ found.0 = one_entry p i e found.0 at found.1.at in
      let same' : other ≡ found.0 = one_entry p i other found.0 at' found.1.at in
      by found.0 (entry_fits p i found.0 fits.together.entries found.1.at) (of_entry p i found.0 pair found.1.at left)
      (λ a b first second. may_meet pattern v (accepted k k pattern pattern v stands stands) a b ((found.1.sides a v).1 (inl first)) ((found.1.sides b v).1 (inr second)))
      (subst (λ e. EntryGives p e pair v x) same gives) (subst (λ e. EntryGives p e pair v y) same' gives') where
        by : (e : Entry) → FitsEntry p e → Contains (pairs_of e.rel.lines) pair → ((a b : PlaceKind) → IsSide e.first a v → IsSide e.second b v → MayMeet a b) → EntryGives p e pair v x → EntryGives p e pair v y → x ≡ y
        by e own there may (inl one) (inl other) = one_side p e.first pair.0 v x y one other
        by e own there may (inr one) (inr other) = one_side p e.second pair.1 v x y one other
        by e own there may (inl one) (inr other) = two_sides p e e.first e.second own.itself pair there v x y may one other
        by e own there may (inr one) (inl other) = sym (two_sides p e e.first e.second own.itself pair there v y x may other one)

  module _ (triple : ℕ → ℕ × ℕ → NumberTriple) (reading : IsReading p triple) (stands_for : ℕ → List ℕ → Bool) where
    -- a pair gives what its triple takes
    pub gives_takes : (k : ℕ) (pattern : TriplePat) → StandsAt tree k pattern → (pair : ℕ × ℕ) → IsPairOf p (entry_of pattern) pair → (v x : ℕ) →
        TakesValue (as_numbers stands_for) pattern (triple (entry_of pattern) pair) v x ↔ GivesAt p (entry_of pattern) pair v x
    gives_takes k pattern stands pair left v x =
        let i = entry_of pattern in
        let found = fits.entries k pattern stands in
        let e = found.0 in
        let t = triple i pair in
        let there = of_entry p i e pair found.1.at left in
        let first = reading.first i e pair found.1.at there in
        let second = reading.second i e pair found.1.at there in (
          λ takes. (
              let kind = from_takes stands_for pattern t v x takes in (
                e,
                found.1.at,
                elim ((found.1.sides kind.0 v).0 kind.1) as (λ _. EntryGives p e pair v x) [
                  | inl side ↦ inl (side_gives p e.first pair.0 t first kind.0 v x side kind.2)
                  | inr side ↦ inr (side_gives p e.second pair.1 t second kind.0 v x side kind.2)
                ],
              )
              ),
          λ gives. back e found.1.sides t first second (subst (λ e. EntryGives p e pair v x) (one_entry p i gives.0 e gives.1 found.1.at) gives.2),
        ) where
          back : (e : Entry) → ((kind : PlaceKind) (var : ℕ) → IsVar (place_at kind pattern) var ↔ (IsSide e.first kind var ⊎ IsSide e.second kind var)) → (t : NumberTriple) → ReadsSide p e.first pair.0 t → ReadsSide p e.second pair.1 t →
              EntryGives p e pair v x → TakesValue (as_numbers stands_for) pattern t v x
          back e sides t first second (inl gives) = let kind = gives_side p e.first pair.0 t first v x gives in to_takes stands_for pattern t v x kind.0 ((sides kind.0 v).1 (inl kind.1)) kind.2
          back e sides t first second (inr gives) = let kind = gives_side p e.second pair.1 t second v x gives in to_takes stands_for pattern t v x kind.0 ((sides kind.0 v).1 (inr kind.1)) kind.2

    -- a scene that shows the tree has the pairs as items
    pub scene_of_shows : (scene : Scene ℕ (ℕ × ℕ)) → Shows (as_numbers stands_for) tree scene triple → IsSceneOf tree p scene
    scene_of_shows scene shows = record {
      nodes = shows.nodes;
      stands = λ i k. (λ s. (shows.pattern_at i, shows.stands i k s, shows.entry_at i k s), λ place. subst (λ i. StandsIn scene i k) place.2 (shows.found k place.0 place.1));
      edges = λ k i v. (λ h. to_edge (as_numbers stands_for) tree scene triple shows k i v h.0 h.1, λ edge. from_edge (as_numbers stands_for) tree scene triple shows k i v edge);
      above = λ m k low. (up (as_numbers stands_for) tree scene triple shows m k low, down (as_numbers stands_for) tree scene triple shows m k);
      parents = λ k parent hangs. shows.parent k parent hangs.0 hangs.1 hangs.2;
      hangs = λ k positive low. (let there = node_there tree k low in (there.0, there.1, shows.hangs k there.0 positive there.1));
      gives = λ i pair v x low left. (
          let k = node_of scene i in
          let pattern = shows.pattern_at i in
          let is = shows.entry_at i k (low, refl) in
          let stands = shows.stands i k (low, refl) in
          let takes = gives_takes k pattern stands pair (subst (λ i. IsPairOf p i pair) (sym is) left) v x in
          let here = subst (λ i. TakesValue (as_numbers stands_for) pattern (triple i pair) v x ↔ GivesAt p i pair v x) is takes in
          let gives = shows.gives i pair v x low in
          (λ h. here.0 (gives.0 h), λ h. gives.1 (here.1 h))
          );
    }
