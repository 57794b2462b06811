-- A part of a forest is a forest: a set of members of the part, in which each has two neighbours, is one of the whole.
use Rattle.std.proofs.Common.{◌≡◌, ℕ, zero, suc, ◌<◌, ◌&&◌, ◌||◌, Bool, false, refl, sym, ap, ◌∙◌, subst, List, length, slice_get, slice_index, eqb, eqb-true, eq-eqb, Decides, IsTrue}
use Rattle.std.specs.Option.{unwrap_or}
use Rattle.std.proofs.lemmas.Option.{unwrap_or-slice_get}
use Rattle.std.proofs.lemmas.Bool.{and_parts, and_from}
use Rattle.std.proofs.lemmas.Bool.Decides.{Decides-below_or}
use Rattle.join_graph.specs.declared.steps.Step.TheVariants.{Pattern, Variable}
use Rattle.join_graph.specs.Sets.{HasTwo}
use Rattle.join_graph.specs.Members.{Member, PatternHas, IsMember, IsNeighbour}
use Rattle.join_graph.specs.Core.{neighbours_in, EachHasTwoNeighbours, passing, core_of, IsForest, IsPart}
use Rattle.join_graph.proofs.Members.{PatternHas-place}
use Rattle.join_graph.proofs.Cores.{IsMember-from_two}

-- the same element of two lists
slice_index-same : (xs ys : List ℕ) (i j : ℕ) → slice_get xs i ≡ slice_get ys j → slice_index xs i ≡ slice_index ys j
slice_index-same xs ys i j e = sym (unwrap_or-slice_get xs i 0) ∙ ap (λ o. unwrap_or o 0) e ∙ unwrap_or-slice_get ys j 0

-- the member of the whole that a member of the part is
moved : (ℕ → ℕ) → Member → Member
moved place (Pattern p) = Pattern (place p)
moved place (Variable v) = Variable v

-- whether one of the first patterns passes and stands at a place of the whole
stands_at : (ℕ → ℕ) → (Member → Bool) → ℕ → ℕ → Bool
stands_at place test q zero = false
stands_at place test q (suc n) = (eqb (place n) q && test (Pattern n)) || stands_at place test q n

-- the members of the whole that come from members that pass
moved_test : (ℕ → ℕ) → (Member → Bool) → ℕ → Member → Bool
moved_test place test n (Pattern q) = stands_at place test q n
moved_test place test n (Variable v) = test (Variable v)

-- and what that test means
stands_at-decides : (place : ℕ → ℕ) (test : Member → Bool) (q n : ℕ) → Decides (stands_at place test q n) ((p : ℕ) × (p < n) × ((place p ≡ q) × IsTrue (test (Pattern p))))
unfolding stands_at
stands_at-decides place test q n =
    Decides-below_or (λ p. eqb (place p) q && test (Pattern p)) (λ p. (place p ≡ q) × IsTrue (test (Pattern p))) (stands_at place test q)
    (λ p. (λ e. let both = and_parts (eqb (place p) q) (test (Pattern p)) e in (eqb-true _ _ both.0, both.1), λ h. and_from _ _ (eq-eqb _ _ h.0) h.1))
    refl
    (λ k. refl)
    n

module _ (part whole : List ℕ) (is_part : IsPart part whole) (test : Member → Bool) (two : EachHasTwoNeighbours part (passing test)) where
  -- what passes in the part passes in the whole
  moved_in : (m : Member) → passing test m → passing (moved_test is_part.place test (length part)) (moved is_part.place m)
  unfolding moved moved_test
  moved_in (Pattern p) pass =
      (stands_at-decides is_part.place test (is_part.place p) (length part)).1 (p, IsMember-from_two part (passing test) two (Pattern p) pass, (refl, pass))
  moved_in (Variable v) pass = pass

  -- what passes in the whole comes from the part
  moved_from : (m : Member) → passing (moved_test is_part.place test (length part)) m → (n : Member) × passing test n × (moved is_part.place n ≡ m)
  unfolding moved moved_test
  moved_from (Pattern q) pass =
      let from = (stands_at-decides is_part.place test q (length part)).0 pass in
      (Pattern from.0, from.2.1, ap Pattern from.2.0)
  moved_from (Variable v) pass = (Variable v, pass, refl)

  -- variables, neighbours and differences stay
  moved_has : (p v : ℕ) → PatternHas part p v → PatternHas whole (is_part.place p) v
  moved_has p v has =
      rw (slice_index-same whole part (is_part.place p) p (is_part.same p (PatternHas-place part p v has))) has

  moved_near : (m n : Member) → IsNeighbour part m n → IsNeighbour whole (moved is_part.place m) (moved is_part.place n)
  unfolding moved
  moved_near (Pattern p) (Pattern q) near = near
  moved_near (Pattern p) (Variable v) near = moved_has p v near
  moved_near (Variable v) (Pattern p) near = moved_has p v near
  moved_near (Variable v) (Variable w) near = near

  moved_apart : (m n : Member) → IsMember part m → IsMember part n → moved is_part.place m ≡ moved is_part.place n → m ≡ n
  unfolding moved
  moved_apart (Pattern p) (Pattern q) is_m is_n e = ap Pattern (is_part.apart p q is_m is_n (cc))
  moved_apart (Pattern p) (Variable v) is_m is_n e = cc
  moved_apart (Variable v) (Pattern p) is_m is_n e = cc
  moved_apart (Variable v) (Variable w) is_m is_n e = e

  -- so each member that passes in the whole has two neighbours that pass
  moved_two : EachHasTwoNeighbours whole (passing (moved_test is_part.place test (length part)))
  moved_two m pass =
      let from = moved_from m pass in
      let both = two from.0 from.1 in
      let is_member : (n : Member) → passing test n → IsMember part n = IsMember-from_two part (passing test) two in
      subst (λ n. HasTwo (neighbours_in whole (passing (moved_test is_part.place test (length part))) n)) from.2 (record {
        first = moved is_part.place both.first;
        second = moved is_part.place both.second;
        first_in = (moved_near from.0 both.first both.first_in.0, moved_in both.first both.first_in.1);
        second_in = (moved_near from.0 both.second both.second_in.0, moved_in both.second both.second_in.1);
        apart = λ e. both.apart (moved_apart both.first both.second (is_member both.first both.first_in.1) (is_member both.second both.second_in.1) e);
      })

-- a part of a forest is a forest
pub IsForest-part : (part whole : List ℕ) → IsPart part whole → IsForest whole → IsForest part
unfolding core_of IsForest
IsForest-part part whole is_part forest =
    λ m core.
    forest (moved is_part.place m)
    (moved_test is_part.place core.0 (length part), moved_two part whole is_part core.0 core.1, moved_in part whole is_part core.0 core.1 m core.2)
