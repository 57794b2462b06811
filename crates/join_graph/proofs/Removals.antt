-- Removal: whatever the order, what is left is the core; the order by the rule is one; and a removal under way.
use Rattle.std.proofs.Common.{◌≡◌, ◌≢◌, ℕ, zero, suc, ◌+◌, ◌<◌, ◌≤◌, ◌↔◌, Some, inl, inr, refl, sym, ap, ◌∙◌, subst, arith, add-one, List, [], ◌∷◌, ◌++◌, length, get_or, take, EachIndex, Contains}
use Rattle.std.specs.List.{HoldsAt}
use Rattle.std.proofs.lemmas.Bool.{cases_lt, cases_order}
use Rattle.std.proofs.lemmas.List.{length-take, get_or-take, get_or_default, take_all, take_at, take_more, take_more_same, take-append-le, get_or_at, get_or_append_left, length_push}
use Rattle.std.proofs.lemmas.Option.{slice_get-get_or}
use Rattle.std.proofs.lemmas.List.Elements.{Contains-append_left, Contains-push, Contains-push_cases}
use Rattle.join_graph.specs.declared.steps.Step.TheVariants.{Pattern, Variable}
use Rattle.join_graph.specs.Sets.{HasSize, without}
use Rattle.join_graph.specs.Members.{Member, IsMember, IsNeighbour}
use Rattle.join_graph.specs.Core.{EachHasTwoNeighbours, passing, core_of, IsForest}
use Rattle.join_graph.specs.Removal.{Removal, IsLeft, IsLeaf, IsNext, IsRemoval, IsRemovalOrder, LeavesCore, RemovesAll, GoesBefore, PartsNeighbours}
use Rattle.join_graph.proofs.Sizes.{HasSize-same, HasSize-without}
use Rattle.join_graph.proofs.Members.{cases_Member, Contains-from_not_left, IsMember-from_neighbour, IsNeighbour-sym, is_left, is_left-true}
use Rattle.join_graph.proofs.Cores.{EachHasTwoNeighbours-same, IsMember-from_two, no_leaf, IsLeaf-same}

-- a step more
pub IsLeft-push : (sets : List ℕ) (steps : List Member) (m n : Member) → IsLeft sets (steps ++ m ∷ []) n ↔ without (IsLeft sets steps) m n
IsLeft-push sets steps m n = (
  λ h. (
    (h.0, λ c. h.1 (Contains-append_left steps (m ∷ []) n c)),
    λ e. h.1 (subst (Contains (steps ++ m ∷ [])) (sym e) (Contains-push steps m)),
  ),
  λ h. (h.0.0, λ c. elim (Contains-push_cases steps m n c) [ inl was ↦ h.0.1 was | inr e ↦ h.1 (sym e) ]),
)

-- while leaves are removed, a set in which each member has two neighbours stays
IsLeft-take : (sets : List ℕ) (set : Member → Type 0) (steps : List Member) → EachHasTwoNeighbours sets set → EachIndex steps (λ i. HoldsAt (IsLeaf sets (IsLeft sets (take i steps))) steps i) → (i : ℕ) → i ≤ length steps → (m : Member) → set m → IsLeft sets (take i steps) m
IsLeft-take sets set steps two leaves zero le m h = (IsMember-from_two sets set two m h, λ c. omega (arith, c.1))
IsLeft-take sets set steps two leaves (suc i) le m h =
    let before : (n : Member) → set n → IsLeft sets (take i steps) n = IsLeft-take sets set steps two leaves i (omega arith) in
    let leaf = leaves i (omega arith) m in
    let ne : m ≢ get_or steps i m = λ e. no_leaf sets set (IsLeft sets (take i steps)) m two before h (rw (← e) at leaf.1) in
    rw (← add-one i, take_more steps i m (omega arith)) ((IsLeft-push sets (take i steps) (get_or steps i m) m).1 (before m h, ne))

-- whatever the order, what is left is the core
pub LeavesCore-from_removal : (sets : List ℕ) (steps : List Member) → IsRemoval sets steps → LeavesCore sets steps
unfolding core_of
LeavesCore-from_removal sets steps removal =
    λ m. (
      λ h. (
        is_left sets steps,
        EachHasTwoNeighbours-same sets (IsLeft sets steps) (passing (is_left sets steps)) (λ n. (is_left-true sets steps n).1) (λ n. (is_left-true sets steps n).0) removal.ended,
        (is_left-true sets steps m).1 h,
      ),
      λ h. rw (take_all (length steps) steps (omega arith)) at (IsLeft-take sets (passing h.0) steps h.1 removal.leaves (length steps) (omega arith) m h.2),
    )

-- a list is a forest exactly where every member is removed
pub IsForest-from_core : (sets : List ℕ) (steps : List Member) → LeavesCore sets steps → IsForest sets ↔ RemovesAll sets steps
unfolding IsForest
IsForest-from_core sets steps leaves_core = (
  λ forest m is_member. Contains-from_not_left sets steps m is_member (λ left. forest m ((leaves_core m).0 left)),
  λ all m in_core. let left = (leaves_core m).1 in_core in left.1 (all m left.0),
)

-- what is next is a leaf
pub IsLeaf-from_next : (sets : List ℕ) (left : Member → Type 0) (m : Member) → IsNext sets left m → IsLeaf sets left m
IsLeaf-from_next sets left (Pattern p) next = next.0
IsLeaf-from_next sets left (Variable v) next = next.0

-- the order by the rule is one of the orders that there may be
pub IsRemoval-from_order : (sets : List ℕ) (steps : List Member) → IsRemovalOrder sets steps → IsRemoval sets steps
IsRemoval-from_order sets steps order =
    record {
      leaves = λ i lt d. IsLeaf-from_next sets (IsLeft sets (take i steps)) (get_or steps i d) (order.next i lt d);
      ended = order.ended;
    }

-- one member is next
IsNext-unique : (sets : List ℕ) (left : Member → Type 0) (m n : Member) → IsNext sets left m → IsNext sets left n → m ≡ n
IsNext-unique sets left (Pattern p) (Pattern q) h k =
    elim (cases_order p q) [
      | inl e ↦ ap Pattern e
      | inr o ↦ elim o [ inl lt ↦ absurd (k.1 p lt h.0) | inr gt ↦ absurd (h.1 q gt k.0) ]
    ]
IsNext-unique sets left (Pattern p) (Variable w) h k = absurd (k.1 p h.0)
IsNext-unique sets left (Variable v) (Pattern q) h k = absurd (h.1 q k.0)
IsNext-unique sets left (Variable v) (Variable w) h k =
    elim (cases_order v w) [
      | inl e ↦ ap Variable e
      | inr o ↦ elim o [ inl lt ↦ absurd (k.2 v lt h.0) | inr gt ↦ absurd (h.2 w gt k.0) ]
    ]

-- two orders begin alike
take-orders : (sets : List ℕ) (xs ys : List Member) → IsRemovalOrder sets xs → IsRemovalOrder sets ys → (i : ℕ) → i ≤ length xs → i ≤ length ys → take i xs ≡ take i ys
take-orders sets xs ys order other zero le le' = refl
take-orders sets xs ys order other (suc i) le le' =
    let d : Member = Pattern 0 in
    let front : take i xs ≡ take i ys = take-orders sets xs ys order other i (omega arith) (omega arith) in
    let step : IsNext sets (IsLeft sets (take i xs)) (get_or ys i d) = rw front (other.next i (omega arith) d) in
    rw (← add-one i)
    (take_more_same xs ys i d (omega arith) (omega arith) front
    (IsNext-unique sets (IsLeft sets (take i xs)) (get_or xs i d) (get_or ys i d) (order.next i (omega arith) d) step))

-- and neither goes on where the other has ended
same_length : (sets : List ℕ) (xs ys : List Member) → IsRemovalOrder sets xs → IsRemovalOrder sets ys → ¬ (length xs < length ys)
same_length sets xs ys order other lt =
    let d : Member = Pattern 0 in
    let left : Member → Type 0 = IsLeft sets xs in
    let front : take (length xs) ys ≡ xs = sym (take-orders sets xs ys order other (length xs) (omega arith) (omega arith)) ∙ take_all (length xs) xs (omega arith) in
    let next = rw front at (other.next (length xs) lt d) in
    let leaf = IsLeaf-from_next sets left (get_or ys (length xs) d) next in
    no_leaf sets left left (get_or ys (length xs) d) order.ended (λ n h. h) leaf.0 leaf.1

-- there is one order
pub IsRemovalOrder-unique : (sets : List ℕ) (xs ys : List Member) → IsRemovalOrder sets xs → IsRemovalOrder sets ys → xs ≡ ys
IsRemovalOrder-unique sets xs ys order other =
    elim (cases_order (length xs) (length ys)) [
      | inl e ↦ sym (take_all (length xs) xs (omega arith)) ∙ take-orders sets xs ys order other (length xs) (omega arith) (omega arith) ∙ take_all (length xs) ys (omega arith)
      | inr o ↦ elim o [ inl lt ↦ absurd (same_length sets xs ys order other lt) | inr gt ↦ absurd (same_length sets ys xs other order gt) ]
    ]

-- the next member among the same members
IsNext-same : (sets : List ℕ) (left other : Member → Type 0) (m : Member) → ((n : Member) → left n → other n) → ((n : Member) → other n → left n) → IsNext sets left m → IsNext sets other m
IsNext-same sets left other (Pattern p) to back next = (
  IsLeaf-same sets left other (Pattern p) to back next.0,
  λ q lt leaf. next.1 q lt (IsLeaf-same sets other left (Pattern q) back to leaf),
)
IsNext-same sets left other (Variable v) to back next = (
  IsLeaf-same sets left other (Variable v) to back next.0,
  λ q leaf. next.1 q (IsLeaf-same sets other left (Pattern q) back to leaf),
  λ w lt leaf. next.2 w lt (IsLeaf-same sets other left (Variable w) back to leaf),
)

-- the steps with one more
next-push : (sets : List ℕ) (steps : List Member) (m : Member) → EachIndex steps (λ i. HoldsAt (IsNext sets (IsLeft sets (take i steps))) steps i) → IsNext sets (IsLeft sets steps) m → EachIndex (steps ++ m ∷ []) (λ i. HoldsAt (IsNext sets (IsLeft sets (take i (steps ++ m ∷ [])))) (steps ++ m ∷ []) i)
next-push sets steps m before next =
    λ i lt d. elim (cases_lt i (length steps)) [
      | inl inside ↦
          rw (take-append-le i steps (m ∷ []) (omega arith), get_or_append_left steps (m ∷ []) d i inside) (before i inside d)
      | inr past ↦
          let here : length steps ≡ i = omega (arith, length_push steps m) in
          rw (take_at steps (m ∷ []) i here, get_or_at steps m [] d i here) next
    ]

-- a removal under way: these steps are done, and these members are left
pub record IsUnderWay (sets : List ℕ) (left : Member → Type 0) (done : Removal) : Type 0 where
  pub next : EachIndex done.steps (λ i. HoldsAt (IsNext sets (IsLeft sets (take i done.steps))) done.steps i)
  pub rest : (m : Member) → left m ↔ IsLeft sets done.steps m
  pub size : HasSize (IsLeft sets done.steps) done.core

-- before the first step
pub IsUnderWay-start : (sets : List ℕ) (left : Member → Type 0) (done : Removal) → done.steps ≡ [] → ((m : Member) → left m ↔ IsMember sets m) → HasSize (IsMember sets) done.core → IsUnderWay sets left done
IsUnderWay-start sets left done none all size =
    let never : (m : Member) → ¬ Contains done.steps m = λ m c. omega (arith, ap length none, c.1) in
    record {
      next = λ i lt d. absurd (omega (arith, ap length none));
      rest = λ m. (λ h. ((all m).0 h, never m), λ h. (all m).1 h.0);
      size = HasSize-same (IsMember sets) (IsLeft sets done.steps) done.core (λ m h. (h, never m)) (λ m h. h.0) size;
    }

-- after one more step
pub IsUnderWay-step : (sets : List ℕ) (left fewer : Member → Type 0) (done more : Removal) (m : Member) → IsUnderWay sets left done → IsNext sets left m → ((n : Member) → fewer n ↔ without left m n) → more.steps ≡ done.steps ++ m ∷ [] → more.core + 1 ≡ done.core → IsUnderWay sets fewer more
IsUnderWay-step sets left fewer done more m way next removed pushed count =
    let next_left = IsNext-same sets left (IsLeft sets done.steps) m (λ n. (way.rest n).0) (λ n. (way.rest n).1) next in
    let gone : (n : Member) → IsLeft sets more.steps n ↔ without (IsLeft sets done.steps) m n = λ n. rw pushed (IsLeft-push sets done.steps m n) in
    let size : HasSize (IsLeft sets done.steps) (suc more.core) = rw (← add-one more.core, count) way.size in
    record {
      next = rw pushed (next-push sets done.steps m way.next next_left);
      rest = λ n. (
        λ h. let w = (removed n).0 h in (gone n).1 ((way.rest n).0 w.0, w.1),
        λ h. let w = (gone n).0 h in (removed n).1 ((way.rest n).1 w.0, w.1),
      );
      size = HasSize-same (without (IsLeft sets done.steps) m) (IsLeft sets more.steps) more.core (λ n. (gone n).1) (λ n. (gone n).0)
          (HasSize-without cases_Member (IsLeft sets done.steps) more.core m size (IsLeaf-from_next sets (IsLeft sets done.steps) m next_left).0);
    }

-- at the end the steps are the order by the rule, and the core has as many members as are left
pub IsUnderWay-end : (sets : List ℕ) (left : Member → Type 0) (done : Removal) → IsUnderWay sets left done → EachHasTwoNeighbours sets left → IsRemovalOrder sets done.steps × HasSize (core_of sets) done.core
IsUnderWay-end sets left done way two =
    let order : IsRemovalOrder sets done.steps = record {
      next = way.next;
      ended = EachHasTwoNeighbours-same sets left (IsLeft sets done.steps) (λ n. (way.rest n).0) (λ n. (way.rest n).1) two;
    } in
    let core = LeavesCore-from_removal sets done.steps (IsRemoval-from_order sets done.steps order) in
    (order, HasSize-same (IsLeft sets done.steps) (core_of sets) done.core (λ m. (core m).0) (λ m. (core m).1) way.size)

-- what is among the first steps is among more of them
Contains-take : (steps : List Member) (i j : ℕ) (m : Member) → i ≤ j → Contains (take i steps) m → Contains (take j steps) m
Contains-take steps i j m le c =
    let within : c.0 < i = omega (arith, length-take i steps, c.1) in
    let same : get_or (take j steps) c.0 m ≡ get_or (take i steps) c.0 m =
    get_or-take j steps c.0 m (omega arith) ∙ sym (get_or-take i steps c.0 m within) in
    (c.0, omega (arith, length-take i steps, length-take j steps, c.1), same ∙ c.2)

-- a member that goes later is left before
GoesBefore-from_places : (sets : List ℕ) (steps : List Member) → IsRemoval sets steps → (m n : Member) (i j : ℕ) → i < j → j < length steps → get_or steps i m ≡ m → get_or steps j n ≡ n → GoesBefore sets steps m n
GoesBefore-from_places sets steps removal m n i j lt within at_i at_j =
    let leaf = rw at_j at (removal.leaves j within n) in
    record {
      at = i;
      step = slice_get-get_or steps i m (omega arith) ∙ ap Some at_i;
      left = (leaf.0.0, λ c. leaf.0.1 (Contains-take steps i j n (omega arith) c));
    }

-- no member is a neighbour of its own
not_own_neighbour : (sets : List ℕ) (m : Member) → ¬ IsNeighbour sets m m
not_own_neighbour sets (Pattern p) near = near
not_own_neighbour sets (Variable v) near = near

-- where every member is removed, of any two neighbours one goes while the other is left
pub PartsNeighbours-from_all : (sets : List ℕ) (steps : List Member) → IsRemoval sets steps → RemovesAll sets steps → PartsNeighbours sets steps
PartsNeighbours-from_all sets steps removal all =
    λ m n near.
    let at_m = all m (IsMember-from_neighbour sets m n near) in
    let at_n = all n (IsMember-from_neighbour sets n m (IsNeighbour-sym sets m n near)) in
    elim (cases_order at_m.0 at_n.0) [
      | inl e ↦
          let same : m ≡ n = sym at_m.2 ∙ get_or_default steps at_m.0 m n at_m.1 ∙ ap (λ k. get_or steps k n) e ∙ at_n.2 in
          absurd (not_own_neighbour sets m (subst (IsNeighbour sets m) (sym same) near))
      | inr o ↦ elim o [
        | inl lt ↦ inl (GoesBefore-from_places sets steps removal m n at_m.0 at_n.0 lt at_n.1 at_m.2 at_n.2)
        | inr gt ↦ inr (GoesBefore-from_places sets steps removal n m at_n.0 at_m.0 gt at_m.1 at_n.2 at_m.2)
      ]
    ]
