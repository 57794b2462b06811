-- Sets in which each member has two neighbours, and the core.
use Rattle.std.proofs.Common.{ℕ, List}
use Rattle.join_graph.specs.Sets.{HasAtMostOne, HasTwo}
use Rattle.join_graph.specs.Members.{Member, IsMember}
use Rattle.join_graph.specs.Core.{neighbours_in, EachHasTwoNeighbours, core_of, IsCore}
use Rattle.join_graph.specs.Removal.{IsLeaf}
use Rattle.join_graph.proofs.Members.{IsMember-from_neighbour}

-- two neighbours in a set are two in a larger set
pub HasTwo-larger : (sets : List ℕ) (set larger : Member → Type 0) (m : Member) → ((n : Member) → set n → larger n) → HasTwo (neighbours_in sets set m) → HasTwo (neighbours_in sets larger m)
HasTwo-larger sets set larger m to two =
    record {
      first = two.first;
      second = two.second;
      first_in = (two.first_in.0, to two.first two.first_in.1);
      second_in = (two.second_in.0, to two.second two.second_in.1);
      apart = two.apart;
    }

-- a set with the same members
pub EachHasTwoNeighbours-same : (sets : List ℕ) (set other : Member → Type 0) → ((m : Member) → set m → other m) → ((m : Member) → other m → set m) → EachHasTwoNeighbours sets set → EachHasTwoNeighbours sets other
EachHasTwoNeighbours-same sets set other to back two = λ m h. HasTwo-larger sets set other m to (two m (back m h))

-- such a set has members of the list alone
pub IsMember-from_two : (sets : List ℕ) (set : Member → Type 0) → EachHasTwoNeighbours sets set → (m : Member) → set m → IsMember sets m
IsMember-from_two sets set two m h = let t = two m h in IsMember-from_neighbour sets m t.first t.first_in.0

-- such a set has no leaf
pub no_leaf : (sets : List ℕ) (set left : Member → Type 0) (m : Member) → EachHasTwoNeighbours sets set → ((n : Member) → set n → left n) → set m → ¬ HasAtMostOne (neighbours_in sets left m)
no_leaf sets set left m two to h one =
    let t = HasTwo-larger sets set left m to (two m h) in
    t.apart (one t.first t.second t.first_in t.second_in)

-- the core is the largest such set
pub core_is_largest : (sets : List ℕ) → IsCore sets (core_of sets)
unfolding core_of
core_is_largest sets =
    record {
      two_each = λ m h. HasTwo-larger sets _ (core_of sets) m (λ n pass. (h.0, h.1, pass)) (h.1 m h.2);
      largest = λ test two m pass. (test, two, pass);
    }

-- a leaf among the same members
pub IsLeaf-same : (sets : List ℕ) (left other : Member → Type 0) (m : Member) → ((n : Member) → left n → other n) → ((n : Member) → other n → left n) → IsLeaf sets left m → IsLeaf sets other m
IsLeaf-same sets left other m to back leaf =
    (to m leaf.0, λ x y in_x in_y. leaf.1 x y (in_x.0, back x in_x.1) (in_y.0, back y in_y.1))
