-- Carries proofs only: texts and triples by the order in which they were first seen.
use Rattle.std.specs.Prelude.{◌≡◌, ℕ, ◌⊎◌, Bool, false, bytes_eq, List, [], ◌∷◌, ◌++◌, Some, Contains, ◌==◌, ◌<◌, map, length, All}
use Rattle.std.specs.List.{slice_get, slice_index_or, list_any, IsDistinct}
use Rattle.bm_term.specs.declared.triple.Triple.{Triple}
use Rattle.term_numbers.specs.Order.{Numbered}
use Rattle.term_numbers.specs.held.Renumbered.{PlacesAreBelow}
use Rattle.term_numbers.specs.declared.role.Role.{Role}

-- some texts more are at the end of a list, and no text is there twice where none was
pub record Adds (old new : List (List ℕ)) : Type 0 where
  pub more : List (List ℕ)
  pub is : new ≡ old ++ more
  pub differ : IsDistinct bytes_eq old → IsDistinct bytes_eq new

-- a text has this place in a list, to which it was put if it was not there
pub record IsPlaced (old new : List (List ℕ)) (text : List ℕ) (place : ℕ) : Type 0 where
  pub at : slice_get new place ≡ Some text
  pub adds : Adds old new
  pub only : (x : List ℕ) → Contains new x → Contains old x ⊎ (x ≡ text)

-- the places of a triple's terms: subject and object among the nodes
pub record IsSeen (nodes predicates : List (List ℕ)) (places : Numbered) (triple : Triple) : Type 0 where
  pub subject : slice_get nodes places.0 ≡ Some triple.subject
  pub predicate : slice_get predicates places.1 ≡ Some triple.predicate
  pub object : slice_get nodes places.2 ≡ Some triple.object

abbrev pub AreSeen : List (List ℕ) → List (List ℕ) → List Numbered → List Triple → Type 0
AreSeen nodes predicates [] [] = Unit {0}
AreSeen nodes predicates [] (t ∷ ts) = ⊥
AreSeen nodes predicates (p ∷ ps) [] = ⊥
AreSeen nodes predicates (p ∷ ps) (t ∷ ts) = IsSeen nodes predicates p t × AreSeen nodes predicates ps ts

-- one triple more was seen
pub record SeesTriple (nodes nodes' predicates predicates' : List (List ℕ)) (places : Numbered) (triple : Triple) : Type 0 where
  pub seen : IsSeen nodes' predicates' places triple
  pub nodes_more : Adds nodes nodes'
  pub predicates_more : Adds predicates predicates'
  pub only : (x : List ℕ) → Contains predicates' x → Contains predicates x ⊎ (x ≡ triple.predicate)

-- all triples were seen, and each predicate is that of a triple
pub record IsSeenWhole (nodes predicates : List (List ℕ)) (places : List Numbered) (triples : List Triple) : Type 0 where
  pub seen : AreSeen nodes predicates places triples
  pub only : (x : List ℕ) → Contains predicates x → Contains (map (λ t. t.predicate) triples) x
  pub below : All (PlacesAreBelow (length nodes) (length predicates)) places

-- the triples whose terms have some places
abbrev pub triple_at : List (List ℕ) → List (List ℕ) → Numbered → Triple
triple_at nodes predicates places = record {
  subject = slice_index_or nodes places.0 [];
  predicate = slice_index_or predicates places.1 [];
  object = slice_index_or nodes places.2 [];
}

abbrev pub triples_at : List (List ℕ) → List (List ℕ) → List Numbered → List Triple
triples_at nodes predicates places = map (triple_at nodes predicates) places

-- no text is there twice, all places are those of texts, and without the mark each predicate is that of a triple
pub record AllAreSeen (were_more : Bool) (nodes predicates : List (List ℕ)) (places : List Numbered) : Type 0 where
  pub nodes_differ : IsDistinct bytes_eq nodes
  pub predicates_differ : IsDistinct bytes_eq predicates
  pub below : All (PlacesAreBelow (length nodes) (length predicates)) places
  pub only : were_more ≡ false → (x : List ℕ) → Contains predicates x → Contains (map (λ t. t.predicate) (triples_at nodes predicates places)) x

-- whether a node is a subject, and whether it is an object
abbrev pub role_of : List Numbered → ℕ → Role
role_of triples place = record {
  subject = list_any (λ t. t.0 == place) triples;
  object = list_any (λ t. t.2 == place) triples;
}

-- its subject and its object are among so many nodes
abbrev pub NodesAreBelow : ℕ → Numbered → Type 0
NodesAreBelow nodes t = (t.0 < nodes) × (t.2 < nodes)

-- the roles of so many nodes
pub record AreRoles (triples : List Numbered) (nodes : ℕ) (roles : List Role) : Type 0 where
  pub count : length roles ≡ nodes
  pub each : (place : ℕ) → place < nodes → slice_get roles place ≡ Some (role_of triples place)
