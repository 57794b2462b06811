-- The limits of an index and of a tree.
use Rattle.std.proofs.Common.{◌≡◌, ◌≢◌, ℕ, zero, suc, ◌<◌, ◌≤◌, ◌^◌, ◌==◌, inl, inr, Bool, true, false, not, cond, List, [], ◌∷◌, length, map, filter, fold, Contains, refl, ap, subst, arith, eq-eqb, length-append}
use mathlib.Core.Sum.{⊎_set}
use mathlib.Core.List.{is_set as List-set}
use Rattle.std.proofs.Math.Bridge.{le_prop}
use Rattle.std.proofs.Math.Nat.{ℕ_set}
use Rattle.std.proofs.Math.Logic.{∥∥₁_elim}
use Rattle.std.proofs.lemmas.Bool.{ne_eqb}
use Rattle.std.proofs.lemmas.List.{length-map}
use Rattle.std.proofs.lemmas.List.Elements.{All-contains, Contains-append_cases}
use Rattle.bm_term.proofs.Elements.{Contains-head, Contains-tail, Contains-nil, Contains-cons_cases}
use Rattle.alg_model.specs.declared.pattern.Place.{Place}
use Rattle.alg_model.specs.declared.pattern.Place.TheVariants as places
use Rattle.alg_model.specs.declared.pattern.TriplePat.{TriplePat}
use Rattle.alg_model.specs.Limits.{max_variables}
use Rattle.alg_model.specs.Pattern.{Algebra, Bgp, Join, LeftJoin, IsVar, triple_patterns}
use Rattle.alg_model.specs.VarSet.{PlaceFits, TripleFits, PatternFits}
use Rattle.alg_model.proofs.VarSets.{pattern_fits}
use Rattle.index_file.specs.Stored.{Stored, counts_of}
use Rattle.index_file.specs.Version.{NumbersSomeGraph}
use Rattle.pattern_tree.specs.PatternTree.{IsPatternTree}
use Rattle.pattern_tree.specs.Standing.{StandsAt}
use Rattle.pattern_tree.specs.Tree.{TreeNode}
use Rattle.pattern_tree.proofs.Numbered.{number_between, numbered_patterns, numbered_tree}
use Rattle.pattern_tree.proofs.Standing.{stands-listed}
use Rattle.term_numbers.specs.Order.{Numbered, number_cmp}
use Rattle.term_numbers.specs.Numbering.{Numbering, all_subjects, all_objects, numbers_in, terms_of}
use Rattle.term_numbers.proofs.Ascending.{length-set_of}
use Rattle.term_numbers.proofs.EntryLaws.{filter-Contains}
use Rattle.term_numbers.proofs.NumberingLaws.{Contains-map}
use Rattle.tree_relations.specs.Fits.{place_at}
use Rattle.tree_relations.specs.declared.prepared.PlaceKind.{PlaceKind}
use Rattle.tree_relations.specs.declared.prepared.PlaceKind.TheVariants.{Subject, Object, Predicate}
use Rattle.match_relations.specs.declared.numbered.Extent.{Extent}
use Rattle.match_relations.specs.steps.Masks.{AreFew}
use Rattle.match_relations.specs.steps.Numbers.{patterns_in, end_of, widened, extent_of}
use Rattle.match_relations.proofs.PartLaws.{in_order}
use Rattle.match_relations.proofs.TreeLaws.{from_patterns_in}

-- ---- an index has no more terms of a kind than triples

abbrev without : ℕ → List ℕ → List ℕ
without k xs = filter (λ x. not (x == k)) xs

no_longer : (k : ℕ) (xs : List ℕ) → length (without k xs) ≤ length xs
no_longer k [] = omega arith
no_longer k (x ∷ xs) = by (x == k) (no_longer k xs)
  where
    by : (b : Bool) → length (without k xs) ≤ length xs → length (cond (not b) (x ∷ without k xs) (without k xs)) ≤ length (x ∷ xs)
    by true rest = omega arith
    by false rest = omega arith

shorter : (k : ℕ) (xs : List ℕ) → Contains xs k → length (without k xs) < length xs
shorter k [] at = absurd (Contains-nil k at)
shorter k (x ∷ xs) at = by (x == k) refl (no_longer k xs) (λ later. shorter k xs later)
  where
    by : (b : Bool) → (x == k) ≡ b → length (without k xs) ≤ length xs → (Contains xs k → length (without k xs) < length xs) → length (cond (not b) (x ∷ without k xs) (without k xs)) < length (x ∷ xs)
    by true is rest later = omega arith
    by false is rest later = elim (Contains-cons_cases x xs k at) as (λ _. length (x ∷ without k xs) < length (x ∷ xs)) [
      | inl same ↦ let also = eq-eqb x k same in cc
      | inr there ↦ let less = later there in omega arith
    ]

-- a list that has each number below a count is as long
pub as_long : (count : ℕ) (xs : List ℕ) → ((n : ℕ) → n < count → Contains xs n) → count ≤ length xs
as_long zero xs all = omega arith
as_long (suc k) xs all =
    let rest = as_long k (without k xs) (λ n low. let other : n ≢ k = omega arith in filter-Contains (λ x. not (x == k)) xs n (all n (omega arith)) (ap not (ne_eqb n k other))) in
    let less = shorter k xs (all k (omega arith)) in
    omega arith

pub few_triples : (n : Numbering) → NumbersSomeGraph n → length n.triples ≤ 2 ^ 23
few_triples n some =
    let all = map (numbers_in (terms_of some.graph)) some.graph in
    let is = ap (λ (m : Numbering). length m.triples) some.numbers.numbered in
    let few = some.few in
    omega (arith, is, length-set_of number_cmp all, length-map some.graph (numbers_in (terms_of some.graph)))

pub few_counts : (s : Stored) → NumbersSomeGraph s.numbering → AreFew (counts_of s)
few_counts s some =
    let uses = (in_order s.numbering some).uses in
    let ts = s.numbering.triples in
    let terms = s.numbering.terms in
    let few = few_triples s.numbering some in
    let at = λ (f : Numbered → ℕ) (n : ℕ) (each : (t : Numbered) × Contains ts t × (f t ≡ n)). subst (Contains (map f ts)) each.2 (Contains-map f ts each.0 each.1) in
    let subjects = as_long (length (all_subjects terms)) (map (λ (t : Numbered). t.0) ts) (λ n low. at (λ t. t.0) n (uses.each_subject n low)) in
    let predicates = as_long (length terms.predicates) (map (λ (t : Numbered). t.1) ts) (λ n low. at (λ t. t.1) n (uses.each_predicate n low)) in
    let objects = as_long (length (all_objects terms)) (map (λ (t : Numbered). t.2) ts) (λ n low. at (λ t. t.2) n (uses.each_object n low)) in
    record {
      subjects = omega (arith, subjects, length-append terms.shared terms.subjects, length-map ts (λ (t : Numbered). t.0));
      objects = omega (arith, objects, length-append terms.shared terms.objects, length-map ts (λ (t : Numbered). t.2));
      predicates = omega (arith, predicates, length-map ts (λ (t : Numbered). t.1));
    }

-- ---- the extent of triple patterns

grows : (ps : List TriplePat) (e : Extent) → (e.patterns ≤ (fold widened e ps).patterns) × (e.vars ≤ (fold widened e ps).vars)
grows [] e = (omega arith, omega arith)
grows (p ∷ ps) e = let rest = grows ps (widened e p) in (omega (arith, rest.0), omega (arith, rest.1))

var_low : (place : Place) (v : ℕ) → IsVar place v → v < end_of place
var_low (places.Var var) v at = omega arith
var_low (places.Term text) v at = absurd at

covers : (ps : List TriplePat) (e : Extent) (p : TriplePat) → Contains ps p → (p.number ≤ (fold widened e ps).patterns) × ((end_of p.subject ≤ (fold widened e ps).vars) × ((end_of p.predicate ≤ (fold widened e ps).vars) × (end_of p.object ≤ (fold widened e ps).vars)))
covers [] e p at = absurd (Contains-nil p at)
covers (q ∷ ps) e p at = elim (Contains-cons_cases q ps p at) as (λ _. (p.number ≤ (fold widened (widened e q) ps).patterns) × ((end_of p.subject ≤ (fold widened (widened e q) ps).vars) × ((end_of p.predicate ≤ (fold widened (widened e q) ps).vars) × (end_of p.object ≤ (fold widened (widened e q) ps).vars)))) [
  | inl same ↦ subst (λ (p : TriplePat). (p.number ≤ (fold widened (widened e q) ps).patterns) × ((end_of p.subject ≤ (fold widened (widened e q) ps).vars) × ((end_of p.predicate ≤ (fold widened (widened e q) ps).vars) × (end_of p.object ≤ (fold widened (widened e q) ps).vars)))) same
      (let rest = grows ps (widened e q) in (omega (arith, rest.0), (omega (arith, rest.1), (omega (arith, rest.1), omega (arith, rest.1)))))
  | inr later ↦ covers ps (widened e q) p later
]

-- the variable of a place has a number below the extent
pub var_within : (ps : List TriplePat) (p : TriplePat) (kind : PlaceKind) (v : ℕ) → Contains ps p → IsVar (place_at kind p) v → v < (extent_of ps).vars
var_within ps p Subject v at is = omega (arith, (covers ps (record { patterns = 0; vars = 0 }) p at).1.0, var_low p.subject v is)
var_within ps p Predicate v at is = omega (arith, (covers ps (record { patterns = 0; vars = 0 }) p at).1.1.0, var_low p.predicate v is)
var_within ps p Object v at is = omega (arith, (covers ps (record { patterns = 0; vars = 0 }) p at).1.1.1, var_low p.object v is)

pub number_within : (ps : List TriplePat) (p : TriplePat) → Contains ps p → p.number ≤ (extent_of ps).patterns
number_within ps p at = (covers ps (record { patterns = 0; vars = 0 }) p at).0

-- a triple pattern that keeps the limits
record IsLow (p : TriplePat) : Type 0 where
  some : 1 ≤ p.number
  low : p.number ≤ 256
  subject : end_of p.subject ≤ 64
  predicate : end_of p.predicate ≤ 64
  object : end_of p.object ≤ 64

stays_low : (ps : List TriplePat) (e : Extent) → ((p : TriplePat) → Contains ps p → IsLow p) → e.patterns ≤ 256 → e.vars ≤ 64 → ((fold widened e ps).patterns ≤ 256) × ((fold widened e ps).vars ≤ 64)
stays_low [] e all patterns vars = (patterns, vars)
stays_low (p ∷ ps) e all patterns vars =
    let own = all p (Contains-head p ps) in
    stays_low ps (widened e p) (λ q at. all q (Contains-tail p ps q at)) (omega (arith, own.low)) (omega (arith, own.subject, own.predicate, own.object))

-- ---- the triple patterns of a tree

fits_listed : (pattern : Algebra) → PatternFits pattern → (p : TriplePat) → Contains (triple_patterns pattern) p → TripleFits p
fits_listed (Bgp list) fits p at = All-contains TripleFits list p fits at
fits_listed (Join left right) fits p at = elim (Contains-append_cases (triple_patterns left) (triple_patterns right) p at) as (λ _. TripleFits p) [
  | inl there ↦ fits_listed left fits.0 p there
  | inr there ↦ fits_listed right fits.1 p there
]
fits_listed (LeftJoin left right) fits p at = elim (Contains-append_cases (triple_patterns left) (triple_patterns right) p at) as (λ _. TripleFits p) [
  | inl there ↦ fits_listed left fits.0 p there
  | inr there ↦ fits_listed right fits.1 p there
]

end_low : (place : Place) → PlaceFits place → end_of place ≤ 64
end_low (places.Var var) fits = omega arith
end_low (places.Term text) fits = omega arith

low_in_tree : (tree : List TreeNode) → IsPatternTree tree → (p : TriplePat) → Contains (patterns_in tree) p → IsLow p
low_in_tree tree is p at =
    let stands = from_patterns_in tree p at in
    let listed = stands-listed is.pattern stands.0 p (subst (λ tree. StandsAt tree stands.0 p) is.is stands.1) in
    let keeps = is.keeps_limits in
    let between = number_between 1 (triple_patterns is.pattern) p (numbered_patterns max_variables is.pattern keeps) listed in
    let fits = fits_listed is.pattern (pattern_fits is.pattern keeps.vars_below) p listed in
    record {
      some = between.0;
      low = omega (arith, between.1, keeps.few_triples);
      subject = end_low p.subject fits.subject;
      predicate = end_low p.predicate fits.predicate;
      object = end_low p.object fits.object;
    }

pub few_patterns : (tree : List TreeNode) → ∥ IsPatternTree tree ∥₁ → (extent_of (patterns_in tree)).patterns ≤ 256
few_patterns tree is = ∥∥₁_elim is le_prop (λ is. (stays_low (patterns_in tree) (record { patterns = 0; vars = 0 }) (low_in_tree tree is) (omega arith) (omega arith)).0)

pub few_vars : (tree : List TreeNode) → ∥ IsPatternTree tree ∥₁ → (extent_of (patterns_in tree)).vars ≤ 64
few_vars tree is = ∥∥₁_elim is le_prop (λ is. (stays_low (patterns_in tree) (record { patterns = 0; vars = 0 }) (low_in_tree tree is) (omega arith) (omega arith)).1)

pub some_number : (tree : List TreeNode) → ∥ IsPatternTree tree ∥₁ → (p : TriplePat) → Contains (patterns_in tree) p → 1 ≤ p.number
some_number tree is p at = ∥∥₁_elim is le_prop (λ is. (low_in_tree tree is p at).some)

-- triple patterns are a set
place_set : IsSet Place
place_set = hlevel (ℕ_set, ⊎_set, List-set)

triple_set : IsSet TriplePat
triple_set = hlevel (ℕ_set, place_set)

-- and no two of a tree have one number
pub one_pattern : (tree : List TreeNode) → ∥ IsPatternTree tree ∥₁ → (p q : TriplePat) → Contains (patterns_in tree) p → Contains (patterns_in tree) q → p.number ≡ q.number → p ≡ q
one_pattern tree is p q at_p at_q same = ∥∥₁_elim is (triple_set p q) (λ is.
    let first = from_patterns_in tree p at_p in
    let second = from_patterns_in tree q at_q in
    let stands = λ (k : ℕ) (p : TriplePat) (at : StandsAt tree k p). subst (λ tree. StandsAt tree k p) is.is at in
    ((numbered_tree max_variables is.pattern is.keeps_limits).one first.0 second.0 p q (stands first.0 p first.1) (stands second.0 q second.1) same).1)
