-- Laws of families: a set of numbered triples and its slices determine each other.
use Rattle.std.proofs.Common.{◌≡◌, ◌↔◌, ◌==◌, ℕ, zero, suc, ◌+◌, ◌<◌, ◌≤◌, ◌⊎◌, inl, inr, List, [], ◌∷◌, length, get_or, map, filter, Contains, refl, sym, ap, ◌∙◌, subst, arith, add-zero}
use Rattle.std.proofs.lemmas.Bool.{cases_eq, eqb-true, eq-eqb}
use Rattle.std.proofs.lemmas.Bool.Decides.{nat_tests}
use Rattle.std.proofs.lemmas.Cmp.{tied_itself}
use Rattle.std.proofs.lemmas.List.Elements.{Contains-append_cases, Contains-append_left, Contains-append_right}
use Rattle.std.proofs.lemmas.Map.Lookups.{CmpEqualImpliesEq, exact_pairs, exact_unsigned}
use Rattle.std.specs.Cmp.{IsTotalOrder, then_total, on_total, nat_cmp_total}
use Rattle.std.specs.List.Sorted.{IsStrictlySortedBy}
use Rattle.std.specs.Ordering.{nat_cmp, ordering_then}
use Rattle.std.specs.declared.cmp.Ordering.{Ordering}
use Rattle.std.specs.declared.cmp.Ordering.TheVariants.{Less, Equal, Greater}
use Rattle.bm_term.proofs.Elements.{Contains-nil}
use Rattle.term_numbers.specs.Order.{Numbered}
use Rattle.term_numbers.proofs.Ascending.{set_of-is, same_members, all_from_members, member_of_all, ascends-append}
use Rattle.term_numbers.proofs.EntryLaws.{Contains-filter, filter-Contains}
use Rattle.term_numbers.proofs.NumberingLaws.{from_map, Contains-map}
use Rattle.index_file.specs.Families.{slice_number, pair_of, triple_at, pair_cmp, pairs_in, slices_of, triples_from}
use Rattle.index_file.specs.declared.family.Family.{Family}
use Rattle.index_file.specs.declared.family.Family.TheVariants.{So, Os, Ps, Po}

-- ---- a triple is its slice, row and column

pub triple_again : (f : Family) (t : Numbered) → triple_at f (slice_number f t) (pair_of f t) ≡ t
triple_again So t = refl
triple_again Os t = refl
triple_again Ps t = refl
triple_again Po t = refl

pub slice_again : (f : Family) (n : ℕ) (p : ℕ × ℕ) → slice_number f (triple_at f n p) ≡ n
slice_again So n p = refl
slice_again Os n p = refl
slice_again Ps n p = refl
slice_again Po n p = refl

pub pair_again : (f : Family) (n : ℕ) (p : ℕ × ℕ) → pair_of f (triple_at f n p) ≡ p
pair_again So n p = refl
pair_again Os n p = refl
pair_again Ps n p = refl
pair_again Po n p = refl

-- ---- orders

pub pair_cmp-total : IsTotalOrder pair_cmp
pair_cmp-total = then_total (on_total (λ (p : ℕ × ℕ). p.0) nat_cmp_total) (on_total (λ (p : ℕ × ℕ). p.1) nat_cmp_total)

pub pair_cmp-exact : CmpEqualImpliesEq pair_cmp
pair_cmp-exact = exact_pairs nat_cmp nat_cmp exact_unsigned exact_unsigned

-- triples by slice, then row, then column
abbrev pub family_cmp : Family → Numbered → Numbered → Ordering
family_cmp f t u = ordering_then (nat_cmp (slice_number f t) (slice_number f u)) (pair_cmp (pair_of f t) (pair_of f u))

pub family_cmp-total : (f : Family) → IsTotalOrder (family_cmp f)
family_cmp-total f = then_total (on_total (slice_number f) nat_cmp_total) (on_total (pair_of f) pair_cmp-total)

both_tie : (r s : Ordering) → ordering_then r s ≡ Equal → (r ≡ Equal) × (s ≡ Equal)
both_tie Less s h = absurd (cc)
both_tie Equal s h = (refl, h)
both_tie Greater s h = absurd (cc)

pub family_cmp-exact : (f : Family) → CmpEqualImpliesEq (family_cmp f)
family_cmp-exact f t u tie =
    let both = both_tie (nat_cmp (slice_number f t) (slice_number f u)) (pair_cmp (pair_of f t) (pair_of f u)) tie in
    let slice = exact_unsigned (slice_number f t) (slice_number f u) both.0 in
    let pair = pair_cmp-exact (pair_of f t) (pair_of f u) both.1 in
    sym (triple_again f t) ∙ (λ i. triple_at f (slice i) (pair i)) ∙ triple_again f u

-- a number below another compares as less
pub nat_less : (a b : ℕ) → a < b → nat_cmp a b ≡ Less
nat_less a b less = grind (arith, nat_tests)

-- ---- from slices to triples

-- each slice ascends
abbrev pub EachAscends : List (List (ℕ × ℕ)) → Type 0
EachAscends [] = Unit {0}
EachAscends (ps ∷ pss) = IsStrictlySortedBy pair_cmp ps × EachAscends pss

-- the list of nothing ascends
pub nothing_ascends : {X : Type 0} (cmp : X → X → Ordering) → IsStrictlySortedBy cmp []
unfolding IsStrictlySortedBy
nothing_ascends cmp = tt

module _ (f : Family) where
  -- a triple of slices is a pair of its slice
  pub pair_of_triple : (n : ℕ) (pss : List (List (ℕ × ℕ))) (t : Numbered) → Contains (triples_from f n pss) t → (k : ℕ) × (slice_number f t ≡ n + k) × Contains (get_or pss k []) (pair_of f t)
  pair_of_triple n [] t there = absurd (Contains-nil t there)
  pair_of_triple n (ps ∷ pss) t there = by (λ rest. pair_of_triple (n + 1) pss t rest) (Contains-append_cases (map (triple_at f n) ps) (triples_from f (n + 1) pss) t there)
    where
      by : (Contains (triples_from f (n + 1) pss) t → (k : ℕ) × (slice_number f t ≡ n + 1 + k) × Contains (get_or pss k []) (pair_of f t)) → Contains (map (triple_at f n) ps) t ⊎ Contains (triples_from f (n + 1) pss) t
          → (k : ℕ) × (slice_number f t ≡ n + k) × Contains (get_or (ps ∷ pss) k []) (pair_of f t)
      by later (inl here) =
          let p = from_map (triple_at f n) ps t here in
          let slice : slice_number f t ≡ n = sym (ap (slice_number f) p.2) ∙ slice_again f n p.0 in
          let pair : p.0 ≡ pair_of f t = sym (pair_again f n p.0) ∙ ap (pair_of f) p.2 in
          (0, slice ∙ sym (add-zero n), subst (Contains ps) pair p.1)
      by later (inr rest) =
          let found = later rest in
          let slice : slice_number f t ≡ n + suc found.0 = omega (arith, found.1) in
          (suc found.0, slice, found.2)

  pub triple_of_pair : (n : ℕ) (pss : List (List (ℕ × ℕ))) (k : ℕ) (p : ℕ × ℕ) → Contains (get_or pss k []) p → Contains (triples_from f n pss) (triple_at f (n + k) p)
  triple_of_pair n [] k p there = absurd (Contains-nil p there)
  triple_of_pair n (ps ∷ pss) zero p there =
      let first : Contains (map (triple_at f n) ps) (triple_at f n p) = Contains-map (triple_at f n) ps p there in
      subst (λ m. Contains (triples_from f n (ps ∷ pss)) (triple_at f m p)) (sym (add-zero n)) (Contains-append_left (map (triple_at f n) ps) (triples_from f (n + 1) pss) (triple_at f n p) first)
  triple_of_pair n (ps ∷ pss) (suc k) p there =
      let place : n + 1 + k ≡ n + suc k = omega arith in
      subst (λ m. Contains (triples_from f n (ps ∷ pss)) (triple_at f m p)) place (Contains-append_right (map (triple_at f n) ps) (triples_from f (n + 1) pss) (triple_at f (n + 1 + k) p) (triple_of_pair (n + 1) pss k p there))

  same_order : (n : ℕ) (p q : ℕ × ℕ) → family_cmp f (triple_at f n p) (triple_at f n q) ≡ pair_cmp p q
  same_order n p q =
      (λ i. ordering_then (nat_cmp (slice_again f n p i) (slice_again f n q i)) (pair_cmp (pair_again f n p i) (pair_again f n q i)))
      ∙ ap (λ r. ordering_then r (pair_cmp p q)) (tied_itself nat_cmp_total n)

  ascends-map : (n : ℕ) (ps : List (ℕ × ℕ)) → IsStrictlySortedBy pair_cmp ps → IsStrictlySortedBy (family_cmp f) (map (triple_at f n) ps)
  unfolding IsStrictlySortedBy
  ascends-map n [] h = tt
  ascends-map n (p ∷ ps) h = (
    all_from_members (λ u. family_cmp f (triple_at f n p) u ≡ Less) (map (triple_at f n) ps) (λ u there.
        let q = from_map (triple_at f n) ps u there in
        subst (λ v. family_cmp f (triple_at f n p) v ≡ Less) q.2 (same_order n p q.0 ∙ member_of_all (λ q. pair_cmp p q ≡ Less) ps h.0 q.0 q.1)),
    ascends-map n ps h.1,
  )

  -- the triples of slices that ascend ascend
  pub ascends-triples_from : (n : ℕ) (pss : List (List (ℕ × ℕ))) → EachAscends pss → IsStrictlySortedBy (family_cmp f) (triples_from f n pss)
  ascends-triples_from n [] h = nothing_ascends (family_cmp f)
  ascends-triples_from n (ps ∷ pss) h =
      ascends-append (family_cmp f) (map (triple_at f n) ps) (triples_from f (n + 1) pss) (ascends-map n ps h.0) (ascends-triples_from (n + 1) pss h.1)
      (λ t u at_t at_u.
      let p = from_map (triple_at f n) ps t at_t in
      let found = pair_of_triple (n + 1) pss u at_u in
      let here : slice_number f t ≡ n = sym (ap (slice_number f) p.2) ∙ slice_again f n p.0 in
      let less = nat_less (slice_number f t) (slice_number f u) (omega (arith, found.1)) in
      ap (λ r. ordering_then r (pair_cmp (pair_of f t) (pair_of f u))) less)

  -- ---- from triples to slices

  -- a slice has the pairs of its triples
  pub in_slice : (n : ℕ) (ts : List Numbered) (p : ℕ × ℕ) → Contains (pairs_in f n ts) p ↔ Contains ts (triple_at f n p)
  in_slice n ts p =
      let kept = filter (λ t. slice_number f t == n) ts in
      let same = (set_of-is pair_cmp pair_cmp-total pair_cmp-exact (map (pair_of f) kept)).same p in (
        λ there.
            let t = from_map (pair_of f) kept p (same.0 there) in
            let found = Contains-filter (λ t. slice_number f t == n) ts t.0 t.1 in
            let slice = eqb-true (slice_number f t.0) n found.1 in
            subst (Contains ts) (sym (triple_again f t.0) ∙ (λ i. triple_at f (slice i) (t.2 i))) found.0,
        λ there.
            let t = triple_at f n p in
            let passed = eq-eqb (slice_number f t) n (slice_again f n p) in
            same.1 (subst (Contains (map (pair_of f) kept)) (pair_again f n p) (Contains-map (pair_of f) kept t (filter-Contains (λ t. slice_number f t == n) ts t there passed))),
      )

  pub ascends-slices_of : (n count : ℕ) (ts : List Numbered) → EachAscends (slices_of f n count ts)
  ascends-slices_of n zero ts = tt
  ascends-slices_of n (suc count) ts = ((set_of-is pair_cmp pair_cmp-total pair_cmp-exact (map (pair_of f) (filter (λ t. slice_number f t == n) ts))).ascends, ascends-slices_of (n + 1) count ts)

  pub length-slices_of : (n count : ℕ) (ts : List Numbered) → length (slices_of f n count ts) ≡ count
  length-slices_of n zero ts = refl
  length-slices_of n (suc count) ts = ap suc (length-slices_of (n + 1) count ts)

  -- the triples of the slices of triples are those whose slice is there
  pub from_slices_of : (n count : ℕ) (ts : List Numbered) (t : Numbered) → Contains (triples_from f n (slices_of f n count ts)) t → Contains ts t
  from_slices_of n zero ts t there = absurd (Contains-nil t there)
  from_slices_of n (suc count) ts t there = by (λ rest. from_slices_of (n + 1) count ts t rest) (Contains-append_cases (map (triple_at f n) (pairs_in f n ts)) (triples_from f (n + 1) (slices_of f (n + 1) count ts)) t there)
    where
      by : (Contains (triples_from f (n + 1) (slices_of f (n + 1) count ts)) t → Contains ts t) → Contains (map (triple_at f n) (pairs_in f n ts)) t ⊎ Contains (triples_from f (n + 1) (slices_of f (n + 1) count ts)) t → Contains ts t
      by later (inl here) = let p = from_map (triple_at f n) (pairs_in f n ts) t here in subst (Contains ts) p.2 ((in_slice n ts p.0).0 p.1)
      by later (inr rest) = later rest

  pub to_slices_of : (n count : ℕ) (ts : List Numbered) (t : Numbered) → Contains ts t → n ≤ slice_number f t → slice_number f t < n + count → Contains (triples_from f n (slices_of f n count ts)) t
  to_slices_of n zero ts t there low high = absurd (omega arith)
  to_slices_of n (suc count) ts t there low high = by (λ above. to_slices_of (n + 1) count ts t there above (omega arith)) (cases_eq (slice_number f t) n)
    where
      by : (n + 1 ≤ slice_number f t → Contains (triples_from f (n + 1) (slices_of f (n + 1) count ts)) t) → (slice_number f t ≡ n) ⊎ (slice_number f t ≡ n → ⊥) → Contains (triples_from f n (slices_of f n (suc count) ts)) t
      by later (inl same) =
          let is : t ≡ triple_at f n (pair_of f t) = sym (triple_again f t) ∙ ap (λ m. triple_at f m (pair_of f t)) same in
          let inside = (in_slice n ts (pair_of f t)).1 (subst (Contains ts) is there) in
          let first = subst (Contains (map (triple_at f n) (pairs_in f n ts))) (sym is) (Contains-map (triple_at f n) (pairs_in f n ts) (pair_of f t) inside) in
          Contains-append_left (map (triple_at f n) (pairs_in f n ts)) (triples_from f (n + 1) (slices_of f (n + 1) count ts)) t first
      by later (inr apart) = Contains-append_right (map (triple_at f n) (pairs_in f n ts)) (triples_from f (n + 1) (slices_of f (n + 1) count ts)) t (later (omega arith))

  -- slices that ascend are the slices of what has their triples
  slices_again : (n : ℕ) (pss : List (List (ℕ × ℕ))) (ts : List Numbered) → EachAscends pss → ((k : ℕ) (p : ℕ × ℕ) → Contains ts (triple_at f (n + k) p) ↔ Contains (get_or pss k []) p) → slices_of f n (length pss) ts ≡ pss
  slices_again n [] ts h same = refl
  slices_again n (ps ∷ pss) ts h same =
      let first : pairs_in f n ts ≡ ps = same_members pair_cmp pair_cmp-total pair_cmp-exact (pairs_in f n ts) ps (ascends-slices_of n 1 ts).0 h.0 (λ p.
      let is = in_slice n ts p in
      let at : Contains ts (triple_at f n p) ↔ Contains ps p = subst (λ m. Contains ts (triple_at f m p) ↔ Contains ps p) (add-zero n) (same 0 p) in
      ((λ there. at.0 (is.0 there)), (λ there. is.1 (at.1 there)))) in
      let rest = slices_again (n + 1) pss ts h.1 (λ k p. let place : n + suc k ≡ n + 1 + k = omega arith in subst (λ m. Contains ts (triple_at f m p) ↔ Contains (get_or pss k []) p) place (same (suc k) p)) in
      λ i. first i ∷ rest i

  pub slices_of-same : (pss : List (List (ℕ × ℕ))) (ts : List Numbered) → EachAscends pss → ((t : Numbered) → Contains ts t ↔ Contains (triples_from f 0 pss) t) → slices_of f 0 (length pss) ts ≡ pss
  slices_of-same pss ts h same = slices_again 0 pss ts h (λ k p. (
    λ there.
        let found = pair_of_triple 0 pss (triple_at f (0 + k) p) ((same (triple_at f (0 + k) p)).0 there) in
        let place : found.0 ≡ k = omega (arith, found.1, slice_again f (0 + k) p) in
        subst (λ q. Contains (get_or pss k []) q) (pair_again f (0 + k) p) (subst (λ m. Contains (get_or pss m []) (pair_of f (triple_at f (0 + k) p))) place found.2),
    λ there. (same (triple_at f (0 + k) p)).1 (triple_of_pair 0 pss k p there),
  ))
