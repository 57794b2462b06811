-- The triple patterns of a tree by number, and how far the numbers go.
use Rattle.std.proofs.Common.{◌≡◌, ◌≢◌, ℕ, ◌+◌, ◌==◌, inl, inr, Bool, true, false, List, [], ◌∷◌, ◌++◌, drop, fold, Contains, Option, Some, None, slice_get, if◌then◌else◌, refl, sym, ap, ◌∙◌, subst, eq-eqb}
use Rattle.std.specs.Option.{option_map, option_or}
use Rattle.std.proofs.lemmas.Bool.{ne_eqb, eqb-true}
use Rattle.std.proofs.lemmas.List.{drop_more}
use Rattle.std.proofs.lemmas.List.Folds.{find-append}
use Rattle.std.proofs.lemmas.List.Sums.{fold-append}
use Rattle.std.proofs.lemmas.Option.{slice_get_within, get_or_from_slice_get}
use Rattle.bm_term.proofs.Elements.{Contains-head, Contains-tail, Contains-nil, Contains-cons_cases}
use Rattle.alg_model.specs.declared.pattern.TriplePat.{TriplePat}
use Rattle.pattern_tree.specs.Tree.{TreeNode}
use Rattle.match_relations.specs.declared.numbered.Extent.{Extent}
use Rattle.match_relations.specs.steps.Numbers.{patterns_in, with_number, widened}

open_at : {X : Type 0} (xs : List X) (i : ℕ) (x : X) → slice_get xs i ≡ Some x → drop i xs ≡ x ∷ drop (i + 1) xs
open_at xs i x at = drop_more xs i x (slice_get_within xs i x at) ∙ ap (λ y. y ∷ drop (i + 1) xs) (get_or_from_slice_get xs i x x at)

pub is_mapped : {X Y : Type 0} (f : X → Y) (o : Option X) (y : Y) → option_map f o ≡ Some y → (x : X) × (o ≡ Some x) × (f x ≡ y)
is_mapped f None y is = cc
is_mapped f (Some x) y is = (x, refl, cc)

-- ---- by number

find_here : (number : ℕ) (p : TriplePat) (ps : List TriplePat) → p.number ≡ number → with_number number (p ∷ ps) ≡ Some p
find_here number p ps is = rw (eq-eqb p.number number is) refl

find_next : (number : ℕ) (p : TriplePat) (ps : List TriplePat) → p.number ≢ number → with_number number (p ∷ ps) ≡ with_number number ps
find_next number p ps other = rw (ne_eqb p.number number other) refl

pub number_here : (number : ℕ) (ps : List TriplePat) (i : ℕ) (p : TriplePat) → slice_get ps i ≡ Some p → p.number ≡ number → with_number number (drop i ps) ≡ Some p
number_here number ps i p at is = ap (with_number number) (open_at ps i p at) ∙ find_here number p (drop (i + 1) ps) is

pub number_next : (number : ℕ) (ps : List TriplePat) (i : ℕ) (p : TriplePat) → slice_get ps i ≡ Some p → p.number ≢ number → with_number number (drop (i + 1) ps) ≡ with_number number (drop i ps)
number_next number ps i p at other = sym (ap (with_number number) (open_at ps i p at) ∙ find_next number p (drop (i + 1) ps) other)

open_node : (tree : List TreeNode) (k : ℕ) (ps : List TriplePat) → option_map (λ (node : TreeNode). node.patterns) (slice_get tree k) ≡ Some ps → patterns_in (drop k tree) ≡ ps ++ patterns_in (drop (k + 1) tree)
open_node tree k ps at =
    let node = is_mapped (λ (node : TreeNode). node.patterns) (slice_get tree k) ps at in
    ap patterns_in (open_at tree k node.0 node.1) ∙ ap (λ qs. qs ++ patterns_in (drop (k + 1) tree)) node.2

pub number_in_node : (number : ℕ) (tree : List TreeNode) (k : ℕ) (ps : List TriplePat) (p : TriplePat) → option_map (λ (node : TreeNode). node.patterns) (slice_get tree k) ≡ Some ps → with_number number ps ≡ Some p →
    with_number number (patterns_in (drop k tree)) ≡ Some p
number_in_node number tree k ps p at found =
    let rest = patterns_in (drop (k + 1) tree) in
    ap (with_number number) (open_node tree k ps at) ∙ find-append (λ (p : TriplePat). p.number == number) ps rest ∙ ap (λ o. option_or o (with_number number rest)) found

pub number_past_node : (number : ℕ) (tree : List TreeNode) (k : ℕ) (ps : List TriplePat) → option_map (λ (node : TreeNode). node.patterns) (slice_get tree k) ≡ Some ps → with_number number ps ≡ None →
    with_number number (patterns_in (drop (k + 1) tree)) ≡ with_number number (patterns_in (drop k tree))
number_past_node number tree k ps at none =
    let rest = patterns_in (drop (k + 1) tree) in
    sym (ap (with_number number) (open_node tree k ps at) ∙ find-append (λ (p : TriplePat). p.number == number) ps rest ∙ ap (λ o. option_or o (with_number number rest)) none)

-- what is found is among the triple patterns, and has the number
pub found_number : (number : ℕ) (ps : List TriplePat) (p : TriplePat) → with_number number ps ≡ Some p → Contains ps p × (p.number ≡ number)
found_number number [] p found = cc
found_number number (q ∷ ps) p found = by (q.number == number) refl found (λ rest. found_number number ps p rest)
  where
    by : (b : Bool) → (q.number == number) ≡ b → (if b then Some q else with_number number ps) ≡ Some p → (with_number number ps ≡ Some p → Contains ps p × (p.number ≡ number)) → Contains (q ∷ ps) p × (p.number ≡ number)
    by true is found rest =
        let same : q ≡ p = cc in
        (subst (Contains (q ∷ ps)) same (Contains-head q ps), subst (λ (p : TriplePat). p.number ≡ number) same (eqb-true q.number number is))
    by false is found rest = let h = rest found in (Contains-tail q ps p h.0, h.1)

-- and something is found where one of them has it
pub number_found : (ps : List TriplePat) (p : TriplePat) → Contains ps p → (q : TriplePat) × (with_number p.number ps ≡ Some q)
number_found [] p at = absurd (Contains-nil p at)
number_found (q ∷ ps) p at = by (q.number == p.number) refl (λ later. number_found ps p later)
  where
    by : (b : Bool) → (q.number == p.number) ≡ b → (Contains ps p → (r : TriplePat) × (with_number p.number ps ≡ Some r)) → (r : TriplePat) × ((if b then Some q else with_number p.number ps) ≡ Some r)
    by true is rest = (q, refl)
    by false is rest = elim (Contains-cons_cases q ps p at) as (λ _. (r : TriplePat) × (with_number p.number ps ≡ Some r)) [
      | inl same ↦ let also = eq-eqb q.number p.number (ap (λ (p : TriplePat). p.number) same) in cc
      | inr later ↦ rest later
    ]

-- ---- how far the numbers go

pub widened_next : (ps : List TriplePat) (i : ℕ) (p : TriplePat) (e wide : Extent) → slice_get ps i ≡ Some p → wide ≡ widened e p → fold widened wide (drop (i + 1) ps) ≡ fold widened e (drop i ps)
widened_next ps i p e wide at is = ap (λ w. fold widened w (drop (i + 1) ps)) is ∙ sym (ap (fold widened e) (open_at ps i p at))

pub widened_node : (tree : List TreeNode) (k : ℕ) (ps : List TriplePat) (e wide : Extent) → option_map (λ (node : TreeNode). node.patterns) (slice_get tree k) ≡ Some ps → wide ≡ fold widened e ps →
    fold widened wide (patterns_in (drop (k + 1) tree)) ≡ fold widened e (patterns_in (drop k tree))
widened_node tree k ps e wide at is =
    let rest = patterns_in (drop (k + 1) tree) in
    ap (λ w. fold widened w rest) is ∙ sym (fold-append widened e ps rest) ∙ sym (ap (fold widened e) (open_node tree k ps at))
