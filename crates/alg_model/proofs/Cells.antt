-- Rows by their cells: what a merge binds, and that the merge of two rows is the least row that extends both.
use Rattle.std.proofs.Common.{◌≡◌, ◌≢◌, ◌↔◌, ℕ, zero, suc, ◌<◌, ◌≤◌, ◌⊎◌, inl, inr, Bool, true, [], ◌∷◌, length, Option, Some, None, IsTrue, IsSome, refl, sym, ◌∙◌, ap, subst, arith}
use Rattle.std.proofs.lemmas.Bool.{and_parts, and_from, cases_lt}
use Rattle.std.proofs.lemmas.List.{ext_get_or, get_or_past, get_or-replicate, get_or-set_same, get_or-set_other}
use Rattle.std.proofs.lemmas.Option.{cond_some}
use Rattle.alg_model.specs.Row.{Row, unbound, single, cells_agree, are_compatible, merge, merge_cells, merged, binding}
use Rattle.alg_model.proofs.Width.{HasWidth, width-unbound, width-merge}

-- a cell is bound or not
pub cases_Option : {V : Type 0} (o : Option V) → ((v : V) × (o ≡ Some v)) ⊎ (o ≡ None)
cases_Option (Some v) = inl (v, refl)
cases_Option None = inr refl

-- what a bound cell is bound to
pub value_from_IsSome : {V : Type 0} (o : Option V) → IsSome o → (v : V) × (o ≡ Some v)
value_from_IsSome (Some v) h = (v, refl)
value_from_IsSome None h = cc

-- a cell with a value is bound
pub IsSome-from_value : {V : Type 0} (o : Option V) (v : V) → o ≡ Some v → IsSome o
IsSome-from_value o v e = rw e refl

-- past its last cell a row binds nothing
pub binding_past : {V : Type 0} (n : ℕ) (row : Row V) (k : ℕ) → HasWidth n row → n ≤ k → binding row k ≡ None
binding_past n row k width past = get_or_past row k None (omega arith)

-- the row that binds nothing binds no variable
pub binding-unbound : (V : Type 0) (n k : ℕ) → binding (unbound V n) k ≡ None
binding-unbound V n k =
    elim (cases_lt k n) as (λ _. binding (unbound V n) k ≡ None) [
      | inl low ↦ get_or-replicate n k None None low
      | inr past ↦ binding_past n (unbound V n) k (width-unbound V n) past
    ]

-- a row that binds one variable binds it
pub binding-single_same : {V : Type 0} (n var : ℕ) (v : V) → var < n → binding (single n var v) var ≡ Some v
binding-single_same {V} n var v low = let long = width-unbound V n in get_or-set_same (unbound V n) var (Some v) None (omega arith)

-- and no other
pub binding-single_other : {V : Type 0} (n var k : ℕ) (v : V) → k ≢ var → binding (single n var v) k ≡ None
binding-single_other {V} n var k v other = get_or-set_other (unbound V n) var k (Some v) None other ∙ binding-unbound V n k

-- rows with the same cells are one
pub same_rows : {V : Type 0} (n : ℕ) (r s : Row V) → HasWidth n r → HasWidth n s → ((k : ℕ) → binding r k ≡ binding s k) → r ≡ s
same_rows n r s hr hs same = ext_get_or None r s (omega arith) (λ k _. same k)

-- ---- a merge, cell by cell

-- a merge binds a variable to the first of what both rows bind it to
pub binding-merge : {V : Type 0} (r s : Row V) (k : ℕ) → length r ≡ length s → binding (merge r s) k ≡ merge_cells (binding r k) (binding s k)
binding-merge [] [] k long = refl
binding-merge [] (d ∷ s) k long = absurd (omega arith)
binding-merge (c ∷ r) [] k long = absurd (omega arith)
binding-merge (c ∷ r) (d ∷ s) zero long = refl
binding-merge (c ∷ r) (d ∷ s) (suc k) long = binding-merge r s k (omega arith)

module _ {V : Type 0} (test : V → V → Bool) where
  -- compatible rows agree on each variable
  agree_at : (r s : Row V) (k : ℕ) → length r ≡ length s → are_compatible test r s ≡ true → cells_agree test (binding r k) (binding s k) ≡ true
  agree_at [] [] k long h = refl
  agree_at [] (d ∷ s) k long h = absurd (omega arith)
  agree_at (c ∷ r) [] k long h = absurd (omega arith)
  agree_at (c ∷ r) (d ∷ s) zero long h = (and_parts (cells_agree test c d) (are_compatible test r s) h).0
  agree_at (c ∷ r) (d ∷ s) (suc k) long h = agree_at r s k (omega arith) (and_parts (cells_agree test c d) (are_compatible test r s) h).1

  -- rows that agree on each variable are compatible
  pub compatible_from : (r s : Row V) → length r ≡ length s → ((k : ℕ) → cells_agree test (binding r k) (binding s k) ≡ true) → are_compatible test r s ≡ true
  compatible_from [] [] long h = refl
  compatible_from [] (d ∷ s) long h = absurd (omega arith)
  compatible_from (c ∷ r) [] long h = absurd (omega arith)
  compatible_from (c ∷ r) (d ∷ s) long h = and_from (cells_agree test c d) (are_compatible test r s) (h 0) (compatible_from r s (omega arith) (λ k. h (suc k)))

-- q binds what r binds and what s binds, and nothing else
pub record IsUnion {V : Type 0} (r s q : Row V) : Type 0 where
  pub left : (k : ℕ) (v : V) → binding r k ≡ Some v → binding q k ≡ Some v
  pub right : (k : ℕ) (v : V) → binding s k ≡ Some v → binding q k ≡ Some v
  pub no_more : (k : ℕ) → binding r k ≡ None → binding s k ≡ None → binding q k ≡ None

module _ {V : Type 0} (test : V → V → Bool) (same : (v w : V) → IsTrue (test v w) ↔ (v ≡ w)) where
  -- a merge of cells keeps what the left cell is bound to
  cell-left : (a b : Option V) (v : V) → a ≡ Some v → merge_cells a b ≡ Some v
  cell-left (Some w) b v e = e
  cell-left None b v e = cc

  -- and of cells that agree, what the right cell is bound to
  cell-right : (a b : Option V) (v : V) → cells_agree test a b ≡ true → b ≡ Some v → merge_cells a b ≡ Some v
  cell-right None b v agree e = e
  cell-right (Some w) None v agree e = cc
  cell-right (Some w) (Some u) v agree e = ap Some ((same w u).0 agree) ∙ e

  -- and is unbound where both are
  cell-none : (a b : Option V) → a ≡ None → b ≡ None → merge_cells a b ≡ None
  cell-none None b e f = f
  cell-none (Some w) b e f = cc

  -- cells of which c is the least that has what both have agree, and c is their merge
  cells_from : (a b c : Option V) → ((v : V) → a ≡ Some v → c ≡ Some v) → ((v : V) → b ≡ Some v → c ≡ Some v) → (a ≡ None → b ≡ None → c ≡ None) → (cells_agree test a b ≡ true) × (merge_cells a b ≡ c)
  cells_from None b c left right none =
      (refl, elim (cases_Option b) as (λ _. b ≡ c) [ inl some ↦ some.1 ∙ sym (right some.0 some.1) | inr e ↦ e ∙ sym (none refl e) ])
  cells_from (Some v) None c left right none = (refl, sym (left v refl))
  cells_from (Some v) (Some w) c left right none =
      let one : v ≡ w = let first = left v refl in let second = right w refl in cc in
      ((same v w).1 one, sym (left v refl))

  -- the merge of compatible rows binds what both bind, and nothing else
  pub union_from_merged : (n : ℕ) (r s q : Row V) → HasWidth n r → HasWidth n s → merged test r s ≡ Some q → HasWidth n q × IsUnion r s q
  union_from_merged n r s q hr hs h =
      let is = cond_some (are_compatible test r s) (merge r s) q h in
      let long : length r ≡ length s = omega arith in
      let at : (k : ℕ) → binding q k ≡ merge_cells (binding r k) (binding s k) = λ k. ap (λ row. binding row k) (sym is.1) ∙ binding-merge r s k long in (
        subst (HasWidth n) is.1 (width-merge n r s hr hs),
        record {
          left = λ k v e. at k ∙ cell-left (binding r k) (binding s k) v e;
          right = λ k v e. at k ∙ cell-right (binding r k) (binding s k) v (agree_at test r s k long is.0) e;
          no_more = λ k e f. at k ∙ cell-none (binding r k) (binding s k) e f;
        },
      )

  -- a row that binds what both bind, and nothing else, is their merge, and they are compatible
  pub merged_from_union : (n : ℕ) (r s q : Row V) → HasWidth n r → HasWidth n s → HasWidth n q → IsUnion r s q → merged test r s ≡ Some q
  merged_from_union n r s q hr hs hq u =
      let long : length r ≡ length s = omega arith in
      let at = λ (k : ℕ). cells_from (binding r k) (binding s k) (binding q k) (u.left k) (u.right k) (u.no_more k) in
      let compatible = compatible_from test r s long (λ k. (at k).0) in
      let is = same_rows n (merge r s) q (width-merge n r s hr hs) hq (λ k. binding-merge r s k long ∙ (at k).1) in
      rw compatible (ap Some is)
