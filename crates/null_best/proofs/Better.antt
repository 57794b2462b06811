-- The best of rows of partial solutions, among which are all maximal ones, are the maximal ones.
use Rattle.std.proofs.Common.{◌≡◌, ◌↔◌, ℕ, zero, suc, ◌+◌, ◌<◌, ◌≤◌, List, [], ◌∷◌, length, Option, Some, None, IsSome, Contains, refl, arith, sym, ◌∙◌, ap, subst}
use Rattle.alg_model.specs.Row.{Row, binding, Extends, BindsMore}
use Rattle.alg_model.specs.Eval.{Interpretation}
use Rattle.pattern_tree.specs.BestRows.{IsExtended, AreBest}
use Rattle.pattern_tree.specs.Solution.{Family, IsPartialRow, IsMaximalRow}
use Rattle.pattern_tree.specs.Tree.{TreeNode}

module _ {V : Type 0} where
  -- how many variables a row leaves unbound
  unbound_cell : Option V → ℕ
  unbound_cell None = 1
  unbound_cell (Some v) = 0

  unbound_count : Row V → ℕ
  unbound_count [] = 0
  unbound_count (cell ∷ row) = unbound_cell cell + unbound_count row

  at_most_one : (cell : Option V) → unbound_cell cell ≤ 1
  unfolding unbound_cell
  at_most_one None = omega arith
  at_most_one (Some v) = omega arith

  -- a cell that is bound wherever another is
  no_more_cell : (cell other : Option V) → ((v : V) → other ≡ Some v → cell ≡ Some v) → unbound_cell cell ≤ unbound_cell other
  unfolding unbound_cell
  no_more_cell cell None h = at_most_one cell
  no_more_cell cell (Some v) h = let none : unbound_cell cell ≡ 0 = ap unbound_cell (h v refl) in omega arith

  no_more : (row other : Row V) → length row ≡ length other → Extends row other → unbound_count row ≤ unbound_count other
  unfolding unbound_count
  no_more [] [] same extends = omega arith
  no_more [] (cell ∷ other) same extends = absurd (omega arith)
  no_more (cell ∷ row) [] same extends = absurd (omega arith)
  no_more (cell ∷ row) (c ∷ other) same extends =
      omega (arith, no_more_cell cell c (extends 0), no_more row other (omega arith) (λ k. extends (suc k)))

  fewer_cell : (cell other : Option V) → IsSome cell → other ≡ None → unbound_cell cell < unbound_cell other
  unfolding unbound_cell
  fewer_cell None other some none = absurd (cc)
  fewer_cell (Some v) other some none = let one : unbound_cell other ≡ 1 = ap unbound_cell none in omega arith

  fewer : (row other : Row V) → length row ≡ length other → Extends row other → (var : ℕ) → IsSome (binding row var) → binding other var ≡ None → unbound_count row < unbound_count other
  unfolding unbound_count
  fewer [] other same extends var some none = absurd (cc)
  fewer (cell ∷ row) [] same extends var some none = absurd (omega arith)
  fewer (cell ∷ row) (c ∷ other) same extends zero some none =
      omega (arith, fewer_cell cell c some none, no_more row other (omega arith) (λ k. extends (suc k)))
  fewer (cell ∷ row) (c ∷ other) same extends (suc var) some none =
      omega (arith, no_more_cell cell c (extends 0), fewer row other (omega arith) (λ k. extends (suc k)) var some none)

  -- what extends a row that binds more than another binds more than that
  still_some : (cell higher : Option V) → ((v : V) → cell ≡ Some v → higher ≡ Some v) → IsSome cell → IsSome higher
  still_some None higher h some = absurd (cc)
  still_some (Some v) higher h some = subst IsSome (sym (h v refl)) refl

  module _ {X : Type 0} (interpretation : Interpretation V X) (n : ℕ) (tree : List TreeNode) (family : Family X) (rows : List (Row V)) where
    abbrev IsPartial : Row V → Type 0
    IsPartial = IsPartialRow interpretation n tree family

    abbrev IsMaximal : Row V → Type 0
    IsMaximal = IsMaximalRow interpretation n tree family

    -- where no row of the list extends this one with more variables, no partial solution does: else one that leaves
    -- the fewest unbound is maximal, and so in the list
    climb : ((row : Row V) → IsMaximal row → Contains rows row) → (row : Row V) → ¬ IsExtended rows row →
        (fuel : ℕ) (other : Row V) → IsPartial other → Extends other row → BindsMore other row → unbound_count other < fuel → ⊥
    climb complete row best zero other partial extends more lt = absurd (omega arith)
    climb complete row best (suc fuel) other partial extends more lt =
        let maximal : IsMaximal other = record {
          partial = partial;
          maximal = λ higher is longer further.
              let less : unbound_count higher < unbound_count other = fewer higher other (is.1.solves.width ∙ sym partial.1.solves.width) longer further.0 further.1 further.2 in
              climb complete row best fuel higher is (λ var v h. longer var v (extends var v h))
              (more.0, still_some (binding other more.0) (binding higher more.0) (longer more.0) more.1, more.2) (omega arith);
        } in
        best (record { other = other; listed = complete other maximal; extends = extends; more = more })

    pub law-exactly : (best : List (Row V)) → ((row : Row V) → Contains rows row → IsPartial row) → ((row : Row V) → IsMaximal row → Contains rows row) → AreBest rows best →
        (row : Row V) → Contains best row ↔ IsMaximal row
    law-exactly best sound complete are row = (
      λ listed.
          let is = (are.exactly row).0 listed in
          record {
            partial = sound row is.0;
            maximal = λ other partial extends more. climb complete row is.1 (suc (unbound_count other)) other partial extends more (omega arith);
          },
      λ maximal. (are.exactly row).1 (
        complete row maximal,
        λ extended. maximal.maximal extended.other (sound extended.other extended.listed) extended.extends extended.more,
      ),
    )
