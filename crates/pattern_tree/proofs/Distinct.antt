-- In a well-designed pattern no row extends another, and over triples that are told apart no row stands twice.
use Rattle.std.proofs.Common.{◌≡◌, ◌≢◌, ℕ, ◌<◌, ◌++◌, inl, inr, Bool, not, List, filter_map, AllPairs, Contains, Some, option_to_list, sym, subst}
use Rattle.std.proofs.lemmas.List.Elements.{Contains-append_cases}
use Rattle.std.proofs.lemmas.List.Kept.{AllPairs-filter}
use Rattle.std.specs.List.{list_any}
use Rattle.alg_model.specs.Row.{Row, Extends, are_compatible, merged, join, without_partner}
use Rattle.alg_model.specs.Pattern.{Algebra, Bgp, Join, LeftJoin, HasVarsBelow, vars_of}
use Rattle.alg_model.specs.Eval.{Interpretation}
use Rattle.alg_model.specs.Solution.{TellsValues, TellsTriples}
use Rattle.alg_model.proofs.BasicPatterns.{basic-exactly, basic-once}
use Rattle.alg_model.proofs.Cells.{IsUnion, union_from_merged}
use Rattle.alg_model.proofs.Joins.{join-Contains, merged_as_flat_map, merges-Contains, determined}
use Rattle.alg_model.proofs.Lists.{option-Contains, AllPairs-option, AllPairs-append, once-flat_map}
use Rattle.alg_model.proofs.VarSets.{All-left, All-right}
use Rattle.pattern_tree.proofs.Choices.{IsFineBeside, fine-join_left, fine-join_right, fine-left_join_left, fine-left_join_right, ShareRoots, sides_share}
use Rattle.pattern_tree.proofs.Unions.{Extends-refl, Extends-trans}
use Rattle.pattern_tree.proofs.Evaluation.{rows, IsPartial, row_is_partial, extends_left, extends_right, alone_left, not_alone}

module _ {V X : Type 0} (interpretation : Interpretation V X) (tells : TellsValues interpretation) (n : ℕ) (triples : List X) where
  abbrev same : V → V → Bool
  same = interpretation.same

  abbrev its_rows : Algebra → List (Row V)
  its_rows pattern = rows interpretation tells n triples pattern

  -- no row of the pattern extends another
  abbrev NoneExtends : Algebra → Type 0
  NoneExtends pattern = (e f : Row V) → Contains (its_rows pattern) e → Contains (its_rows pattern) f → Extends f e → e ≡ f

  module _ (left right : Algebra) (share : ShareRoots left right) (below_left : HasVarsBelow n left) (below_right : HasVarsBelow n right) (none_left : NoneExtends left) (none_right : NoneExtends right) where
    -- two rows of the sides, and their merge
    pub record IsMerge (r s q : Row V) : Type 0 where
      pub left_row : Contains (its_rows left) r
      pub right_row : Contains (its_rows right) s
      pub merge : merged same r s ≡ Some q

    -- a row of the Join is a merge
    merge_from : (q : Row V) → Contains (join same (its_rows left) (its_rows right)) q → (r : Row V) × (s : Row V) × IsMerge r s q
    merge_from q at = let from = join-Contains same (its_rows left) (its_rows right) q at in (from.0, from.1, record { left_row = from.2; right_row = from.3; merge = from.4 })

    partial_left : (r : Row V) → Contains (its_rows left) r → IsPartial interpretation tells n triples left r
    partial_left r at = row_is_partial interpretation tells n triples left below_left r at

    partial_right : (s : Row V) → Contains (its_rows right) s → IsPartial interpretation tells n triples right s
    partial_right s at = row_is_partial interpretation tells n triples right below_right s at

    -- it is the union of its rows
    union_of : (r s q : Row V) → IsMerge r s q → IsUnion r s q
    union_of r s q is = (union_from_merged same tells n r s q (partial_left r is.left_row).solves.width (partial_right s is.right_row).solves.width is.merge).1

    -- a row of the left side that a merge extends is the left row of the merge
    left_of_merge : (r s q e : Row V) → IsMerge r s q → Contains (its_rows left) e → Extends q e → e ≡ r
    left_of_merge r s q e is at over =
        none_left e r at is.left_row
        (extends_left interpretation tells n triples left right share r s q e (partial_left r is.left_row) (partial_right s is.right_row) (union_of r s q is) (partial_left e at) over)

    -- and one of the right side the right row
    right_of_merge : (r s q e : Row V) → IsMerge r s q → Contains (its_rows right) e → Extends q e → e ≡ s
    right_of_merge r s q e is at over =
        none_right e s at is.right_row
        (extends_right interpretation tells n triples left right share r s q e (partial_left r is.left_row) (partial_right s is.right_row) (union_of r s q is) (partial_right e at) over)

    -- no merge extends another
    joined_none : (e f : Row V) → Contains (join same (its_rows left) (its_rows right)) e → Contains (join same (its_rows left) (its_rows right)) f → Extends f e → e ≡ f
    joined_none e f at_e at_f over =
        let a = merge_from e at_e in
        let b = merge_from f at_f in
        let u = union_of a.0 a.1 e a.2 in
        let first = left_of_merge b.0 b.1 f a.0 b.2 a.2.left_row (Extends-trans f e a.0 over u.left) in
        let second = right_of_merge b.0 b.1 f a.1 b.2 a.2.right_row (Extends-trans f e a.1 over u.right) in
        let mine : merged same b.0 b.1 ≡ Some e = subst (λ s. merged same b.0 s ≡ Some e) second (subst (λ r. merged same r a.1 ≡ Some e) first a.2.merge) in
        let other = b.2.merge in
        cc

    -- a row without partner is extended by no merge
    alone_joined : (e f : Row V) → Contains (without_partner same (its_rows left) (its_rows right)) e → Contains (join same (its_rows left) (its_rows right)) f → Extends f e → ⊥
    alone_joined e f at_e at_f over =
        let b = merge_from f at_f in
        let at = alone_left interpretation tells n triples (its_rows left) (its_rows right) e at_e in
        let first = left_of_merge b.0 b.1 f e b.2 at over in
        not_alone interpretation tells n triples (its_rows left) (its_rows right) e b.1 f at_e b.2.right_row (subst (λ r. merged same r b.1 ≡ Some f) (sym first) b.2.merge)

    -- and extends none
    joined_alone : (e f : Row V) → Contains (join same (its_rows left) (its_rows right)) e → Contains (without_partner same (its_rows left) (its_rows right)) f → Extends f e → ⊥
    joined_alone e f at_e at_f over =
        let a = merge_from e at_e in
        let u = union_of a.0 a.1 e a.2 in
        let at = alone_left interpretation tells n triples (its_rows left) (its_rows right) f at_f in
        let first = none_left a.0 f a.2.left_row at (Extends-trans f e a.0 over u.left) in
        not_alone interpretation tells n triples (its_rows left) (its_rows right) f a.1 e at_f a.2.right_row (subst (λ r. merged same r a.1 ≡ Some e) first a.2.merge)

    -- so no row of the LeftJoin extends another
    left_joined_none : NoneExtends (LeftJoin left right)
    left_joined_none e f at_e at_f over =
        let joined = join same (its_rows left) (its_rows right) in
        let alone = without_partner same (its_rows left) (its_rows right) in
        elim (Contains-append_cases joined alone e at_e) as (λ _. e ≡ f) [
          | inl joined_e ↦ elim (Contains-append_cases joined alone f at_f) as (λ _. e ≡ f) [
            | inl joined_f ↦ joined_none e f joined_e joined_f over
            | inr alone_f ↦ absurd (joined_alone e f joined_e alone_f over)
          ]
          | inr alone_e ↦ elim (Contains-append_cases joined alone f at_f) as (λ _. e ≡ f) [
            | inl joined_f ↦ absurd (alone_joined e f alone_e joined_f over)
            | inr alone_f ↦ none_left e f (alone_left interpretation tells n triples (its_rows left) (its_rows right) e alone_e) (alone_left interpretation tells n triples (its_rows left) (its_rows right) f alone_f) over
          ]
        ]

    -- no merge stands twice, where no row of a side does
    joined_once : AllPairs (λ r s. r ≢ s) (its_rows left) → AllPairs (λ r s. r ≢ s) (its_rows right) → AllPairs (λ r s. r ≢ s) (join same (its_rows left) (its_rows right))
    joined_once once_left once_right =
        once-flat_map (λ r. filter_map (merged same r) (its_rows right)) (its_rows left) once_left
        (λ r at_r. subst (AllPairs (λ r s. r ≢ s)) (sym (merged_as_flat_map same r (its_rows right)))
        (once-flat_map (λ s. option_to_list (merged same r s)) (its_rows right) once_right (λ s at_s. AllPairs-option (λ r s. r ≢ s) (merged same r s))
        (λ s s' q at_s at_s' at at'.
        let mine : IsMerge r s q = record { left_row = at_r; right_row = at_s; merge = option-Contains (merged same r s) q at } in
        let other : IsMerge r s' q = record { left_row = at_r; right_row = at_s'; merge = option-Contains (merged same r s') q at' } in
        right_of_merge r s' q s other at_s (union_of r s q mine).right)))
        (λ r r' q at_r at_r' at at'.
        let s = merges-Contains same r (its_rows right) q at in
        let s' = merges-Contains same r' (its_rows right) q at' in
        let mine : IsMerge r s.0 q = record { left_row = at_r; right_row = s.1; merge = s.2 } in
        let other : IsMerge r' s'.0 q = record { left_row = at_r'; right_row = s'.1; merge = s'.2 } in
        left_of_merge r' s'.0 q r other at_r (union_of r s.0 q mine).left)

    -- nor does a row of the LeftJoin
    left_joined_once : AllPairs (λ r s. r ≢ s) (its_rows left) → AllPairs (λ r s. r ≢ s) (its_rows right) → AllPairs (λ r s. r ≢ s) (its_rows (LeftJoin left right))
    left_joined_once once_left once_right =
        let joined = join same (its_rows left) (its_rows right) in
        let alone = without_partner same (its_rows left) (its_rows right) in
        AllPairs-append (λ r s. r ≢ s) joined alone (joined_once once_left once_right)
        (AllPairs-filter (λ r s. r ≢ s) (λ r. not (list_any (are_compatible same r) (its_rows right))) (its_rows left) once_left)
        (λ f e at_f at_e is. alone_joined e f at_e at_f (subst (λ row. Extends row e) (sym is) (Extends-refl e)))

  -- in a well-designed pattern no row extends another
  pub no_row_extends_another : (pattern : Algebra) (outside : List ℕ) → IsFineBeside outside pattern → HasVarsBelow n pattern → NoneExtends pattern
  no_row_extends_another (Bgp patterns) outside fine below e f at_e at_f over =
      let is_e = (basic-exactly interpretation tells n patterns triples below e).0 at_e in
      let is_f = (basic-exactly interpretation tells n patterns triples below f).0 at_f in
      determined n (vars_of (Bgp patterns)) e f f is_e.width is_f.width is_e.binds is_f.binds over (Extends-refl f)
  no_row_extends_another (Join left right) outside fine below e f at_e at_f over =
      let fine_left = fine-join_left outside left right fine in
      let fine_right = fine-join_right outside left right fine in
      let below_left = All-left (λ v. v < n) (vars_of left) (vars_of right) below in
      let below_right = All-right (λ v. v < n) (vars_of left) (vars_of right) below in
      joined_none left right (sides_share outside left right fine_left fine_right) below_left below_right
      (no_row_extends_another left (outside ++ vars_of right) fine_left below_left) (no_row_extends_another right (outside ++ vars_of left) fine_right below_right) e f at_e at_f over
  no_row_extends_another (LeftJoin left right) outside fine below e f at_e at_f over =
      let fine_left = fine-left_join_left outside left right fine in
      let fine_right = fine-left_join_right outside left right fine in
      let below_left = All-left (λ v. v < n) (vars_of left) (vars_of right) below in
      let below_right = All-right (λ v. v < n) (vars_of left) (vars_of right) below in
      left_joined_none left right (sides_share outside left right fine_left fine_right) below_left below_right
      (no_row_extends_another left (outside ++ vars_of right) fine_left below_left) (no_row_extends_another right (outside ++ vars_of left) fine_right below_right) e f at_e at_f over

  -- and over triples that are told apart none stands twice
  pub rows_once : TellsTriples interpretation triples → AllPairs (λ t u. t ≢ u) triples → (pattern : Algebra) (outside : List ℕ) → IsFineBeside outside pattern → HasVarsBelow n pattern → AllPairs (λ r s. r ≢ s) (its_rows pattern)
  rows_once apart once (Bgp patterns) outside fine below = basic-once interpretation tells n patterns triples apart below once
  rows_once apart once (Join left right) outside fine below =
      let fine_left = fine-join_left outside left right fine in
      let fine_right = fine-join_right outside left right fine in
      let below_left = All-left (λ v. v < n) (vars_of left) (vars_of right) below in
      let below_right = All-right (λ v. v < n) (vars_of left) (vars_of right) below in
      joined_once left right (sides_share outside left right fine_left fine_right) below_left below_right
      (no_row_extends_another left (outside ++ vars_of right) fine_left below_left) (no_row_extends_another right (outside ++ vars_of left) fine_right below_right)
      (rows_once apart once left (outside ++ vars_of right) fine_left below_left) (rows_once apart once right (outside ++ vars_of left) fine_right below_right)
  rows_once apart once (LeftJoin left right) outside fine below =
      let fine_left = fine-left_join_left outside left right fine in
      let fine_right = fine-left_join_right outside left right fine in
      let below_left = All-left (λ v. v < n) (vars_of left) (vars_of right) below in
      let below_right = All-right (λ v. v < n) (vars_of left) (vars_of right) below in
      left_joined_once left right (sides_share outside left right fine_left fine_right) below_left below_right
      (no_row_extends_another left (outside ++ vars_of right) fine_left below_left) (no_row_extends_another right (outside ++ vars_of left) fine_right below_right)
      (rows_once apart once left (outside ++ vars_of right) fine_left below_left) (rows_once apart once right (outside ++ vars_of left) fine_right below_right)
