-- The laws of partial solutions and the pattern-tree law.
use Rattle.std.proofs.Common.{◌≡◌, ◌≢◌, ◌↔◌, ◌⊎◌, ℕ, ◌<◌, ◌++◌, inl, inr, List, get_or, AllPairs, Any, Contains, Option, Some, None, refl, ◌∙◌, ap, subst}
use Rattle.std.proofs.lemmas.List.Elements.{All-contains, Contains-get_or, Contains-append_left, Contains-append_right, Contains-append_cases}
use Rattle.alg_model.specs.declared.pattern.TriplePat.{TriplePat}
use Rattle.alg_model.specs.Row.{Row, binding, Extends, BindsMore, join, without_partner}
use Rattle.alg_model.specs.Pattern.{Algebra, Bgp, Join, LeftJoin, HasVarsBelow, triple_vars, vars_of}
use Rattle.alg_model.specs.Eval.{Interpretation, eval}
use Rattle.alg_model.specs.Solution.{Makes, IsSolution, TellsValues, TellsTriples}
use Rattle.alg_model.proofs.Cells.{value_from_IsSome, IsSome-from_value, union_from_merged, merged_from_union}
use Rattle.alg_model.proofs.Joins.{join-Contains, Contains-join}
use Rattle.alg_model.proofs.Lists.{Contains-flat_map, source-flat_map}
use Rattle.alg_model.proofs.VarSets.{All-left, All-right}
use Rattle.pattern_tree.specs.Parts.{IsMergeOf, IsAlone}
use Rattle.pattern_tree.specs.Solution.{Family, all_matches, IsSolutionOf, IsPartialRow, IsMaximalRow}
use Rattle.pattern_tree.specs.Tree.{tree_of, patterns_of}
use Rattle.pattern_tree.proofs.Choices.{IsBothOf, IsChoice, IsFineBeside, fine-join_left, fine-join_right, fine-left_join_left, fine-left_join_right}
use Rattle.pattern_tree.proofs.Unions.{solution-union, solution-cut, Extends-trans, Extends-both}
use Rattle.pattern_tree.proofs.Evaluation.{IsPartial, row_is_partial, partial_is_covered, basic-to, basic-from, alone_left, not_alone, partner_or_alone, merge_of}
use Rattle.pattern_tree.proofs.Distinct.{no_row_extends_another, rows_once}
use Rattle.pattern_tree.proofs.RootedSets.{HasSame, choice_from_set, set_from_choice}

module _ {V X : Type 0} (interpretation : Interpretation V X) (n : ℕ) (family : Family X) where
  -- lists with the same triple patterns have the same solutions
  same_solves : (xs ys : List TriplePat) (row : Row V) → HasSame xs ys → IsSolutionOf interpretation n family xs row → IsSolutionOf interpretation n family ys row
  same_solves xs ys row same is = record {
    width = is.width;
    binds = λ var. (
      λ some. (let from = source-flat_map triple_vars xs var ((is.binds var).0 some) in Contains-flat_map triple_vars ys from.0 var (same.to from.0 from.1) from.2),
      λ at. (let from = source-flat_map triple_vars ys var at in (is.binds var).1 (Contains-flat_map triple_vars xs from.0 var (same.from from.0 from.1) from.2)),
    );
    made = λ k d low. All-contains (λ pattern. Any (Makes interpretation row pattern) (family pattern)) xs (get_or ys k d) is.made (same.from (get_or ys k d) (Contains-get_or ys k d low));
  }

  -- a row that solves a choice of the pattern's triple patterns
  pub record Solves (pattern : Algebra) (row : Row V) : Type 0 where
    pub list : List TriplePat
    pub choice : IsChoice pattern list
    pub solves : IsSolutionOf interpretation n family list row

  -- is the row of a partial solution
  pub solves_from_row : (pattern : Algebra) (row : Row V) → IsPartialRow interpretation n (tree_of pattern) family row → Solves pattern row
  solves_from_row pattern row is =
      let from = choice_from_set pattern is.0 is.1.rooted in
      record {
        list = from.list;
        choice = from.choice;
        solves = same_solves (patterns_of (tree_of pattern) is.0) from.list row (record { to = from.same.from; from = from.same.to }) is.1.solves;
      }

  pub row_from_solves : (pattern : Algebra) (row : Row V) → Solves pattern row → IsPartialRow interpretation n (tree_of pattern) family row
  row_from_solves pattern row is =
      let from = set_from_choice pattern is.list is.choice in
      (from.set, record { rooted = from.rooted; solves = same_solves is.list (patterns_of (tree_of pattern) from.set) row from.same is.solves })

  module _ (tells : TellsValues interpretation) (left right : Algebra) where
    -- the merge of partial solutions of both sides solves both
    merge_from_both : (list : List TriplePat) (row : Row V) → IsBothOf (IsChoice left) (IsChoice right) list → IsSolutionOf interpretation n family list row →
        IsMergeOf interpretation.same (IsPartialRow interpretation n (tree_of left) family) (IsPartialRow interpretation n (tree_of right) family) row
    merge_from_both list row both solves =
        let parts = solution-cut interpretation n family tells both.first both.second row (subst (λ list. IsSolutionOf interpretation n family list row) both.both solves) in
        record {
          left = parts.r;
          right = parts.s;
          is_left = row_from_solves left parts.r (record { list = both.first; choice = both.is_first; solves = parts.is_r });
          is_right = row_from_solves right parts.s (record { list = both.second; choice = both.is_second; solves = parts.is_s });
          merge = merged_from_union interpretation.same tells n parts.r parts.s row parts.is_r.width parts.is_s.width solves.width parts.union;
        }

    -- and what solves both is such a merge
    pub record SolvesBoth (row : Row V) : Type 0 where
      pub list : List TriplePat
      pub both : IsBothOf (IsChoice left) (IsChoice right) list
      pub solves : IsSolutionOf interpretation n family list row

    both_from_merge : (row : Row V) → IsMergeOf interpretation.same (IsPartialRow interpretation n (tree_of left) family) (IsPartialRow interpretation n (tree_of right) family) row → SolvesBoth row
    both_from_merge row is =
        let r = solves_from_row left is.left is.is_left in
        let s = solves_from_row right is.right is.is_right in
        let u = union_from_merged interpretation.same tells n is.left is.right row r.solves.width s.solves.width is.merge in
        record {
          list = r.list ++ s.list;
          both = record { first = r.list; second = s.list; is_first = r.choice; is_second = s.choice; both = refl };
          solves = solution-union interpretation n family tells r.list s.list is.left is.right row r.solves s.solves u.0 u.1;
        }

    -- the partial solutions of a Join
    pub partial-joined : (row : Row V) → IsPartialRow interpretation n (tree_of (Join left right)) family row
        ↔ IsMergeOf interpretation.same (IsPartialRow interpretation n (tree_of left) family) (IsPartialRow interpretation n (tree_of right) family) row
    partial-joined row = (
      λ is. (let from = solves_from_row (Join left right) row is in merge_from_both from.list row from.choice from.solves),
      λ is. (let from = both_from_merge row is in row_from_solves (Join left right) row (record { list = from.list; choice = from.both; solves = from.solves })),
    )

    -- and of a LeftJoin
    pub partial-optional : (row : Row V) → IsPartialRow interpretation n (tree_of (LeftJoin left right)) family row
        ↔ (IsPartialRow interpretation n (tree_of left) family row ⊎ IsMergeOf interpretation.same (IsPartialRow interpretation n (tree_of left) family) (IsPartialRow interpretation n (tree_of right) family) row)
    partial-optional row = (
      λ is. (let from = solves_from_row (LeftJoin left right) row is in
          elim from.choice as (λ _. IsPartialRow interpretation n (tree_of left) family row ⊎ IsMergeOf interpretation.same (IsPartialRow interpretation n (tree_of left) family) (IsPartialRow interpretation n (tree_of right) family) row) [
            | inl choice ↦ inl (row_from_solves left row (record { list = from.list; choice = choice; solves = from.solves }))
            | inr both ↦ inr (merge_from_both from.list row both from.solves)
          ]),
      λ either. elim either as (λ _. IsPartialRow interpretation n (tree_of (LeftJoin left right)) family row) [
        | inl is ↦ (let from = solves_from_row left row is in row_from_solves (LeftJoin left right) row (record { list = from.list; choice = inl from.choice; solves = from.solves }))
        | inr is ↦ (let from = both_from_merge row is in row_from_solves (LeftJoin left right) row (record { list = from.list; choice = inr from.both; solves = from.solves }))
      ],
    )

-- ---- the pattern-tree law

module _ {V X : Type 0} (interpretation : Interpretation V X) (tells : TellsValues interpretation) (n : ℕ) (triples : List X) where
  abbrev family : Family X
  family = all_matches interpretation n triples

  -- the rows of partial and of maximal solutions of a pattern
  abbrev IsRow : Algebra → Row V → Type 0
  IsRow pattern row = IsPartialRow interpretation n (tree_of pattern) family row

  abbrev IsMost : Algebra → Row V → Type 0
  IsMost pattern row = IsMaximalRow interpretation n (tree_of pattern) family row

  partial_from_row : (pattern : Algebra) (row : Row V) → IsRow pattern row → IsPartial interpretation tells n triples pattern row
  partial_from_row pattern row is = let from = solves_from_row interpretation n family pattern row is in record { list = from.list; choice = from.choice; solves = from.solves }

  row_from_partial : (pattern : Algebra) (row : Row V) → IsPartial interpretation tells n triples pattern row → IsRow pattern row
  row_from_partial pattern row is = row_from_solves interpretation n family pattern row (record { list = is.list; choice = is.choice; solves = is.solves })

  -- the partial solutions of a basic graph pattern are its solutions
  pub partial-basic : (patterns : List TriplePat) → HasVarsBelow n (Bgp patterns) → (row : Row V) → IsRow (Bgp patterns) row ↔ IsSolution interpretation n patterns triples row
  partial-basic patterns below row = (
    λ is. (let from = solves_from_row interpretation n family (Bgp patterns) row is in
        basic-from interpretation tells n triples patterns row (subst (λ list. IsSolutionOf interpretation n family list row) from.choice from.solves)),
    λ is. row_from_solves interpretation n family (Bgp patterns) row (record { list = patterns; choice = refl; solves = basic-to interpretation tells n triples patterns row below is }),
  )

  module _ (pattern : Algebra) (outside : List ℕ) (fine : IsFineBeside outside pattern) (below : HasVarsBelow n pattern) where
    -- each partial solution is extended by a row
    cover : (row : Row V) → IsRow pattern row → (whole : Row V) × Contains (eval interpretation n pattern triples) whole × Extends whole row
    cover row is = let over = partial_is_covered interpretation tells n triples pattern outside fine below row (partial_from_row pattern row is) in (over.row, over.there, over.over)

    -- a row of the pattern is maximal
    most_from_row : (row : Row V) → Contains (eval interpretation n pattern triples) row → IsMost pattern row
    most_from_row row at = record {
      partial = row_from_partial pattern row (row_is_partial interpretation tells n triples pattern below row at);
      maximal = λ other is over more.
          let whole = cover other is in
          let same = no_row_extends_another interpretation tells n triples pattern outside fine below row whole.0 at whole.1 (Extends-trans whole.0 other row whole.2 over) in
          let var = more.0 in
          let some = value_from_IsSome (binding other var) more.1 in
          let in_whole = whole.2 var some.0 some.1 in
          let wrong : binding row var ≡ Some some.0 = ap (λ row. binding row var) same ∙ in_whole in
          let none = more.2 in
          cc;
    }

    -- what extends a row and does not bind more is extended by it
    back_from_most : (whole row : Row V) → Extends whole row → ¬ BindsMore whole row → Extends row whole
    back_from_most whole row over no_more var value is = at (binding row var) refl where
      at : (cell : Option V) → binding row var ≡ cell → binding row var ≡ Some value
      at None e = absurd (no_more (var, IsSome-from_value (binding whole var) value is, e))
      at (Some other) e = let kept = over var other e in cc

    -- and what is maximal is a row of the pattern
    row_from_most : (row : Row V) → IsMost pattern row → Contains (eval interpretation n pattern triples) row
    row_from_most row is =
        let whole = cover row is.partial in
        let partial_whole = row_is_partial interpretation tells n triples pattern below whole.0 whole.1 in
        let partial_row = partial_from_row pattern row is.partial in
        let back = back_from_most whole.0 row whole.2 (is.maximal whole.0 (row_from_partial pattern whole.0 partial_whole) whole.2) in
        let same = Extends-both n whole.0 row partial_whole.solves.width partial_row.solves.width whole.2 back in
        subst (Contains (eval interpretation n pattern triples)) same whole.1

    -- evaluation gives exactly the maximal partial solutions
    pub law-exactly : (row : Row V) → Contains (eval interpretation n pattern triples) row ↔ IsMost pattern row
    law-exactly row = (most_from_row row, row_from_most row)

    -- each partial solution is extended by a maximal one
    pub law-covered : (row : Row V) → IsRow pattern row → (whole : Row V) × IsMost pattern whole × Extends whole row
    law-covered row is = let whole = cover row is in (whole.0, most_from_row whole.0 whole.1, whole.2)

  -- and no row stands twice
  pub law-once : (pattern : Algebra) (outside : List ℕ) → TellsTriples interpretation triples → IsFineBeside outside pattern → HasVarsBelow n pattern → AllPairs (λ t u. t ≢ u) triples → AllPairs (λ r s. r ≢ s) (eval interpretation n pattern triples)
  law-once pattern outside apart fine below once = rows_once interpretation tells n triples apart once pattern outside fine below

  -- ---- the maximal solutions of two sides

  -- rows that are merges of rows of both sides
  merge_along : (left right : Algebra) (P Q R S : Row V → Type 0) → ((row : Row V) → P row → R row) → ((row : Row V) → Q row → S row) → (row : Row V) → IsMergeOf interpretation.same P Q row → IsMergeOf interpretation.same R S row
  merge_along left right P Q R S f g row is = record { left = is.left; right = is.right; is_left = f is.left is.is_left; is_right = g is.right is.is_right; merge = is.merge }

  abbrev Is : Algebra → Row V → Type 0
  Is pattern row = Contains (eval interpretation n pattern triples) row

  join_is_merge : (left right : Algebra) (row : Row V) → Contains (join interpretation.same (eval interpretation n left triples) (eval interpretation n right triples)) row ↔ IsMergeOf interpretation.same (Is left) (Is right) row
  join_is_merge left right row = (
    λ at. (let from = join-Contains interpretation.same (eval interpretation n left triples) (eval interpretation n right triples) row at in
        record { left = from.0; right = from.1; is_left = from.2; is_right = from.3; merge = from.4 }),
    λ is. Contains-join interpretation.same (eval interpretation n left triples) (eval interpretation n right triples) is.left is.right row is.is_left is.is_right is.merge,
  )

  -- of a Join they are the merges
  pub maximal-joined : (left right : Algebra) (outside : List ℕ) → IsFineBeside outside (Join left right) → HasVarsBelow n (Join left right) → (row : Row V) → IsMost (Join left right) row ↔ IsMergeOf interpretation.same (IsMost left) (IsMost right) row
  maximal-joined left right outside fine below row =
      let law = law-exactly (Join left right) outside fine below row in
      let l = law-exactly left (outside ++ vars_of right) (fine-join_left outside left right fine) (All-left (λ v. v < n) (vars_of left) (vars_of right) below) in
      let r = law-exactly right (outside ++ vars_of left) (fine-join_right outside left right fine) (All-right (λ v. v < n) (vars_of left) (vars_of right) below) in
      let joined = join_is_merge left right row in (
        λ is. merge_along left right (Is left) (Is right) (IsMost left) (IsMost right) (λ row. (l row).0) (λ row. (r row).0) row (joined.0 (law.1 is)),
        λ is. law.0 (joined.1 (merge_along left right (IsMost left) (IsMost right) (Is left) (Is right) (λ row. (l row).1) (λ row. (r row).1) row is)),
      )

  -- of a LeftJoin they are the merges, and those of the left side that are compatible with none of the right side
  pub maximal-optional : (left right : Algebra) (outside : List ℕ) → IsFineBeside outside (LeftJoin left right) → HasVarsBelow n (LeftJoin left right) → (row : Row V) →
      IsMost (LeftJoin left right) row ↔ (IsMergeOf interpretation.same (IsMost left) (IsMost right) row ⊎ IsAlone interpretation.same (IsMost left) (IsMost right) row)
  maximal-optional left right outside fine below row =
      let below_left = All-left (λ v. v < n) (vars_of left) (vars_of right) below in
      let below_right = All-right (λ v. v < n) (vars_of left) (vars_of right) below in
      let law = law-exactly (LeftJoin left right) outside fine below row in
      let l = law-exactly left (outside ++ vars_of right) (fine-left_join_left outside left right fine) below_left in
      let r = law-exactly right (outside ++ vars_of left) (fine-left_join_right outside left right fine) below_right in
      let ls = eval interpretation n left triples in
      let rs = eval interpretation n right triples in
      let joined = join interpretation.same ls rs in
      let alone = without_partner interpretation.same ls rs in
      let merges = join_is_merge left right row in (
        λ is. elim (Contains-append_cases joined alone row (law.1 is)) as (λ _. IsMergeOf interpretation.same (IsMost left) (IsMost right) row ⊎ IsAlone interpretation.same (IsMost left) (IsMost right) row) [
          | inl at ↦ inl (merge_along left right (Is left) (Is right) (IsMost left) (IsMost right) (λ row. (l row).0) (λ row. (r row).0) row (merges.0 at))
          | inr at ↦ inr (record {
            is = (l row).0 (alone_left interpretation tells n triples ls rs row at);
            no_partner = λ other merge is merged. not_alone interpretation tells n triples ls rs row other merge at ((r other).1 is) merged;
          })
        ],
        λ either. law.0 (elim either as (λ _. Contains (joined ++ alone) row) [
          | inl is ↦ Contains-append_left joined alone row (merges.1 (merge_along left right (IsMost left) (IsMost right) (Is left) (Is right) (λ row. (l row).1) (λ row. (r row).1) row is))
          | inr is ↦ elim (partner_or_alone interpretation tells n triples ls rs row ((l row).1 is.is)) as (λ _. Contains (joined ++ alone) row) [
            | inl partner ↦
                (let mine = row_is_partial interpretation tells n triples left below_left row ((l row).1 is.is) in
                let other = row_is_partial interpretation tells n triples right below_right partner.0 partner.1 in
                let whole = merge_of interpretation tells n triples row partner.0 mine.solves.width other.solves.width partner.2 in
                absurd (is.no_partner partner.0 whole.row ((r partner.0).0 partner.1) whole.is))
            | inr at ↦ Contains-append_right joined alone row at
          ]
        ]),
      )
