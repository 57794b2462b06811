-- Evaluation and partial solutions, part by part: each row of a pattern is that of a partial solution, each partial
-- solution is extended by a row, and in a well-designed pattern no row extends another.
use Rattle.std.proofs.Common.{◌≡◌, ◌⊎◌, ℕ, ◌<◌, ◌++◌, inl, inr, Bool, true, false, not, List, [], ◌∷◌, get_or, length, filter, Contains, Option, Some, None, IsSome, is_some, if◌then◌else◌, refl, sym, ap, subst, arith}
use Rattle.std.proofs.lemmas.Bool.{not-true, cond-true}
use Rattle.std.proofs.lemmas.List.Elements.{All-contains, Contains-get_or, Contains-append_left, Contains-append_right, Contains-append_cases}
use Rattle.std.proofs.lemmas.List.Folds.{list_any_at, Any-from_list_any}
use Rattle.std.proofs.lemmas.Option.{cond_some}
use Rattle.std.specs.List.{list_any}
use Rattle.bm_term.proofs.Elements.{Contains-head, Contains-nil, Contains-single}
use Rattle.alg_model.specs.declared.pattern.TriplePat.{TriplePat}
use Rattle.alg_model.specs.Row.{Row, binding, Extends, cells_agree, are_compatible, merge, merged, join, without_partner}
use Rattle.alg_model.specs.Pattern.{Algebra, Bgp, Join, LeftJoin, HasVarsBelow, triple_vars, vars_of}
use Rattle.alg_model.specs.Eval.{Interpretation, match_of, eval}
use Rattle.alg_model.specs.Solution.{Makes, IsSolution, TellsValues}
use Rattle.alg_model.proofs.BasicPatterns.{looks_makes, rows_of_match, basic-exactly}
use Rattle.alg_model.proofs.Cells.{cases_Option, value_from_IsSome, IsSome-from_value, IsUnion, compatible_from, union_from_merged}
use Rattle.alg_model.proofs.Joins.{join-Contains, Contains-join, cut, width-cut, cut_binds, cut_inside}
use Rattle.alg_model.proofs.Lists.{filter_as_flat_map, Contains-flat_map, source-flat_map, option-Contains}
use Rattle.alg_model.proofs.VarSets.{All-left, All-right}
use Rattle.alg_model.proofs.Width.{HasWidth}
use Rattle.pattern_tree.specs.Tree.{root_patterns}
use Rattle.pattern_tree.specs.Solution.{Family, all_matches, IsSolutionOf}
use Rattle.pattern_tree.proofs.Choices.{list_vars, IsBothOf, IsChoice, choice_inside, choice_root, IsFineBeside, fine-join_left, fine-join_right, fine-left_join_left, fine-left_join_right, ShareRoots, sides_share}
use Rattle.pattern_tree.proofs.Unions.{solution-union, solution-cut, Extends-refl, Extends-trans, Extends-union}

-- ---- filters

-- an item that passes is in the filtered list
pub Contains-filter : {X : Type 0} (p : X → Bool) (xs : List X) (x : X) → Contains xs x → p x ≡ true → Contains (filter p xs) x
Contains-filter p xs x at passes =
    let one : Contains (if p x then x ∷ [] else []) x = rw passes (Contains-head x []) in
    subst (λ list. Contains list x) (sym (filter_as_flat_map p xs)) (Contains-flat_map (λ x. if p x then x ∷ [] else []) xs x x at one)

-- and an item of the filtered list passes
kept_passes : {X : Type 0} (b : Bool) (y x : X) → Contains (if b then y ∷ [] else []) x → (b ≡ true) × (y ≡ x)
kept_passes true y x at = (refl, Contains-single y x at)
kept_passes false y x at = absurd (Contains-nil x at)

pub filter-Contains : {X : Type 0} (p : X → Bool) (xs : List X) (x : X) → Contains (filter p xs) x → Contains xs x × (p x ≡ true)
filter-Contains p xs x at =
    let from = source-flat_map (λ x. if p x then x ∷ [] else []) xs x (subst (λ list. Contains list x) (filter_as_flat_map p xs) at) in
    let kept = kept_passes (p from.0) from.0 x from.2 in
    (subst (Contains xs) kept.1 from.1, subst (λ x. p x ≡ true) kept.1 kept.0)

module _ {V X : Type 0} (interpretation : Interpretation V X) (tells : TellsValues interpretation) (n : ℕ) (triples : List X) where
  abbrev pub test : V → V → Bool
  test = interpretation.same

  abbrev pub matches : Family X
  matches = all_matches interpretation n triples

  -- the rows of a pattern
  abbrev pub rows : Algebra → List (Row V)
  rows pattern = eval interpretation n pattern triples

  -- the row solves the triple patterns of some rooted set of nodes
  pub record IsPartial (pattern : Algebra) (row : Row V) : Type 0 where
    pub list : List TriplePat
    pub choice : IsChoice pattern list
    pub solves : IsSolutionOf interpretation n matches list row

  -- ---- basic graph patterns

  -- a triple that a triple pattern becomes is among its matches
  is_match : (pattern : TriplePat) (triple : X) (row : Row V) → ((k : ℕ) → Contains (triple_vars pattern) k → k < n) → HasWidth n row → ((k : ℕ) → Contains (triple_vars pattern) k → IsSome (binding row k)) →
      Makes interpretation row pattern triple → is_some (match_of interpretation n pattern triple) ≡ true
  is_match pattern triple row below width bound makes =
      let vars = triple_vars pattern in
      let own = cut n vars row in
      let there = (rows_of_match interpretation tells n pattern triple below).complete own (record {
        width = width-cut n vars row width;
        binds = cut_binds n vars row width bound;
        holds = (looks_makes interpretation tells n pattern triple).along row own (λ k at. sym (cut_inside n vars row width k at)) makes;
      }) in
      ap is_some (option-Contains (match_of interpretation n pattern triple) own there)

  -- so a solution over the triples is one over the matches
  pub basic-to : (patterns : List TriplePat) (row : Row V) → HasVarsBelow n (Bgp patterns) → IsSolution interpretation n patterns triples row → IsSolutionOf interpretation n matches patterns row
  basic-to patterns row below is = record {
    width = is.width;
    binds = is.binds;
    made = λ k d low.
        let pattern = get_or patterns k d in
        let there = Contains-get_or patterns k d low in
        let inside = λ (v : ℕ) (at : Contains (triple_vars pattern) v). Contains-flat_map triple_vars patterns pattern v there at in
        let a = is.made k d low in
        let match = is_match pattern a.1 row (λ v at. All-contains (λ v. v < n) (list_vars patterns) v below (inside v at)) is.width (λ v at. (is.binds v).1 (inside v at)) a.4 in
        let found = Contains-filter (λ triple. is_some (match_of interpretation n pattern triple)) triples a.1 (a.0, a.2, a.3) match in
        (found.0, a.1, found.1, found.2, a.4);
  }

  pub basic-from : (patterns : List TriplePat) (row : Row V) → IsSolutionOf interpretation n matches patterns row → IsSolution interpretation n patterns triples row
  basic-from patterns row is = record {
    width = is.width;
    binds = is.binds;
    made = λ k d low.
        let pattern = get_or patterns k d in
        let a = is.made k d low in
        let found = (filter-Contains (λ triple. is_some (match_of interpretation n pattern triple)) triples a.1 (a.0, a.2, a.3)).0 in
        (found.0, a.1, found.1, found.2, a.4);
  }

  -- ---- what a partial solution binds

  -- a row that solves some triple patterns binds variables of theirs alone
  pub binds_inside : (pattern : Algebra) (row : Row V) → IsPartial pattern row → (k : ℕ) (v : V) → binding row k ≡ Some v → Contains (vars_of pattern) k
  binds_inside pattern row is k v bound = choice_inside pattern is.list k is.choice ((is.solves.binds k).0 (IsSome-from_value (binding row k) v bound))

  -- and all of the root's
  pub binds_root : (pattern : Algebra) (row : Row V) → IsPartial pattern row → (k : ℕ) → Contains (list_vars (root_patterns pattern)) k → IsSome (binding row k)
  binds_root pattern row is k at = (is.solves.binds k).1 (choice_root pattern is.list k is.choice at)

  -- ---- two sides

  -- rows that agree on what both bind
  pub record Agree (r s : Row V) : Type 0 where
    pub along : (k : ℕ) (v w : V) → binding r k ≡ Some v → binding s k ≡ Some w → v ≡ w

  -- have cells that agree
  cells_from_agree : (a b : Option V) → ((v w : V) → a ≡ Some v → b ≡ Some w → v ≡ w) → cells_agree test a b ≡ true
  cells_from_agree None b h = refl
  cells_from_agree (Some v) None h = refl
  cells_from_agree (Some v) (Some w) h = (tells v w).1 (h v w refl refl)

  -- and a merge
  pub record HasMerge (r s : Row V) : Type 0 where
    pub row : Row V
    pub is : merged test r s ≡ Some row
    pub width : HasWidth n row
    pub union : IsUnion r s row

  pub merge_of : (r s : Row V) → HasWidth n r → HasWidth n s → are_compatible test r s ≡ true → HasMerge r s
  merge_of r s hr hs compatible =
      let is : merged test r s ≡ Some (merge r s) = cond-true (are_compatible test r s) (Some (merge r s)) None compatible in
      let u = union_from_merged test tells n r s (merge r s) hr hs is in
      record { row = merge r s; is = is; width = u.0; union = u.1 }

  pub merge_of_agreeing : (r s : Row V) → HasWidth n r → HasWidth n s → Agree r s → HasMerge r s
  merge_of_agreeing r s hr hs agree =
      let long : length r ≡ length s = omega arith in
      merge_of r s hr hs (compatible_from test r s long (λ k. cells_from_agree (binding r k) (binding s k) (agree.along k)))

  module _ (left right : Algebra) (share : ShareRoots left right) where
    -- rows that extend partial solutions of both sides which have a union agree
    pub agree_extended : (r s q e f : Row V) → IsPartial left r → IsPartial right s → IsUnion r s q → IsPartial left e → IsPartial right f → Extends e r → Extends f s → Agree e f
    agree_extended r s q e f is_r is_s u is_e is_f over_r over_s = record {
      along = λ k v w at_e at_f.
          let in_left = binds_inside left e is_e k v at_e in
          let in_right = binds_inside right f is_f k w at_f in
          let first = value_from_IsSome (binding r k) (binds_root left r is_r k (share.in_left k in_left in_right)) in
          let second = value_from_IsSome (binding s k) (binds_root right s is_s k (share.in_right k in_left in_right)) in
          let a = over_r k first.0 first.1 in
          let b = over_s k second.0 second.1 in
          let c = u.left k first.0 first.1 in
          let d = u.right k second.0 second.1 in
          cc;
    }

    -- what of a union is of the left side alone is bound by its left row
    pub extends_left : (r s q e : Row V) → IsPartial left r → IsPartial right s → IsUnion r s q → IsPartial left e → Extends q e → Extends r e
    extends_left r s q e is_r is_s u is_e over k v at_e =
        let at_q = over k v at_e in
        elim (cases_Option (binding r k)) as (λ _. binding r k ≡ Some v) [
          | inl first ↦ (let kept = u.left k first.0 first.1 in cc)
          | inr none ↦ elim (cases_Option (binding s k)) as (λ _. binding r k ≡ Some v) [
            | inl second ↦
                (let bound = binds_root left r is_r k (share.in_left k (binds_inside left e is_e k v at_e) (binds_inside right s is_s k second.0 second.1)) in
                let some = value_from_IsSome (binding r k) bound in
                let wrong = some.1 in
                cc)
            | inr nothing ↦ (let empty = u.no_more k none nothing in cc)
          ]
        ]

    -- and the same of the right side
    pub extends_right : (r s q e : Row V) → IsPartial left r → IsPartial right s → IsUnion r s q → IsPartial right e → Extends q e → Extends s e
    extends_right r s q e is_r is_s u is_e over k v at_e =
        let at_q = over k v at_e in
        elim (cases_Option (binding s k)) as (λ _. binding s k ≡ Some v) [
          | inl second ↦ (let kept = u.right k second.0 second.1 in cc)
          | inr none ↦ elim (cases_Option (binding r k)) as (λ _. binding s k ≡ Some v) [
            | inl first ↦
                (let bound = binds_root right s is_s k (share.in_right k (binds_inside left r is_r k first.0 first.1) (binds_inside right e is_e k v at_e)) in
                let some = value_from_IsSome (binding s k) bound in
                let wrong = some.1 in
                cc)
            | inr nothing ↦ (let empty = u.no_more k nothing none in cc)
          ]
        ]

  -- ---- rows without a partner

  -- a row that has a merge with one of the right side has a partner
  pub has_partner : (right : List (Row V)) (r s q : Row V) → Contains right s → merged test r s ≡ Some q → list_any (are_compatible test r) right ≡ true
  has_partner right r s q at is =
      let compatible = (cond_some (are_compatible test r s) (merge r s) q is).0 in
      list_any_at (are_compatible test r) right at.0 s at.1 (subst (λ s. are_compatible test r s ≡ true) (sym at.2) compatible)

  -- a row without partner is of the left side
  pub alone_left : (left right : List (Row V)) (r : Row V) → Contains (without_partner test left right) r → Contains left r
  alone_left left right r at = (filter-Contains (λ r. not (list_any (are_compatible test r) right)) left r at).0

  -- and has a merge with none of the right side
  pub not_alone : (left right : List (Row V)) (r s q : Row V) → Contains (without_partner test left right) r → Contains right s → merged test r s ≡ Some q → ⊥
  not_alone left right r s q at at_s is =
      let passes = (filter-Contains (λ r. not (list_any (are_compatible test r) right)) left r at).1 in
      let none = not-true (list_any (are_compatible test r) right) passes in
      let some = has_partner right r s q at_s is in
      cc

  -- a row of the left side has a partner or is without one
  pub partner_or_alone : (left right : List (Row V)) (r : Row V) → Contains left r → ((s : Row V) × Contains right s × (are_compatible test r s ≡ true)) ⊎ Contains (without_partner test left right) r
  partner_or_alone left right r at =
      elim (list_any (are_compatible test r) right) as (λ b. list_any (are_compatible test r) right ≡ b → ((s : Row V) × Contains right s × (are_compatible test r s ≡ true)) ⊎ Contains (without_partner test left right) r) [
        | true ↦ λ e. (let some = Any-from_list_any (are_compatible test r) right e in inl (some.1, (some.0, some.2, some.3), some.4))
        | false ↦ λ e. inr (Contains-filter (λ r. not (list_any (are_compatible test r) right)) left r at (ap not e))
      ] refl

  -- ---- the three facts

  -- each row is that of a partial solution
  pub row_is_partial : (pattern : Algebra) → HasVarsBelow n pattern → (e : Row V) → Contains (rows pattern) e → IsPartial pattern e
  row_is_partial (Bgp patterns) below e at = record { list = patterns; choice = refl; solves = basic-to patterns e below ((basic-exactly interpretation tells n patterns triples below e).0 at) }
  row_is_partial (Join left right) below e at =
      let from = join-Contains test (rows left) (rows right) e at in
      let r = row_is_partial left (All-left (λ v. v < n) (vars_of left) (vars_of right) below) from.0 from.2 in
      let s = row_is_partial right (All-right (λ v. v < n) (vars_of left) (vars_of right) below) from.1 from.3 in
      let u = union_from_merged test tells n from.0 from.1 e r.solves.width s.solves.width from.4 in
      record {
        list = r.list ++ s.list;
        choice = record { first = r.list; second = s.list; is_first = r.choice; is_second = s.choice; both = refl };
        solves = solution-union interpretation n matches tells r.list s.list from.0 from.1 e r.solves s.solves u.0 u.1;
      }
  row_is_partial (LeftJoin left right) below e at = elim (Contains-append_cases (join test (rows left) (rows right)) (without_partner test (rows left) (rows right)) e at) as (λ _. IsPartial (LeftJoin left right) e) [
    | inl joined ↦
        let from = join-Contains test (rows left) (rows right) e joined in
        let r = row_is_partial left (All-left (λ v. v < n) (vars_of left) (vars_of right) below) from.0 from.2 in
        let s = row_is_partial right (All-right (λ v. v < n) (vars_of left) (vars_of right) below) from.1 from.3 in
        let u = union_from_merged test tells n from.0 from.1 e r.solves.width s.solves.width from.4 in
        record {
          list = r.list ++ s.list;
          choice = inr (record { first = r.list; second = s.list; is_first = r.choice; is_second = s.choice; both = refl });
          solves = solution-union interpretation n matches tells r.list s.list from.0 from.1 e r.solves s.solves u.0 u.1;
        }
    | inr alone ↦
        let r = row_is_partial left (All-left (λ v. v < n) (vars_of left) (vars_of right) below) e (alone_left (rows left) (rows right) e alone) in
        record { list = r.list; choice = inl r.choice; solves = r.solves }
  ]

  -- a partial solution of both sides, as one of each and their union
  pub record IsUnionOf (left right : Algebra) (q : Row V) : Type 0 where
    pub r : Row V
    pub s : Row V
    pub is_r : IsPartial left r
    pub is_s : IsPartial right s
    pub union : IsUnion r s q

  pub union_of_both : (left right : Algebra) (list : List TriplePat) (q : Row V) → IsBothOf (IsChoice left) (IsChoice right) list → IsSolutionOf interpretation n matches list q → IsUnionOf left right q
  union_of_both left right list q both solves =
      let parts = solution-cut interpretation n matches tells both.first both.second q (subst (λ list. IsSolutionOf interpretation n matches list q) both.both solves) in
      record {
        r = parts.r;
        s = parts.s;
        is_r = record { list = both.first; choice = both.is_first; solves = parts.is_r };
        is_s = record { list = both.second; choice = both.is_second; solves = parts.is_s };
        union = parts.union;
      }

  -- a row that extends a partial solution
  pub record IsCovered (pattern : Algebra) (q : Row V) : Type 0 where
    pub row : Row V
    pub there : Contains (rows pattern) row
    pub over : Extends row q

  -- rows over both sides of a union have a merge, which extends it
  cover_both : (left right : Algebra) → ShareRoots left right → HasVarsBelow n left → HasVarsBelow n right → (q : Row V) (both : IsUnionOf left right q) → IsCovered left both.r → IsCovered right both.s →
      (row : Row V) × Contains (join test (rows left) (rows right)) row × Extends row q
  cover_both left right share below_left below_right q both over_r over_s =
      let e = over_r.row in
      let f = over_s.row in
      let is_e = row_is_partial left below_left e over_r.there in
      let is_f = row_is_partial right below_right f over_s.there in
      let agree = agree_extended left right share both.r both.s q e f both.is_r both.is_s both.union is_e is_f over_r.over over_s.over in
      let whole = merge_of_agreeing e f is_e.solves.width is_f.solves.width agree in (
        whole.row,
        Contains-join test (rows left) (rows right) e f whole.row over_r.there over_s.there whole.is,
        Extends-union both.r both.s q whole.row both.union
            (Extends-trans whole.row e both.r whole.union.left over_r.over)
            (Extends-trans whole.row f both.s whole.union.right over_s.over),
      )

  -- each partial solution is extended by a row
  pub partial_is_covered : (pattern : Algebra) (outside : List ℕ) → IsFineBeside outside pattern → HasVarsBelow n pattern → (q : Row V) → IsPartial pattern q → IsCovered pattern q
  partial_is_covered (Bgp patterns) outside fine below q is =
      let solves = subst (λ list. IsSolutionOf interpretation n matches list q) is.choice is.solves in
      record { row = q; there = (basic-exactly interpretation tells n patterns triples below q).1 (basic-from patterns q solves); over = Extends-refl q }
  partial_is_covered (Join left right) outside fine below q is =
      let fine_left = fine-join_left outside left right fine in
      let fine_right = fine-join_right outside left right fine in
      let below_left = All-left (λ v. v < n) (vars_of left) (vars_of right) below in
      let below_right = All-right (λ v. v < n) (vars_of left) (vars_of right) below in
      let both = union_of_both left right is.list q is.choice is.solves in
      let whole = cover_both left right (sides_share outside left right fine_left fine_right) below_left below_right q both
      (partial_is_covered left (outside ++ vars_of right) fine_left below_left both.r both.is_r) (partial_is_covered right (outside ++ vars_of left) fine_right below_right both.s both.is_s) in
      record { row = whole.0; there = whole.1; over = whole.2 }
  partial_is_covered (LeftJoin left right) outside fine below q is =
      let fine_left = fine-left_join_left outside left right fine in
      let fine_right = fine-left_join_right outside left right fine in
      let below_left = All-left (λ v. v < n) (vars_of left) (vars_of right) below in
      let below_right = All-right (λ v. v < n) (vars_of left) (vars_of right) below in
      let joined = join test (rows left) (rows right) in
      let alone = without_partner test (rows left) (rows right) in
      elim is.choice as (λ _. IsCovered (LeftJoin left right) q) [
        | inl choice ↦
            let over = partial_is_covered left (outside ++ vars_of right) fine_left below_left q (record { list = is.list; choice = choice; solves = is.solves }) in
            elim (partner_or_alone (rows left) (rows right) over.row over.there) as (λ _. IsCovered (LeftJoin left right) q) [
              | inl partner ↦
                  let s = partner.0 in
                  let is_r = row_is_partial left below_left over.row over.there in
                  let is_s = row_is_partial right below_right s partner.1 in
                  let whole = merge_of over.row s is_r.solves.width is_s.solves.width partner.2 in
                  record {
                    row = whole.row;
                    there = Contains-append_left joined alone whole.row (Contains-join test (rows left) (rows right) over.row s whole.row over.there partner.1 whole.is);
                    over = Extends-trans whole.row over.row q whole.union.left over.over;
                  }
              | inr by_itself ↦ record { row = over.row; there = Contains-append_right joined alone over.row by_itself; over = over.over }
            ]
        | inr choice ↦
            let both = union_of_both left right is.list q choice is.solves in
            let whole = cover_both left right (sides_share outside left right fine_left fine_right) below_left below_right q both
            (partial_is_covered left (outside ++ vars_of right) fine_left below_left both.r both.is_r) (partial_is_covered right (outside ++ vars_of left) fine_right below_right both.s both.is_s) in
            record { row = whole.0; there = Contains-append_left joined alone whole.0 whole.1; over = whole.2 }
      ]
