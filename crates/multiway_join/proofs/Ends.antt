-- The ends of a row at some triple patterns. Where the row solves some triple patterns, each end that is a row solves
-- these too and extends it; and each row that does so is an end.
use Rattle.std.proofs.Common.{◌≡◌, ◌⊎◌, ℕ, ◌<◌, ◌++◌, inl, inr, List, [], ◌∷◌, flat_map, Contains, Option, Some, None, option_to_list, append-nil, append_assoc, sym, ◌∙◌, subst}
use Rattle.std.proofs.lemmas.List.Elements.{All-nil, All-cons, All-head}
use Rattle.bm_term.proofs.Elements.{Contains-head, Contains-tail, Contains-nil, Contains-single}
use Rattle.alg_model.specs.declared.pattern.TriplePat.{TriplePat}
use Rattle.alg_model.specs.Row.{Row, binding, Extends}
use Rattle.alg_model.specs.Pattern.{triple_vars}
use Rattle.alg_model.specs.Eval.{Interpretation, match_of, matches_of}
use Rattle.alg_model.specs.Solution.{BindsJust, TellsValues}
use Rattle.alg_model.proofs.BasicPatterns.{rows_of_match}
use Rattle.alg_model.proofs.Cells.{value_from_IsSome, IsSome-from_value, IsUnion, union_from_merged, merged_from_union}
use Rattle.alg_model.proofs.Joins.{determined, merges-Contains, Contains-merges}
use Rattle.alg_model.proofs.Lists.{filter_map_as_flat_map, Contains-flat_map, source-flat_map}
use Rattle.pattern_tree.specs.Solution.{Family, IsSolutionOf}
use Rattle.pattern_tree.proofs.Choices.{list_vars, in_first}
use Rattle.pattern_tree.proofs.Unions.{IsMade, solution-union, solution-cut, Extends-trans}
use Rattle.multiway_join.specs.FlatRows.{or_dead_end, continued, ends}

-- ---- lists of ends

-- an end of a list is an end of it with a dead end for nothing
pub live : {Y : Type 0} (list : List (Option Y)) (end : Option Y) → Contains list end → Contains (or_dead_end list) end
live [] end at = absurd (Contains-nil end at)
live (first ∷ list) end at = at

-- and an end that is no dead end is one of the list
pub from_live : {Y : Type 0} (list : List (Option Y)) (y : Y) → Contains (or_dead_end list) (Some y) → Contains list (Some y)
from_live [] y at = let is = Contains-single None (Some y) at in absurd (cc)
from_live (first ∷ list) y at = at

-- there is a dead end, or another
some_end : {Y : Type 0} (list : List (Option Y)) → ((y : Y) × Contains (or_dead_end list) (Some y)) ⊎ Contains (or_dead_end list) None
some_end [] = inr (Contains-head None [])
some_end (Some y ∷ list) = inl (y, Contains-head (Some y) list)
some_end (None ∷ list) = inr (Contains-head None list)

module _ {V X : Type 0} (interpretation : Interpretation V X) (tells : TellsValues interpretation) (n : ℕ) (family : Family X) where
  -- the row solves these triple patterns
  abbrev pub Solves : List TriplePat → Row V → Type 0
  Solves patterns row = IsSolutionOf interpretation n family patterns row

  -- each variable of the triple patterns is below n
  abbrev pub VarsBelow : List TriplePat → Type 0
  VarsBelow patterns = (pattern : TriplePat) (var : ℕ) → Contains patterns pattern → Contains (triple_vars pattern) var → var < n

  -- a row that solves more, and binds what a row does, extends each row of it that solves less
  pub between : (first second : List TriplePat) (row longer whole : Row V) → Solves first row → Solves (first ++ second) longer → Extends whole row → Extends whole longer → Extends longer row
  between first second row longer whole is is' over over' k value bound =
      let among = (is.binds k).0 (IsSome-from_value (binding row k) value bound) in
      let some = value_from_IsSome (binding longer k) ((is'.binds k).1 (in_first first second k among)) in
      let one = over k value bound in
      let other = over' k some.0 some.1 in
      let same : Some some.0 ≡ Some value = cc in
      some.1 ∙ same

  -- ---- one triple pattern

  -- what continues a row solves the triple pattern too
  pub continued_sound : (before : List TriplePat) (p : TriplePat) (row q : Row V) → VarsBelow (p ∷ []) → Solves before row → Contains (continued interpretation n family p row) q → Solves (before ++ p ∷ []) q × Extends q row
  continued_sound before p row q below is at =
      let from = merges-Contains interpretation.same row (matches_of interpretation n p (family p)) q at in
      let s = from.0 in
      let source = source-flat_map (λ t. option_to_list (match_of interpretation n p t)) (family p) s
      (subst (λ rows. Contains rows s) (filter_map_as_flat_map (match_of interpretation n p) (family p)) from.1) in
      let t = source.0 in
      let own = (rows_of_match interpretation tells n p t (λ k among. below p k (Contains-head p []) among)).sound s source.2 in
      let among = source.1 in
      let solves : Solves (p ∷ []) s = record {
        width = own.width;
        binds = subst (BindsJust s) (sym (append-nil (triple_vars p))) own.binds;
        made = All-cons (IsMade interpretation n family s) p [] (among.0, t, among.1, among.2, own.holds) (All-nil (IsMade interpretation n family s));
      } in
      let u = union_from_merged interpretation.same tells n row s q is.width own.width from.2 in
      (solution-union interpretation n family tells before (p ∷ []) row s q is solves u.0 u.1, u.1.left)

  -- and each row that does so, and extends it, continues it
  pub continued_complete : (before : List TriplePat) (p : TriplePat) (row q : Row V) → VarsBelow (p ∷ []) → Solves before row → Solves (before ++ p ∷ []) q → Extends q row → Contains (continued interpretation n family p row) q
  continued_complete before p row q below is is' over =
      let parts = solution-cut interpretation n family tells before (p ∷ []) q is' in
      let r = parts.r in
      let s = parts.s in
      let same : r ≡ row = determined n (list_vars before) r row q parts.is_r.width is.width parts.is_r.binds is.binds parts.union.left over in
      let union : IsUnion row s q = subst (λ r. IsUnion r s q) same parts.union in
      let made = All-head (IsMade interpretation n family s) p [] parts.is_s.made in
      let t = made.1 in
      let there = (rows_of_match interpretation tells n p t (λ k among. below p k (Contains-head p []) among)).complete s (record {
        width = parts.is_s.width;
        binds = subst (BindsJust s) (append-nil (triple_vars p)) parts.is_s.binds;
        holds = made.4;
      }) in
      let among = Contains-flat_map (λ t. option_to_list (match_of interpretation n p t)) (family p) t s (made.0, made.2, made.3) there in
      Contains-merges interpretation.same row (matches_of interpretation n p (family p)) s q
      (subst (λ rows. Contains rows s) (sym (filter_map_as_flat_map (match_of interpretation n p) (family p))) among)
      (merged_from_union interpretation.same tells n row s q is.width parts.is_s.width is'.width union)

  -- ---- all of them

  abbrev Ends : List TriplePat → Row V → List (Option (Row V))
  Ends patterns row = ends interpretation n family patterns row

  pub ends_sound : (before patterns : List TriplePat) (row q : Row V) → VarsBelow patterns → Solves before row → Contains (Ends patterns row) (Some q) → Solves (before ++ patterns) q × Extends q row
  ends_sound before [] row q below is at =
      let one = Contains-single (Some row) (Some q) at in
      let same : row ≡ q = cc in
      (subst (λ list. Solves list q) (sym (append-nil before)) (subst (Solves before) same is), subst (λ q. Extends q row) same (λ k value bound. bound))
  ends_sound before (p ∷ patterns) row q below is at =
      let from = source-flat_map (Ends patterns) (continued interpretation n family p row) (Some q) (from_live (flat_map (Ends patterns) (continued interpretation n family p row)) q at) in
      let e = from.0 in
      let first = continued_sound before p row e (λ r k r_at among. below p k (Contains-head p patterns) (subst (λ r. Contains (triple_vars r) k) (sym (Contains-single p r r_at)) among)) is from.1 in
      let rest = ends_sound (before ++ p ∷ []) patterns e q (λ r k r_at among. below r k (Contains-tail p patterns r r_at) among) first.0 from.2 in
      (subst (λ list. Solves list q) (append_assoc before (p ∷ []) patterns) rest.0, Extends-trans q e row rest.1 first.1)

  pub ends_complete : (before patterns : List TriplePat) (row q : Row V) → VarsBelow patterns → Solves before row → Solves (before ++ patterns) q → Extends q row → Contains (Ends patterns row) (Some q)
  ends_complete before [] row q below is is' over =
      let all = subst (λ list. Solves list q) (append-nil before) is' in
      let same : row ≡ q = determined n (list_vars before) row q q is.width all.width is.binds all.binds over (λ k value bound. bound) in
      subst (λ q. Contains (Some row ∷ []) (Some q)) same (Contains-head (Some row) [])
  ends_complete before (p ∷ patterns) row q below is is' over =
      let parts = solution-cut interpretation n family tells (before ++ p ∷ []) patterns q (subst (λ list. Solves list q) (sym (append_assoc before (p ∷ []) patterns)) is') in
      let e = parts.r in
      let further = between before (p ∷ []) row e q is parts.is_r over parts.union.left in
      let first = continued_complete before p row e (λ r k r_at among. below p k (Contains-head p patterns) (subst (λ r. Contains (triple_vars r) k) (sym (Contains-single p r r_at)) among)) is parts.is_r further in
      let rest = ends_complete (before ++ p ∷ []) patterns e q (λ r k r_at among. below r k (Contains-tail p patterns r r_at) among) parts.is_r
      (subst (λ list. Solves list q) (sym (append_assoc before (p ∷ []) patterns)) is') parts.union.left in
      live (flat_map (Ends patterns) (continued interpretation n family p row)) (Some q) (Contains-flat_map (Ends patterns) (continued interpretation n family p row) e (Some q) first rest)

  -- a row comes to some end
  pub ends_cases : (patterns : List TriplePat) (row : Row V) → ((q : Row V) × Contains (Ends patterns row) (Some q)) ⊎ Contains (Ends patterns row) None
  ends_cases [] row = inl (row, Contains-head (Some row) [])
  ends_cases (p ∷ patterns) row = some_end (flat_map (Ends patterns) (continued interpretation n family p row))
