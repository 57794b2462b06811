-- The ends of a row at a node in join order, over a consistent family of matches: where some triple continues the row at the
-- first triple pattern there is no dead end, and else the one dead end is all. And no end comes twice.
use Rattle.std.proofs.Common.{◌≡◌, ◌≢◌, ◌⊎◌, inl, inr, ℕ, ◌<◌, ◌++◌, List, [], ◌∷◌, length, get_or, map, flat_map, AllPairs, Contains, Option, Some, None, option_to_list, append-nil, append_assoc, refl, sym, ◌∙◌, ap, subst, arith}
use Rattle.std.specs.Prelude.{slice_get}
use Rattle.std.proofs.lemmas.List.{get_or_append_left, get_or_at, length-append}
use Rattle.std.proofs.lemmas.List.Elements.{All-nil, All-cons, All-contains, Contains-get_or, Contains-append_left, Contains-append_right}
use Rattle.bm_term.proofs.Elements.{Contains-head, Contains-nil, Contains-single}
use Rattle.alg_model.specs.declared.pattern.TriplePat.{TriplePat}
use Rattle.alg_model.specs.Row.{Row, binding, merged}
use Rattle.alg_model.specs.Pattern.{triple_vars}
use Rattle.alg_model.specs.VarSet.{triple_set}
use Rattle.alg_model.specs.Eval.{Interpretation, match_of, matches_of}
use Rattle.alg_model.specs.Solution.{BindsJust, Makes, TellsValues}
use Rattle.alg_model.proofs.BasicPatterns.{rows_of_match}
use Rattle.alg_model.proofs.Cells.{IsSome-from_value, union_from_merged}
use Rattle.alg_model.proofs.Joins.{determined}
use Rattle.alg_model.proofs.Lists.{filter_map_as_flat_map, option-Contains, Contains-flat_map, source-flat_map, AllPairs-option, once-flat_map}
use Rattle.join_graph.specs.Core.{IsForest}
use Rattle.join_graph.specs.Members.{PatternHas, OccursIn}
use Rattle.join_graph.proofs.Members.{OccursBelow}
use Rattle.pattern_tree.specs.Consistent.{TakesValue, IsConsistent}
use Rattle.pattern_tree.specs.Solution.{Family, IsSolutionOf}
use Rattle.pattern_tree.specs.Standing.{StandsAt, itself}
use Rattle.pattern_tree.specs.Tree.{TreeNode}
use Rattle.pattern_tree.proofs.Choices.{list_vars, in_either}
use Rattle.pattern_tree.proofs.Evaluation.{Agree, merge_of_agreeing}
use Rattle.pattern_tree.proofs.Pruning.{binds_value, takes_some}
use Rattle.pattern_tree.proofs.Unions.{IsMade, solution-union}
use Rattle.multiway_join.specs.FlatRows.{or_dead_end, continued, ends}
use Rattle.multiway_join.specs.JoinOrder.{AreInOrder}
use Rattle.multiway_join.proofs.Ends.{VarsBelow, continued_sound, continued_complete, ends_sound, ends_cases}
use Rattle.multiway_join.proofs.Nodes.{stands_here}
use Rattle.multiway_join.proofs.Sound.{TreeVarsBelow}
use Rattle.pruning_laws.specs.Matches.{IsMatch, AreMatches}
use Rattle.minimality_laws.specs.SimpleTree.{sets_of}
use Rattle.minimality_laws.proofs.NodeRows.{row_of_values, values_width, values_binds, values_bound, makes_from, takes_var}
use Rattle.minimality_laws.proofs.SetVars.{told_among, told_shared, occurs_vars, has_at, at_has}
use Rattle.simple_join_laws.proofs.Linked.{IsBefore, shared_is_own, shared_is_one}

-- ---- lists of ends

-- where there is some end, a dead end is one of the list
dead_of_list : {Y : Type 0} (list : List (Option Y)) (end : Option Y) → Contains list end → Contains (or_dead_end list) None → Contains list None
dead_of_list [] end at dead = absurd (Contains-nil end at)
dead_of_list (first ∷ list) end at dead = dead

once_or_dead : {Y : Type 0} (list : List (Option Y)) → AllPairs (λ a b. a ≢ b) list → AllPairs (λ a b. a ≢ b) (or_dead_end list)
once_or_dead [] once = λ i j d lt within. absurd (omega (arith, lt, within))
once_or_dead (first ∷ list) once = once

-- ---- the row of one match

module _ {V X : Type 0} (interpretation : Interpretation V X) (n : ℕ) (family : Family X) (p : TriplePat) (triple : X) (among : Contains (family p) triple) (match : IsMatch interpretation p triple)
    (few : (v : ℕ) → Contains (triple_vars p) v → v < n) where
  value_by : (v : ℕ) → Contains (triple_vars p) v ⊎ (Contains (triple_vars p) v → ⊥) → V
  value_by v (inl at) = (takes_some interpretation p triple v at).0
  value_by v (inr out) = interpretation.subject triple

  value : ℕ → V
  value v = value_by v (told_among (triple_vars p) v)

  value_is : (v : ℕ) (x : V) → TakesValue interpretation p triple v x → value v ≡ x
  unfolding value value_by
  value_is v x takes = by (told_among (triple_vars p) v) where
    by : (told : Contains (triple_vars p) v ⊎ (Contains (triple_vars p) v → ⊥)) → value_by v told ≡ x
    by (inl at) = match.one v (takes_some interpretation p triple v at).0 x (takes_some interpretation p triple v at).1 takes
    by (inr out) = absurd (out (takes_var interpretation p triple v x takes))

  -- a row that solves the triple pattern alone, by this triple
  pub record HasMatchRow : Type 0 where
    pub row : Row V
    pub solves : IsSolutionOf interpretation n family (p ∷ []) row
    pub makes : Makes interpretation row p triple

  pub match_row : HasMatchRow
  match_row =
      let row = row_of_values n (triple_vars p) value in
      let makes = makes_from interpretation row p triple match (λ v x takes. values_bound n (triple_vars p) value few v (takes_var interpretation p triple v x takes) ∙ ap (λ x. Some x) (value_is v x takes)) in
      record {
        row = row;
        solves = record {
          width = values_width n (triple_vars p) value few;
          binds = subst (BindsJust row) (sym (append-nil (triple_vars p))) (values_binds n (triple_vars p) value few);
          made = All-cons (IsMade interpretation n family row) p [] (among.0, triple, among.1, among.2, makes) (All-nil (IsMade interpretation n family row));
        };
        makes = makes;
      }

-- ---- no row is continued twice to the same

module _ {V X : Type 0} (interpretation : Interpretation V X) (tells : TellsValues interpretation) (n : ℕ) (family : Family X) (p : TriplePat) (few : (v : ℕ) → Contains (triple_vars p) v → v < n)
    (once : AllPairs (λ t u. t ≢ u) (family p)) (one : (t u : X) (row : Row V) → Contains (family p) t → Contains (family p) u → Makes interpretation row p t → Makes interpretation row p u → t ≡ u) where
  abbrev rows : X → List (Row V)
  rows t = option_to_list (match_of interpretation n p t)

  matches_flat : matches_of interpretation n p (family p) ≡ flat_map rows (family p)
  matches_flat = filter_map_as_flat_map (match_of interpretation n p) (family p)

  matches_once : AllPairs (λ r s. r ≢ s) (matches_of interpretation n p (family p))
  matches_once = subst (AllPairs (λ r s. r ≢ s)) (sym matches_flat) (once-flat_map rows (family p) once (λ t at. AllPairs-option (λ r s. r ≢ s) (match_of interpretation n p t))
      (λ t u row at_t at_u at at'. one t u row at_t at_u ((rows_of_match interpretation tells n p t few).sound row at).holds ((rows_of_match interpretation tells n p u few).sound row at').holds))

  pub continued_once : (row : Row V) → length row ≡ n → AllPairs (λ r s. r ≢ s) (continued interpretation n family p row)
  continued_once row width = subst (AllPairs (λ r s. r ≢ s)) (sym (filter_map_as_flat_map (merged interpretation.same row) (matches_of interpretation n p (family p))))
      (once-flat_map (λ s. option_to_list (merged interpretation.same row s)) (matches_of interpretation n p (family p)) matches_once (λ s at. AllPairs-option (λ r s. r ≢ s) (merged interpretation.same row s)) apart) where
        own : (s : Row V) → Contains (matches_of interpretation n p (family p)) s → (length s ≡ n) × BindsJust s (triple_vars p)
        own s at =
            let from = source-flat_map rows (family p) s (subst (λ l. Contains l s) matches_flat at) in
            let is = (rows_of_match interpretation tells n p from.0 few).sound s from.2 in
            (is.width, is.binds)

        apart : (r s q : Row V) → Contains (matches_of interpretation n p (family p)) r → Contains (matches_of interpretation n p (family p)) s → Contains (option_to_list (merged interpretation.same row r)) q → Contains (option_to_list (merged interpretation.same row s)) q → r ≡ s
        apart r s q at_r at_s is is' =
            let a = own r at_r in
            let b = own s at_s in
            let u = union_from_merged interpretation.same tells n row r q width a.0 (option-Contains (merged interpretation.same row r) q is) in
            let w = union_from_merged interpretation.same tells n row s q width b.0 (option-Contains (merged interpretation.same row s) q is') in
            determined n (triple_vars p) r s q a.0 b.0 a.1 b.1 u.1.right w.1.right

-- ---- along the triple patterns of a node

module _ {V X : Type 0} (interpretation : Interpretation V X) (tells : TellsValues interpretation) (n : ℕ) (tree : List TreeNode) (few : TreeVarsBelow n tree) (left : Family X) (consistent : IsConsistent interpretation tree left)
    (matches : AreMatches interpretation tree left) (k : ℕ) (node : TreeNode) (place : slice_get tree k ≡ Some node) (counts : TriplePat → ℕ) (seen : List ℕ) (order : AreInOrder counts seen node.patterns)
    (one : (v w : ℕ) → OccursIn (sets_of node) v → Contains seen v → OccursIn (sets_of node) w → Contains seen w → v ≡ w) (forest : IsForest (sets_of node))
    (before : List TriplePat) (before_seen : (v : ℕ) → Contains (list_vars before) v → Contains seen v) where
  abbrev Solves : List TriplePat → Row V → Type 0
  Solves list row = IsSolutionOf interpretation n left list row

  stands : (p : TriplePat) → Contains node.patterns p → StandsAt tree k p
  stands p at = stands_here tree k node place p at

  below : (p : TriplePat) → Contains node.patterns p → (v : ℕ) → Contains (triple_vars p) v → v < n
  below p at v among = few k p v (stands p at) among

  one_below : (p : TriplePat) → Contains node.patterns p → VarsBelow interpretation tells n left (p ∷ [])
  one_below p at q v is among = below p at v (subst (λ q. Contains (triple_vars q) v) (sym (Contains-single p q is)) among)

  module _ (taken rest : List TriplePat) (p : TriplePat) (is : taken ++ p ∷ rest ≡ node.patterns) where
    here_has : (v : ℕ) → Contains (triple_vars p) v → PatternHas (sets_of node) (length taken) v
    here_has v at = subst (λ list. PatternHas (map triple_set list) (length taken) v) is
        (at_has (taken ++ p ∷ rest) p (length taken) v (omega (arith, length-append taken (p ∷ rest))) (subst (λ q. Contains (triple_vars q) v) (sym (get_or_at taken p rest p (length taken) refl)) at))

    taken_below : (v : ℕ) → Contains (list_vars taken) v → OccursBelow (sets_of node) (length taken) v
    taken_below v at =
        let occurs = (occurs_vars taken p v).1 at in
        let there = has_at taken p occurs.0 v occurs.1 in
        let low = there.0 in (
          occurs.0,
          low,
          subst (λ list. PatternHas (map triple_set list) occurs.0 v) is
              (at_has (taken ++ p ∷ rest) p occurs.0 v (omega (arith, low, length-append taken (p ∷ rest))) (subst (λ q. Contains (triple_vars q) v) (sym (get_or_append_left taken (p ∷ rest) p occurs.0 low)) there.1)),
        )

    below_taken : (v : ℕ) → OccursBelow (sets_of node) (length taken) v → Contains (list_vars taken) v
    below_taken v occurs =
        let low = occurs.1 in
        let there = has_at (taken ++ p ∷ rest) p occurs.0 v (subst (λ list. PatternHas (map triple_set list) occurs.0 v) (sym is) occurs.2) in
        Contains-flat_map triple_vars taken (get_or taken occurs.0 p) v (Contains-get_or taken occurs.0 p low) (subst (λ q. Contains (triple_vars q) v) (get_or_append_left taken (p ∷ rest) p occurs.0 low) there.1)

    in_node : Contains node.patterns p
    in_node = subst (λ list. Contains list p) is (Contains-append_right taken (p ∷ rest) p (Contains-head p rest))

    taken_in_node : (q : TriplePat) → Contains taken q → Contains node.patterns q
    taken_in_node q at = subst (λ list. Contains list q) is (Contains-append_left taken (p ∷ rest) q at)

    module _ (row : Row V) (solves : Solves (before ++ taken) row) where
      -- what the row binds is of the nodes before, or of the triple patterns that are taken
      is_before : (v : ℕ) → Contains (list_vars (before ++ taken)) v → IsBefore seen node.patterns (length taken) v
      is_before v at = elim (in_either before taken v at) as (λ _. IsBefore seen node.patterns (length taken) v) [ inl old ↦ inl (before_seen v old) | inr own ↦ inr (taken_below v own) ]

      -- a triple whose row agrees with this one continues it
      by_triple : (t : X) → Contains (left p) t → ((s : Row V) → Makes interpretation s p t → (v : ℕ) (x y : V) → Contains (list_vars (before ++ taken)) v → Contains (triple_vars p) v → binding row v ≡ Some x → binding s v ≡ Some y → x ≡ y) →
          (q : Row V) × Contains (continued interpretation n left p row) q
      by_triple t at same =
          let own = match_row interpretation n left p t at (matches k p t (stands p in_node) at) (below p in_node) in
          let agree : Agree interpretation tells n [] row own.row = record {
            along = λ v x y at_row at_own. same own.row own.makes v x y ((solves.binds v).0 (IsSome-from_value (binding row v) x at_row))
                (subst (λ vars. Contains vars v) (append-nil (triple_vars p)) ((own.solves.binds v).0 (IsSome-from_value (binding own.row v) y at_own))) at_row at_own;
          } in
          let both = merge_of_agreeing interpretation tells n [] row own.row solves.width own.solves.width agree in
          let union = solution-union interpretation n left tells (before ++ taken) (p ∷ []) row own.row both.row solves own.solves both.width both.union in
          (both.row, continued_complete interpretation tells n left (before ++ taken) p row both.row (one_below p in_node) solves union both.union.left)

      made : (q : TriplePat) → Contains taken q → IsMade interpretation n left row q
      made q at = All-contains (IsMade interpretation n left row) (before ++ taken) q solves.made (Contains-append_right before taken q at)

      by_shared : 0 < length taken → (u : ℕ) → Contains (triple_vars p) u → Contains (list_vars taken) u → (q : Row V) × Contains (continued interpretation n left p row) q
      by_shared some u at at_taken =
          let from = source-flat_map triple_vars taken u at_taken in
          let t = made from.0 from.1 in
          let takes = takes_some interpretation from.0 t.1 u from.2 in
          let found = consistent.values k k from.0 p t.1 u takes.0 (stands from.0 (taken_in_node from.0 from.1)) (stands p in_node) itself (t.0, t.2, t.3) takes.1 at in
          by_triple found.0 found.1 (λ s makes v x y at_row at_p is_x is_y.
          let is_u = shared_is_one counts seen node.patterns order one forest (length taken) u v some (here_has u at) (inr (taken_below u at_taken)) (here_has v at_p) (is_before v at_row) in
          same u v x y takes.0 s is_u (binds_value interpretation row from.0 t.1 u takes.0 t.4 takes.1) (binds_value interpretation s p found.0 u takes.0 makes found.2) is_x is_y) where
            same : (u v : ℕ) (x y a : V) (s : Row V) → u ≡ v → binding row u ≡ Some a → binding s u ≡ Some a → binding row v ≡ Some x → binding s v ≡ Some y → x ≡ y
            same u v x y a s e at_row at_s is_x is_y = cc

      by_any : 0 < length taken → ((u : ℕ) → Contains (triple_vars p) u → Contains (list_vars taken) u → ⊥) → (q : Row V) × Contains (continued interpretation n left p row) q
      by_any some none =
          let first = get_or taken 0 p in
          let at = Contains-get_or taken 0 p some in
          let t = made first at in
          with_list first at t.1 (t.0, t.2, t.3) (left p) refl where
            with_list : (q : TriplePat) → Contains taken q → (t : X) → Contains (left q) t → (list : List X) → left p ≡ list → (q : Row V) × Contains (continued interpretation n left p row) q
            with_list q at t among [] e = absurd (Contains-nil t (subst (λ l. Contains l t) (consistent.emptied k k q p (stands q (taken_in_node q at)) (stands p in_node) itself e) among))
            with_list q at t among (s ∷ list) e = by_triple s (subst (λ l. Contains l s) (sym e) (Contains-head s list)) (λ row' makes v x y at_row at_p is_x is_y.
                absurd (none v at_p (below_taken v (shared_is_own counts seen node.patterns order one (length taken) v some (here_has v at_p) (is_before v at_row)))))

      -- so a row behind the first triple pattern goes on
      goes_on : 0 < length taken → (q : Row V) × Contains (continued interpretation n left p row) q
      goes_on some = elim (told_shared (triple_vars p) (list_vars taken)) as (λ _. (q : Row V) × Contains (continued interpretation n left p row) q) [
        | inl shared ↦ by_shared some shared.0 shared.1 shared.2
        | inr none ↦ by_any some none
      ]

      -- and solves the next one too
      solves_more : (q : Row V) → Contains (continued interpretation n left p row) q → Solves (before ++ (taken ++ p ∷ [])) q
      solves_more q at = subst (λ list. Solves list q) (append_assoc before taken (p ∷ [])) (continued_sound interpretation tells n left (before ++ taken) p row q (one_below p in_node) solves at).0

  more_taken : (taken rest : List TriplePat) (p : TriplePat) → taken ++ p ∷ rest ≡ node.patterns → (taken ++ p ∷ []) ++ rest ≡ node.patterns
  more_taken taken rest p is = append_assoc taken (p ∷ []) rest ∙ is

  one_more : (taken : List TriplePat) (p : TriplePat) → 0 < length (taken ++ p ∷ [])
  one_more taken p = omega (arith, length-append taken (p ∷ []))

  -- a row comes to some end
  some_end : (rest : List TriplePat) (row : Row V) → (end : Option (Row V)) × Contains (ends interpretation n left rest row) end
  some_end rest row = elim (ends_cases interpretation tells n left rest row) as (λ _. (end : Option (Row V)) × Contains (ends interpretation n left rest row) end) [ inl on ↦ (Some on.0, on.1) | inr dead ↦ (None, dead) ]

  -- so a dead end comes from a row that goes on, if one does
  dead_source : (rest : List TriplePat) (p : TriplePat) (row q : Row V) → Contains (continued interpretation n left p row) q → Contains (ends interpretation n left (p ∷ rest) row) None →
      (e : Row V) × Contains (continued interpretation n left p row) e × Contains (ends interpretation n left rest e) None
  dead_source rest p row q at dead =
      let end = some_end rest q in
      let all = flat_map (ends interpretation n left rest) (continued interpretation n left p row) in
      source-flat_map (ends interpretation n left rest) (continued interpretation n left p row) None
      (dead_of_list all end.0 (Contains-flat_map (ends interpretation n left rest) (continued interpretation n left p row) q end.0 at end.1) dead)

  -- behind the first triple pattern there is no dead end
  alive : (taken rest : List TriplePat) (row : Row V) → taken ++ rest ≡ node.patterns → 0 < length taken → Solves (before ++ taken) row → Contains (ends interpretation n left rest row) None → ⊥
  alive taken [] row is some solves dead = (let wrong = Contains-single (Some row) None dead in cc)
  alive taken (p ∷ rest) row is some solves dead =
      let on = goes_on taken rest p is row solves some in
      let source = dead_source rest p row on.0 on.1 dead in
      alive (taken ++ p ∷ []) rest source.0 (more_taken taken rest p is) (one_more taken p) (solves_more taken rest p is row solves source.0 source.1) source.2

  -- the ends have no dead end, or are one dead end
  pub clean_ends : (patterns : List TriplePat) → patterns ≡ node.patterns → (row : Row V) → Solves before row →
      (Contains (ends interpretation n left patterns row) None → ⊥) ⊎ (ends interpretation n left patterns row ≡ None ∷ [])
  clean_ends [] is row solves = inl (λ dead. let wrong = Contains-single (Some row) None dead in cc)
  clean_ends (p ∷ rest) is row solves = by (continued interpretation n left p row) refl where
    whole : Solves (before ++ []) row
    whole = subst (λ list. Solves list row) (sym (append-nil before)) solves

    by : (list : List (Row V)) → continued interpretation n left p row ≡ list → (Contains (ends interpretation n left (p ∷ rest) row) None → ⊥) ⊎ (ends interpretation n left (p ∷ rest) row ≡ None ∷ [])
    by [] e = inr (ap (λ list. or_dead_end (flat_map (ends interpretation n left rest) list)) e)
    by (q ∷ list) e = inl (λ dead.
        let source = dead_source rest p row q (subst (λ list. Contains list q) (sym e) (Contains-head q list)) dead in
        alive (p ∷ []) rest source.0 is (omega arith) (solves_more [] rest p is row whole source.0 source.1) source.2)

  -- ---- no end comes twice

  module _ (once : (p : TriplePat) → Contains node.patterns p → AllPairs (λ t u. t ≢ u) (left p))
      (one_of : (p : TriplePat) → Contains node.patterns p → (t u : X) (row : Row V) → Contains (left p) t → Contains (left p) u → Makes interpretation row p t → Makes interpretation row p u → t ≡ u) where
    -- two rows that go on to the same end are one
    apart_rows : (taken rest : List TriplePat) (r s : Row V) (end : Option (Row V)) → taken ++ rest ≡ node.patterns → 0 < length taken → Solves (before ++ taken) r → Solves (before ++ taken) s →
        Contains (ends interpretation n left rest r) end → Contains (ends interpretation n left rest s) end → r ≡ s
    apart_rows taken rest r s None is some solves solves' at at' = absurd (alive taken rest r is some solves at)
    apart_rows taken rest r s (Some e) is some solves solves' at at' =
        let few_rest : VarsBelow interpretation tells n left rest = λ q v at_q among. below q (subst (λ list. Contains list q) is (Contains-append_right taken rest q at_q)) v among in
        let over = (ends_sound interpretation tells n left (before ++ taken) rest r e few_rest solves at).1 in
        let over' = (ends_sound interpretation tells n left (before ++ taken) rest s e few_rest solves' at').1 in
        determined n (list_vars (before ++ taken)) r s e solves.width solves'.width solves.binds solves'.binds over over'

    ends_once : (taken rest : List TriplePat) (row : Row V) → taken ++ rest ≡ node.patterns → Solves (before ++ taken) row → AllPairs (λ a b. a ≢ b) (ends interpretation n left rest row)
    ends_once taken [] row is solves = λ i j d lt within. absurd (omega (arith, lt, within))
    ends_once taken (p ∷ rest) row is solves =
        let at = in_node taken rest p is in
        let more = more_taken taken rest p is in
        let on = solves_more taken rest p is row solves in
        once_or_dead (flat_map (ends interpretation n left rest) (continued interpretation n left p row))
        (once-flat_map (ends interpretation n left rest) (continued interpretation n left p row)
        (continued_once interpretation tells n left p (below p at) (once p at) (one_of p at) row solves.width)
        (λ q at_q. ends_once (taken ++ p ∷ []) rest q more (on q at_q))
        (λ r s end at_r at_s here there. apart_rows (taken ++ p ∷ []) rest r s end more (one_more taken p) (on r at_r) (on s at_s) here there))

    pub node_ends_once : (row : Row V) → Solves before row → AllPairs (λ a b. a ≢ b) (ends interpretation n left node.patterns row)
    node_ends_once row solves = ends_once [] node.patterns row refl (subst (λ list. Solves list row) (sym (append-nil before)) solves)
