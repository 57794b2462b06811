-- The row of each maximal partial solution of a tree whose nodes are connected is among its flat rows. The join comes to
-- it: at each node a row that goes on agrees with it, and where the node has an end that the row does not have, the row
-- and the end are a row of a partial solution too, so it is the row itself.
use Rattle.std.proofs.Common.{◌≡◌, ℕ, suc, ◌+◌, ◌<◌, ◌≤◌, ◌++◌, inl, inr, Bool, true, false, if◌then◌else◌, List, [], ◌∷◌, length, flat_map, Contains, Option, Some, None, IsSome, refl, sym, ◌∙◌, subst, arith}
use Rattle.std.specs.Prelude.{slice_get}
use Rattle.std.proofs.lemmas.Bool.{cases_Bool, cases_lt}
use Rattle.std.proofs.lemmas.List.Elements.{Contains-append_left, Contains-append_right, Contains-append_cases}
use Rattle.bm_term.proofs.Elements.{Contains-head}
use Rattle.alg_model.specs.declared.pattern.TriplePat.{TriplePat}
use Rattle.alg_model.specs.Row.{Row, binding, unbound, Extends, BindsMore}
use Rattle.alg_model.specs.Pattern.{triple_vars}
use Rattle.alg_model.specs.Eval.{Interpretation}
use Rattle.alg_model.specs.Solution.{TellsValues}
use Rattle.alg_model.proofs.Cells.{cases_Option, value_from_IsSome, IsSome-from_value, binding-unbound}
use Rattle.alg_model.proofs.Joins.{determined}
use Rattle.alg_model.proofs.Lists.{Contains-flat_map, source-flat_map}
use Rattle.pattern_tree.specs.Solution.{Family, IsSolutionOf, IsPartialSolution, IsPartialRow, IsMaximalRow}
use Rattle.pattern_tree.specs.Standing.{OccursAt, IsWithin, IsConnected}
use Rattle.pattern_tree.specs.Tree.{TreeNode, patterns_of}
use Rattle.pattern_tree.proofs.Choices.{list_vars, in_either}
use Rattle.pattern_tree.proofs.Connected.{occurs_by, by_occurs}
use Rattle.pattern_tree.proofs.Evaluation.{Agree, merge_of_agreeing}
use Rattle.pattern_tree.proofs.Nodes.{patterns_of-same}
use Rattle.pattern_tree.proofs.RootedSets.{HasSame}
use Rattle.pattern_tree.proofs.Standing.{patterns_of-stands, stands-patterns_of, holds_above}
use Rattle.pattern_tree.proofs.Unions.{solution-union, solution-cut, Extends-trans, Extends-both}
use Rattle.multiway_join.specs.FlatRows.{with_node, has_parent, ends, rows_from, flat_rows_of}
use Rattle.multiway_join.proofs.Ends.{between, ends_sound, ends_complete, ends_cases}
use Rattle.multiway_join.proofs.Nodes.{differ, with_itself, with_other, parent_held, held_parent, stands_here, same_solutions, grown_solution}
use Rattle.multiway_join.proofs.Sound.{TreeVarsBelow, AreFrom, first_place, rest_from, root_alone, after_end, after_root, nothing_solved, node_below, HasRoot, root_patterns, root_rooted, nodes_from}

-- the parent of each node but the root stands before it
pub record HasParentsFirst (tree : List TreeNode) : Type 0 where
  pub before : (k : ℕ) (node : TreeNode) → 0 < k → slice_get tree k ≡ Some node → (parent : ℕ) × (node.parent ≡ Some parent) × (parent < k)

-- what extends a row and binds no more is extended by it
pub no_more : {V : Type 0} (longer row : Row V) → Extends longer row → ¬ BindsMore longer row → Extends row longer
no_more longer row over same k value bound = elim (cases_Option (binding row k)) as (λ _. binding row k ≡ Some value) [
  | inl some ↦ (let there = over k some.0 some.1 in let e : Some some.0 ≡ Some value = sym there ∙ bound in some.1 ∙ e)
  | inr none ↦ absurd (same (k, IsSome-from_value (binding longer k) value bound, none))
]

module _ {V X : Type 0} (interpretation : Interpretation V X) (tells : TellsValues interpretation) (n : ℕ) (family : Family X) where
  -- a row that solves some triple patterns extends one that solves some of them alone
  pub record HasPart (patterns : List TriplePat) (whole : Row V) : Type 0 where
    pub row : Row V
    pub solves : IsSolutionOf interpretation n family patterns row
    pub extended : Extends whole row

  pub part_of : (some all : List TriplePat) (whole : Row V) → ((p : TriplePat) → Contains some p → Contains all p) → IsSolutionOf interpretation n family all whole → HasPart some whole
  part_of some all whole within is =
      let same : HasSame all (some ++ all) = record {
        to = λ p at. Contains-append_right some all p at;
        from = λ p at. elim (Contains-append_cases some all p at) as (λ _. Contains all p) [ inl first ↦ within p first | inr later ↦ later ];
      } in
      let parts = solution-cut interpretation n family tells some all whole (same_solutions interpretation n family all (some ++ all) whole same is) in
      record { row = parts.r; solves = parts.is_r; extended = parts.union.left }

module _ {V X : Type 0} (interpretation : Interpretation V X) (tells : TellsValues interpretation) (n : ℕ) (family : Family X) (tree : List TreeNode) (few : TreeVarsBelow n tree)
    (connected : IsConnected tree) (parents : HasParentsFirst tree) where
  abbrev IsSolved : (ℕ → Bool) → Row V → Type 0
  IsSolved set row = IsPartialSolution interpretation n tree family set row

  -- what a partial solution binds at a node of its set
  binds_there : (set : ℕ → Bool) (row : Row V) (k var : ℕ) → IsSolved set row → OccursAt tree k var → set k ≡ true → IsSome (binding row var)
  binds_there set row k var is occurs held =
      let by = occurs_by tree k var occurs in
      (is.solves.binds var).1 (Contains-flat_map triple_vars (patterns_of tree set) by.0 var (stands-patterns_of tree set k by.0 by.1 held) by.2)

  -- and where what it binds occurs
  bound_there : (set : ℕ → Bool) (row : Row V) (var : ℕ) (value : V) → IsSolved set row → binding row var ≡ Some value → (k : ℕ) × OccursAt tree k var × (set k ≡ true)
  bound_there set row var value is bound =
      let from = source-flat_map triple_vars (patterns_of tree set) var ((is.solves.binds var).0 (IsSome-from_value (binding row var) value bound)) in
      let s = patterns_of-stands tree set from.0 from.1 in
      (s.0, by_occurs tree s.0 var from.0 s.1 from.2, s.2)

  -- ---- a node that the maximal row does not have, and that has an end

  module _ (k : ℕ) (node : TreeNode) (place : slice_get tree k ≡ Some node) (matched set : ℕ → Bool) (row e m : Row V) (is : IsSolved matched row) (is_m : IsSolved set m)
      (solves : IsSolutionOf interpretation n family (patterns_of tree matched ++ node.patterns) e) (longer : Extends e row) (over : Extends m row)
      (hangs : has_parent matched node.parent ≡ true) (out : set k ≡ false) where
    -- the two agree: a variable of the node that the row has elsewhere is one of the node's parent
    ends_agree : Agree interpretation tells n [] e m
    ends_agree = record { along = along } where
      by_row : (var : ℕ) (v w : V) → binding e var ≡ Some v → binding m var ≡ Some w → IsSome (binding row var) → v ≡ w
      by_row var v w at_e at_m some =
          let u = value_from_IsSome (binding row var) some in
          let first = longer var u.0 u.1 in
          let second = over var u.0 u.1 in
          cc

      along : (var : ℕ) (v w : V) → binding e var ≡ Some v → binding m var ≡ Some w → v ≡ w
      along var v w at_e at_m =
          elim (in_either (patterns_of tree matched) node.patterns var ((solves.binds var).0 (IsSome-from_value (binding e var) v at_e))) as (λ _. v ≡ w) [
            | inl old ↦ by_row var v w at_e at_m ((is.solves.binds var).1 old)
            | inr new ↦
                let up = parent_held matched node.parent hangs in
                let there = bound_there set m var w is_m at_m in
                let apart : ¬ IsWithin tree k there.0 = λ within. (let held = holds_above tree set k there.0 is_m.rooted within there.2 in absurd (cc)) in
                let occurs = connected.up k up.0 there.0 var node place up.1 (record { node = node; stands = place; among = new }) there.1 apart in
                by_row var v w at_e at_m (binds_there matched row up.0 var is occurs up.2)
          ]

    -- so the row with the end is that of a partial solution
    pub record IsGrown (q : Row V) : Type 0 where
      pub solved : IsSolved (with_node set k) q
      pub over_m : Extends q m
      pub over_e : Extends q e

    pub both_solved : ((j : ℕ) → matched j ≡ true → set j ≡ true) → (q : Row V) × IsGrown q
    both_solved part =
        let both = merge_of_agreeing interpretation tells n [] e m solves.width is_m.solves.width ends_agree in
        let first = patterns_of tree matched in
        let all = patterns_of tree set in
        let up = parent_held matched node.parent hangs in
        let same : HasSame ((first ++ node.patterns) ++ all) (all ++ node.patterns) = record {
          to = λ p at. elim (Contains-append_cases (first ++ node.patterns) all p at) as (λ _. Contains (all ++ node.patterns) p) [
            | inl own ↦ elim (Contains-append_cases first node.patterns p own) as (λ _. Contains (all ++ node.patterns) p) [
              | inl old ↦ let s = patterns_of-stands tree matched p old in Contains-append_left all node.patterns p (stands-patterns_of tree set s.0 p s.1 (part s.0 s.2))
              | inr new ↦ Contains-append_right all node.patterns p new
            ]
            | inr there ↦ Contains-append_left all node.patterns p there
          ];
          from = λ p at. elim (Contains-append_cases all node.patterns p at) as (λ _. Contains ((first ++ node.patterns) ++ all) p) [
            | inl there ↦ Contains-append_right (first ++ node.patterns) all p there
            | inr new ↦ Contains-append_left (first ++ node.patterns) all p (Contains-append_right first node.patterns p new)
          ];
        } in
        let whole = solution-union interpretation n family tells (first ++ node.patterns) all e m both.row solves is_m.solves both.width both.union in (
          both.row,
          record {
            solved = grown_solution interpretation n family tree k node set both.row place is_m.rooted (held_parent set node.parent up.0 up.1 (part up.0 up.2))
                (same_solutions interpretation n family ((first ++ node.patterns) ++ all) (all ++ node.patterns) both.row same whole);
            over_m = both.union.right;
            over_e = both.union.left;
          },
        )

    -- and since the row is maximal it is the row itself
    pub solved_too : ((j : ℕ) → matched j ≡ true → set j ≡ true) → ((other : Row V) → IsPartialRow interpretation n tree family other → Extends other m → ¬ BindsMore other m) →
        IsSolved (with_node set k) m × Extends m e
    solved_too part maximal =
        let grown = both_solved part in
        let q = grown.0 in
        let back = no_more q m grown.1.over_m (maximal q (with_node set k, grown.1.solved) grown.1.over_m) in
        let same : q ≡ m = Extends-both n q m grown.1.solved.solves.width is_m.solves.width grown.1.over_m back in
        (subst (IsSolved (with_node set k)) same grown.1.solved, Extends-trans m q e back grown.1.over_e)

  -- ---- from node to node

  -- a row on the way to the maximal row: both have the same nodes of those before number k
  pub record IsOnTheWay (k : ℕ) (matched set : ℕ → Bool) (row m : Row V) : Type 0 where
    pub solved : IsSolved matched row
    pub goal : IsSolved set m
    pub over : Extends m row
    pub alike : (j : ℕ) → j < k → set j ≡ matched j
    pub no_later : (j : ℕ) → k ≤ j → matched j ≡ false

  module _ (k : ℕ) (matched set : ℕ → Bool) (row m : Row V) (way : IsOnTheWay k matched set row m) where
    -- each node that it has matched is one of the maximal row
    part_matched : (j : ℕ) → matched j ≡ true → set j ≡ true
    part_matched j held = elim (cases_lt j k) as (λ _. set j ≡ true) [
      | inl low ↦ way.alike j low ∙ held
      | inr high ↦ (let none = way.no_later j high in absurd (cc))
    ]

    -- past a node that neither has
    pub past : set k ≡ false → IsOnTheWay (suc k) matched set row m
    past out = record {
      solved = way.solved;
      goal = way.goal;
      over = way.over;
      alike = λ j low. elim (cases_lt j k) as (λ _. set j ≡ matched j) [
        | inl lower ↦ way.alike j lower
        | inr high ↦ (let e : j ≡ k = omega (arith, low, high) in subst (λ j. set j ≡ matched j) (sym e) (out ∙ sym (way.no_later k (omega arith))))
      ];
      no_later = λ j high. way.no_later j (omega (arith, high));
    }

    -- past a node that both have
    pub onward : (node : TreeNode) (longer : Row V) (held : ℕ → Bool) → slice_get tree k ≡ Some node → has_parent matched node.parent ≡ true → IsSolutionOf interpretation n family (patterns_of tree matched ++ node.patterns) longer →
        IsSolved held m → Extends m longer → held k ≡ true → ((j : ℕ) → j < k → held j ≡ set j) → IsOnTheWay (suc k) (with_node matched k) held longer m
    onward node longer held place hangs solves goal over has others = record {
      solved = grown_solution interpretation n family tree k node matched longer place way.solved.rooted hangs solves;
      goal = goal;
      over = over;
      alike = λ j low. elim (cases_lt j k) as (λ _. held j ≡ with_node matched k j) [
        | inl lower ↦ others j lower ∙ way.alike j lower ∙ sym (with_other matched k j (λ e. omega (arith, e, lower)))
        | inr high ↦ (let e : j ≡ k = omega (arith, low, high) in subst (λ j. held j ≡ with_node matched k j) (sym e) (has ∙ sym (with_itself matched k)))
      ];
      no_later = λ j high. with_other matched k j (λ e. omega (arith, e, high)) ∙ way.no_later j (omega (arith, high));
    }

    -- a node whose parent it has not matched is none of the maximal row
    pub not_matched : (node : TreeNode) → 0 < k → slice_get tree k ≡ Some node → has_parent matched node.parent ≡ false → set k ≡ false
    not_matched node positive place hangs = elim (cases_Bool (set k)) as (λ _. set k ≡ false) [
      | inl held ↦
          let up = parents.before k node positive place in
          let above = way.goal.rooted.parents k up.0 node place up.1 held in
          let matched_up = held_parent matched node.parent up.0 up.1 (sym (way.alike up.0 up.2) ∙ above) in
          absurd (cc)
      | inr out ↦ out
    ]

    -- where no node is left the row is the maximal one
    pub arrived : k ≡ length tree → row ≡ m
    arrived last =
        let same : patterns_of tree set ≡ patterns_of tree matched = patterns_of-same tree set matched (λ j low. way.alike j (omega (arith, last, low))) in
        let goal = subst (λ list. IsSolutionOf interpretation n family list m) same way.goal.solves in
        determined n (list_vars (patterns_of tree matched)) row m m way.solved.solves.width goal.width way.solved.solves.binds goal.binds way.over (λ j value bound. bound)

    -- the end that the maximal row has at a node of its own
    pub own_end : (node : TreeNode) → slice_get tree k ≡ Some node → set k ≡ true → HasPart interpretation tells n family (patterns_of tree matched ++ node.patterns) m
    own_end node place held =
        let within : (p : TriplePat) → Contains (patterns_of tree matched ++ node.patterns) p → Contains (patterns_of tree set) p = λ p at.
        elim (Contains-append_cases (patterns_of tree matched) node.patterns p at) as (λ _. Contains (patterns_of tree set) p) [
          | inl old ↦ let s = patterns_of-stands tree matched p old in stands-patterns_of tree set s.0 p s.1 (part_matched s.0 s.2)
          | inr new ↦ stands-patterns_of tree set k p (stands_here tree k node place p new) held
        ] in
        part_of interpretation tells n family (patterns_of tree matched ++ node.patterns) (patterns_of tree set) m within way.goal.solves

  module _ (m : Row V) (maximal : (other : Row V) → IsPartialRow interpretation n tree family other → Extends other m → ¬ BindsMore other m) where
    -- an end of a node from which a row goes on on the way
    record GoesOn (nodes : List TreeNode) (k : ℕ) (node : TreeNode) (matched : ℕ → Bool) (row : Row V) : Type 0 where
      end : Option (Row V)
      among : Contains (ends interpretation n family node.patterns row) end
      found : Contains (after_end interpretation n family nodes k matched row end) m

    pub from_complete : (nodes : List TreeNode) (k : ℕ) (matched set : ℕ → Bool) (row : Row V) → 0 < k → k + length nodes ≡ length tree → AreFrom tree k nodes → IsOnTheWay k matched set row m →
        Contains (rows_from interpretation n family nodes k matched row) m
    from_complete [] k matched set row positive last from way =
        subst (Contains (row ∷ [])) (arrived k matched set row m way (omega (arith, last))) (Contains-head row [])
    from_complete (node ∷ nodes) k matched set row positive last from way =
        let place = first_place tree k node nodes from in
        let rest = rest_from tree k node nodes from in
        let left : suc k + length nodes ≡ length tree = omega (arith, last) in
        let first = patterns_of tree matched in
        let below = node_below interpretation tells n family tree few k node place in
        let after = after_end interpretation n family nodes k matched row in
        let all = ends interpretation n family node.patterns row in
        let skip = λ (out : set k ≡ false). from_complete nodes (suc k) matched set row (omega arith) left rest (past k matched set row m way out) in
        let enter = λ (e : Row V) (held : ℕ → Bool) (on : IsOnTheWay (suc k) (with_node matched k) held e m). from_complete nodes (suc k) (with_node matched k) held e (omega arith) left rest on in
        elim (has_parent matched node.parent) as (λ b. has_parent matched node.parent ≡ b → Contains (if b then flat_map after all else rows_from interpretation n family nodes (suc k) matched row) m) [
          | false ↦ λ hangs. skip (not_matched k matched set row m way node positive place hangs)
          | true ↦ λ hangs.
              let goes : GoesOn nodes k node matched row = elim (cases_Bool (set k)) as (λ _. GoesOn nodes k node matched row) [
                | inl held ↦
                    let own = own_end k matched set row m way node place held in
                    let over_row = between interpretation tells n family first node.patterns row own.row m way.solved.solves own.solves way.over own.extended in
                    record {
                      end = Some own.row;
                      among = ends_complete interpretation tells n family first node.patterns row own.row below way.solved.solves own.solves over_row;
                      found = enter own.row set (onward k matched set row m way node own.row set place hangs own.solves way.goal own.extended held (λ j _. refl));
                    }
                | inr out ↦ elim (ends_cases interpretation tells n family node.patterns row) as (λ _. GoesOn nodes k node matched row) [
                  | inl some ↦
                      let e = some.0 in
                      let solves = ends_sound interpretation tells n family first node.patterns row e below way.solved.solves some.1 in
                      let too = solved_too k node place matched set row e m way.solved way.goal solves.0 solves.1 way.over hangs out (part_matched k matched set row m way) maximal in
                      record {
                        end = Some e;
                        among = some.1;
                        found = enter e (with_node set k) (onward k matched set row m way node e (with_node set k) place hangs solves.0 too.0 too.1 (with_itself set k) (λ j low. with_other set k j (λ e. omega (arith, e, low))));
                      }
                  | inr dead ↦ record { end = None; among = dead; found = skip out }
                ]
              ] in
              Contains-flat_map after all goes.end m goes.among goes.found
        ] refl

pub flat_complete : {V X : Type 0} (interpretation : Interpretation V X) (tells : TellsValues interpretation) (n : ℕ) (family : Family X) (tree : List TreeNode) (few : TreeVarsBelow n tree) →
    IsConnected tree → HasRoot tree → HasParentsFirst tree → 0 < length tree → (m : Row V) → IsMaximalRow interpretation n tree family m → Contains (flat_rows_of interpretation n family tree) m
flat_complete interpretation tells n family [] few connected has parents some m is = absurd (omega (arith, some))
flat_complete {V} interpretation tells n family (root ∷ nodes) few connected has parents some m is =
    let set = is.partial.0 in
    let solved = is.partial.1 in
    let own = part_of interpretation tells n family ([] ++ root.patterns) (patterns_of (root ∷ nodes) set) m
    (λ p at. stands-patterns_of (root ∷ nodes) set 0 p (stands_here (root ∷ nodes) 0 root refl p at) solved.rooted.root) solved.solves in
    let over : Extends own.row (unbound V n) = λ k value bound. (let none = binding-unbound V n k in absurd (cc)) in
    let among = ends_complete interpretation tells n family [] root.patterns (unbound V n) own.row (node_below interpretation tells n family (root ∷ nodes) few 0 root refl) (nothing_solved interpretation n family) own.solves over in
    let way : IsOnTheWay interpretation tells n family (root ∷ nodes) few connected parents 1 root_alone set own.row m = record {
      solved = record {
        rooted = root_rooted root nodes has;
        solves = same_solutions interpretation n family ([] ++ root.patterns) (patterns_of (root ∷ nodes) root_alone) own.row (root_patterns root nodes) own.solves;
      };
      goal = solved;
      over = own.extended;
      alike = λ j low. (let e : j ≡ 0 = omega (arith, low) in subst (λ j. set j ≡ root_alone j) (sym e) solved.rooted.root);
      no_later = λ j high. differ j 0 (λ e. omega (arith, e, high));
    } in
    Contains-flat_map (after_root interpretation n family nodes) (ends interpretation n family root.patterns (unbound V n)) (Some own.row) m among
    (from_complete interpretation tells n family (root ∷ nodes) few connected parents m is.maximal nodes 1 root_alone set own.row (omega arith) (omega arith) (nodes_from root nodes) way)
