-- From a partial solution to a maximal one that extends it, over any family: the nodes of the tree are tried one after
-- another, each where its parent is held. Where a node is left out, no row that extends the solution solves it; so at the
-- end the solution is maximal.
use Rattle.std.proofs.Common.{◌≡◌, ◌≢◌, ◌⊎◌, ℕ, zero, suc, ◌<◌, inl, inr, Bool, true, false, List, [], ◌∷◌, length, Contains, Option, Some, None, refl, sym, ◌∙◌, subst, arith}
use Rattle.std.specs.Prelude.{slice_get}
use Rattle.std.proofs.lemmas.Bool.{cases_Bool, cases_eq}
use Rattle.bm_term.proofs.Elements.{Contains-head, Contains-tail, Contains-cons_cases, Contains-nil}
use Rattle.alg_model.specs.declared.pattern.TriplePat.{TriplePat}
use Rattle.alg_model.specs.Row.{Row, binding, Extends, BindsMore}
use Rattle.alg_model.specs.Pattern.{triple_vars}
use Rattle.alg_model.specs.Eval.{Interpretation}
use Rattle.alg_model.specs.Solution.{TellsValues}
use Rattle.alg_model.proofs.Cells.{value_from_IsSome}
use Rattle.alg_model.proofs.Lists.{Contains-flat_map, source-flat_map}
use Rattle.pattern_tree.specs.Solution.{Family, IsSolutionOf, IsPartialSolution, IsPartialRow}
use Rattle.pattern_tree.specs.Tree.{TreeNode, patterns_of}
use Rattle.pattern_tree.proofs.Connected.{node_low, node_there}
use Rattle.pattern_tree.proofs.Evaluation.{Agree, merge_of_agreeing}
use Rattle.pattern_tree.proofs.Standing.{patterns_of-stands, stands-patterns_of}
use Rattle.pattern_tree.proofs.Unions.{solution-union, Extends-refl, Extends-trans}
use Rattle.multiway_join.specs.FlatRows.{with_node, has_parent, ends}
use Rattle.multiway_join.proofs.Complete.{HasParentsFirst, part_of}
use Rattle.multiway_join.proofs.Ends.{ends_sound, ends_complete}
use Rattle.multiway_join.proofs.Nodes.{with_itself, with_old, with_other, held_parent, stands_here, grown_solution}
use Rattle.multiway_join.proofs.Sound.{TreeVarsBelow, HasRoot, node_below}

-- a list of ends has one that is a row, or none
live_or_none : {Y : Type 0} (list : List (Option Y)) → ((y : Y) × Contains list (Some y)) ⊎ ((y : Y) → Contains list (Some y) → ⊥)
live_or_none [] = inr (λ y at. Contains-nil (Some y) at)
live_or_none (Some y ∷ list) = inl (y, Contains-head (Some y) list)
live_or_none {Y} (None ∷ list) = elim (live_or_none list) as (λ _. ((y : Y) × Contains (None ∷ list) (Some y)) ⊎ ((y : Y) → Contains (None ∷ list) (Some y) → ⊥)) [
  | inl some ↦ inl (some.0, Contains-tail None list (Some some.0) some.1)
  | inr none ↦ inr (λ y at. elim (Contains-cons_cases None list (Some y) at) as (λ _. ⊥) [ inl is ↦ cc | inr later ↦ none y later ])
]

module _ {V X : Type 0} (interpretation : Interpretation V X) (tells : TellsValues interpretation) (n : ℕ) (family : Family X) where
  -- no row that extends this one extends a solution of the triple patterns
  abbrev pub Blocks : List TriplePat → Row V → Type 0
  Blocks patterns row = (e whole : Row V) → IsSolutionOf interpretation n family patterns e → Extends whole e → Extends whole row → ⊥

  pub blocks_longer : (patterns : List TriplePat) (row longer : Row V) → Extends longer row → Blocks patterns row → Blocks patterns longer
  blocks_longer patterns row longer over blocks e whole solves over_e over_longer = blocks e whole solves over_e (Extends-trans whole longer row over_longer over)

module _ {V X : Type 0} (interpretation : Interpretation V X) (tells : TellsValues interpretation) (n : ℕ) (family : Family X) (tree : List TreeNode) (few : TreeVarsBelow n tree) (root : HasRoot tree) (parents : HasParentsFirst tree) where
  abbrev IsSolved : (ℕ → Bool) → Row V → Type 0
  IsSolved set row = IsPartialSolution interpretation n tree family set row

  -- a node at which a row has no end but dead ends
  pub none_blocks : (k : ℕ) (node : TreeNode) (set : ℕ → Bool) (row : Row V) → slice_get tree k ≡ Some node → IsSolved set row →
      ((e : Row V) → Contains (ends interpretation n family node.patterns row) (Some e) → ⊥) → Blocks interpretation tells n family node.patterns row
  none_blocks k node set row place solved none e whole solves over_e over_row =
      let agree : Agree interpretation tells n [] row e = record { along = λ var v w at_row at_e. (let a = over_row var v at_row in let b = over_e var w at_e in cc) } in
      let both = merge_of_agreeing interpretation tells n [] row e solved.solves.width solves.width agree in
      let union = solution-union interpretation n family tells (patterns_of tree set) node.patterns row e both.row solved.solves solves both.width both.union in
      none both.row (ends_complete interpretation tells n family (patterns_of tree set) node.patterns row both.row (node_below interpretation tells n family tree few k node place) solved.solves union both.union.left)

  -- a partial solution, of which each of the first nodes is one, or has no parent among its nodes, or is blocked
  pub record IsTried (k : ℕ) (set : ℕ → Bool) (row : Row V) : Type 0 where
    pub solved : IsPartialSolution interpretation n tree family set row
    pub blocked : (j : ℕ) (node : TreeNode) → j < k → slice_get tree j ≡ Some node → has_parent set node.parent ≡ true → set j ≡ false → Blocks interpretation tells n family node.patterns row

  -- at the root none is blocked
  pub tried_root : (set : ℕ → Bool) (row : Row V) → IsSolved set row → IsTried 1 set row
  tried_root set row solved = record {
    solved = solved;
    blocked = λ j node low place hangs out.
        let e : 0 ≡ j = omega (arith, low) in
        let held : set j ≡ true = subst (λ j. set j ≡ true) e solved.rooted.root in
        absurd (cc);
  }

  module _ (k : ℕ) (set : ℕ → Bool) (row : Row V) (tried : IsTried k set row) where
    -- a node that is held, has no parent held, or is blocked, is passed
    pub tried_past : ((node : TreeNode) → slice_get tree k ≡ Some node → has_parent set node.parent ≡ true → set k ≡ false → Blocks interpretation tells n family node.patterns row) → IsTried (suc k) set row
    tried_past own = record {
      solved = tried.solved;
      blocked = λ j node low place hangs out. elim (cases_eq j k) as (λ _. Blocks interpretation tells n family node.patterns row) [
        | inl is ↦ own node (subst (λ j. slice_get tree j ≡ Some node) is place) hangs (subst (λ j. set j ≡ false) is out)
        | inr other ↦ tried.blocked j node (omega (arith, low, other)) place hangs out
      ];
    }

    -- and one that has an end is taken
    pub tried_taken : (node : TreeNode) (e : Row V) → 0 < k → slice_get tree k ≡ Some node → has_parent set node.parent ≡ true → Contains (ends interpretation n family node.patterns row) (Some e) →
        IsTried (suc k) (with_node set k) e × Extends e row
    tried_taken node e positive place hangs at =
        let solves = ends_sound interpretation tells n family (patterns_of tree set) node.patterns row e (node_below interpretation tells n family tree few k node place) tried.solved.solves at in (
          record {
            solved = grown_solution interpretation n family tree k node set e place tried.solved.rooted hangs solves.0;
            blocked = λ j other low place' hangs' out.
                let apart : j ≢ k = (λ is. let held = subst (λ j. with_node set k j ≡ true) (sym is) (with_itself set k) in (cc)) in
                let out' : set j ≡ false = sym (with_other set k j apart) ∙ out in
                let before : j < k = omega (arith, low, apart) in
                blocks_longer interpretation tells n family other.patterns row e solves.1 (tried.blocked j other before place' (old_parent j other before place' hangs') out');
          },
          solves.1,
        ) where
          old_parent : (j : ℕ) (other : TreeNode) → j < k → slice_get tree j ≡ Some other → has_parent (with_node set k) other.parent ≡ true → has_parent set other.parent ≡ true
          old_parent zero other before place' hangs' = (let none = root.none other place' in let bad : has_parent (with_node set k) None ≡ true = subst (λ o. has_parent (with_node set k) o ≡ true) none hangs' in absurd (cc))
          old_parent (suc j) other before place' hangs' =
              let up = parents.before (suc j) other (omega arith) place' in
              let held : with_node set k up.0 ≡ true = subst (λ o. has_parent (with_node set k) o ≡ true) up.1 hangs' in
              let low = up.2 in
              held_parent set other.parent up.0 up.1 (sym (with_other set k up.0 (λ is. omega (arith, is, low, before))) ∙ held)

  -- ---- when all have been tried the row is maximal

  module _ (set : ℕ → Bool) (row : Row V) (tried : IsTried (length tree) set row) (other : Row V) (bigger : ℕ → Bool) (solved : IsSolved bigger other) (over : Extends other row) where
    -- each node of a larger solution is one of its nodes
    no_node_more : (bound j : ℕ) → j < bound → j < length tree → bigger j ≡ true → set j ≡ true
    no_node_more zero j low there held = absurd (omega (arith, low))
    no_node_more (suc bound) zero low there held = tried.solved.rooted.root
    no_node_more (suc bound) (suc j) low there held =
        let node = node_there tree (suc j) there in
        let up = parents.before (suc j) node.0 (omega arith) node.1 in
        let first = up.2 in
        let above = no_node_more bound up.0 (omega (arith, low, first)) (omega (arith, there, first)) (solved.rooted.parents (suc j) up.0 node.0 node.1 up.1 held) in
        elim (cases_Bool (set (suc j))) as (λ _. set (suc j) ≡ true) [
          | inl is ↦ is
          | inr out ↦
              let part = part_of interpretation tells n family node.0.patterns (patterns_of tree bigger) other
              (λ p at. stands-patterns_of tree bigger (suc j) p (stands_here tree (suc j) node.0 node.1 p at) held) solved.solves in
              absurd (tried.blocked (suc j) node.0 there node.1 (held_parent set node.0.parent up.0 up.1 above) out part.row other part.solves part.extended over)
        ]

    -- so it binds no more
    pub binds_no_more : ¬ BindsMore other row
    binds_no_more more =
        let from = source-flat_map triple_vars (patterns_of tree bigger) more.0 ((solved.solves.binds more.0).0 more.1) in
        let s = patterns_of-stands tree bigger from.0 from.1 in
        let low = node_low tree s.0 s.1.node s.1.stands in
        let held = no_node_more (suc s.0) s.0 (omega arith) low s.2 in
        let bound = (tried.solved.solves.binds more.0).1 (Contains-flat_map triple_vars (patterns_of tree set) from.0 more.0 (stands-patterns_of tree set s.0 from.0 s.1 held) from.2) in
        let value = value_from_IsSome (binding row more.0) bound in
        let some = value.1 in
        let none = more.2 in
        let wrong : Some value.0 ≡ None = sym some ∙ none in
        absurd (cc)

  pub tried_is_maximal : (set : ℕ → Bool) (row : Row V) → IsTried (length tree) set row → (other : Row V) → IsPartialRow interpretation n tree family other → Extends other row → ¬ BindsMore other row
  tried_is_maximal set row tried other partial over = binds_no_more set row tried other partial.0 partial.1 over

  -- ---- each partial solution is extended by one of which all nodes have been tried

  -- it extends the row, and holds its nodes
  pub record HasTried (k : ℕ) (old : ℕ → Bool) (row : Row V) : Type 0 where
    pub set : ℕ → Bool
    pub whole : Row V
    pub tried : IsTried k set whole
    pub over : Extends whole row
    pub more : (j : ℕ) → old j ≡ true → set j ≡ true

  try_nodes : (old : ℕ → Bool) (row : Row V) → IsSolved old row → (k : ℕ) → k < length tree → HasTried (suc k) old row
  try_nodes old row solved zero low = record { set = old; whole = row; tried = tried_root old row solved; over = Extends-refl row; more = λ j held. held }
  try_nodes old row solved (suc k) low =
      let so_far = try_nodes old row solved k (omega (arith, low)) in
      let set = so_far.set in
      let e = so_far.whole in
      let node = node_there tree (suc k) low in
      let past = λ (own : (other : TreeNode) → slice_get tree (suc k) ≡ Some other → has_parent set other.parent ≡ true → set (suc k) ≡ false → Blocks interpretation tells n family other.patterns e).
      let next : HasTried (suc (suc k)) old row = record { set = set; whole = e; tried = tried_past (suc k) set e so_far.tried own; over = so_far.over; more = so_far.more } in next in
      elim (cases_Bool (has_parent set node.0.parent)) as (λ _. HasTried (suc (suc k)) old row) [
        | inr loose ↦ past (λ other place hangs out. let same : node.0 ≡ other = (let is = node.1 in cc) in let wrong = subst (λ node. has_parent set node.parent ≡ true) (sym same) hangs in absurd (cc))
        | inl hangs ↦ elim (cases_Bool (set (suc k))) as (λ _. HasTried (suc (suc k)) old row) [
          | inl held ↦ past (λ other place hangs out. absurd (cc))
          | inr free ↦ elim (live_or_none (ends interpretation n family node.0.patterns e)) as (λ _. HasTried (suc (suc k)) old row) [
            | inl some ↦
                let taken = tried_taken (suc k) set e so_far.tried node.0 some.0 (omega arith) node.1 hangs some.1 in
                record {
                  set = with_node set (suc k);
                  whole = some.0;
                  tried = taken.0;
                  over = Extends-trans some.0 e row taken.1 so_far.over;
                  more = λ j held. with_old set (suc k) j (so_far.more j held);
                }
            | inr none ↦ past (λ other place hangs out. let same : node.0 ≡ other = (let is = node.1 in cc) in
                subst (λ node. Blocks interpretation tells n family node.patterns e) same (none_blocks (suc k) node.0 set e node.1 so_far.tried.solved none))
          ]
        ]
      ]

  pub try_all : 0 < length tree → (old : ℕ → Bool) (row : Row V) → IsSolved old row → HasTried (length tree) old row
  try_all some old row solved = at (length tree) some refl where
    at : (m : ℕ) → 0 < m → length tree ≡ m → HasTried m old row
    at zero positive is = absurd (omega (arith, positive))
    at (suc k) positive is = try_nodes old row solved k (omega (arith, is))
