-- The flat rows over names, named, are the flat rows over what the names name.
use Rattle.std.proofs.Common.{◌≡◌, ℕ, suc, Bool, true, false, if◌then◌else◌, ◌++◌, List, [], ◌∷◌, map, flat_map, Contains, Option, Some, None, refl, sym, ◌∙◌, ap, subst}
use Rattle.std.specs.Option.{option_map}
use Rattle.std.proofs.lemmas.List.{map-append}
use Rattle.bm_term.proofs.Elements.{Contains-head, Contains-tail, Contains-nil, Contains-single}
use Rattle.alg_model.specs.declared.pattern.TriplePat.{TriplePat}
use Rattle.alg_model.specs.Eval.{Interpretation}
use Rattle.alg_model.specs.Row.{Row, unbound}
use Rattle.alg_model.specs.Solution.{TellsValues}
use Rattle.alg_model.proofs.Lists.{source-flat_map}
use Rattle.multiway_join.specs.FlatRows.{or_dead_end, with_node, has_parent, continued, ends, rows_from, flat_rows_of}
use Rattle.multiway_join.proofs.Ends.{from_live}
use Rattle.multiway_join.proofs.Sound.{root_alone, after_end, after_root}
use Rattle.naming_laws.specs.Naming.{IsNaming, named_row, named_family}
use Rattle.pattern_tree.specs.Solution.{Family}
use Rattle.pattern_tree.specs.Tree.{TreeNode}
use Rattle.report_laws.proofs.NamedCells.{BindsOnly, TellsNames}
use Rattle.report_laws.proofs.NamedMatches.{unbound_named, unbound_only, GivesOnly, continued_named, continued_only}

-- ---- lists

-- what g gives of renamed items is, renamed, what f gives of the items
flat_map_named : {X Y Z U : Type 0} (rename : X → Z) (rename' : Y → U) (f : X → List Y) (g : Z → List U) (xs : List X) → ((x : X) → Contains xs x → g (rename x) ≡ map rename' (f x)) →
    flat_map g (map rename xs) ≡ map rename' (flat_map f xs)
flat_map_named rename rename' f g [] each = refl
flat_map_named rename rename' f g (x ∷ xs) each =
    ap (λ list. list ++ flat_map g (map rename xs)) (each x (Contains-head x xs))
    ∙ ap (λ list. map rename' (f x) ++ list) (flat_map_named rename rename' f g xs (λ z at. each z (Contains-tail x xs z at)))
    ∙ sym (map-append rename' (f x) (flat_map f xs))

dead_end_named : {X Y : Type 0} (f : X → Y) (list : List (Option X)) → or_dead_end (map (option_map f) list) ≡ map (option_map f) (or_dead_end list)
dead_end_named f [] = refl
dead_end_named f (end ∷ list) = refl

module _ {W Y V X : Type 0} (names : Interpretation W Y) (interpretation : Interpretation V X) (value : W → V) (triple : Y → X) (naming : IsNaming names interpretation value triple) (tells : TellsValues names) (tells' : TellsValues interpretation) (n : ℕ)
    (Takes : ℕ → W → Type 0) (one : TellsNames value Takes) (family : Family Y) where
  -- the triples of the list of a triple pattern give only such names
  abbrev pub ListGivesOnly : TriplePat → Type 0
  ListGivesOnly pattern = (y : Y) → Contains (family pattern) y → GivesOnly names interpretation value triple naming tells tells' n Takes one pattern y

  abbrev EachGivesOnly : List TriplePat → Type 0
  EachGivesOnly patterns = (pattern : TriplePat) → Contains patterns pattern → ListGivesOnly pattern

  abbrev pub NodesGiveOnly : List TreeNode → Type 0
  NodesGiveOnly nodes = (node : TreeNode) → Contains nodes node → EachGivesOnly node.patterns

  -- ---- ends

  abbrev Ends : List TriplePat → Row W → List (Option (Row W))
  Ends patterns row = ends names n family patterns row

  ends_only : (patterns : List TriplePat) → EachGivesOnly patterns → (row q : Row W) → BindsOnly Takes row → Contains (Ends patterns row) (Some q) → BindsOnly Takes q
  ends_only [] each row q only at = let is = Contains-single (Some row) (Some q) at in let same : row ≡ q = cc in subst (BindsOnly Takes) same only
  ends_only (p ∷ patterns) each row q only at =
      let from = source-flat_map (Ends patterns) (continued names n family p row) (Some q) (from_live (flat_map (Ends patterns) (continued names n family p row)) q at) in
      ends_only patterns (λ r there. each r (Contains-tail p patterns r there)) from.0 q
      (continued_only names interpretation value triple naming tells tells' n Takes one family p (each p (Contains-head p patterns)) row from.0 only from.1) from.2

  ends_named : (patterns : List TriplePat) → EachGivesOnly patterns → (row : Row W) → BindsOnly Takes row →
      ends interpretation n (named_family triple family) patterns (named_row value row) ≡ map (option_map (named_row value)) (Ends patterns row)
  ends_named [] each row only = refl
  ends_named (p ∷ patterns) each row only =
      let first = each p (Contains-head p patterns) in
      let going = ends interpretation n (named_family triple family) patterns in
      ap (λ rows. or_dead_end (flat_map going rows)) (continued_named names interpretation value triple naming tells tells' n Takes one family p first row only)
      ∙ ap (λ list. or_dead_end list) (flat_map_named (named_row value) (option_map (named_row value)) (Ends patterns) going (continued names n family p row)
      (λ q at. ends_named patterns (λ r there. each r (Contains-tail p patterns r there)) q (continued_only names interpretation value triple naming tells tells' n Takes one family p first row q only at)))
      ∙ dead_end_named (named_row value) (flat_map (Ends patterns) (continued names n family p row))

  -- ---- nodes

  abbrev Rows : List TreeNode → ℕ → (ℕ → Bool) → Row W → List (Row W)
  Rows nodes k matched row = rows_from names n family nodes k matched row

  module _ (node : TreeNode) (nodes : List TreeNode) (each : EachGivesOnly node.patterns) (k : ℕ) (matched : ℕ → Bool) (row : Row W) (only : BindsOnly Takes row) where
    after_named : ((matched : ℕ → Bool) (row : Row W) → BindsOnly Takes row → rows_from interpretation n (named_family triple family) nodes (suc k) matched (named_row value row) ≡ map (named_row value) (Rows nodes (suc k) matched row)) →
        (end : Option (Row W)) → Contains (Ends node.patterns row) end →
        after_end interpretation n (named_family triple family) nodes k matched (named_row value row) (option_map (named_row value) end) ≡ map (named_row value) (after_end names n family nodes k matched row end)
    after_named go None at = go matched row only
    after_named go (Some longer) at = go (with_node matched k) longer (ends_only node.patterns each row longer only at)

    after_only : (q : Row W) → ((matched : ℕ → Bool) (row : Row W) → BindsOnly Takes row → Contains (Rows nodes (suc k) matched row) q → BindsOnly Takes q) →
        (end : Option (Row W)) → Contains (Ends node.patterns row) end → Contains (after_end names n family nodes k matched row end) q → BindsOnly Takes q
    after_only q go None there at = go matched row only at
    after_only q go (Some longer) there at = go (with_node matched k) longer (ends_only node.patterns each row longer only there) at

  from_named : (nodes : List TreeNode) → NodesGiveOnly nodes → (k : ℕ) (matched : ℕ → Bool) (row : Row W) → BindsOnly Takes row →
      rows_from interpretation n (named_family triple family) nodes k matched (named_row value row) ≡ map (named_row value) (Rows nodes k matched row)
  from_named [] each k matched row only = refl
  from_named (node ∷ nodes) each k matched row only =
      let rest = λ (other : TreeNode) (at : Contains nodes other). each other (Contains-tail node nodes other at) in
      let after = after_end names n family nodes k matched row in
      let after' = after_end interpretation n (named_family triple family) nodes k matched (named_row value row) in
      elim (has_parent matched node.parent) as (λ b. (if b then flat_map after' (ends interpretation n (named_family triple family) node.patterns (named_row value row)) else rows_from interpretation n (named_family triple family) nodes (suc k) matched (named_row value row))
      ≡ map (named_row value) (if b then flat_map after (Ends node.patterns row) else Rows nodes (suc k) matched row)) [
        | true ↦
            ap (flat_map after') (ends_named node.patterns (each node (Contains-head node nodes)) row only)
            ∙ flat_map_named (option_map (named_row value)) (named_row value) after after' (Ends node.patterns row)
            (after_named node nodes (each node (Contains-head node nodes)) k matched row only (λ matched row only. from_named nodes rest (suc k) matched row only))
        | false ↦ from_named nodes rest (suc k) matched row only
      ]

  from_only : (nodes : List TreeNode) → NodesGiveOnly nodes → (k : ℕ) (matched : ℕ → Bool) (row q : Row W) → BindsOnly Takes row → Contains (Rows nodes k matched row) q → BindsOnly Takes q
  from_only [] each k matched row q only at = subst (BindsOnly Takes) (Contains-single row q at) only
  from_only (node ∷ nodes) each k matched row q only at =
      let rest = λ (other : TreeNode) (at : Contains nodes other). each other (Contains-tail node nodes other at) in
      let after = after_end names n family nodes k matched row in
      elim (has_parent matched node.parent) as (λ b. Contains (if b then flat_map after (Ends node.patterns row) else Rows nodes (suc k) matched row) q → BindsOnly Takes q) [
        | true ↦ λ at.
            let source = source-flat_map after (Ends node.patterns row) q at in
            after_only node nodes (each node (Contains-head node nodes)) k matched row only q (λ matched row only at. from_only nodes rest (suc k) matched row q only at) source.0 source.1 source.2
        | false ↦ λ at. from_only nodes rest (suc k) matched row q only at
      ] at

  -- ---- the whole tree

  nothing_only : BindsOnly Takes (unbound W n)
  nothing_only = unbound_only names interpretation value triple naming tells tells' n Takes one

  pub flat_named : (tree : List TreeNode) → NodesGiveOnly tree → flat_rows_of interpretation n (named_family triple family) tree ≡ map (named_row value) (flat_rows_of names n family tree)
  flat_named [] each = refl
  flat_named (root ∷ nodes) each =
      ap (λ row. flat_map after' (ends interpretation n (named_family triple family) root.patterns row)) (sym (unbound_named names interpretation value triple naming tells tells' n Takes one n))
      ∙ ap (flat_map after') (ends_named root.patterns first (unbound W n) nothing_only)
      ∙ flat_map_named (option_map (named_row value)) (named_row value) (after_root names n family nodes) after' (Ends root.patterns (unbound W n)) ended where
        after' : Option (Row V) → List (Row V)
        after' = after_root interpretation n (named_family triple family) nodes

        first : EachGivesOnly root.patterns
        first = each root (Contains-head root nodes)

        ended : (end : Option (Row W)) → Contains (Ends root.patterns (unbound W n)) end → after' (option_map (named_row value) end) ≡ map (named_row value) (after_root names n family nodes end)
        ended None at = refl
        ended (Some row) at = from_named nodes (λ other there. each other (Contains-tail root nodes other there)) 1 root_alone row (ends_only root.patterns first (unbound W n) row nothing_only at)

  pub flat_only : (tree : List TreeNode) → NodesGiveOnly tree → (q : Row W) → Contains (flat_rows_of names n family tree) q → BindsOnly Takes q
  flat_only [] each q at = absurd (Contains-nil q at)
  flat_only (root ∷ nodes) each q at =
      let source = source-flat_map (after_root names n family nodes) (Ends root.patterns (unbound W n)) q at in
      ended source.0 source.1 source.2 where
        ended : (end : Option (Row W)) → Contains (Ends root.patterns (unbound W n)) end → Contains (after_root names n family nodes end) q → BindsOnly Takes q
        ended None there at = absurd (Contains-nil q at)
        ended (Some row) there at =
            from_only nodes (λ other there. each other (Contains-tail root nodes other there)) 1 root_alone row q (ends_only root.patterns (each root (Contains-head root nodes)) (unbound W n) row nothing_only there) at
