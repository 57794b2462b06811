-- The search over rows of cells, as rows of values: it lists the flat rows.
use Rattle.std.proofs.Common.{◌≡◌, ℕ, zero, suc, ◌+◌, ◌^◌, ◌++◌, ◌==◌, ◌||◌, inl, inr, Bool, true, false, if◌then◌else◌, List, [], ◌∷◌, length, map, flat_map, replicate, All, Option, Some, None, IfSome, refl, sym, ◌∙◌, ap, subst, arith, append-nil}
use Rattle.std.specs.Int.{bit_at}
use Rattle.std.specs.Int.Bits.{bit_or}
use Rattle.std.specs.Prelude.{slice_get, slice_index, slice_set}
use Rattle.std.proofs.lemmas.Bool.{cases_eq, eq-eqb, ne_eqb}
use Rattle.std.proofs.lemmas.Nat.Bits.{bit_at_or, bit_at-lt, bit_at-pow_same, bit_at-pow_other}
use Rattle.join_graph.proofs.Bits.{HasVariable-zero}
use Rattle.std.proofs.lemmas.Grind.{flat_map-append}
use Rattle.std.proofs.lemmas.List.{map-append, length-replicate, length-set}
use Rattle.std.proofs.lemmas.List.Elements.{All-nil, All-head, All-tail}
use Rattle.alg_model.specs.declared.pattern.TriplePat.{TriplePat}
use Rattle.alg_model.specs.Row.{Row, unbound}
use Rattle.alg_model.proofs.Lists.{All-filter_map}
use Rattle.alg_model.specs.Eval.{Interpretation}
use Rattle.pruning_laws.specs.Shown.{entry_of}
use Rattle.pattern_tree.specs.FlatTable.{row_of}
use Rattle.pattern_tree.specs.Solution.{Family}
use Rattle.pattern_tree.specs.Tree.{TreeNode}
use Rattle.tree_relations.specs.declared.prepared.Prepared.{Prepared}
use Rattle.tree_relations.specs.declared.prepared.Entry.{Entry}
use Rattle.tree_relations.specs.declared.prepared.SidePlace.{SidePlace}
use Rattle.tree_relations.specs.Readings.{value_of, lists_left}
use Rattle.multiway_join.specs.FlatRows.{or_dead_end, with_node, has_parent, continued, ends, rows_from, flat_rows_of}
use Rattle.multiway_join.specs.steps.Binding.{put_cell, bind_side, bind_next, bind_pair, continued_by, continued_row}
use Rattle.multiway_join.specs.steps.Search.{holds_parent, each_or, through, cells_from, flat_cells}

some_is : {X : Type 0} (x y : X) → Some y ≡ Some x → x ≡ y
some_is x y is = cc

-- ---- lists of lists

map_all : {X Y : Type 0} (f : X → Y) (live : X → List X) (L : Y → List Y) (P : X → Type 0) (xs : List X) → All P xs → ((x : X) → P x → map f (live x) ≡ L (f x)) → map f (flat_map live xs) ≡ flat_map L (map f xs)
map_all f live L P [] all same = refl
map_all f live L P (x ∷ xs) all same =
    map-append f (live x) (flat_map live xs) ∙ (λ i. same x (All-head P x xs all) i ++ map_all f live L P xs (All-tail P x xs all) same i)

flat_flat : {X Y Z : Type 0} (f : X → List Y) (g : Y → List Z) (xs : List X) → flat_map g (flat_map f xs) ≡ flat_map (λ x. flat_map g (f x)) xs
flat_flat f g [] = refl
flat_flat f g (x ∷ xs) = flat_map-append g (f x) (flat_map f xs) ∙ ap (λ l. flat_map g (f x) ++ l) (flat_flat f g xs)

-- ---- some triple patterns

module _ {X : Type 0} (p : Prepared) (interpretation : Interpretation ℕ X) (n : ℕ) (family : Family X) where
  -- what continues a row of cells is, as rows of values, what continues the row of values
  pub record IsSame (pattern : TriplePat) : Type 0 where
    pub continues : (row : List ℕ) → length row ≡ n → map row_of (continued_row p pattern row) ≡ continued interpretation n family pattern (row_of row)
    pub wide : (row : List ℕ) → length row ≡ n → All (λ q. length q ≡ n) (continued_row p pattern row)

  -- there is always an end
  some_end : (patterns : List TriplePat) (row : Row ℕ) → (end : Option (Row ℕ)) × (others : List (Option (Row ℕ))) × (ends interpretation n family patterns row ≡ end ∷ others)
  some_end [] row = (Some row, [], refl)
  some_end (pattern ∷ patterns) row = by (flat_map (ends interpretation n family patterns) (continued interpretation n family pattern row))
    where
      by : (xs : List (Option (Row ℕ))) → (end : Option (Row ℕ)) × (others : List (Option (Row ℕ))) × (or_dead_end xs ≡ end ∷ others)
      by [] = (None, [], refl)
      by (x ∷ xs) = (x, xs, refl)

  -- so rows that go on come to ends, and to no other dead end
  no_dead_end : (patterns : List TriplePat) (r : Row ℕ) (rs : List (Row ℕ)) → or_dead_end (flat_map (ends interpretation n family patterns) (r ∷ rs)) ≡ flat_map (ends interpretation n family patterns) (r ∷ rs)
  no_dead_end patterns r rs =
      let some = some_end patterns r in
      ap (λ l. or_dead_end (l ++ flat_map (ends interpretation n family patterns) rs)) some.2 ∙ ap (λ l. l ++ flat_map (ends interpretation n family patterns) rs) (sym some.2)

  module _ (dead : List (List ℕ)) (live : List ℕ → List (List ℕ)) (D : List (Row ℕ)) (L : Row ℕ → List (Row ℕ))
      (dead_is : map row_of dead ≡ D) (live_is : (row : List ℕ) → length row ≡ n → map row_of (live row) ≡ L (row_of row)) where
    abbrev at_end : Option (Row ℕ) → List (Row ℕ)
    at_end end = elim end as (λ _. List (Row ℕ)) [
      | Some longer ↦ L longer
      | None ↦ D
    ]

    through_is : (patterns : List TriplePat) → All IsSame patterns → (row : List ℕ) → length row ≡ n →
        map row_of (through p dead live patterns row) ≡ flat_map at_end (ends interpretation n family patterns (row_of row))
    through_is [] all row wide = live_is row wide ∙ sym (append-nil (L (row_of row)))
    through_is (pattern ∷ patterns) all row wide =
        let own = All-head IsSame pattern patterns all in
        by (continued_row p pattern row) (continued interpretation n family pattern (row_of row)) (own.continues row wide) (own.wide row wide)
        (λ r long. through_is patterns (All-tail IsSame pattern patterns all) r long)
      where
        by : (cells : List (List ℕ)) (rows : List (Row ℕ)) → map row_of cells ≡ rows → All (λ q. length q ≡ n) cells →
            ((r : List ℕ) → length r ≡ n → map row_of (through p dead live patterns r) ≡ flat_map at_end (ends interpretation n family patterns (row_of r))) →
            map row_of (each_or dead (through p dead live patterns) cells) ≡ flat_map at_end (or_dead_end (flat_map (ends interpretation n family patterns) rows))
        by [] rows same widths each = dead_is ∙ sym (append-nil D) ∙ ap (λ rows. flat_map at_end (or_dead_end (flat_map (ends interpretation n family patterns) rows))) same
        by (q ∷ qs) rows same widths each =
            map_all row_of (through p dead live patterns) (λ r. flat_map at_end (ends interpretation n family patterns r)) (λ q. length q ≡ n) (q ∷ qs) widths each
            ∙ sym (flat_flat (ends interpretation n family patterns) at_end (row_of q ∷ map row_of qs))
            ∙ ap (flat_map at_end) (sym (no_dead_end patterns (row_of q) (map row_of qs)))
            ∙ ap (λ rows. flat_map at_end (or_dead_end (flat_map (ends interpretation n family patterns) rows))) same

  -- ---- nodes

  -- the word holds just the nodes of the set
  abbrev pub HoldsSet : ℕ → (ℕ → Bool) → Type 0
  HoldsSet word set = (j : ℕ) → (bit_at word j == 1) ≡ set j

  holds_same : (word : ℕ) (set : ℕ → Bool) (parent : Option ℕ) → HoldsSet word set → holds_parent word parent ≡ has_parent set parent
  holds_same word set None holds = refl
  holds_same word set (Some parent) holds = holds parent

  holds_more : (word : ℕ) (set : ℕ → Bool) (k : ℕ) → HoldsSet word set → HoldsSet (bit_or word (2 ^ k)) (with_node set k)
  holds_more word set k holds j = elim (cases_eq j k) as (λ _. (bit_at (bit_or word (2 ^ k)) j == 1) ≡ with_node set k j) [
    | inl is ↦
        let set_bit : bit_at (bit_or word (2 ^ k)) j ≡ 1 = subst (λ j. bit_at (bit_or word (2 ^ k)) j ≡ 1) (sym is) (omega (arith, bit_at_or word (2 ^ k) k, bit_at-lt word k, bit_at-pow_same k)) in
        eq-eqb (bit_at (bit_or word (2 ^ k)) j) 1 set_bit ∙ sym (ap (λ b. b || set j) (eq-eqb j k is))
    | inr other ↦
        let same : bit_at (bit_or word (2 ^ k)) j ≡ bit_at word j = omega (arith, bit_at_or word (2 ^ k) j, bit_at-lt word j, bit_at-pow_other k j other) in
        ap (λ b. b == 1) same ∙ holds j ∙ sym (ap (λ b. b || set j) (ne_eqb j k other))
  ]

  holds_root : HoldsSet (bit_or 0 (2 ^ 0)) (λ k. k == 0)
  holds_root j = holds_more 0 (λ _. false) 0 (λ i. ne_eqb (bit_at 0 i) 1 (λ is. HasVariable-zero i is)) j ∙ or_false (j == 0)
    where
      or_false : (b : Bool) → (b || false) ≡ b
      or_false true = refl
      or_false false = refl

  cells_are : (nodes : List TreeNode) (k word : ℕ) (set : ℕ → Bool) → All (λ node. All IsSame node.patterns) nodes → HoldsSet word set → (row : List ℕ) → length row ≡ n →
      map row_of (cells_from p nodes k word row) ≡ rows_from interpretation n family nodes k set (row_of row)
  cells_are [] k word set all holds row wide = refl
  cells_are (node ∷ nodes) k word set all holds row wide =
      let rest = All-tail (λ (node : TreeNode). All IsSame node.patterns) node nodes all in
      let other = cells_are nodes (suc k) word set rest holds row wide in
      let tried =
      through_is (cells_from p nodes (suc k) word row) (cells_from p nodes (suc k) (bit_or word (2 ^ k))) (rows_from interpretation n family nodes (suc k) set (row_of row))
      (rows_from interpretation n family nodes (suc k) (with_node set k)) other (cells_are nodes (suc k) (bit_or word (2 ^ k)) (with_node set k) rest (holds_more word set k holds))
      node.patterns (All-head (λ (node : TreeNode). All IsSame node.patterns) node nodes all) row wide in
      by _ _ _ _ (holds_parent word node.parent) (has_parent set node.parent) (holds_same word set node.parent holds) tried other
    where
      by : (xs xs' : List (List ℕ)) (ys ys' : List (Row ℕ)) (a b : Bool) → a ≡ b → map row_of xs ≡ ys → map row_of xs' ≡ ys' → map row_of (if a then xs else xs') ≡ (if b then ys else ys')
      by xs xs' ys ys' true true same is is' = is
      by xs xs' ys ys' true false same is is' = absurd (cc)
      by xs xs' ys ys' false true same is is' = absurd (cc)
      by xs xs' ys ys' false false same is is' = is'

  row_unbound : (m : ℕ) → row_of (replicate m 0) ≡ unbound ℕ m
  row_unbound zero = refl
  row_unbound (suc m) = ap (λ row. None ∷ row) (row_unbound m)

  pub flat_cells_are : (nodes : List TreeNode) → All (λ node. All IsSame node.patterns) nodes → map row_of (flat_cells p nodes n) ≡ flat_rows_of interpretation n family nodes
  flat_cells_are [] all = refl
  flat_cells_are (root ∷ nodes) all =
      let rest = All-tail (λ (node : TreeNode). All IsSame node.patterns) root nodes all in
      let live : (row : List ℕ) → length row ≡ n → map row_of (cells_from p nodes 1 (bit_or 0 (2 ^ 0)) row) ≡ rows_from interpretation n family nodes 1 (λ k. k == 0) (row_of row) =
      cells_are nodes 1 (bit_or 0 (2 ^ 0)) (λ k. k == 0) rest holds_root in
      through_is [] (cells_from p nodes 1 (bit_or 0 (2 ^ 0))) [] (rows_from interpretation n family nodes 1 (λ k. k == 0)) refl live
      root.patterns (All-head (λ (node : TreeNode). All IsSame node.patterns) root nodes all) (replicate n 0) (length-replicate n 0)
      ∙ ap (λ row. flat_map (at_end [] (cells_from p nodes 1 (bit_or 0 (2 ^ 0))) [] (rows_from interpretation n family nodes 1 (λ k. k == 0)) refl live) (ends interpretation n family root.patterns row)) (row_unbound n)

-- ---- what continues a row has as many cells

put_wide : (var cell : ℕ) (row q : List ℕ) → put_cell var cell row ≡ Some q → length q ≡ length row
put_wide var cell row q = by (slice_index row var == 0) (slice_index row var == cell)
  where
    by : (a b : Bool) → (if a then Some (slice_set row var cell) else if b then Some row else None) ≡ Some q → length q ≡ length row
    by true b is = ap length (some_is q (slice_set row var cell) is) ∙ length-set row var cell
    by false true is = ap length (some_is q row is)
    by false false is = absurd (cc)

side_wide : (p : Prepared) (side : Option SidePlace) (k : ℕ) (row q : List ℕ) → bind_side p side k row ≡ Some q → length q ≡ length row
side_wide p None k row q is = ap length (some_is q row is)
side_wide p (Some place) k row q is = put_wide place.var.0 (value_of p place.kind k + 1) row q is

pair_wide : (p : Prepared) (e : Entry) (row : List ℕ) (pair : ℕ × ℕ) (n : ℕ) → length row ≡ n → IfSome (bind_pair p e row pair) (λ q. length q ≡ n)
pair_wide p e row pair n wide = by (bind_side p e.first pair.0 row) refl
  where
    next : (first : List ℕ) → length first ≡ n → (o : Option (List ℕ)) → bind_side p e.second pair.1 first ≡ o → IfSome o (λ q. length q ≡ n)
    next first long None is = tt
    next first long (Some q) is = side_wide p e.second pair.1 first q is ∙ long

    by : (o : Option (List ℕ)) → bind_side p e.first pair.0 row ≡ o → IfSome (bind_next p e.second pair.1 o) (λ q. length q ≡ n)
    by None is = tt
    by (Some first) is = next first (side_wide p e.first pair.0 row first is ∙ wide) (bind_side p e.second pair.1 first) refl

pub continued_wide : (p : Prepared) (n : ℕ) (pattern : TriplePat) (row : List ℕ) → length row ≡ n → All (λ q. length q ≡ n) (continued_row p pattern row)
continued_wide p n pattern row wide = by (slice_get p.entries (entry_of pattern))
  where
    by : (o : Option Entry) → All (λ q. length q ≡ n) (continued_by p o (lists_left p (entry_of pattern)) row)
    by None = All-nil (λ (q : List ℕ). length q ≡ n)
    by (Some e) =
        All-filter_map (bind_pair p e row) (λ _. Unit {0}) (λ q. length q ≡ n) (λ pair _. pair_wide p e row pair n wide) (lists_left p (entry_of pattern)) (λ i d low. tt)
