-- Node k of a tree is the k-th OPTIONAL of the text, with the triple patterns of the root of its right side.
use Rattle.std.proofs.Common.{◌≡◌, ℕ, ◌++◌, List, [], ◌∷◌, length, map, refl, sym, ◌∙◌, ap, arith}
use Rattle.std.proofs.lemmas.List.{length-append, map-append}
use Rattle.alg_model.specs.declared.pattern.TriplePat.{TriplePat}
use Rattle.alg_model.specs.Pattern.{Algebra, Bgp, Join, LeftJoin, vars_of, optional_parts}
use Rattle.alg_model.specs.WellDesigned.{OptionalPart, optionals_beside, optionals_of}
use Rattle.pattern_tree.specs.Tree.{TreeNode, root_patterns, moved, hung, nodes_below, tree_of}

-- the triple patterns of a node, and of the root of an OPTIONAL's right side
abbrev of_node : TreeNode → List TriplePat
of_node node = node.patterns

abbrev of_part : OptionalPart → List TriplePat
of_part part = root_patterns part.right

-- nodes that are moved or hung keep their triple patterns
patterns-moved : (d : ℕ) (nodes : List TreeNode) → map of_node (map (moved d) nodes) ≡ map of_node nodes
patterns-moved d [] = refl
patterns-moved d (node ∷ nodes) = ap (λ list. node.patterns ∷ list) (patterns-moved d nodes)

patterns-hung : (d : ℕ) (nodes : List TreeNode) → map of_node (map (hung d) nodes) ≡ map of_node nodes
patterns-hung d [] = refl
patterns-hung d (node ∷ nodes) = ap (λ list. node.patterns ∷ list) (patterns-hung d nodes)

-- the nodes below the root are the OPTIONALs, in the order of the text
below-optionals : (pattern : Algebra) (outside : List ℕ) → map of_node (nodes_below pattern) ≡ map of_part (optionals_beside outside pattern)
below-optionals (Bgp patterns) outside = refl
below-optionals (Join left right) outside =
    let d = length (nodes_below left) in
    let first = optionals_beside (outside ++ vars_of right) left in
    let second = optionals_beside (outside ++ vars_of left) right in
    map-append of_node (nodes_below left) (map (moved d) (nodes_below right))
    ∙ ap (λ list. map of_node (nodes_below left) ++ list) (patterns-moved d (nodes_below right) ∙ below-optionals right (outside ++ vars_of left))
    ∙ ap (λ list. list ++ map of_part second) (below-optionals left (outside ++ vars_of right))
    ∙ sym (map-append of_part first second)
below-optionals (LeftJoin left right) outside =
    let d = length (nodes_below left) in
    let first = optionals_beside (outside ++ vars_of right) left in
    let own : OptionalPart = record { left = left; right = right; outside = outside } in
    let second = optionals_beside (outside ++ vars_of left) right in
    map-append of_node (nodes_below left) (map (hung d) (tree_of right))
    ∙ ap (λ list. map of_node (nodes_below left) ++ list) (patterns-hung d (tree_of right) ∙ ap (λ list. root_patterns right ∷ list) (below-optionals right (outside ++ vars_of left)))
    ∙ ap (λ list. list ++ (root_patterns right ∷ map of_part second)) (below-optionals left (outside ++ vars_of right))
    ∙ sym (map-append of_part first (own ∷ second))

pub tree-optionals : (pattern : Algebra) → map of_node (tree_of pattern) ≡ root_patterns pattern ∷ map of_part (optionals_of pattern)
tree-optionals pattern = ap (λ list. root_patterns pattern ∷ list) (below-optionals pattern [])

-- how many there are
length-optionals : (pattern : Algebra) (outside : List ℕ) → length (optionals_beside outside pattern) ≡ optional_parts pattern
length-optionals (Bgp patterns) outside = refl
length-optionals (Join left right) outside =
    let first = optionals_beside (outside ++ vars_of right) left in
    let second = optionals_beside (outside ++ vars_of left) right in
    omega (arith, length-append first second, length-optionals left (outside ++ vars_of right), length-optionals right (outside ++ vars_of left))
length-optionals (LeftJoin left right) outside =
    let first = optionals_beside (outside ++ vars_of right) left in
    let own : OptionalPart = record { left = left; right = right; outside = outside } in
    let second = optionals_beside (outside ++ vars_of left) right in
    omega (arith, length-append first (own ∷ second), length-optionals left (outside ++ vars_of right), length-optionals right (outside ++ vars_of left))

pub optionals-parts : (pattern : Algebra) → length (optionals_of pattern) ≡ optional_parts pattern
optionals-parts pattern = length-optionals pattern []
