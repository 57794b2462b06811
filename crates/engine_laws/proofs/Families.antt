-- Families with the same triples at the triple patterns of a tree have the same partial solutions and maximal rows.
use Rattle.std.proofs.Common.{◌↔◌, ℕ, Bool, List, get_or, All, Any}
use Rattle.std.proofs.lemmas.List.Elements.{Contains-get_or}
use Rattle.alg_model.specs.Eval.{Interpretation}
use Rattle.alg_model.specs.Row.{Row}
use Rattle.alg_model.specs.Solution.{Makes}
use Rattle.pattern_tree.specs.Consistent.{IsPartOf}
use Rattle.pattern_tree.specs.Solution.{Family, IsPartialSolution, IsMaximalRow}
use Rattle.pattern_tree.specs.Tree.{TreeNode, patterns_of}
use Rattle.pattern_tree.proofs.Standing.{patterns_of-stands}

module _ {V X : Type 0} (interpretation : Interpretation V X) (n : ℕ) (tree : List TreeNode) where
  -- a partial solution over a part is one over the whole
  pub over_more : (family whole : Family X) → IsPartOf tree family whole → (set : ℕ → Bool) (row : Row V) → IsPartialSolution interpretation n tree family set row → IsPartialSolution interpretation n tree whole set row
  over_more family whole part set row solution = record {
    rooted = solution.rooted;
    solves = record { width = solution.solves.width; binds = solution.solves.binds; made = made };
  } where
    made : All (λ pattern. Any (Makes interpretation row pattern) (whole pattern)) (patterns_of tree set)
    made i d low =
        let pattern = get_or (patterns_of tree set) i d in
        let there = patterns_of-stands tree set pattern (Contains-get_or (patterns_of tree set) i d low) in
        let a = solution.solves.made i d low in
        let at = part there.0 pattern a.1 there.1 (a.0, a.2, a.3) in
        (at.0, a.1, at.1, at.2, a.4)

  -- where the partial solutions are the same, so are the maximal rows
  pub maximal_alike : (family other : Family X) →
      ((set : ℕ → Bool) (row : Row V) → IsPartialSolution interpretation n tree family set row ↔ IsPartialSolution interpretation n tree other set row) →
      (row : Row V) → IsMaximalRow interpretation n tree family row ↔ IsMaximalRow interpretation n tree other row
  maximal_alike family other same row = (
    λ is. record {
      partial = (is.partial.0, (same is.partial.0 row).0 is.partial.1);
      maximal = λ higher partial extends more. is.maximal higher (partial.0, (same partial.0 higher).1 partial.1) extends more;
    },
    λ is. record {
      partial = (is.partial.0, (same is.partial.0 row).1 is.partial.1);
      maximal = λ higher partial extends more. is.maximal higher (partial.0, (same partial.0 higher).0 partial.1) extends more;
    },
  )
