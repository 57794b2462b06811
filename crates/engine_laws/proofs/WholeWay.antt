-- The whole way: evaluation, matches by their names, what pruning leaves of them, flat rows, best rows.
use Rattle.std.proofs.Common.{◌≡◌, ◌≢◌, ◌↔◌, ℕ, List, [], map, AllPairs, Contains, subst}
use Rattle.std.specs.Prelude.{IsPermutation}
use Rattle.alg_model.specs.Eval.{Interpretation, eval}
use Rattle.alg_model.specs.Limits.{PatternKeepsLimits}
use Rattle.alg_model.specs.Pattern.{Algebra}
use Rattle.alg_model.specs.Row.{Row}
use Rattle.alg_model.specs.Solution.{TellsValues, TellsTriples}
use Rattle.alg_model.specs.WellDesigned.{IsWellDesigned}
use Rattle.multiway_join.proofs.FlatLaws.{each_is_partial, each_maximal_comes}
use Rattle.naming_laws.specs.Naming.{named_row, named_family}
use Rattle.naming_laws.proofs.Names.{maximal_exactly, names_one}
use Rattle.null_best.proofs.Better.{law-exactly as best-exactly}
use Rattle.pattern_tree.specs.BestRows.{AreBest}
use Rattle.pattern_tree.specs.Solution.{Family, all_matches, IsMaximalRow}
use Rattle.pattern_tree.specs.Tree.{TreeNode, tree_of}
use Rattle.pattern_tree.proofs.Numbered.{numbered_tree}
use Rattle.pattern_tree.proofs.PatternTrees.{law-exactly, law-once}
use Rattle.pattern_tree.proofs.Pruning.{Contains-map, map-Contains, pruning-between}
use Rattle.engine_laws.specs.WholeWay.{NamesMatches, AreBestLeft}
use Rattle.engine_laws.proofs.Bags.{once, once-map, one_bag}
use Rattle.engine_laws.proofs.Families.{over_more, maximal_alike}

-- rows that are just the maximal ones, each once, are the best of themselves
pub best_of_themselves : {W Y : Type 0} (names : Interpretation W Y) (n : ℕ) (tree : List TreeNode) (family : Family Y) (rows : List (Row W)) →
    ((row : Row W) → Contains rows row ↔ IsMaximalRow names n tree family row) → AllPairs (λ r s. r ≢ s) rows → AreBest rows rows
best_of_themselves names n tree family rows same pairs = record {
  exactly = λ row. (
    λ at. (at, λ extended. ((same row).0 at).maximal extended.other ((same extended.other).0 extended.listed).partial extended.extends extended.more),
    λ is. is.0,
  );
  once = pairs;
}

module _ {W Y V X : Type 0} (names : Interpretation W Y) (interpretation : Interpretation V X) (value : W → V) (triple : Y → X) (n : ℕ) (pattern : Algebra) (triples : List X) (family : Family Y) (best : List (Row W))
    (tells : TellsValues names) (tells' : TellsValues interpretation) (well : IsWellDesigned pattern) (keeps : PatternKeepsLimits n pattern)
    (matches : NamesMatches names interpretation value triple n (tree_of pattern) triples family) (are : AreBestLeft names n (tree_of pattern) family best) where
  -- the best rows are the maximal ones over what is left
  best_maximal : (name : Row W) → Contains best name ↔ IsMaximalRow names n (tree_of pattern) are.left name
  best_maximal name = best-exactly names n (tree_of pattern) are.left are.rows best
      (λ row at. each_is_partial names tells n are.left are.flat.counts pattern are.flat.ordered keeps.vars_below are.flat.order row ((are.flat.same row).0 at))
      (λ row is. (are.flat.same row).1 (each_maximal_comes names tells n are.left are.flat.counts pattern are.flat.ordered keeps.vars_below are.flat.order well row is))
      are.chosen name

  -- and over the family
  best_whole : (name : Row W) → Contains best name ↔ IsMaximalRow names n (tree_of pattern) family name
  best_whole name =
      let alike = maximal_alike names n (tree_of pattern) are.left family
      (pruning-between names n (tree_of pattern) family are.left are.left (numbered_tree n pattern keeps) are.greatest (λ k part t stands at. at) are.greatest.within) name in
      (λ at. alike.0 ((best_maximal name).0 at), λ is. (best_maximal name).1 (alike.1 is))

  -- what the family names has the maximal rows of all matches
  matches_alike : (row : Row V) → IsMaximalRow interpretation n (tree_of pattern) (all_matches interpretation n triples) row
      ↔ IsMaximalRow interpretation n (tree_of pattern) (named_family triple family) row
  matches_alike = maximal_alike interpretation n (tree_of pattern) (all_matches interpretation n triples) (named_family triple family) (λ set row. (
    over_more interpretation n (tree_of pattern) (all_matches interpretation n triples) (named_family triple family) (λ k part t stands at. (matches.matches k part t stands).1 at) set row,
    over_more interpretation n (tree_of pattern) (named_family triple family) (all_matches interpretation n triples) (λ k part t stands at. (matches.matches k part t stands).0 at) set row,
  ))

  pub way_exactly : (row : Row V) → Contains (eval interpretation n pattern triples) row ↔ ((name : Row W) × Contains best name × (named_row value name ≡ row))
  way_exactly row =
      let law = law-exactly interpretation tells' n triples pattern [] well keeps.vars_below row in
      let naming = maximal_exactly names interpretation value triple matches.naming n (tree_of pattern) family matches.apart row in (
        λ at. (let own = naming.0 ((matches_alike row).0 (law.0 at)) in (own.0, (best_whole own.0).1 own.1, own.2)),
        λ named. law.1 ((matches_alike row).1 (naming.1 (named.0, (best_whole named.0).0 named.1, named.2))),
      )

  pub way_bag : TellsTriples interpretation triples → AllPairs (λ t u. t ≢ u) triples → IsPermutation (eval interpretation n pattern triples) (map (named_row value) best)
  way_bag apart pairs =
      one_bag (eval interpretation n pattern triples) (map (named_row value) best)
      (once (eval interpretation n pattern triples) (law-once interpretation tells' n triples pattern [] apart well keeps.vars_below pairs))
      (once-map (named_row value) best (once best are.chosen.once)
      (λ name other at at' same. names_one names value n (tree_of pattern) family matches.apart name other ((best_whole name).0 at).partial ((best_whole other).0 at').partial same))
      (λ row. (
        λ at. (let own = (way_exactly row).0 at in subst (Contains (map (named_row value) best)) own.2 (Contains-map (named_row value) best own.0 own.1)),
        λ at. (let from = map-Contains (named_row value) best row at in (way_exactly row).1 from),
      ))
