-- Lengths by the place of a triple pattern in the text.
use Rattle.std.proofs.Common.{◌≡◌, ℕ, ◌+◌, ◌<◌, List, length, Contains, Some, sym, ◌∙◌, ap, subst, arith}
use Rattle.std.specs.Prelude.{slice_get}
use Rattle.std.proofs.lemmas.List.FromFn.{length-range_with_len, get_or-range_with_len}
use Rattle.alg_model.specs.declared.pattern.TriplePat.{TriplePat}
use Rattle.alg_model.specs.Limits.{PatternKeepsLimits}
use Rattle.alg_model.specs.Pattern.{Algebra, triple_patterns}
use Rattle.pattern_tree.specs.Solution.{Family}
use Rattle.pattern_tree.specs.Standing.{StandsAt}
use Rattle.pattern_tree.specs.Tree.{tree_of}
use Rattle.pattern_tree.proofs.Pruning.{Contains-map}
use Rattle.pattern_tree.proofs.Standing.{stands-listed}
use Rattle.pruning_laws.specs.Shown.{entry_of}
use Rattle.report_laws.specs.Report.{AreLengths}

-- the place of a triple pattern of the tree is one of the text
entry_within : (n : ℕ) (pattern : Algebra) (k : ℕ) (part : TriplePat) → PatternKeepsLimits n pattern → StandsAt (tree_of pattern) k part → entry_of part < length (triple_patterns pattern)
entry_within n pattern k part keeps stands =
    let count = length (triple_patterns pattern) in
    let among = Contains-map (λ triple. triple.number) (triple_patterns pattern) part (stands-listed pattern k part stands) in
    let at = subst (λ numbers. Contains numbers part.number) keeps.numbered among in
    let low : at.0 < count = (let inside = at.1 in omega (arith, inside, length-range_with_len 1 count)) in
    let is : part.number ≡ 1 + at.0 = sym at.2 ∙ get_or-range_with_len 1 count at.0 part.number low in
    omega (arith, low, is)

pub lengths_by_place : {Y : Type 0} (n : ℕ) (pattern : Algebra) (lists : ℕ → List Y) (lengths : List ℕ) → PatternKeepsLimits n pattern → length lengths ≡ length (triple_patterns pattern) →
    ((i : ℕ) → i < length lengths → slice_get lengths i ≡ Some (length (lists i))) → AreLengths pattern (λ part. lists (entry_of part)) lengths
lengths_by_place n pattern lists lengths keeps long each = record {
  long = long;
  each = λ k part stands. each (entry_of part) (let low = entry_within n pattern k part keeps stands in omega (arith, low, long));
}

-- families with lists as long have the same lengths
pub same_lengths : {X Y : Type 0} (pattern : Algebra) (family : Family X) (other : Family Y) (lengths : List ℕ) →
    ((k : ℕ) (part : TriplePat) → StandsAt (tree_of pattern) k part → length (family part) ≡ length (other part)) → AreLengths pattern family lengths → AreLengths pattern other lengths
same_lengths pattern family other lengths same are = record {
  long = are.long;
  each = λ k part stands. are.each k part stands ∙ ap (λ count. Some count) (same k part stands);
}
