-- The triple patterns of a tree, and what is borrowed for them.
use Rattle.std.proofs.Common.{◌≡◌, ℕ, zero, suc, ◌+◌, ◌++◌, inl, inr, List, [], ◌∷◌, length, All, Contains, Option, Some, None, slice_get, refl, sym, ap, ◌∙◌, subst, arith}
use Rattle.std.proofs.lemmas.List.Elements.{Contains-get_or}
use Rattle.std.proofs.lemmas.Option.{slice_get-get_or, slice_get_within, get_or_from_slice_get}
use Rattle.alg_model.specs.declared.pattern.TriplePat.{TriplePat}
use Rattle.alg_model.proofs.Lists.{Contains-flat_map, source-flat_map}
use Rattle.pattern_tree.specs.Standing.{StandsAt}
use Rattle.pattern_tree.specs.Tree.{TreeNode}
use Rattle.pattern_tree.proofs.Nodes.{at_either}
use Rattle.term_numbers.specs.Numbering.{Numbering}
use Rattle.well_designed.specs.Refusals.{HasThreeVariables}
use Rattle.index_file.proofs.StoredLaws.{All-members}
use Rattle.pattern_rel.specs.Shapes.{KnowsColumns}
use Rattle.match_relations.specs.AcceptedTrees.{IsAcceptedTree}
use Rattle.match_relations.specs.declared.borrowed.Borrowed.{Borrowed}
use Rattle.match_relations.specs.steps.Numbers.{patterns_in, with_number}
use Rattle.match_relations.specs.steps.Parts.{IsBorrowedAt, AreBorrowed}
use Rattle.match_relations.proofs.NumberLaws.{found_number}

-- the triple patterns of a tree are those that stand in it
pub from_patterns_in : (tree : List TreeNode) (p : TriplePat) → Contains (patterns_in tree) p → (k : ℕ) × StandsAt tree k p
from_patterns_in tree p at =
    let from = source-flat_map (λ (node : TreeNode). node.patterns) tree p at in
    let (k, low, is) = from.1 in
    (k, record { node = from.0; stands = slice_get-get_or tree k from.0 low ∙ ap Some is; among = from.2 })

pub to_patterns_in : (tree : List TreeNode) (k : ℕ) (p : TriplePat) → StandsAt tree k p → Contains (patterns_in tree) p
to_patterns_in tree k p at =
    let low = slice_get_within tree k at.node at.stands in
    let node = subst (Contains tree) (get_or_from_slice_get tree k at.node at.node at.stands) (Contains-get_or tree k at.node low) in
    Contains-flat_map (λ (node : TreeNode). node.patterns) tree at.node p node at.among

-- what is found by number has no three variables
pub found_accepted : (tree : List TreeNode) (number : ℕ) (p : TriplePat) → IsAcceptedTree tree → with_number number (patterns_in tree) ≡ Some p → ¬ HasThreeVariables p
found_accepted tree number p accepted found =
    let stands = from_patterns_in tree p (found_number number (patterns_in tree) p found).0 in
    accepted.no_three_places stands.0 p stands.1

-- one more that is borrowed
pub borrow_one : (n : Numbering) (patterns : List TriplePat) (bs more : List Borrowed) (b : Borrowed) (k : ℕ) → more ≡ bs ++ b ∷ [] → length bs ≡ k → AreBorrowed n patterns bs → IsBorrowedAt n (with_number (k + 1) patterns) b → AreBorrowed n patterns more
borrow_one n patterns bs more b k is long are one i c at =
    elim (at_either bs (b ∷ []) i c (sym (ap (λ l. slice_get l i) is) ∙ at)) as (λ _. IsBorrowedAt n (with_number (i + 1) patterns) c) [
      | inl before ↦ are i c before.1
      | inr last ↦
          let first : last.0 ≡ 0 = only_first last.0 last.2 in
          let place : k ≡ i = omega (arith, last.1) in
          let same : b ≡ c = some_is b c (sym (ap (slice_get (b ∷ [])) first) ∙ last.2) in
          subst (λ c. IsBorrowedAt n (with_number (i + 1) patterns) c) same (subst (λ k. IsBorrowedAt n (with_number (k + 1) patterns) b) place one)
    ]
  where
    only_first : (j : ℕ) → slice_get (b ∷ []) j ≡ Some c → j ≡ 0
    only_first zero at = refl
    only_first (suc j) at = cc

    some_is : (x y : Borrowed) → Some x ≡ Some y → x ≡ y
    some_is x y e = cc

pub none_borrowed : (n : Numbering) (patterns : List TriplePat) → AreBorrowed n patterns []
none_borrowed n patterns i b at = cc

-- what is borrowed knows its columns
pub all_known : (n : Numbering) (patterns : List TriplePat) (bs : List Borrowed) → AreBorrowed n patterns bs → All (λ (b : Borrowed). KnowsColumns b.shape) bs
all_known n patterns bs are = All-members (λ (b : Borrowed). KnowsColumns b.shape) bs (λ b at.
    by (with_number (at.0 + 1) patterns) b (are at.0 b (slice_get-get_or bs at.0 b at.1 ∙ ap Some at.2)))
  where
    by : (found : Option TriplePat) (b : Borrowed) → IsBorrowedAt n found b → KnowsColumns b.shape
    by None b is = is.knows
    by (Some pattern) b is = is.knows
