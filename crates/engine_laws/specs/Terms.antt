-- The values of an index as names of its terms: a value is the place of a term in the term table. A text that is a node's
-- and a predicate's has two places.
use Rattle.std.specs.Prelude.{◌≡◌, ◌⊎◌, ℕ, ◌<◌, ◌==◌, Bool, List, [], length, All, IfSome, slice_index_or}
use Rattle.std.specs.Cmp.Lexicographic.{pointwise}
use Rattle.bm_term.specs.declared.triple.Triple.{Triple}
use Rattle.alg_model.specs.declared.pattern.TriplePat.{TriplePat}
use Rattle.alg_model.specs.Eval.{Interpretation}
use Rattle.alg_model.specs.Pattern.{IsVar}
use Rattle.alg_model.specs.Row.{Row}
use Rattle.pattern_tree.specs.Standing.{StandsAt}
use Rattle.pattern_tree.specs.Tree.{TreeNode}
use Rattle.term_numbers.specs.Numbering.{Terms, term_table}
use Rattle.tree_relations.specs.declared.prepared.Prepared.{Prepared}
use Rattle.tree_relations.specs.Readings.{NumberTriple, as_numbers}

-- the text of a value
abbrev pub text_at : Terms → ℕ → List ℕ
text_at terms value = slice_index_or (term_table terms) value []

-- the triple of the texts of three values
abbrev pub texts_at : Terms → NumberTriple → Triple
texts_at terms t = record { subject = text_at terms t.subject; predicate = text_at terms t.predicate; object = text_at terms t.object }

-- a value stands for the term whose text it has
abbrev pub stands_in : Terms → ℕ → List ℕ → Bool
stands_in terms value text = pointwise ◌==◌ (text_at terms value) text

abbrev pub values_of : Terms → Interpretation ℕ NumberTriple
values_of terms = as_numbers (stands_in terms)

-- three values that have texts
pub record HaveTexts (terms : Terms) (t : NumberTriple) : Type 0 where
  pub subject : t.subject < length (term_table terms)
  pub predicate : t.predicate < length (term_table terms)
  pub object : t.object < length (term_table terms)

-- each value that is bound in a row has a text
abbrev pub RowsHaveTexts : Terms → List (Row ℕ) → Type 0
RowsHaveTexts terms rows = All (λ row. All (λ cell. IfSome cell (λ value. value < length (term_table terms))) row) rows

-- what is prepared counts these terms
pub record CountsTerms (terms : Terms) (p : Prepared) : Type 0 where
  pub shared : p.shared ≡ length terms.shared
  pub subjects : p.subjects ≡ length terms.subjects
  pub objects : p.objects ≡ length terms.objects
  pub predicates : p.predicates ≡ length terms.predicates

-- no variable of the tree stands at a predicate place and at a node place
abbrev pub HasNoCrossPlaces : List TreeNode → Type 0
HasNoCrossPlaces tree = (k j : ℕ) (pattern other : TriplePat) (var : ℕ) → StandsAt tree k pattern → StandsAt tree j other →
    IsVar pattern.predicate var → ¬ (IsVar other.subject var ⊎ IsVar other.object var)
