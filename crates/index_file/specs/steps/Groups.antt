-- Carries proofs only: the groups of a table of texts, and what is tried of each.
use Rattle.std.specs.Prelude.{◌≡◌, ◌⊎◌, ℕ, ◌+◌, List, [], ◌∷◌, take, drop, All, Contains}
use Rattle.std.specs.List.Sorted.{IsStrictlySortedBy}
use Rattle.std.specs.declared.cmp.Ordering.TheVariants.{Less}
use Rattle.bm_term.specs.Canonical.{IsCanonical, IsTextOf}
use Rattle.bm_term.specs.Triple.{IsNode}
use Rattle.bm_term.specs.declared.term_parts.TermKind.{TermKind}
use Rattle.bm_term.specs.declared.term_parts.TermKind.TheVariants.{Iri, Blank}
use Rattle.term_numbers.specs.Numbering.{Terms}
use Rattle.term_numbers.specs.Order.{text_cmp}
use Rattle.index_file.specs.declared.counts.IndexCounts.{IndexCounts}
use Rattle.index_file.specs.declared.group.Groups.{Groups}
use Rattle.index_file.specs.declared.terms.TextKind.{TextKind}
use Rattle.index_file.specs.declared.terms.TextKind.TheVariants.{Node, Predicate, Term}

-- the groups as the terms that they are
abbrev pub terms_of_groups : Groups → Terms
terms_of_groups g = record { shared = g.shared; subjects = g.subjects; objects = g.objects; predicates = g.predicates }

-- the groups of a list of texts, by how many each has
abbrev pub terms_at : IndexCounts → List (List ℕ) → Terms
terms_at c texts = record {
  shared = take c.shared texts;
  subjects = take c.subjects (drop c.shared texts);
  objects = take c.objects (drop (c.shared + c.subjects) texts);
  predicates = drop (c.shared + c.subjects + c.objects) texts;
}

-- the text is that of a node, of a predicate, or of any term
abbrev pub HasKind : TextKind → List ℕ → Type 0
HasKind Node text = IsNode text
HasKind Predicate text = IsTextOf Iri text
HasKind Term text = IsCanonical text

-- terms of this kind are among them
abbrev pub MayBe : TextKind → TermKind → Type 0
MayBe Node kind = (kind ≡ Iri) ⊎ (kind ≡ Blank)
MayBe Predicate kind = kind ≡ Iri
MayBe Term kind = Unit {0}

-- the text comes after another, and has its kind
abbrev pub Follows : TextKind → List ℕ → List ℕ → Type 0
Follows kind before x = (text_cmp before x ≡ Less) × HasKind kind x

-- each of the texts follows the one before, the first some text
abbrev pub Follow : TextKind → List ℕ → List (List ℕ) → Type 0
Follow kind before [] = Unit {0}
Follow kind before (x ∷ xs) = Follows kind before x × Follow kind x xs

-- texts of a kind that ascend
pub record IsGroupOf (kind : TextKind) (texts : List (List ℕ)) : Type 0 where
  pub kinds : All (HasKind kind) texts
  pub ascend : IsStrictlySortedBy text_cmp texts

-- each group has its kind and ascends
pub record AreGroups (terms : Terms) : Type 0 where
  pub shared : IsGroupOf Node terms.shared
  pub subjects : IsGroupOf Node terms.subjects
  pub objects : IsGroupOf Term terms.objects
  pub predicates : IsGroupOf Predicate terms.predicates

-- no text is in both lists
abbrev pub AreApart : List (List ℕ) → List (List ℕ) → Type 0
AreApart xs ys = (x : List ℕ) → Contains xs x → Contains ys x → ⊥

-- no text is in two of the groups of nodes
pub record AreNodesApart (terms : Terms) : Type 0 where
  pub from_subjects : AreApart terms.shared terms.subjects
  pub from_objects : AreApart terms.shared terms.objects
  pub alone : AreApart terms.subjects terms.objects
