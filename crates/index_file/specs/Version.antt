-- Which version of the file has rows of which form, when bytes were made of a numbering, and of which graph a numbering is.
use Rattle.std.specs.Prelude.{◌≡◌, ℕ, ◌≤◌, List, All, length}
use Rattle.std.specs.List.Sorted.{IsStrictlySortedBy}
use Rattle.bm_term.specs.Graph.{triple_cmp}
use Rattle.bm_term.specs.Triple.{IsRdfTriple}
use Rattle.bm_term.specs.declared.triple.Triple.{Triple}
use Rattle.run_rows.specs.declared.form.RowForm.{RowForm}
use Rattle.run_rows.specs.declared.form.RowForm.TheVariants.{V1}
use Rattle.term_numbers.specs.Limits.{max_triples}
use Rattle.term_numbers.specs.Numbering.{Numbering, numbering_of}
use Rattle.index_file.specs.Image.{layout_of}
use Rattle.index_file.specs.Layout.{layout_bytes}

-- the version of the file whose rows have this form
abbrev pub version_of : RowForm → ℕ
version_of V1 = 1

-- the bytes of the file of a numbering
abbrev pub numbering_bytes : RowForm → Numbering → List ℕ
numbering_bytes form n = layout_bytes (layout_of (version_of form) form n)

-- these are the numbers of a graph: its triples ascend and are triples of RDF
pub record NumbersGraph (graph : List Triple) (n : Numbering) : Type 0 where
  pub ascends : IsStrictlySortedBy triple_cmp graph
  pub triples : All IsRdfTriple graph
  pub numbered : n ≡ numbering_of graph

-- these are the numbers of a graph within the limit
pub record NumbersSomeGraph (n : Numbering) : Type 0 where
  pub graph : List Triple
  pub numbers : NumbersGraph graph n
  pub few : length graph ≤ max_triples
