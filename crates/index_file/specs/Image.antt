-- The image of a graph: its terms as the texts of the file, and its triples as slices, four times over.
use Rattle.std.specs.Prelude.{ℕ, ◌+◌, ◌*◌, List, ◌++◌, length, take, drop, map}
use Rattle.bm_term.specs.Graph.{graph_of}
use Rattle.bm_term.specs.declared.triple.Triple.{Triple}
use Rattle.cube_slices.specs.Lines.{pairs_of}
use Rattle.cube_slices.specs.Pairs.{lines_of}
use Rattle.cube_slices.specs.Slices.{slice_bytes, slice_lines}
use Rattle.run_rows.specs.declared.form.RowForm.{RowForm}
use Rattle.term_numbers.specs.Numbering.{Terms, all_subjects, all_objects, term_table, named, Numbering, numbering_of}
use Rattle.term_numbers.specs.Order.{Numbered}
use Rattle.index_file.specs.Families.{slices_of, triples_from}
use Rattle.index_file.specs.Layout.{Layout, layout_bytes, layout_in}
use Rattle.index_file.specs.declared.family.Family.{Family}
use Rattle.index_file.specs.declared.family.Family.TheVariants.{So, Os, Ps, Po}

-- ---- from a graph to its image

-- how many slices a family has
abbrev pub slices_for : Family → Terms → ℕ
slices_for So terms = length terms.predicates
slices_for Os terms = length terms.predicates
slices_for Ps terms = length (all_objects terms)
slices_for Po terms = length (all_subjects terms)

-- the pairs of the slices of all four families, in order
abbrev pub family_pairs : Numbering → Family → List (List (ℕ × ℕ))
family_pairs n f = slices_of f 0 (slices_for f n.terms) n.triples

abbrev pub all_pairs : Numbering → List (List (ℕ × ℕ))
all_pairs n = family_pairs n So ++ (family_pairs n Os ++ (family_pairs n Ps ++ family_pairs n Po))

-- the bytes of the slice of pairs
abbrev pub pair_slice : RowForm → List (ℕ × ℕ) → List ℕ
pair_slice form ps = slice_bytes form (lines_of ps)

-- what the file of a numbering has
abbrev pub layout_of : ℕ → RowForm → Numbering → Layout
layout_of version form n = record {
  version = version;
  shared = length n.terms.shared;
  subjects = length n.terms.subjects;
  objects = length n.terms.objects;
  predicates = length n.terms.predicates;
  triples = length n.triples;
  texts = term_table n.terms;
  slices = map (pair_slice form) (all_pairs n);
}

-- the image of a graph in a version of the file and a form of rows
abbrev pub image_of : ℕ → RowForm → List Triple → List ℕ
image_of version form graph = layout_bytes (layout_of version form (numbering_of graph))

-- ---- from bytes to a graph

-- the four groups of the term table
abbrev pub terms_in : Layout → Terms
terms_in l = record {
  shared = take l.shared l.texts;
  subjects = take l.subjects (drop l.shared l.texts);
  objects = take l.objects (drop (l.shared + l.subjects) l.texts);
  predicates = drop (l.shared + l.subjects + l.objects) l.texts;
}

-- the slices of a family
abbrev pub group_in : Layout → Family → List (List ℕ)
group_in l So = take l.predicates l.slices
group_in l Os = take l.predicates (drop l.predicates l.slices)
group_in l Ps = take (l.shared + l.objects) (drop (2 * l.predicates) l.slices)
group_in l Po = drop (2 * l.predicates + (l.shared + l.objects)) l.slices

-- the pairs of slices
abbrev pub slice_pairs : RowForm → List ℕ → List (ℕ × ℕ)
slice_pairs form slice = pairs_of (slice_lines form slice)

-- the triples of a family, by number
abbrev pub triples_in : RowForm → Layout → Family → List Numbered
triples_in form l f = triples_from f 0 (map (slice_pairs form) (group_in l f))

-- the graph that bytes stand for: the first family names it
abbrev pub graph_in : RowForm → List ℕ → List Triple
graph_in form bytes = graph_of (map (named (terms_in (layout_in bytes))) (triples_in form (layout_in bytes) So))
