-- Carries proofs only: what an index that was opened has, in the layout of its file.
use Rattle.std.specs.Prelude.{◌≡◌, map}
use Rattle.bm_term.specs.SetOf.{set_of}
use Rattle.run_rows.specs.declared.form.RowForm.TheVariants.{V1}
use Rattle.term_numbers.specs.Numbering.{Numbering}
use Rattle.term_numbers.specs.Order.{number_cmp}
use Rattle.index_file.specs.Conditions.{AreCanonical, AreOrdered, RowsAreEncodings}
use Rattle.index_file.specs.Image.{family_pairs, group_in, slice_pairs, terms_in, triples_in}
use Rattle.index_file.specs.Layout.{Layout}
use Rattle.index_file.specs.Stored.{Stored, counts_of}
use Rattle.index_file.specs.Version.{NumbersSomeGraph}
use Rattle.index_file.specs.declared.family.Family.{Family}
use Rattle.index_file.specs.declared.family.Family.TheVariants.{So}
use Rattle.index_file.specs.steps.Sections.{counts_in}

-- the terms of a layout, and the triples of its first family, ascending
abbrev pub numbering_in : Layout → Numbering
numbering_in l = record { terms = terms_in l; triples = set_of number_cmp (triples_in V1 l So) }

-- the index that a layout is
abbrev pub stored_in : Layout → Stored
stored_in l = record { version = l.version; numbering = numbering_in l }

-- its counts are those of the layout, its terms are in order, each family has the pairs of its triples, and they are those
-- of a graph
pub record IsStored (l : Layout) : Type 0 where
  pub counts : counts_of (stored_in l) ≡ counts_in l
  pub canonical : AreCanonical (terms_in l)
  pub ordered : AreOrdered (terms_in l)
  pub rows : RowsAreEncodings V1 l
  pub pairs : (f : Family) → family_pairs (numbering_in l) f ≡ map (slice_pairs V1) (group_in l f)
  pub numbers : NumbersSomeGraph (numbering_in l)
