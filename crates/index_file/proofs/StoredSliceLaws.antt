-- Laws of the slices of an index: each has the pairs of its triples.
use Rattle.std.proofs.Common.{◌≡◌, ℕ, ◌<◌, [], length, get_or, All, sym, ap, ◌∙◌, arith}
use Rattle.std.proofs.lemmas.List.{length-map, get_or-map}
use Rattle.std.proofs.lemmas.List.FromFn.{length-map-range_with_len, get_or-map-range_with_len}
use Rattle.byte_tables.specs.Numbers.{IsBytes}
use Rattle.cube_slices.specs.Lines.{pairs_of}
use Rattle.cube_slices.specs.Pairs.{lines_of}
use Rattle.cube_slices.specs.Slices.{slice_lines}
use Rattle.cube_slices.proofs.PairLaws.{lines_of-pairs_of}
use Rattle.run_rows.specs.declared.form.RowForm.TheVariants.{V1}
use Rattle.index_file.proofs.AgreementLaws.{EachLines-slices}
use Rattle.index_file.proofs.ReadingLaws.{group_bytes}
use Rattle.index_file.proofs.RowMatchLaws.{lines_at}
use Rattle.index_file.specs.Conditions.{rows_for, columns_for}
use Rattle.index_file.specs.Families.{pairs_in}
use Rattle.index_file.specs.Image.{group_in, slice_pairs, slices_for, terms_in}
use Rattle.index_file.specs.Layout.{Layout}
use Rattle.index_file.specs.declared.family.Family.{Family}
use Rattle.index_file.specs.steps.Rows.{lines_in}
use Rattle.index_file.specs.steps.Stores.{IsStored, numbering_in}

module _ (l : Layout) (stored : IsStored l) (f : Family) where
  -- as many slices as the family has
  pub length-lines_in : length (lines_in V1 l f) ≡ slices_for f (terms_in l)
  length-lines_in =
      length-map (group_in l f) (slice_lines V1)
      ∙ sym (length-map (group_in l f) (slice_pairs V1))
      ∙ sym (ap length (stored.pairs f))
      ∙ length-map-range_with_len (λ i. pairs_in f i (numbering_in l).triples) 0 (slices_for f (terms_in l))

  -- the lines of slice n have the pairs of the triples whose slice it is
  pairs_there : (n : ℕ) → n < slices_for f (terms_in l) → pairs_in f n (numbering_in l).triples ≡ pairs_of (get_or (lines_in V1 l f) n [])
  pairs_there n low =
      let inside : n < length (group_in l f) = omega (arith, length-lines_in, length-map (group_in l f) (slice_lines V1)) in
      sym (get_or-map-range_with_len (λ i. pairs_in f i (numbering_in l).triples) 0 (slices_for f (terms_in l)) n n [] low (omega arith))
      ∙ ap (λ pss. get_or pss n []) (stored.pairs f)
      ∙ get_or-map (slice_pairs V1) (group_in l f) n [] [] inside
      ∙ ap pairs_of (sym (get_or-map (slice_lines V1) (group_in l f) n [] [] inside))

  -- and are their lines
  pub lines_there : All IsBytes l.slices → (n : ℕ) → n < slices_for f (terms_in l) → get_or (lines_in V1 l f) n [] ≡ lines_of (pairs_in f n (numbering_in l).triples)
  lines_there bytes n low =
      let lines = EachLines-slices V1 (rows_for l f) (columns_for l f) (group_in l f) (group_bytes V1 l bytes stored.rows f) (stored.rows f) in
      sym (lines_of-pairs_of 0 (rows_for l f) (columns_for l f) (get_or (lines_in V1 l f) n []) (lines_at (rows_for l f) (columns_for l f) (lines_in V1 l f) n lines))
      ∙ ap lines_of (sym (pairs_there n low))
