-- The families agree exactly where rows and pairs of one stand in another, as far as counts agree.
use Rattle.std.proofs.Common.{◌≡◌, ◌↔◌, ℕ, List, [], ◌∷◌, map, All, Contains, refl, sym, ap, subst}
use Rattle.std.proofs.lemmas.List.Elements.{All-head, All-tail}
use Rattle.byte_tables.specs.Numbers.{IsBytes}
use Rattle.cube_slices.specs.Lines.{pairs_of}
use Rattle.cube_slices.specs.Slices.{slice_lines}
use Rattle.cube_slices.proofs.SliceLaws.{EncodesLines-slice}
use Rattle.run_rows.specs.declared.form.RowForm.{RowForm}
use Rattle.term_numbers.specs.Order.{Numbered}
use Rattle.index_file.proofs.LookUpLaws.{StandIn, LookUpsAgree, stand_back, agreement_by_look_ups}
use Rattle.index_file.proofs.PairsStandLaws.{triples_stand, pairs_of_triples}
use Rattle.index_file.proofs.ReadingLaws.{group_bytes, triples_ascend}
use Rattle.index_file.proofs.RowMatchLaws.{EachLines, rows_match, rows_stand}
use Rattle.index_file.specs.Conditions.{rows_for, columns_for, AreSlices, RowsAreEncodings, CountsAgree, FamiliesAgree}
use Rattle.index_file.specs.Families.{triple_at, triples_from}
use Rattle.index_file.specs.Image.{group_in, slice_pairs, triples_in}
use Rattle.index_file.specs.Layout.{Layout}
use Rattle.index_file.specs.declared.family.Family.{Family}
use Rattle.index_file.specs.declared.family.Family.TheVariants.{So, Os, Ps, Po}
use Rattle.index_file.specs.steps.Rows.{lines_in, RowsMatch, RowsAgree}

-- the pairs of slices are those of their lines
pub pairs_of_lines_in : (form : RowForm) (ss : List (List ℕ)) → map pairs_of (map (slice_lines form) ss) ≡ map (slice_pairs form) ss
pairs_of_lines_in form [] = refl
pairs_of_lines_in form (s ∷ ss) = ap (λ pss. slice_pairs form s ∷ pss) (pairs_of_lines_in form ss)

-- the lines of slices ascend
pub EachLines-slices : (form : RowForm) (rows columns : ℕ) (ss : List (List ℕ)) → All IsBytes ss → AreSlices form rows columns ss → EachLines rows columns (map (slice_lines form) ss)
EachLines-slices form rows columns [] bytes slices = tt
EachLines-slices form rows columns (s ∷ ss) bytes slices =
    ((EncodesLines-slice form rows columns s (All-head IsBytes s ss bytes) slices.0).lines.ascend, EachLines-slices form rows columns ss (All-tail IsBytes s ss bytes) slices.1)

module _ (form : RowForm) (l : Layout) (bytes : All IsBytes l.slices) (rows : RowsAreEncodings form l) (counts : CountsAgree form l) where
  -- the triples of a family are those of its lines
  of_lines : (f : Family) → triples_from f 0 (map pairs_of (lines_in form l f)) ≡ triples_in form l f
  of_lines f = ap (triples_from f 0) (pairs_of_lines_in form (group_in l f))

  lines_ascend : (f : Family) → EachLines (rows_for l f) (columns_for l f) (lines_in form l f)
  lines_ascend f = EachLines-slices form (rows_for l f) (columns_for l f) (group_in l f) (group_bytes form l bytes rows f) (rows f)

  by_lines : (f g : Family) → ((t : Numbered) → Contains (triples_from f 0 (map pairs_of (lines_in form l f))) t → Contains (triples_from g 0 (map pairs_of (lines_in form l g))) t) → StandIn form l f g
  by_lines f g stand t there = subst (λ ts. Contains ts t) (of_lines g) (stand t (subst (λ ts. Contains ts t) (sym (of_lines f)) there))

  to_lines : (f g : Family) → StandIn form l f g → (t : Numbered) → Contains (triples_from f 0 (map pairs_of (lines_in form l f))) t → Contains (triples_from g 0 (map pairs_of (lines_in form l g))) t
  to_lines f g stand t there = subst (λ ts. Contains ts t) (sym (of_lines g)) (stand t (subst (λ ts. Contains ts t) (of_lines f) there))

  -- families with slices and rows in the other order have equal rows, where the triples of one stand in the other
  rows_of : (f g : Family) → ((n r c : ℕ) → triple_at f n (r, c) ≡ triple_at g r (n, c)) → StandIn form l f g → RowsMatch 0 (lines_in form l g) (lines_in form l f)
  rows_of f g swap stand =
      rows_match f g swap (rows_for l f) (columns_for l f) (rows_for l g) (columns_for l g) (lines_in form l g) (lines_in form l f) (lines_ascend f) (lines_ascend g) (λ t. (
        to_lines f g stand t,
        to_lines g f (stand_back form l f g (triples_ascend form l bytes rows f) counts stand) t,
      ))

  look_ups_by_rows : LookUpsAgree form l ↔ RowsAgree form l
  look_ups_by_rows = (
    λ look_ups. record {
      os_in_ps = rows_of Os Ps (λ n r c. refl) look_ups.os_in_ps;
      so_in_po = rows_of So Po (λ n r c. refl) look_ups.so_in_po;
      so_in_ps = pairs_of_triples (lines_in form l Ps) (lines_in form l So) (to_lines So Ps look_ups.so_in_ps);
    },
    λ agree. record {
      so_in_ps = by_lines So Ps (λ t. triples_stand 0 (lines_in form l Ps) (lines_in form l So) t agree.so_in_ps);
      os_in_ps = by_lines Os Ps (λ t. rows_stand Os Ps (λ n r c. refl) 0 (lines_in form l Ps) (lines_in form l Os) t agree.os_in_ps);
      so_in_po = by_lines So Po (λ t. rows_stand So Po (λ n r c. refl) 0 (lines_in form l Po) (lines_in form l So) t agree.so_in_po);
    },
  )

  -- so the families agree exactly where rows and pairs do
  pub agreement_by_rows : FamiliesAgree form l ↔ RowsAgree form l
  agreement_by_rows =
      let look_ups = agreement_by_look_ups form l bytes rows counts in
      (λ agree. look_ups_by_rows.0 (look_ups.0 agree), λ agree. look_ups.1 (look_ups_by_rows.1 agree))
