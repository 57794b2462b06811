-- Which look-ups tell that the families agree, where they have equally many triples.
use Rattle.std.proofs.Common.{◌↔◌, All, Contains, arith}
use Rattle.std.specs.List.Sorted.{IsStrictlySortedBy}
use Rattle.run_rows.specs.declared.form.RowForm.{RowForm}
use Rattle.term_numbers.specs.Order.{Numbered}
use Rattle.term_numbers.proofs.Ascending.{has_all}
use Rattle.index_file.proofs.FamilyLaws.{family_cmp, family_cmp-total, family_cmp-exact}
use Rattle.byte_tables.specs.Numbers.{IsBytes}
use Rattle.index_file.proofs.ReadingLaws.{triples_ascend}
use Rattle.index_file.specs.Conditions.{RowsAreEncodings, CountsAgree, FamiliesAgree}
use Rattle.index_file.specs.Image.{triples_in}
use Rattle.index_file.specs.Layout.{Layout}
use Rattle.index_file.specs.declared.family.Family.{Family}
use Rattle.index_file.specs.declared.family.Family.TheVariants.{So, Os, Ps, Po}

-- the triples of one family stand in another
abbrev pub StandIn : RowForm → Layout → Family → Family → Type 0
StandIn form l f g = (t : Numbered) → Contains (triples_in form l f) t → Contains (triples_in form l g) t

-- Three look-ups. Two of them find rows with the same slice and row in the other order: a row of O-S is that row of the P-S
-- slice of its object, and a row of S-O that row of the P-O slice of its subject.
pub record LookUpsAgree (form : RowForm) (l : Layout) : Type 0 where
  pub so_in_ps : StandIn form l So Ps
  pub os_in_ps : StandIn form l Os Ps
  pub so_in_po : StandIn form l So Po

-- what stands in another family, of equally many triples, has all that stand there
pub stand_back : (form : RowForm) (l : Layout) (f g : Family) → IsStrictlySortedBy (family_cmp f) (triples_in form l f) → CountsAgree form l → StandIn form l f g → StandIn form l g f
stand_back form l f g ascends counts stand t there =
    has_all (family_cmp f) (family_cmp-total f) (family_cmp-exact f) (triples_in form l f) (triples_in form l g) ascends stand (omega (arith, counts f, counts g)) t there

-- with equal counts the three look-ups tell whether the families agree
pub agreement_by_look_ups : (form : RowForm) (l : Layout) → All IsBytes l.slices → RowsAreEncodings form l → CountsAgree form l → FamiliesAgree form l ↔ LookUpsAgree form l
agreement_by_look_ups form l bytes rows counts = (
  λ agree. record {
    so_in_ps = agree Ps;
    os_in_ps = λ t there. agree Ps t (stand_back form l So Os (triples_ascend form l bytes rows So) counts (agree Os) t there);
    so_in_po = agree Po;
  },
  λ look_ups.
      let ps_in_so = stand_back form l So Ps (triples_ascend form l bytes rows So) counts look_ups.so_in_ps in
      let os_in_so : StandIn form l Os So = λ t there. ps_in_so t (look_ups.os_in_ps t there) in
      by look_ups (stand_back form l Os So (triples_ascend form l bytes rows Os) counts os_in_so),
)
  where
    by : LookUpsAgree form l → StandIn form l So Os → FamiliesAgree form l
    by look_ups so_in_os So = λ t there. there
    by look_ups so_in_os Os = so_in_os
    by look_ups so_in_os Ps = look_ups.so_in_ps
    by look_ups so_in_os Po = look_ups.so_in_po
