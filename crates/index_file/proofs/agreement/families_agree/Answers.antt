use Rattle.index_file.proofs.AgreementLaws.{agreement_by_rows}
use Rattle.index_file.specs.declared.family.Family.TheVariants.{So, Os, Ps, Po}
use Rattle.index_file.proofs.agreement.families_agree.Goals as goal

pub of-so-requires : goal.of-so-requires
of-so-requires c = c.requires.rows So

pub of-os-requires : goal.of-os-requires
of-os-requires c = c.requires.rows Os

pub of-ps-requires : goal.of-ps-requires
of-ps-requires c = c.requires.rows Ps

pub of-po-requires : goal.of-po-requires
of-po-requires c = c.requires.rows Po

pub returns : goal.returns
returns c =
    let law = agreement_by_rows c.args.form c.args.parts.now c.of-so.ensures.bytes c.requires.rows c.requires.counts in
    let tested = rw (c.of-so.ensures.lines, c.of-os.ensures.lines, c.of-ps.ensures.lines, c.of-po.ensures.lines) at c.rows_agree.ensures in (
      λ passed. let rows = tested.0 passed in law.1 (record { os_in_ps = rows.0; so_in_po = rows.1; so_in_ps = rows.2 }),
      λ agree. let rows = law.0 agree in tested.1 (rows.os_in_ps, rows.so_in_po, rows.so_in_ps),
    )
