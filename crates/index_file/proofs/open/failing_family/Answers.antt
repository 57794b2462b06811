use Rattle.std.proofs.Common.{sym, subst, rules}
use Rattle.run_rows.specs.declared.form.RowForm.TheVariants.{V1}
use Rattle.index_file.proofs.IndexLaws.{first_is_agreement}
use Rattle.index_file.specs.Conditions.{RowsAreEncodings, CountsAgree, FamiliesAgree}
use Rattle.index_file.proofs.open.failing_family.Goals as goal

pub returns-then-not-families_agree-clause-some : goal.returns-then-not-families_agree-clause-some
returns-then-not-families_agree-clause-some c =
    let layout = c.parts_of-parts.ensures in
    let rows = subst (RowsAreEncodings V1) layout c.in-Some.ensures.rows in
    let counts = subst (CountsAgree V1) layout (c.in-Some.ensures.counts.0 (search rules)) in
    first_is_agreement c.args.bytes.now c.requires.header c.requires.lengths c.requires.terms c.requires.directory rows counts (λ agree. let held = c.families_agree.ensures.1 (subst (FamiliesAgree V1) (sym layout) agree) in absurd cc)

pub returns-clause-none : goal.returns-clause-none
returns-clause-none c =
    let layout = c.parts_of-parts.ensures in
    record {
      header = c.requires.header;
      lengths = c.requires.lengths;
      terms = c.requires.terms;
      directory = c.requires.directory;
      rows = subst (RowsAreEncodings V1) layout c.in-Some.ensures.rows;
      counts = subst (CountsAgree V1) layout (c.in-Some.ensures.counts.0 (search rules));
      agreement = subst (FamiliesAgree V1) layout (c.families_agree.ensures.0 (search rules));
    }
