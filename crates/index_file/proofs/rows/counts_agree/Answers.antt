use Rattle.std.proofs.Common.{◌≡◌, length}
use Rattle.index_file.proofs.StepLaws.{each_family}
use Rattle.index_file.specs.Image.{triples_in}
use Rattle.index_file.specs.declared.family.Family.TheVariants.{So, Os, Ps, Po}
use Rattle.index_file.proofs.rows.counts_agree.Goals as goal

pub returns-in_err-so-clause-none : goal.returns-in_err-so-clause-none
returns-in_err-so-clause-none c =
    rw c.from_residual.ensures (λ rows. let no = c.in_err-so.ensures.some.1 (rows So) in absurd (cc))

pub returns-in_err-os-clause-none : goal.returns-in_err-os-clause-none
returns-in_err-os-clause-none c =
    rw c.from_residual-in_err-os.ensures (λ rows. let no = c.in_err-os.ensures.some.1 (rows Os) in absurd (cc))

pub returns-in_err-ps-clause-none : goal.returns-in_err-ps-clause-none
returns-in_err-ps-clause-none c =
    rw c.from_residual-in_err-ps.ensures (λ rows. let no = c.in_err-ps.ensures.some.1 (rows Ps) in absurd (cc))

pub returns-in_err-po-clause-none : goal.returns-in_err-po-clause-none
returns-in_err-po-clause-none c =
    rw c.from_residual-in_err-po.ensures (λ rows. let no = c.in_err-po.ensures.some.1 (rows Po) in absurd (cc))

pub returns-clause-counts : goal.returns-clause-counts
returns-clause-counts c = (
  λ passed.
      let all = c.are_all.ensures.0 passed in
      each_family (λ f. length (triples_in c.args.form c.args.parts.now f) ≡ c.args.parts.now.triples) (c.in_ok-so.ensures.agree.0 all.0) (c.in_ok-os.ensures.agree.0 all.1) (c.in_ok-ps.ensures.agree.0 all.2) (c.in_ok-po.ensures.agree.0 all.3),
  λ counts. c.are_all.ensures.1 (c.in_ok-so.ensures.agree.1 (counts So), c.in_ok-os.ensures.agree.1 (counts Os), c.in_ok-ps.ensures.agree.1 (counts Ps), c.in_ok-po.ensures.agree.1 (counts Po)),
)
