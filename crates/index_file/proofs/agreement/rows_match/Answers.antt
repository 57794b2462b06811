use Rattle.std.proofs.Common.{subst, sym, ap, ◌∙◌, ◌+◌, ◌∷◌, drop, rules, arith}
use Rattle.std.proofs.lemmas.List.{drop_all}
use Rattle.index_file.proofs.StepLaws.{goes_on, fails, RowsMatch-first}
use Rattle.index_file.specs.steps.Rows.{RowsMatch}
use Rattle.index_file.proofs.agreement.rows_match.Goals as goal

pub loop-n-init : goal.loop-n-init
loop-n-init c = (λ are. are, λ are. are)

pub returns-then-not-lines_match : goal.returns-then-not-lines_match
returns-then-not-lines_match c =
    let at = c.get.ensures.at ∙ ap (λ ls. ls ∷ drop (c.loop-n.n + 1) c.args.slices.now) (sym c.lines.ensures.lines) in
    let first = RowsMatch-first c.loop-n.n c.args.others.now _ _ _ at in
    (λ never. absurd (search rules), λ are. absurd (fails c.loop-n.invariant first (λ is. let test = c.lines_match.ensures.1 is in absurd (cc)) are))

pub loop-n-preserved : goal.loop-n-preserved
loop-n-preserved c =
    let at = c.get.ensures.at ∙ ap (λ ls. ls ∷ drop (c.loop-n.n + 1) c.args.slices.now) (sym c.lines.ensures.lines) in
    let first = RowsMatch-first c.loop-n.n c.args.others.now _ _ _ at in
    goes_on c.loop-n.invariant first (c.lines_match.ensures.0 (search rules))

pub returns : goal.returns
returns c =
    let none = drop_all c.loop-n.n c.args.slices.now (omega (arith, c.len-n-end.ensures)) in
    (λ _. c.loop-n.invariant.1 (subst (RowsMatch c.loop-n.n c.args.others.now) (sym none) tt), λ _. search rules)
