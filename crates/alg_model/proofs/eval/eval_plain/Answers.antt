use Rattle.std.proofs.Common.{sym, ◌∙◌, ap, subst}
use Rattle.std.proofs.lemmas.List.Elements.{All-same}
use Rattle.alg_model.specs.Pattern.{HasVarsBelow, algebra_of}
use Rattle.alg_model.specs.Eval.{as_terms, eval}
use Rattle.alg_model.specs.Solution.{AreSolutions}
use Rattle.alg_model.proofs.Width.{HasWidth, width-eval}
use Rattle.alg_model.proofs.BasicPatterns.{basic-solutions, as_terms-values, as_terms-triples}
use Rattle.alg_model.proofs.eval.eval_plain.Goals as goal

pub returns-clause-width : goal.returns-clause-width
returns-clause-width c =
    All-same (HasWidth c.args.vars) _ _ (c.from_rows.ensures ∙ c.in_ok-rows.ensures) (width-eval as_terms c.args.vars (algebra_of c.args.pattern.now) c.args.triples.now)

pub returns-clause-solutions : goal.returns-clause-solutions
returns-clause-solutions c = λ patterns is.
    let n = c.args.vars in
    let triples = c.args.triples.now in
    let rows = c.from_rows.ensures ∙ c.in_ok-rows.ensures ∙ ap (λ pattern. eval as_terms n pattern triples) is in
    let below = subst (HasVarsBelow n) is c.requires.vars_below in
    subst (AreSolutions as_terms n patterns triples) (sym rows) (basic-solutions as_terms as_terms-values n patterns triples (as_terms-triples triples) below c.requires.each_once)
