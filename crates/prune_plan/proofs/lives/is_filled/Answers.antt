use Rattle.std.proofs.Common.{◌≤◌, length, get_or, inl, inr, refl, sym, ◌∙◌, ap, subst, arith}
use Rattle.std.proofs.lemmas.Bool.{cases_eq}
use Rattle.std.proofs.lemmas.Option.{get_or_from_slice_get}
use Rattle.pruning_laws.specs.Shown.{entry_of}
use Rattle.pruning_laws.specs.TreePasses.{IsFilled}
use Rattle.prune_plan.specs.steps.Members.{is_left_of}
use Rattle.prune_plan.proofs.Clearing.{filled_all, stands_there}
use Rattle.prune_plan.proofs.Places.{has_entry}
use Rattle.prune_plan.proofs.lives.is_filled.Goals as goal

pub is_left-requires-clause-there : goal.is_left-requires-clause-there
is_left-requires-clause-there c =
    let tree = c.args.tree.now in
    let patterns = c.patterns_of-patterns.result in
    let one = c.get.result.now in
    let i = c.loop-i.i in
    let stands = stands_there tree c.args.node patterns c.patterns_of-patterns.ensures.patterns c.requires.node i one (omega arith) in
    has_entry tree c.args.prepared.now c.requires.fits c.args.node (entry_of one) (get_or patterns i one, stands, ap entry_of (get_or_from_slice_get patterns i one one c.get.ensures))

pub returns-then-not-is_left : goal.returns-then-not-is_left
returns-then-not-is_left c = (
  λ none. absurd (cc none),
  λ filled. (
      let tree = c.args.tree.now in
      let patterns = c.patterns_of-patterns.result in
      let one = c.get.result.now in
      let i = c.loop-i.i in
      let stands = stands_there tree c.args.node patterns c.patterns_of-patterns.ensures.patterns c.requires.node i one (omega arith) in
      let found = filled (get_or patterns i one) stands in
      let here = subst (λ pattern. IsFilled (is_left_of c.args.prepared.now) (entry_of pattern)) (get_or_from_slice_get patterns i one one c.get.ensures) found in
      sym c.if-not-is_left.true ∙ c.is_left.ensures.1 here
      ),
)

pub loop-i-preserved : goal.loop-i-preserved
loop-i-preserved c = λ j d low.
    let patterns = c.patterns_of-patterns.result in
    let one = c.get.result.now in
    let i = c.loop-i.i in
    elim (cases_eq j i) as (λ _. IsFilled (is_left_of c.args.prepared.now) (entry_of (get_or patterns j d))) [
      | inl is ↦
          let here : IsFilled (is_left_of c.args.prepared.now) (entry_of one) = c.is_left.ensures.0 c.if-not-is_left.false in
          subst (λ j. IsFilled (is_left_of c.args.prepared.now) (entry_of (get_or patterns j d))) (sym is)
          (subst (λ pattern. IsFilled (is_left_of c.args.prepared.now) (entry_of pattern)) (sym (get_or_from_slice_get patterns i one d c.get.ensures)) here)
      | inr apart ↦ c.loop-i.invariant j d (omega arith)
    ]

pub returns : goal.returns
returns c = (
  λ _. (
      let past : length c.patterns_of-patterns.result ≤ c.loop-i.i = omega arith in
      filled_all c.args.tree.now c.args.node c.patterns_of-patterns.result c.patterns_of-patterns.ensures.patterns c.args.prepared.now (λ j d low. c.loop-i.invariant j d (omega arith))
      ),
  λ filled. refl,
)
