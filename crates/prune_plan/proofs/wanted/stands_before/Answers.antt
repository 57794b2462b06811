use Rattle.std.proofs.Common.{◌≡◌, ◌≢◌, inl, inr, Some, false, refl, sym, ◌∙◌, subst, arith}
use Rattle.std.specs.Prelude.{IsTrue, slice_get}
use Rattle.std.proofs.lemmas.Bool.{cases_eq}
use Rattle.join_graph.specs.declared.steps.Step.TheVariants.{Variable}
use Rattle.prune_plan.proofs.WantedMembers.{pair_apart}
use Rattle.prune_plan.proofs.wanted.stands_before.Goals as goal

pub returns-then-is_variable : goal.returns-then-is_variable
returns-then-is_variable c = (
  λ yes. (
      let pair = c.get-first.result in
      let is = c.is_variable.ensures.0 c.if-is_variable.true in
      (c.loop-k.k, c.loop-k-test.true, (pair.1, inl (subst (λ m. slice_get c.args.pairs.now c.loop-k.k ≡ Some (m, pair.1)) is c.get-first.ensures)))
      ),
  λ before. refl,
)

pub returns-then-is_variable-2 : goal.returns-then-is_variable-2
returns-then-is_variable-2 c = (
  λ yes. (
      let pair = c.get-first.result in
      let is = c.is_variable-in-loop-k.ensures.0 c.if-is_variable-2.true in
      (c.loop-k.k, c.loop-k-test.true, (pair.0, inr (subst (λ n. slice_get c.args.pairs.now c.loop-k.k ≡ Some (pair.0, n)) is c.get-first.ensures)))
      ),
  λ before. refl,
)

pub loop-k-preserved : goal.loop-k-preserved
loop-k-preserved c = λ j m n low at.
    let pair = c.get-first.result in
    elim (cases_eq j c.loop-k.k) as (λ _. (m ≢ Variable c.args.variable) × (n ≢ Variable c.args.variable)) [
      | inl is ↦ pair_apart c.args.pairs.now j c.loop-k.k c.args.variable pair.0 pair.1 m n is c.get-first.ensures at
          (λ same. (let yes = sym c.if-is_variable.false ∙ c.is_variable.ensures.1 same in cc))
          (λ same. (let yes = sym c.if-is_variable-2.false ∙ c.is_variable-in-loop-k.ensures.1 same in cc))
      | inr apart ↦ c.loop-k.invariant j m n (omega arith) at
    ]

pub returns : goal.returns
returns c = (
  λ none. absurd (cc none),
  λ before. elim before.2.1 as (λ _. IsTrue false) [
    | inl at ↦ absurd ((c.loop-k.invariant before.0 (Variable c.args.variable) before.2.0 (let low = before.1 in omega arith) at).0 refl)
    | inr at ↦ absurd ((c.loop-k.invariant before.0 before.2.0 (Variable c.args.variable) (let low = before.1 in omega arith) at).1 refl)
  ],
)
