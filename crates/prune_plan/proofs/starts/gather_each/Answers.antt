use Rattle.std.proofs.Common.{◌≡◌, ◌∙◌, ◌+◌, sym, subst, arith}
use Rattle.std.specs.Int.{bit_at}
use Rattle.std.proofs.lemmas.Nat.Bits.{shr_and_one}
use Rattle.prune_plan.proofs.GatherLaws.{AreGathered, gathered_step, gathered_past}
use Rattle.prune_plan.proofs.starts.gather_each.Goals as goal
use Rattle.prune_plan.proofs.starts.gather_each.Goals.{then-vars-var-eq1, else-vars-var-eq1}

pub loop-var-preserved : goal.loop-var-preserved
loop-var-preserved c =
    let old = c.args.prepared.now in
    let start = c.args.kinds.now in
    let place = c.args.place in
    let vars = c.args.vars in
    let n = c.loop-var.var in
    elim c.if-vars-var-eq1.branch as (λ _. AreGathered old start place vars (n + 1) c.if-vars-var-eq1.prepared c.if-vars-var-eq1.kinds) [
      | then-vars-var-eq1 w ↦
          let wanted : bit_at vars n ≡ 1 = sym (shr_and_one vars n) ∙ w.if-vars-var-eq1.true in
          subst (λ p. AreGathered old start place vars (n + 1) p c.if-vars-var-eq1.kinds) (sym w.prepared-is)
          (subst (λ kinds. AreGathered old start place vars (n + 1) w.gather.new.prepared kinds) (sym w.kinds-is)
          (gathered_step old start place vars n c.loop-var.prepared w.gather.new.prepared c.loop-var.kinds w.gather.new.kinds (omega arith) wanted c.loop-var.invariant w.gather.ensures.values w.gather.ensures.others
          (w.gather.ensures.lists, (w.gather.ensures.bits, w.gather.ensures.layout))))
      | else-vars-var-eq1 w ↦
          let none : bit_at vars n ≡ 1 → ⊥ = λ one. w.if-vars-var-eq1.false (shr_and_one vars n ∙ one) in
          subst (λ p. AreGathered old start place vars (n + 1) p c.if-vars-var-eq1.kinds) (sym w.prepared-is)
          (subst (λ kinds. AreGathered old start place vars (n + 1) c.loop-var.prepared kinds) (sym w.kinds-is) (gathered_past old start place vars n c.loop-var.prepared c.loop-var.kinds none c.loop-var.invariant))
    ]
