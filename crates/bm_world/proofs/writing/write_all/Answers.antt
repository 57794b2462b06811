use Rattle.std.proofs.Common.{arith, refl, sym, ◌∙◌}
use Rattle.bm_world.specs.Meanings.{with_written}
use Rattle.bm_world.proofs.Appending.{appends_more, appends_some, appends_all}
use Rattle.bm_world.proofs.Making.{written_appends, appends_none, still_made}
use Rattle.bm_world.proofs.Steps.{Step-weaken}
use Rattle.bm_world.proofs.writing.write_all.Goals as goal

pub loop-rest-init : goal.loop-rest-init
loop-rest-init g c = record {
  so_far = appends_none c.args.bytes.now;
  being_made = c.requires;
  later = omega arith;
  reads_stay = refl;
  says_stay = refl;
}

pub loop-rest-preserved : goal.loop-rest-preserved
loop-rest-preserved g c = record {
  so_far = appends_more with_written written_appends c.in-Ok.count c.split_at.ensures.back c.loop-rest.invariant.so_far (Step-weaken c.in-Ok.ensures.step (λ m n moved. moved.1));
  being_made = still_made _ _ c.in-Ok.ensures.step;
  later = omega (arith, c.in-Ok.ensures.cause.later);
  reads_stay = c.in-Ok.ensures.reads_stay ∙ c.loop-rest.invariant.reads_stay;
  says_stay = c.in-Ok.ensures.says_stay ∙ c.loop-rest.invariant.says_stay;
}

pub returns-in-Err-clause-step : goal.returns-in-Err-clause-step
returns-in-Err-clause-step g c = appends_some with_written written_appends c.loop-rest.invariant.so_far (Step-weaken c.in-Err.ensures.step (λ m n moved. moved.1))

pub returns-clause-step : goal.returns-clause-step
returns-clause-step g c = appends_all (sym c.is_empty.ensures ∙ c.loop-rest-test.false) c.loop-rest.invariant.so_far
