use Rattle.std.proofs.Common.{arith, sym, ◌∙◌}
use Rattle.bm_world.specs.Meanings.{with_complained}
use Rattle.bm_world.proofs.Appending.{complained_appends, appends_more, appends_some, appends_all}
use Rattle.bm_world.proofs.saying.complain_all.Goals as goal

pub loop-rest-preserved : goal.loop-rest-preserved
loop-rest-preserved g c = record {
  so_far = appends_more with_complained complained_appends c.in-Ok.count c.split_at.ensures.back c.loop-rest.invariant.so_far c.in-Ok.ensures.step;
  later = omega (arith, c.in-Ok.ensures.cause.later);
  reads_stay = c.in-Ok.ensures.reads_stay ∙ c.loop-rest.invariant.reads_stay;
  writes_stay = c.in-Ok.ensures.writes_stay ∙ c.loop-rest.invariant.writes_stay;
}

pub returns-in-Err-clause-step : goal.returns-in-Err-clause-step
returns-in-Err-clause-step g c = appends_some with_complained complained_appends c.loop-rest.invariant.so_far c.in-Err.ensures.step

pub returns-clause-step : goal.returns-clause-step
returns-clause-step g c = appends_all (sym c.is_empty.ensures ∙ c.loop-rest-test.false) c.loop-rest.invariant.so_far
