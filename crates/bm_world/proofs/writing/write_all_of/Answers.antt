use Rattle.bm_world.proofs.Making.{makes_file, making_rose}
use Rattle.bm_world.proofs.writing.write_all_of.Goals as goal

pub returns-clause-step : goal.returns-clause-step
returns-clause-step g c = rw c.and.ensures (makes_file c.args.name.now c.args.bytes.now c.in_ok-create.field-0 c.in_ok-create.ensures.step c.write_all-written.result c.close-closed.result c.write_all-written.ensures.step c.close-closed.ensures.step)

pub returns-clause-cause : goal.returns-clause-cause
returns-clause-cause g c = rw c.and.ensures (making_rose c.args.name.now c.args.bytes.now c.in_ok-create.field-0 c.in_ok-create.ensures.step c.write_all-written.result c.close-closed.result c.in_ok-create.ensures.cause.later c.write_all-written.ensures.step c.write_all-written.ensures.cause c.close-closed.ensures.cause)
