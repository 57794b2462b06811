use Rattle.std.proofs.Common.{map, string_bytes}
use Rattle.bm_top.proofs.Promised.{promised}
use Rattle.bm_top.proofs.top.perform_words.Goals as goal

pub returns : goal.returns
returns g c =
    let told = g.W.World.told in
    let faults = g.W.World.faults in
    rw c.status.ensures
    (promised (map string_bytes c.args.words.now)
    (told c.args.world.now) (told c.perform-ending.new.world) (told c.complain_ending.new.world)
    (faults c.args.world.now) (faults c.perform-ending.new.world) (faults c.complain_ending.new.world)
    c.perform-ending.result c.complain_ending.result
    (record {
      usage = rw c.parse_words.ensures at c.perform-ending.ensures.usage;
      step = rw c.parse_words.ensures at c.perform-ending.ensures.step;
      reason = rw c.parse_words.ensures at c.perform-ending.ensures.reason;
      nothing_made = c.requires;
      moves = rw c.parse_words.ensures at c.perform-ending.ensures.moves;
      complained = c.complain_ending.ensures.step;
      reads_stay = c.complain_ending.ensures.reads_stay;
      writes_stay = c.complain_ending.ensures.writes_stay;
      cause = c.complain_ending.ensures.cause.failed;
    }))
