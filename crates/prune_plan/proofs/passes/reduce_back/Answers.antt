use Rattle.std.proofs.Common.{refl, sym, ◌∙◌}
use Rattle.std.proofs.lemmas.Option.{get_or_from_slice_get}
use Rattle.prune_plan.specs.steps.Members.{agrees_in, held_by}
use Rattle.prune_plan.proofs.Layouts.{in_order_same, sides_back}
use Rattle.prune_plan.proofs.WantedMembers.{one_pair, reduce_pair, wanted_apart, reduce_other}
use Rattle.prune_plan.proofs.passes.reduce_back.Goals as goal

pub reduce-requires-clause-sides : goal.reduce-requires-clause-sides
reduce-requires-clause-sides c =
    let pairs = c.args.pairs.now in
    let pair = c.get-first.result in
    sides_back c.args.prepared.now pair.0 pair.1 (c.requires.sides pair.0 pair.1 (c.args.i, c.requires.within, get_or_from_slice_get pairs c.args.i pair pair c.get-first.ensures))

pub returns-then-is_wanted-clause-held : goal.returns-then-is_wanted-clause-held
returns-then-is_wanted-clause-held c = λ m n k item at wanted.
    let pair = c.get-first.result in
    reduce_pair c.args.pairs.now c.args.i pair.0 pair.1 m n c.get-first.ensures at (agrees_in c.args.prepared.now) (held_by c.args.prepared.now c.args.kinds.now) k item (c.reduce.ensures.held k item)

pub returns-else-is_wanted-clause-held : goal.returns-else-is_wanted-clause-held
returns-else-is_wanted-clause-held c = λ m n k item at wanted.
    let pairs = c.args.pairs.now in
    let pair = c.get-first.result in
    let apart = wanted_apart pairs c.args.i pair.0 k (λ is. (let yes = sym c.if-is_wanted.false ∙ c.is_wanted.ensures.1 is in cc)) wanted in
    reduce_other (agrees_in c.args.prepared.now) n m k (held_by c.args.prepared.now c.args.kinds.now) item (λ e. apart (e ∙ sym (one_pair pairs c.args.i pair.0 pair.1 m n c.get-first.ensures at).0))

pub returns-else-is_wanted-clause-in_order : goal.returns-else-is_wanted-clause-in_order
returns-else-is_wanted-clause-in_order c = in_order_same c.args.prepared.now c.args.prepared.now (λ i. refl)
