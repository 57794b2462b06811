use Rattle.std.proofs.Common.{◌≡◌, ◌+◌, ◌*◌, All, length}
use Rattle.mask_pool.specs.Mask.{Stretch, words_for}
use Rattle.match_relations.specs.steps.Masks.{AreMasks}
use Rattle.match_relations.proofs.masks.take_work.Given as goal

abbrev pub invariant-loop : goal.invariant-loop
invariant-loop l =
    (length l.work ≡ l.counter) × (All (λ (m : Stretch). m.bits ≡ l.bits) l.work) × (AreMasks l.pool l.work) × (l.pool.spare + words_for l.bits * l.counter ≡ l.fn.pool.spare)
