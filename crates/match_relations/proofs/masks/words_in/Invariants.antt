use Rattle.std.proofs.Common.{◌≡◌, ◌+◌, ◌*◌, ◌≤◌, ◌^◌, drop}
use Rattle.match_relations.specs.steps.Masks.{words_in}
use Rattle.match_relations.proofs.masks.words_in.Given as goal

abbrev pub invariant-loop-one : goal.invariant-loop-one
invariant-loop-one l = (l.words + words_in l.counts (drop l.one-index l.borrowed) ≡ words_in l.counts l.borrowed) × (l.words ≤ l.one-index * 2 ^ 19)
