use Rattle.std.proofs.Common.{◌≡◌, ◌+◌, ◌*◌, length, map}
use Rattle.pattern_rel.specs.Left.{pairs_left}
use Rattle.multiway_join.specs.steps.Binding.{bind_pair}
use Rattle.multiway_join.specs.steps.Cursor.{coming}
use Rattle.multiway_join.specs.steps.Search.{as_node, cells_within, patterns_in}
use Rattle.multiway_join.proofs.Searching.{work_of, IsUnderWay}
use Rattle.multiway_join.proofs.search.+join.Given as goal

abbrev pub decreases-from_node : goal.decreases-from_node
decreases-from_node l = 1 + work_of l.nodes.now

abbrev pub decreases-tried : goal.decreases-tried
decreases-tried l = 3 + 3 * length l.patterns.now + work_of l.nodes.now

abbrev pub decreases-dead_end : goal.decreases-dead_end
decreases-dead_end l = 2 + work_of l.nodes.now

abbrev pub decreases-within : goal.decreases-within
decreases-within l = 2 + 3 * length l.patterns.now + work_of l.nodes.now

abbrev pub decreases-with_pairs : goal.decreases-with_pairs
decreases-with_pairs l = 4 + 3 * length l.patterns.now + work_of l.nodes.now

abbrev pub decreases-with_pair : goal.decreases-with_pair
decreases-with_pair l = 3 + 3 * length l.patterns.now + work_of l.nodes.now

abbrev pub invariant-with_pairs-loop-pair : goal.invariant-with_pairs-loop-pair
invariant-with_pairs-loop-pair l =
    IsUnderWay (cells_within l.fn.prepared (patterns_in l.fn.patterns) (map as_node l.fn.nodes) l.fn.k l.fn.matched l.fn.entry) (bind_pair l.fn.prepared l.fn.relation l.fn.row)
    (pairs_left l.fn.prepared.pool l.fn.relation.rel) (coming l.pairs) l.any l.fn.rows l.rows
    × (l.row ≡ l.fn.row) × (l.entry ≡ l.fn.entry)

abbrev pub decreases-with_pairs-loop-pair : goal.decreases-with_pairs-loop-pair
decreases-with_pairs-loop-pair l = length (coming l.pairs)
