-- The window of a search gets narrower by what is learnt from a row.
use Rattle.std.proofs.Common.{◌≡◌, ℕ, ◌+◌, ◌<◌, ◌≤◌, true, false, List, arith}
use Rattle.std.specs.declared.cmp.Ordering.TheVariants.{Greater}
use Rattle.std.specs.List.Sorted.{IsStrictlySortedBy}
use Rattle.std.specs.Ordering.{is_lt}
use Rattle.null_best.specs.declared.groups.Group.{Group}
use Rattle.null_best.specs.steps.Groups.{row_at, IsIn, IsGroup}
use Rattle.null_best.specs.steps.Keys.{key_cmp}
use Rattle.null_best.specs.steps.Searches.{Matches, IsWindow}
use Rattle.null_best.proofs.Orders.{after_less, until_not_less, before_greater}

module _ (keys : List (List ℕ)) (group : Group) (ascends : IsStrictlySortedBy key_cmp keys) (is : IsGroup keys group) (cells : List ℕ) where
  -- the whole group
  pub whole : IsWindow keys group cells group.start group.end
  whole = record { from = omega arith; to = omega arith; ordered = is.ordered; holds = λ k match. (match.place.from, match.place.below) }

  module _ (low high : ℕ) (window : IsWindow keys group cells low high) (at : ℕ) (from : low ≤ at) (below : at < high) where
    inside : IsIn group at
    inside = record { from = omega (arith, window.from); below = omega (arith, window.to) }

    -- from a row on that comes before the cells, and after it
    pub narrow-from : is_lt (key_cmp (row_at keys at) cells) ≡ true → IsWindow keys group cells at high
    narrow-from less = record {
      from = omega (arith, window.from);
      to = window.to;
      ordered = omega arith;
      holds = λ k match. let lt : at < k = after_less keys group ascends is cells at inside less k match in (omega arith, (window.holds k match).1);
    }

    pub narrow-after : is_lt (key_cmp (row_at keys at) cells) ≡ true → IsWindow keys group cells (at + 1) high
    narrow-after less = record {
      from = omega (arith, window.from);
      to = window.to;
      ordered = omega arith;
      holds = λ k match. let lt : at < k = after_less keys group ascends is cells at inside less k match in (omega arith, (window.holds k match).1);
    }

    -- up to a row that does not, and before one that comes after the cells
    pub narrow-until : is_lt (key_cmp (row_at keys at) cells) ≡ false → IsWindow keys group cells low (at + 1)
    narrow-until not_less = record {
      from = window.from;
      to = omega (arith, window.to);
      ordered = omega arith;
      holds = λ k match. ((window.holds k match).0, until_not_less keys group ascends is cells at inside not_less k match);
    }

    pub narrow-before : key_cmp (row_at keys at) cells ≡ Greater → IsWindow keys group cells low at
    narrow-before greater = record {
      from = window.from;
      to = omega (arith, window.to);
      ordered = from;
      holds = λ k match. ((window.holds k match).0, before_greater keys group ascends is cells at inside greater k match);
    }
