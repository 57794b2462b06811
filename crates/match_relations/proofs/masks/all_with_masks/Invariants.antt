use Rattle.std.proofs.Common.{◌≡◌, ◌++◌, All, List, map, length}
use Rattle.std.specs.Vec.Iter.{into_iter_items, into_iter_len}
use Rattle.mask_pool.specs.Mask.{Stretch}
use Rattle.pattern_rel.specs.Shapes.{KnowsColumns}
use Rattle.match_relations.specs.declared.borrowed.Borrowed.{Borrowed}
use Rattle.match_relations.specs.steps.Masks.{AreMasks, bare, bare_of, masks_in, words_in}
use Rattle.match_relations.proofs.masks.all_with_masks.Given as goal

abbrev pub invariant-loop-one : goal.invariant-loop-one
invariant-loop-one l =
    let rest = into_iter_items l.one-iterator in
    record {
      entries : map bare l.entries ++ map (bare_of l.counts) rest ≡ map (bare_of l.counts) l.fn.borrowed.items;
      masks : (work : List Stretch) → AreMasks l.fn.pool work → AreMasks l.pool (work ++ masks_in l.entries);
      words : words_in l.counts rest ≡ l.pool.spare;
      knows : All (λ (b : Borrowed). KnowsColumns b.shape) rest;
      rest_len : into_iter_len l.one-iterator ≡ length rest;
    }
