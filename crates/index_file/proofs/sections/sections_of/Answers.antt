use Rattle.std.proofs.Common.{◌+◌, ◌*◌, take, drop, ap, ◌∙◌}
use Rattle.byte_tables.specs.Numbers.{numbers_in}
use Rattle.index_file.proofs.HeadLaws.{split_in_turn}
use Rattle.index_file.proofs.sections.sections_of.Goals as goal

pub returns : goal.returns
returns c =
    let head = c.split_at.ensures.back in
    let are =
    split_in_turn c.args.bytes.now _ c.split_at-2.result.1.now _ c.split_at-3.result.1.now _ _ _ _ _ (ap (λ n. 4 * (n + 1)) c.text_count.ensures.count) c.head_number.ensures (ap (λ n. 4 * (n + 1)) c.slice_count.ensures.count) (c.split_at-2.ensures.front ∙ ap (take (4 * (c.text_count.result + 1))) head) (c.split_at-2.ensures.back ∙ ap (drop (4 * (c.text_count.result + 1))) head) c.split_at-3.ensures.front c.split_at-3.ensures.back c.split_at-4.ensures.front c.split_at-4.ensures.back in
    record {
      counts = c.head_counts.ensures;
      text_starts_are = ap numbers_in are.starts_are;
      texts_are = are.texts_are;
      slice_starts_are = ap numbers_in are.places_are;
      slices_are = are.slices_are;
    }
