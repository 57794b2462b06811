-- Laws of bytes that are split one section after the other.
use Rattle.std.proofs.Common.{◌≡◌, ℕ, ◌+◌, ◌*◌, List, take, drop, sym, ◌∙◌}
use Rattle.std.proofs.lemmas.List.{drop-drop}
use Rattle.index_file.specs.Layout.{field, text_count, slice_count, after_head, after_starts, text_part, after_texts, slice_part}

-- the sections that splits give
pub record AreSplit (bytes text_starts texts slice_starts slices : List ℕ) : Type 0 where
  pub starts_are : text_starts ≡ take (4 * (text_count bytes + 1)) (after_head bytes)
  pub texts_are : texts ≡ text_part bytes
  pub places_are : slice_starts ≡ take (4 * (slice_count bytes + 1)) (after_texts bytes)
  pub slices_are : slices ≡ slice_part bytes

-- what is split after the head, by the lengths that are written
pub split_in_turn : (bytes text_starts rest texts more slice_starts slices : List ℕ) (a b d : ℕ) → a ≡ 4 * (text_count bytes + 1) → b ≡ field bytes 6 → d ≡ 4 * (slice_count bytes + 1)
    → text_starts ≡ take a (drop 44 bytes) → rest ≡ drop a (drop 44 bytes) → texts ≡ take b rest → more ≡ drop b rest → slice_starts ≡ take d more → slices ≡ drop d more → AreSplit bytes text_starts texts slice_starts slices
split_in_turn bytes text_starts rest texts more slice_starts slices a b d a_is b_is d_is first rest_is second more_is third fourth =
    let head : drop 44 bytes ≡ after_head bytes = sym (drop-drop 36 8 bytes) in
    let rest_there : rest ≡ after_starts bytes = rest_is ∙ (λ i. drop (a_is i) (head i)) in
    let more_there : more ≡ after_texts bytes = more_is ∙ (λ i. drop (b_is i) (rest_there i)) in
    record {
      starts_are = first ∙ (λ i. take (a_is i) (head i));
      texts_are = second ∙ (λ i. take (b_is i) (rest_there i));
      places_are = third ∙ (λ i. take (d_is i) (more_there i));
      slices_are = fourth ∙ (λ i. drop (d_is i) (more_there i));
    }
