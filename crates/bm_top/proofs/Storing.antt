-- The index of data, by what each part said of it.
use Rattle.std.proofs.Common.{◌≡◌, ◌⊎◌, inl, inr, ℕ, ◌<◌, ◌≤◌, ◌^◌, Bool, true, false, IsTrue, List, length, refl, sym, ap, subst, ◌∙◌, arith}
use Rattle.std.proofs.lemmas.Bool.{cases_lt}
use Rattle.bm_term.specs.declared.triple.Triple.{Triple}
use Rattle.bm_term.specs.Graph.{graph_of}
use Rattle.bm_term.specs.Kept.{Kept, HasTaken, after_all}
use Rattle.run_rows.specs.declared.form.RowForm.TheVariants.{V1}
use Rattle.term_numbers.specs.Limits.{max_triples}
use Rattle.term_numbers.specs.Numbering.{Numbering, numbering_of}
use Rattle.term_numbers.specs.Sights.{nothing_yet}
use Rattle.term_numbers.specs.declared.fault.NumberFault.{NumberFault}
use Rattle.term_numbers.specs.declared.fault.NumberFault.TheVariants as number_faults
use Rattle.term_numbers.proofs.NumberLaws.{as_many}
use Rattle.term_numbers.proofs.SightLaws.{graph_of-first_sights, kept_unmarked, length-first_sights, marked_where_more}
use Rattle.index_file.specs.Image.{image_of}
use Rattle.index_file.specs.Version.{numbering_bytes}
use Rattle.index_image.specs.declared.fault.ImageFault.{ImageFault}
use Rattle.index_image.specs.declared.fault.ImageFault.TheVariants as image_faults
use Rattle.bm_top.specs.declared.undecided.Undecided.{Undecided}
use Rattle.bm_top.specs.declared.undecided.Undecided.TheVariants as undecided
use Rattle.bm_top.specs.declared.store.DataIndex.{DataIndex}
use Rattle.bm_top.specs.Lines.{bad_line_line, max_index_bytes}
use Rattle.bm_top.specs.Standard.{AreNTriples, HasTooManyTriples, IsDecidedByData, IsGraphOf, IsStored}
use Rattle.bm_top.specs.Texts.{stored_text}
use Rattle.bm_top.specs.Verdict.{Verdict, refused, stores}
use Rattle.bm_top.specs.steps.Undecided.{from_image, from_numbers}
use Rattle.bm_top.specs.steps.Ending.{Says}
use Rattle.bm_top.specs.steps.Store.{HasNoIndex, IsIndexFor}
use Rattle.bm_top.proofs.DataIndex.{graph_index}
use Rattle.bm_top.proofs.ReadData.{bad-read, graph-is}
use Rattle.bm_top.proofs.Verdicts.{bad_then, good_then, long_then, many_then}

-- what is not marked has no mark
not_marked : (mark : Bool) → IsTrue mark → mark ≡ false → ⊥
not_marked true marked is = absurd (cc)
not_marked false marked is = absurd (cc)

pub no_mark_where : (mark : Bool) → (IsTrue mark → ⊥) → mark ≡ false
no_mark_where true none = absurd (none refl)
no_mark_where false none = refl

-- the triples of the data were taken, under their limit
module _ (bytes : List ℕ) (triples : List Triple) (kept : Kept) (are : AreNTriples bytes triples) (taken : HasTaken (nothing_yet max_triples) kept triples) where
  taken_graph : IsGraphOf bytes (graph_of triples)
  taken_graph = record { triples = triples; are_triples = are; is_graph = (graph-is triples (graph_of triples)).1 refl }

  -- there were more
  many_taken : IsTrue kept.were_more → HasTooManyTriples bytes
  many_taken marked =
      let more = (marked_where_more max_triples triples).0 (subst (λ (k : Kept). IsTrue k.were_more) taken marked) in
      record { graph = graph_of triples; is_graph = taken_graph; many = omega (arith, more, length-first_sights triples) }

  -- why they were not numbered
  pub no_numbers : (fault : NumberFault) → (fault ≡ number_faults.TooManyTriples → IsTrue kept.were_more) → HasNoIndex bytes (from_numbers fault)
  no_numbers number_faults.TooManyTriples marked = many_taken (marked refl)
  no_numbers number_faults.Memory marked = tt

  module _ (unmarked : kept.were_more ≡ false) where
    no_mark : (after_all (nothing_yet max_triples) triples).were_more ≡ false
    no_mark = sym (ap (λ (k : Kept). k.were_more) taken) ∙ unmarked

    few_or : (max_triples < length (graph_of triples)) ⊎ (length (graph_of triples) ≤ max_triples) → length (graph_of triples) ≤ max_triples
    few_or (inl more) =
        let marked : IsTrue (after_all (nothing_yet max_triples) triples).were_more = (marked_where_more max_triples triples).1 (omega (arith, more, length-first_sights triples)) in
        absurd (not_marked (after_all (nothing_yet max_triples) triples).were_more marked no_mark)
    few_or (inr few) = few

    pub few_taken : length (graph_of triples) ≤ max_triples
    few_taken = few_or (cases_lt max_triples (length (graph_of triples)))

    -- they have the graph of what was kept
    pub same_graph : graph_of kept.list ≡ graph_of triples
    same_graph = ap (λ (k : Kept). graph_of k.list) taken ∙ ap graph_of (kept_unmarked max_triples triples no_mark) ∙ graph_of-first_sights triples

    module _ (numbers : Numbering) (is : numbers ≡ numbering_of (graph_of kept.list)) where
      numbered : numbers ≡ numbering_of (graph_of triples)
      numbered = is ∙ ap numbering_of same_graph

      -- the image of their numbers is that of their graph
      numbered_image : numbering_bytes V1 numbers ≡ image_of 1 V1 (graph_of triples)
      numbered_image = ap (numbering_bytes V1) numbered

      pub few_numbered : length numbers.triples ≤ max_triples
      few_numbered = omega (arith, few_taken, ap (λ (n : Numbering). length n.triples) numbered, as_many (graph_of triples) taken_graph.is_graph.ascends)

      -- it is too long
      pub long_image : (fault : ImageFault) → (fault ≡ image_faults.TooLong → 2 ^ 32 ≤ length (numbering_bytes V1 numbers)) → HasNoIndex bytes (from_image fault)
      long_image image_faults.TooLong long =
          let over : 2 ^ 32 ≤ length (image_of 1 V1 (graph_of triples)) = subst (λ (image : List ℕ). 2 ^ 32 ≤ length image) numbered_image (long refl) in
          record { graph = graph_of triples; is_graph = taken_graph; few = few_taken; long = omega (arith, over) }
      long_image image_faults.Memory long = tt

      -- it is made
      pub made_image : (made : DataIndex) → made.bytes.items ≡ numbering_bytes V1 numbers → length made.bytes.items < 2 ^ 32 → made.triples ≡ length numbers.triples → IsIndexFor bytes made
      made_image made spelled short count =
          let image : made.bytes.items ≡ image_of 1 V1 (graph_of triples) = spelled ∙ numbered_image in
          let within : length (image_of 1 V1 (graph_of triples)) ≤ max_index_bytes = omega (arith, short, ap length image) in
          let index = graph_index bytes (graph_of triples) taken_graph few_taken within in
          record {
            graph = graph_of triples;
            is_graph = taken_graph;
            is_index = record { storable = index.storable; spelled = image };
            count = count ∙ ap (λ (n : Numbering). length n.triples) numbered ∙ as_many (graph_of triples) taken_graph.is_graph.ascends;
          }

-- what data without an index decides
pub Says-no_index : (bytes : List ℕ) (Next : List Triple → List ℕ → Verdict → Type 0) (why : Undecided) (verdict : Verdict) → HasNoIndex bytes why → IsDecidedByData bytes Next verdict → Says why verdict
Says-no_index bytes Next (undecided.BadLine line) verdict has is =
    let (number, found, same) = bad-read bytes (bad_line_line line) has in
    bad_then bytes Next number verdict found is ∙ ap (refused 2) (sym same)
Says-no_index bytes Next undecided.TooManyTriples verdict has is = many_then bytes Next has.graph verdict has.is_graph has.many is
Says-no_index bytes Next undecided.ImageTooLong verdict has is = long_then bytes Next has.graph verdict has.is_graph has.few has.long is
Says-no_index bytes Next (undecided.Query refusal) verdict has is = absurd has
Says-no_index bytes Next undecided.Memory verdict has is = tt

-- what is stored where there is one
pub is_stored : (bytes name : List ℕ) (made : DataIndex) (verdict : Verdict) → IsIndexFor bytes made → IsDecidedByData bytes (IsStored name) verdict → verdict ≡ stores name made.bytes.items (stored_text made.triples (length made.bytes.items))
is_stored bytes name made verdict has is =
    good_then bytes (IsStored name) has.graph made.bytes.items verdict has.is_graph has.is_index is
    ∙ ap (λ n. stores name made.bytes.items (stored_text n (length made.bytes.items))) (sym has.count)
