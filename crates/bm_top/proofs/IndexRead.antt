-- The verdict over bytes that were opened as an index.
use Rattle.std.proofs.Common.{◌≡◌, ℕ, List, Result, Ok, sym, ap, ◌∙◌}
use Rattle.bm_term.specs.declared.triple.Triple.{Triple}
use Rattle.run_rows.specs.declared.form.RowForm.TheVariants.{V1}
use Rattle.index_file.specs.Conditions.{IsIndex}
use Rattle.index_file.specs.Stored.{Stored, counts_of, stored_of}
use Rattle.index_file.specs.Version.{NumbersGraph}
use Rattle.index_file.proofs.DecidedLawsOfParts.{index_has_none_failing}
use Rattle.result_write.specs.declared.form.Form.{Form}
use Rattle.bm_world.specs.Meanings.{Meanings}
use Rattle.bm_top.specs.declared.ending.Ending.{Ending}
use Rattle.bm_top.specs.Standard.{IsAnswerOrRefusal, IsCounted, IsDecidedByIndex, damaged, good_index, IsIndexOf}
use Rattle.bm_top.specs.Texts.{counts_text}
use Rattle.bm_top.specs.Verdict.{Verdict, answered}
use Rattle.bm_top.specs.steps.Ending.{Ends}

-- the index has the numbers of its graph
pub numbers_of : (graph : List Triple) (bytes : List ℕ) (index : Stored) → IsIndexOf graph bytes → index ≡ stored_of 1 graph → NumbersGraph graph index.numbering
numbers_of graph bytes index is same = record { ascends = is.storable.ascends; triples = is.storable.triples; numbered = ap (λ (s : Stored). s.numbering) same }

module _ (bytes : List ℕ) (index : Stored) (is_index : IsIndex 1 V1 bytes) (stands : (graph : List Triple) → IsIndexOf graph bytes → index ≡ stored_of 1 graph) where
  -- what ends so over the graph of the index ends so over the bytes
  pub Ends-opened : (form : Form) (text : List ℕ) (ending : Ending) (m n : Meanings) → ((graph : List Triple) → NumbersGraph graph index.numbering → Ends (IsAnswerOrRefusal form text graph) ending m n)
      → Ends (IsDecidedByIndex bytes (IsAnswerOrRefusal form text)) ending m n
  Ends-opened form text ending m n ended verdict (damaged part fails same) = absurd (index_has_none_failing 1 V1 bytes part is_index fails)
  Ends-opened form text ending m n ended verdict (good_index graph is next) = ended graph (numbers_of graph bytes index is (stands graph is)) verdict next

  -- the counts are those of the graph
  pub counted_opened : (verdict : Verdict) → IsDecidedByIndex bytes IsCounted verdict → verdict ≡ answered (counts_text (counts_of index))
  counted_opened verdict (damaged part fails same) = absurd (index_has_none_failing 1 V1 bytes part is_index fails)
  counted_opened verdict (good_index graph is same) = same ∙ ap (λ s. answered (counts_text (counts_of s))) (sym (stands graph is))

-- what a call answers is what is known of it
pub opened_as : {E : Type 0} (result : Result Stored E) (index other : Stored) → result ≡ Ok index → result ≡ Ok other → index ≡ other
opened_as result index other is also = cc
