-- Each kind of step has some verdict, and no other: files, data, indexes, queries and what is stored.
use Rattle.std.proofs.Common.{◌≡◌, ◌⊎◌, inl, inr, ℕ, ◌<◌, ◌≤◌, List, length, Option, Some, None, refl, sym, ap, subst, ◌∙◌, arith}
use Rattle.std.specs.FinMap.{get}
use Rattle.std.proofs.lemmas.Bool.{cases_lt}
use Rattle.bm_term.specs.declared.triple.Triple.{Triple}
use Rattle.byte_tables.specs.Numbers.{IsBytes}
use Rattle.nt_read.specs.scanning.Lines.{first_bad}
use Rattle.sparql_parse.specs.computed.Reading.{query_reading}
use Rattle.result_write.specs.declared.form.Form.{Form}
use Rattle.run_rows.specs.declared.form.RowForm.TheVariants.{V1}
use Rattle.term_numbers.specs.Limits.{max_triples}
use Rattle.index_file.specs.Conditions.{IsIndex}
use Rattle.index_file.specs.Damage.{IsFirstFailing}
use Rattle.index_file.specs.Image.{image_of}
use Rattle.index_file.specs.declared.damaged.Part.{Part}
use Rattle.index_file.proofs.DecidedLawsOfParts.{first_failing_is_one, index_has_none_failing, index_or_first_failing}
use Rattle.index_file.proofs.ImageLaws.{image_of_one, index_exactly}
use Rattle.index_file.proofs.WritingLaws.{IsIndex-image_of}
use Rattle.bm_world.specs.Meanings.{Files}
use Rattle.bm_top.specs.Lines.{max_index_bytes, bad_line_line, damaged_line, image_too_long_line, limit_line, read_fault_line, too_many_triples_line}
use Rattle.bm_top.specs.Standard.{IsAnswerOrRefusal, IsCounted, IsDecidedBy, missing, too_long, read, IsDecidedByData, bad_data, too_many, too_long_image, good_data, IsDecidedByIndex, damaged, good_index, IsGraphOf, IsIndexOf, IsStored}
use Rattle.bm_top.specs.Verdict.{Verdict, refused}
use Rattle.bm_top.specs.steps.VerdictOf.{answering, graph_in}
use Rattle.bm_top.proofs.DataIndex.{index-read}
use Rattle.bm_top.proofs.ReadData.{graph-read, read-graph, graph-one, bad-read, read-bad, is-answering, answering-is}

-- there is such a verdict
abbrev pub HasOne : (Verdict → Type 0) → Type 0
HasOne IsOf = (verdict : Verdict) × IsOf verdict

-- there is no second one
abbrev pub One : (Verdict → Type 0) → Type 0
One IsOf = (verdict other : Verdict) → IsOf verdict → IsOf other → verdict ≡ other

-- a file has one content
same_file : (file : Option (List ℕ)) (bytes other : List ℕ) → file ≡ Some bytes → file ≡ Some other → bytes ≡ other
same_file file bytes other is also = cc

there : (file : Option (List ℕ)) (bytes : List ℕ) → file ≡ None → file ≡ Some bytes → ⊥
there file bytes none some = absurd (cc)

module _ (files : Files) (name : List ℕ) (limit : ℕ) (Next : List ℕ → Verdict → Type 0) where
  -- what decides where the file is there and keeps its limit
  pub read_next : (bytes : List ℕ) (verdict : Verdict) → get files name ≡ Some bytes → length bytes ≤ limit → IsDecidedBy files name limit Next verdict → Next bytes verdict
  read_next bytes verdict found short (missing none same) = absurd (there (get files name) bytes none found)
  read_next bytes verdict found short (too_long other also long same) =
      let e = same_file (get files name) bytes other found also in absurd (omega (arith, ap length e))
  read_next bytes verdict found short (read other also within next) =
      let P : List ℕ → Type 0 = λ content. Next content verdict in subst P (sym (same_file (get files name) bytes other found also)) next

  -- where it is too long
  pub too_long_then : (bytes : List ℕ) (verdict : Verdict) → get files name ≡ Some bytes → limit < length bytes → IsDecidedBy files name limit Next verdict → verdict ≡ refused 8 (limit_line name limit)
  too_long_then bytes verdict found long (missing none same) = absurd (there (get files name) bytes none found)
  too_long_then bytes verdict found long (too_long other also over same) = same
  too_long_then bytes verdict found long (read other also within next) =
      let e = same_file (get files name) bytes other found also in absurd (omega (arith, ap length e))

  -- and where it is not there
  pub missing_then : (verdict : Verdict) → get files name ≡ None → IsDecidedBy files name limit Next verdict → verdict ≡ refused 5 (read_fault_line name)
  missing_then verdict none (missing also same) = same
  missing_then verdict none (too_long bytes found long same) = absurd (there (get files name) bytes none found)
  missing_then verdict none (read bytes found within next) = absurd (there (get files name) bytes none found)

  pub read_one : ((bytes : List ℕ) → One (Next bytes)) → One (IsDecidedBy files name limit Next)
  read_one after verdict other (missing none same) also = same ∙ sym (missing_then other none also)
  read_one after verdict other (too_long bytes found long same) also = same ∙ sym (too_long_then bytes other found long also)
  read_one after verdict other (read bytes found within next) also = after bytes verdict other next (read_next bytes other found within also)

  some_within : (bytes : List ℕ) → get files name ≡ Some bytes → HasOne (Next bytes) → (limit < length bytes) ⊎ (length bytes ≤ limit) → HasOne (IsDecidedBy files name limit Next)
  some_within bytes found next (inl long) = (refused 8 (limit_line name limit), too_long bytes found long refl)
  some_within bytes found next (inr short) = (next.0, read bytes found short next.1)

  some_file : (file : Option (List ℕ)) → get files name ≡ file → ((bytes : List ℕ) → get files name ≡ Some bytes → HasOne (Next bytes)) → HasOne (IsDecidedBy files name limit Next)
  some_file None found after = (refused 5 (read_fault_line name), missing found refl)
  some_file (Some bytes) found after = some_within bytes found (after bytes found) (cases_lt limit (length bytes))

  pub read_some : ((bytes : List ℕ) → get files name ≡ Some bytes → HasOne (Next bytes)) → HasOne (IsDecidedBy files name limit Next)
  read_some after = some_file (get files name) refl after

-- a list has a first bad line, or none
no_bad_line : (bad : Option ℕ) (number : ℕ) → bad ≡ None → bad ≡ Some number → ⊥
no_bad_line bad number none some = absurd (cc)

module _ (bytes : List ℕ) (Next : List Triple → List ℕ → Verdict → Type 0) where
  -- data with a bad line
  pub bad_then : (number : ℕ) (verdict : Verdict) → first_bad bytes ≡ Some number → IsDecidedByData bytes Next verdict → verdict ≡ refused 2 (bad_line_line number)
  bad_then number verdict found (bad_data line is same) =
      let (other, also, is_line) = bad-read bytes line is in
      let e : other ≡ number = cc in
      same ∙ ap (refused 2) is_line ∙ ap (λ n. refused 2 (bad_line_line n)) e
  bad_then number verdict found (too_many is same) = absurd (no_bad_line (first_bad bytes) number (graph-read bytes is.graph is.is_graph).none found)
  bad_then number verdict found (too_long_image is same) = absurd (no_bad_line (first_bad bytes) number (graph-read bytes is.graph is.is_graph).none found)
  bad_then number verdict found (good_data graph index is image next) = absurd (no_bad_line (first_bad bytes) number (graph-read bytes graph is).none found)

  -- data with too many triples
  pub many_then : (graph : List Triple) (verdict : Verdict) → IsGraphOf bytes graph → max_triples < length graph → IsDecidedByData bytes Next verdict → verdict ≡ refused 8 too_many_triples_line
  many_then graph verdict is_graph many (bad_data line is same) =
      let (other, also, is_line) = bad-read bytes line is in absurd (no_bad_line (first_bad bytes) other (graph-read bytes graph is_graph).none also)
  many_then graph verdict is_graph many (too_many is same) = same
  many_then graph verdict is_graph many (too_long_image is same) =
      let e = graph-one bytes graph is.graph is_graph is.is_graph in absurd (omega (arith, ap length e, is.few))
  many_then graph verdict is_graph many (good_data other index also image next) =
      let e = graph-one bytes graph other is_graph also in absurd (omega (arith, ap length e, image.storable.few))

  -- data whose index would be too long
  pub long_then : (graph : List Triple) (verdict : Verdict) → IsGraphOf bytes graph → length graph ≤ max_triples → max_index_bytes < length (image_of 1 V1 graph) → IsDecidedByData bytes Next verdict
      → verdict ≡ refused 8 image_too_long_line
  long_then graph verdict is_graph few long (bad_data line is same) =
      let (other, also, is_line) = bad-read bytes line is in absurd (no_bad_line (first_bad bytes) other (graph-read bytes graph is_graph).none also)
  long_then graph verdict is_graph few long (too_many is same) =
      let e = graph-one bytes graph is.graph is_graph is.is_graph in absurd (omega (arith, ap length e, is.many))
  long_then graph verdict is_graph few long (too_long_image is same) = same
  long_then graph verdict is_graph few long (good_data other index also image next) =
      let e = ap (λ g. length (image_of 1 V1 g)) (graph-one bytes graph other is_graph also) in absurd (omega (arith, e, image.storable.short))

  -- data that is taken
  pub good_then : (graph : List Triple) (index : List ℕ) (verdict : Verdict) → IsGraphOf bytes graph → IsIndexOf graph index → IsDecidedByData bytes Next verdict → Next graph index verdict
  good_then graph index verdict is_graph image (bad_data line is same) =
      let (other, also, is_line) = bad-read bytes line is in absurd (no_bad_line (first_bad bytes) other (graph-read bytes graph is_graph).none also)
  good_then graph index verdict is_graph image (too_many is same) =
      let e = graph-one bytes graph is.graph is_graph is.is_graph in absurd (omega (arith, ap length e, is.many, image.storable.few))
  good_then graph index verdict is_graph image (too_long_image is same) =
      let e = ap (λ g. length (image_of 1 V1 g)) (graph-one bytes graph is.graph is_graph is.is_graph) in absurd (omega (arith, e, is.long, image.storable.short))
  good_then graph index verdict is_graph image (good_data other second also is_second next) =
      let e = graph-one bytes graph other is_graph also in
      let same : second ≡ index = is_second.spelled ∙ ap (image_of 1 V1) (sym e) ∙ sym image.spelled in
      let P : List Triple → Type 0 = λ g. Next g second verdict in
      let Q : List ℕ → Type 0 = λ i. Next graph i verdict in
      subst Q same (subst P (sym e) next)

  pub data_one : ((graph : List Triple) (index : List ℕ) → One (Next graph index)) → One (IsDecidedByData bytes Next)
  data_one after verdict other (bad_data line is same) also =
      let (number, found, is_line) = bad-read bytes line is in
      same ∙ ap (refused 2) is_line ∙ sym (bad_then number other found also)
  data_one after verdict other (too_many is same) also = same ∙ sym (many_then is.graph other is.is_graph is.many also)
  data_one after verdict other (too_long_image is same) also = same ∙ sym (long_then is.graph other is.is_graph is.few is.long also)
  data_one after verdict other (good_data graph index is image next) also = after graph index verdict other next (good_then graph index other is image also)

  some_image : first_bad bytes ≡ None → length (graph_in bytes) ≤ max_triples → ((graph : List Triple) (index : List ℕ) → HasOne (Next graph index))
      → (max_index_bytes < length (image_of 1 V1 (graph_in bytes))) ⊎ (length (image_of 1 V1 (graph_in bytes)) ≤ max_index_bytes) → HasOne (IsDecidedByData bytes Next)
  some_image none few after (inl long) =
      (refused 8 image_too_long_line, too_long_image (record { graph = graph_in bytes; is_graph = read-graph bytes none; few = few; long = long }) refl)
  some_image none few after (inr short) =
      let next = after (graph_in bytes) (image_of 1 V1 (graph_in bytes)) in
      (next.0, good_data (graph_in bytes) (image_of 1 V1 (graph_in bytes)) (read-graph bytes none) (index-read bytes few short) next.1)

  some_counted : first_bad bytes ≡ None → ((graph : List Triple) (index : List ℕ) → HasOne (Next graph index))
      → (max_triples < length (graph_in bytes)) ⊎ (length (graph_in bytes) ≤ max_triples) → HasOne (IsDecidedByData bytes Next)
  some_counted none after (inl many) = (refused 8 too_many_triples_line, too_many (record { graph = graph_in bytes; is_graph = read-graph bytes none; many = many }) refl)
  some_counted none after (inr few) = some_image none few after (cases_lt max_index_bytes (length (image_of 1 V1 (graph_in bytes))))

  some_lines : (bad : Option ℕ) → first_bad bytes ≡ bad → ((graph : List Triple) (index : List ℕ) → HasOne (Next graph index)) → HasOne (IsDecidedByData bytes Next)
  some_lines (Some number) found after = (refused 2 (bad_line_line number), bad_data (bad_line_line number) (read-bad bytes number found) refl)
  some_lines None found after = some_counted found after (cases_lt max_triples (length (graph_in bytes)))

  pub data_some : ((graph : List Triple) (index : List ℕ) → HasOne (Next graph index)) → HasOne (IsDecidedByData bytes Next)
  data_some after = some_lines (first_bad bytes) refl after

-- an image meets the conditions
pub image_is_index : (graph : List Triple) (bytes : List ℕ) → IsIndexOf graph bytes → IsIndex 1 V1 bytes
image_is_index graph bytes is = subst (IsIndex 1 V1) (sym is.spelled) (IsIndex-image_of 1 V1 graph (omega arith) is.storable)

module _ (bytes : List ℕ) (Next : List Triple → Verdict → Type 0) where
  -- an index that is none
  pub damaged_then : (part : Part) (verdict : Verdict) → IsFirstFailing 1 V1 bytes part → IsDecidedByIndex bytes Next verdict → verdict ≡ refused 4 (damaged_line part)
  damaged_then part verdict fails (damaged other also same) = same ∙ ap (λ p. refused 4 (damaged_line p)) (sym (first_failing_is_one 1 V1 bytes part other fails also))
  damaged_then part verdict fails (good_index graph is next) = absurd (index_has_none_failing 1 V1 bytes part (image_is_index graph bytes is) fails)

  -- the index of a graph
  pub index_then : (graph : List Triple) (verdict : Verdict) → IsIndexOf graph bytes → IsDecidedByIndex bytes Next verdict → Next graph verdict
  index_then graph verdict is (damaged part fails same) = absurd (index_has_none_failing 1 V1 bytes part (image_is_index graph bytes is) fails)
  index_then graph verdict is (good_index other also next) =
      let P : List Triple → Type 0 = λ g. Next g verdict in subst P (sym (image_of_one 1 V1 graph other bytes (omega arith) is also)) next

  pub index_one : ((graph : List Triple) → One (Next graph)) → One (IsDecidedByIndex bytes Next)
  index_one after verdict other (damaged part fails same) also = same ∙ sym (damaged_then part other fails also)
  index_one after verdict other (good_index graph is next) also = after graph verdict other next (index_then graph other is also)

  some_index : IsBytes bytes → ((graph : List Triple) → HasOne (Next graph)) → IsIndex 1 V1 bytes ⊎ ((part : Part) × IsFirstFailing 1 V1 bytes part) → HasOne (IsDecidedByIndex bytes Next)
  some_index fits after (inl is) =
      let (graph, image) = (index_exactly 1 V1 bytes (omega arith) fits).0 is in
      let next = after graph in (next.0, good_index graph image next.1)
  some_index fits after (inr (part, fails)) = (refused 4 (damaged_line part), damaged part fails refl)

  pub index_some : IsBytes bytes → ((graph : List Triple) → HasOne (Next graph)) → HasOne (IsDecidedByIndex bytes Next)
  index_some fits after = some_index fits after (index_or_first_failing 1 V1 bytes)

-- a query over a graph
pub answer_one : (form : Form) (text : List ℕ) (graph : List Triple) → One (IsAnswerOrRefusal form text graph)
answer_one form text graph verdict other is also = is-answering form text graph verdict is ∙ sym (is-answering form text graph other also)

pub answer_some : (form : Form) (text : List ℕ) (graph : List Triple) → HasOne (IsAnswerOrRefusal form text graph)
answer_some form text graph = (answering form graph (query_reading text), answering-is form text graph)

-- an index file that is written, and counts that are printed
pub stored_one : (name : List ℕ) (graph : List Triple) (index : List ℕ) → One (IsStored name graph index)
stored_one name graph index verdict other is also = is ∙ sym also

pub counted_one : (graph : List Triple) → One (IsCounted graph)
counted_one graph verdict other is also = is ∙ sym also
