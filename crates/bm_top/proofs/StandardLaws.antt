-- Words and files have exactly one verdict, and what is asked over the index of data is asked over the data.
use Rattle.std.proofs.Common.{◌≡◌, ◌≢◌, ℕ, ◌≤◌, false, List, length, Option, Some, None, refl, sym, ap, subst, ◌∙◌, arith}
use Rattle.std.specs.Prelude.{cond}
use Rattle.std.specs.FinMap.{get, insert, get-insert}
use Rattle.std.proofs.lemmas.Cmp.{eq_by_cmp_equiv, nat_list_cmp_total}
use Rattle.std.proofs.lemmas.Map.Lookups.{exact_bytes}
use Rattle.std.specs.Ordering.{eq_by_cmp, is_eq, nat_cmp}
use Rattle.std.specs.declared.cmp.Ordering.{Ordering}
use Rattle.std.specs.declared.cmp.Ordering.TheVariants.{Less, Equal, Greater}
use Rattle.std.specs.Option.{option_map}
use Rattle.std.specs.Cmp.Lexicographic.{slice_cmp}
use Rattle.bm_term.specs.declared.triple.Triple.{Triple}
use Rattle.result_write.specs.declared.form.Form.{Form}
use Rattle.run_rows.specs.declared.form.RowForm.TheVariants.{V1}
use Rattle.index_file.specs.Image.{image_of}
use Rattle.bm_world.specs.Meanings.{Files}
use Rattle.bm_top.specs.Command.{Request, ask, load, query, check}
use Rattle.bm_top.specs.Lines.{max_data_bytes, max_query_bytes, max_index_bytes, usage_line}
use Rattle.bm_top.specs.Standard.{Asks, AsksIndex, HoldBytes, IsAnswer, IsAnswerOrRefusal, answer, IsAskVerdict, IsDecidedBy, missing, too_long, read, IsDecidedByData, bad_data, too_many, too_long_image, good_data, IsDecidedByIndex, good_index, IsGraphOf, IsIndexOf, IsIndexOfData, IsLoadVerdict, IsQueryVerdict, IsRequestVerdict, IsStored, IsVerdict}
use Rattle.bm_top.specs.Verdict.{Verdict, answered, files_after, refused}
use Rattle.bm_top.proofs.DataIndex.{graph_index}
use Rattle.bm_top.proofs.ReadData.{graph-one}
use Rattle.bm_top.proofs.Verdicts.{HasOne, One, answer_one, answer_some, counted_one, data_one, data_some, index_one, index_some, index_then, read_next, read_one, read_some, stored_one}

-- a command has at most one verdict
pub request_one : (files : Files) (request : Option Request) → One (IsRequestVerdict files request)
request_one files None = λ verdict other is also. is ∙ sym also
request_one files (Some (ask data_name query_name form)) =
    read_one files data_name max_data_bytes _ (λ bytes. read_one files query_name max_query_bytes _ (λ text. data_one bytes _ (λ graph _. answer_one form text graph)))
request_one files (Some (load data_name index_name)) =
    read_one files data_name max_data_bytes _ (λ bytes. data_one bytes _ (stored_one index_name))
request_one files (Some (query index_name query_name form)) =
    read_one files index_name max_index_bytes _ (λ bytes. read_one files query_name max_query_bytes _ (λ text. index_one bytes _ (λ graph. answer_one form text graph)))
request_one files (Some (check index_name)) =
    read_one files index_name max_index_bytes _ (λ bytes. index_one bytes _ (λ graph. counted_one graph))

-- and has one
pub request_some : (files : Files) (request : Option Request) → HoldBytes files → HasOne (IsRequestVerdict files request)
request_some files None hold = (refused 1 usage_line, refl)
request_some files (Some (ask data_name query_name form)) hold =
    read_some files data_name max_data_bytes _ (λ bytes _. read_some files query_name max_query_bytes _ (λ text _. data_some bytes _ (λ graph _. answer_some form text graph)))
request_some files (Some (load data_name index_name)) hold =
    read_some files data_name max_data_bytes _ (λ bytes _. data_some bytes _ (λ graph index. (_, refl)))
request_some files (Some (query index_name query_name form)) hold =
    read_some files index_name max_index_bytes _ (λ bytes found. read_some files query_name max_query_bytes _ (λ text _. index_some bytes _ (hold index_name bytes found) (λ graph. answer_some form text graph)))
request_some files (Some (check index_name)) hold =
    read_some files index_name max_index_bytes _ (λ bytes found. index_some bytes _ (hold index_name bytes found) (λ graph. (_, refl)))

-- an index file keeps its limit
index_is_short : (graph : List Triple) (index : List ℕ) → IsIndexOf graph index → length index ≤ max_index_bytes
index_is_short graph index is = omega (arith, is.storable.short, ap length is.spelled)

-- the verdict of words that ask over data
pub asked_verdict : (words : List (List ℕ)) (files : Files) (form : Form) (bytes text printed : List ℕ) → Asks words files form bytes text → IsAnswer form bytes text printed → IsVerdict words files (answered printed)
asked_verdict words files form bytes text printed asked is =
    let P : Option Request → Type 0 = λ request. IsRequestVerdict files request (answered printed) in
    subst P (sym asked.command) (read bytes asked.data_file asked.data_within (read text asked.query_file asked.query_within
    (good_data is.graph (image_of 1 V1 is.graph) is.is_graph (graph_index bytes is.graph is.is_graph is.few is.short) (answer printed is.is_answer refl))))

-- and over the index of the data
pub asked_index_verdict : (words : List (List ℕ)) (files : Files) (form : Form) (bytes index text printed : List ℕ) → AsksIndex words files form index text → IsIndexOfData bytes index → IsAnswer form bytes text printed
    → IsVerdict words files (answered printed)
asked_index_verdict words files form bytes index text printed asked of_data is =
    let P : Option Request → Type 0 = λ request. IsRequestVerdict files request (answered printed) in
    let Q : List Triple → Type 0 = λ graph. IsIndexOf graph index in
    let same : of_data.graph ≡ is.graph = graph-one bytes of_data.graph is.graph of_data.is_graph is.is_graph in
    let image : IsIndexOf is.graph index = subst Q same of_data.is_index in
    subst P (sym asked.command) (read index asked.index_file (index_is_short is.graph index image) (read text asked.query_file asked.query_within
    (good_index is.graph image (answer printed is.is_answer refl))))

-- names that differ are told apart
not_equal : (o : Ordering) → (o ≡ Equal → ⊥) → is_eq o ≡ false
not_equal Less differ = refl
not_equal Equal differ = absurd (differ refl)
not_equal Greater differ = refl

not_same : (name other : List ℕ) → name ≢ other → eq_by_cmp (slice_cmp nat_cmp) name other ≡ false
not_same name other differ = not_equal (slice_cmp nat_cmp name other) (λ e. differ (exact_bytes name other e))

-- a file after it was written, and another one
written : (files : Files) (name bytes : List ℕ) → get (insert files name bytes) name ≡ Some bytes
written files name bytes = get-insert nat_list_cmp_total files name bytes name ∙ ap (λ same. cond same (Some bytes) (get files name)) ((eq_by_cmp_equiv nat_list_cmp_total).refl name)

unwritten : (files : Files) (name bytes other : List ℕ) → other ≢ name → get (insert files name bytes) other ≡ get files other
unwritten files name bytes other differ = get-insert nat_list_cmp_total files name bytes other ∙ ap (λ same. cond same (Some bytes) (get files other)) (not_same other name differ)

-- what a loaded file decides of a query, its data decide
module _ (files : Files) (data_name index_name query_name data_bytes index : List ℕ) (graph : List Triple) (form : Form) (is : IsGraphOf data_bytes graph) (image : IsIndexOf graph index) where
  over_data : (text : List ℕ) (verdict : Verdict) → IsDecidedByIndex index (IsAnswerOrRefusal form text) verdict → IsDecidedByData data_bytes (λ graph _. IsAnswerOrRefusal form text graph) verdict
  over_data text verdict over = good_data graph index is image (index_then index (IsAnswerOrRefusal form text) graph verdict image over)

  other_file : query_name ≢ index_name → (verdict : Verdict)
      → IsDecidedBy (insert files index_name index) query_name max_query_bytes (λ text. IsDecidedByIndex index (IsAnswerOrRefusal form text)) verdict
      → IsDecidedBy files query_name max_query_bytes (λ text. IsDecidedByData data_bytes (λ graph _. IsAnswerOrRefusal form text graph)) verdict
  other_file differ verdict (missing none same) = missing (sym (unwritten files index_name index query_name differ) ∙ none) same
  other_file differ verdict (too_long text found long same) = too_long text (sym (unwritten files index_name index query_name differ) ∙ found) long same
  other_file differ verdict (read text found short next) = read text (sym (unwritten files index_name index query_name differ) ∙ found) short (over_data text verdict next)

  -- the verdict over the file that was written is that over the data
  over_loaded : query_name ≢ index_name → get files data_name ≡ Some data_bytes → length data_bytes ≤ max_data_bytes → (verdict : Verdict)
      → IsQueryVerdict (insert files index_name index) index_name query_name form verdict → IsAskVerdict files data_name query_name form verdict
  over_loaded differ found short verdict queried =
      read data_bytes found short
      (other_file differ verdict (read_next (insert files index_name index) index_name max_index_bytes _ index verdict (written files index_name index) (index_is_short graph index image) queried))

-- a refusal has another status than 0
refused_not_done : (verdict : Verdict) (status : ℕ) (line : List ℕ) → status ≢ 0 → verdict ≡ refused status line → verdict.status ≡ 0 → ⊥
refused_not_done verdict status line some is done = some (sym (ap (λ (v : Verdict). v.status) is) ∙ done)

module _ (files : Files) (data_name index_name query_name : List ℕ) (form : Form) (differ : query_name ≢ index_name) where
  after_data : (bytes : List ℕ) (loaded queried : Verdict) → get files data_name ≡ Some bytes → length bytes ≤ max_data_bytes → IsDecidedByData bytes (IsStored index_name) loaded → loaded.status ≡ 0
      → IsQueryVerdict (files_after loaded files) index_name query_name form queried → IsAskVerdict files data_name query_name form queried
  after_data bytes loaded queried found short (bad_data line is same) done over = absurd (refused_not_done loaded 2 _ (λ e. omega arith) same done)
  after_data bytes loaded queried found short (too_many is same) done over = absurd (refused_not_done loaded 8 _ (λ e. omega arith) same done)
  after_data bytes loaded queried found short (too_long_image is same) done over = absurd (refused_not_done loaded 8 _ (λ e. omega arith) same done)
  after_data bytes loaded queried found short (good_data graph index is image same) done over =
      let P : Files → Type 0 = λ after. IsQueryVerdict after index_name query_name form queried in
      over_loaded files data_name index_name query_name bytes index graph form is image differ found short queried (subst P (ap (λ v. files_after v files) same) over)

  pub after_loading : (loaded queried : Verdict) → IsLoadVerdict files data_name index_name loaded → loaded.status ≡ 0 → IsQueryVerdict (files_after loaded files) index_name query_name form queried
      → IsAskVerdict files data_name query_name form queried
  after_loading loaded queried (missing none same) done over = absurd (refused_not_done loaded 5 _ (λ e. omega arith) same done)
  after_loading loaded queried (too_long bytes found long same) done over = absurd (refused_not_done loaded 8 _ (λ e. omega arith) same done)
  after_loading loaded queried (read bytes found short next) done over = after_data bytes loaded queried found short next done over

-- in a form, or in none
pub same_verdict : (files : Files) (data_name index_name query_name : List ℕ) (form : Option Form) (loaded asked queried : Verdict) → IsLoadVerdict files data_name index_name loaded → loaded.status ≡ 0 → query_name ≢ index_name
    → IsRequestVerdict files (option_map (ask data_name query_name) form) asked → IsRequestVerdict (files_after loaded files) (option_map (query index_name query_name) form) queried → queried ≡ asked
same_verdict files data_name index_name query_name None loaded asked queried is done differ asks over = over ∙ sym asks
same_verdict files data_name index_name query_name (Some form) loaded asked queried is done differ asks over =
    request_one files (Some (ask data_name query_name form)) queried asked (after_loading files data_name index_name query_name form differ loaded queried is done over) asks
