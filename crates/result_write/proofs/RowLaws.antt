-- What is sent of a row is written as its object.
use Rattle.std.proofs.Common.{◌≡◌, ℕ, suc, ◌+◌, false, List, [], ◌∷◌, map, Option, None, Some, is_some, if◌then◌else◌, length, slice_index_or, refl, sym, ◌∙◌, ap, subst, arith}
use Rattle.std.specs.List.{filter_map, count_by}
use Rattle.std.specs.Option.{option_map}
use Rattle.std.proofs.lemmas.List.Sums.{sum_by-cons}
use Rattle.serde.specs.Event.{Log}
use Rattle.serde_json.specs.Data.{array, Members}
use Rattle.serde_json.specs.Events.{SendsMembers, members_len, items_len}
use Rattle.serde_json.specs.Written.{compact_text, has_float, members_have_float}
use Rattle.alg_model.specs.Row.{Row}
use Rattle.bm_term.specs.Canonical.{iri, blank, plain, tagged, typed, RdfTerm}
use Rattle.result_write.specs.Json.{json_string, json_object, json_array}
use Rattle.result_write.specs.TermText.{term_with_text}
use Rattle.result_write.specs.JsonResult.{bound_member, cell_json}
use Rattle.result_write.specs.held.Written.{item_texts, member_texts, term_data, cell_data, names_data}
use Rattle.result_write.specs.held.RowData.{with_bound, bound_data, row_data, SendsBound}
use Rattle.result_write.proofs.JsonLaws.{quoted-string, compact-object, compact-array}
use Rattle.result_write.proofs.TermTexts.{cell-written}

-- terms have no numbers
term_has_no_float : (term : RdfTerm) → has_float (term_data term) ≡ false
term_has_no_float (iri cs) = refl
term_has_no_float (blank label) = refl
term_has_no_float (plain lexical) = refl
term_has_no_float (tagged lexical tag) = refl
term_has_no_float (typed lexical datatype) = refl

cell_has_no_float : (text : List ℕ) → has_float (cell_data text) ≡ false
unfolding cell_data
cell_has_no_float text = term_has_no_float (term_with_text text)

with_bound_has_no_float : (name : List ℕ) (cell : Option (List ℕ)) (ms : Members) → members_have_float ms ≡ false → members_have_float (with_bound name cell ms) ≡ false
with_bound_has_no_float name None ms none = none
with_bound_has_no_float name (Some text) ms none = rw (cell_has_no_float text) none

bound_has_no_float : (row : Row (List ℕ)) (columns : List (List ℕ × ℕ)) → members_have_float (bound_data row columns) ≡ false
bound_has_no_float row [] = refl
bound_has_no_float row (c ∷ cs) = with_bound_has_no_float c.0 (slice_index_or row c.1 None) (bound_data row cs) (bound_has_no_float row cs)

-- so no row has
pub row_has_no_float : (row : Row (List ℕ)) (columns : List (List ℕ × ℕ)) → has_float (row_data row columns) ≡ false
unfolding row_data
row_has_no_float row columns = bound_has_no_float row columns

-- the texts of its members
bound_texts : (row : Row (List ℕ)) (columns : List (List ℕ × ℕ)) → member_texts (bound_data row columns) ≡ filter_map (bound_member row) columns
bound_texts row [] = refl
bound_texts row (c ∷ cs) =
    elim (slice_index_or row c.1 None) as (λ cell. slice_index_or row c.1 None ≡ cell → member_texts (with_bound c.0 cell (bound_data row cs)) ≡ filter_map (bound_member row) (c ∷ cs)) [
      | None ↦ λ e. rw e (bound_texts row cs)
      | Some text ↦ λ e. rw e (ap (λ value. (c.0, value) ∷ member_texts (bound_data row cs)) (cell-written text) ∙ ap (λ ms. (c.0, cell_json text) ∷ ms) (bound_texts row cs))
    ] refl

-- the text of a row
pub row-written : (row : Row (List ℕ)) (columns : List (List ℕ × ℕ)) → compact_text (row_data row columns) ≡ json_object (filter_map (bound_member row) columns)
unfolding row_data
row-written row columns = compact-object (bound_data row columns) ∙ ap json_object (bound_texts row columns)

-- a column is sent, and then the others
pub sends_more : (name : List ℕ) (cell : Option (List ℕ)) (ms : Members) (old mid end : Log) → SendsBound name cell old mid → SendsMembers ms mid end → SendsMembers (with_bound name cell ms) old end
sends_more name None ms old mid end sent others = subst (λ log. SendsMembers ms log end) sent others
sends_more name (Some text) ms old mid end sent others = (sent.named, mid, sent.key, sent.sent, others)

-- a bound column has a member
members_len-bound : (name : List ℕ) (cell : Option (List ℕ)) (ms : Members) → members_len (with_bound name cell ms) ≡ (if is_some cell then 1 else 0) + members_len ms
members_len-bound name None ms = omega arith
members_len-bound name (Some text) ms = omega arith

-- as many members as bound columns
pub count-bound : {X : Type 0} (named : X → List ℕ × ℕ) (row : Row (List ℕ)) (xs : List X) → count_by (λ x. is_some (slice_index_or row (named x).1 None)) xs ≡ members_len (bound_data row (map named xs))
count-bound named row [] = refl
count-bound named row (x ∷ xs) =
    sum_by-cons (λ x. if is_some (slice_index_or row (named x).1 None) then 1 else 0) x xs
    ∙ ap (λ n. (if is_some (slice_index_or row (named x).1 None) then 1 else 0) + n) (count-bound named row xs)
    ∙ sym (members_len-bound (named x).0 (slice_index_or row (named x).1 None) (bound_data row (map named xs)))

-- whether a term is there is whether its text is
pub is_some-map : {X Y : Type 0} (f : X → Y) (o : Option X) (cell : Option Y) → option_map f o ≡ cell → is_some o ≡ is_some cell
is_some-map f None cell e = ap is_some e
is_some-map f (Some x) cell e = ap is_some e

-- names as data
pub items_len-names : (names : List (List ℕ)) → items_len (names_data names) ≡ length names
items_len-names [] = refl
items_len-names (name ∷ names) = ap suc (items_len-names names)

pub names_have_no_float : (names : List (List ℕ)) → has_float (array (names_data names)) ≡ false
names_have_no_float [] = refl
names_have_no_float (name ∷ names) = names_have_no_float names

names_texts : (names : List (List ℕ)) → item_texts (names_data names) ≡ map json_string names
names_texts [] = refl
names_texts (name ∷ names) = ap (λ text. text ∷ item_texts (names_data names)) (quoted-string name) ∙ ap (λ texts. json_string name ∷ texts) (names_texts names)

-- the text of the list of names
pub names-written : (names : List (List ℕ)) → compact_text (array (names_data names)) ≡ json_array (map json_string names)
names-written names = compact-array (names_data names) ∙ ap json_array (names_texts names)
