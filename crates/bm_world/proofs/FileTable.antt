-- What a table of files stands for, after a look-up and after a change at one name.
use Rattle.std.proofs.Common.{◌≡◌, ℕ, Bool, true, false, cond, List, [], ◌∷◌, ◌++◌, map, Option, None, Some, String, Vec, Result, Ok, Err, is_ok, if◌then◌else◌, OnOk, OnErr, refl, sym, ◌∙◌, ap}
use Rattle.std.specs.Option.{option_map, option_map_or}
use Rattle.std.specs.Ordering.{nat_cmp, is_eq, eq_by_cmp}
use Rattle.std.specs.Cmp.{eq_by_cmp_equiv}
use Rattle.std.specs.Cmp.Lexicographic.{slice_cmp, nat_list_cmp_total}
use Rattle.std.specs.String.{string_bytes, string_cmp}
use Rattle.std.specs.Str.{bytes_eq}
use Rattle.std.specs.Map.{lookup}
use Rattle.std.specs.FinMap.{get, insert, find, same_map, get-insert, get-from_entries, get_tied, nat_cmp-IsAntisymmetric, slice_cmp-IsAntisymmetric}
use Rattle.std.specs.BTreeMap.{BTreeMap, UpdatesBy, get_by_text}
use Rattle.std.specs.declared.alloc.Global.{Global}
use Rattle.std.specs.declared.alloc.AllocError.{AllocError}
use Rattle.std.specs.declared.cmp.Ordering.{Ordering}
use Rattle.std.specs.declared.cmp.Ordering.TheVariants.{Less, Equal, Greater}
use Rattle.std.proofs.lemmas.Map.Text.{is_eq-slice_cmp, btree_map_updates_text}
use Rattle.bm_world.specs.Meanings.{Files, append_to}
use Rattle.bm_world.specs.FileTable.{files_of}

-- the table of the code, from names to bytes
abbrev pub Table : Type 0
Table = BTreeMap (String Global) (Vec ℕ Global)

-- the bytes of a file, if there is one
abbrev pub bytes_of : Option (Vec ℕ Global) → Option (List ℕ)
bytes_of file = option_map (λ (v : Vec ℕ Global). v.items) file

-- the bytes of a choice are the choice of the bytes
looked_up : (b : Bool) (v : Vec ℕ Global) (file : Option (Vec ℕ Global)) → bytes_of (cond b (Some v) file) ≡ cond b (Some v.items) (bytes_of file)
looked_up true v file = refl
looked_up false v file = refl

-- the first entry at a name is found alike in both lists
found : (name : List ℕ) (entries : List (String Global × Vec ℕ Global)) → find (slice_cmp nat_cmp) name (map (λ entry. (string_bytes entry.0, entry.1.items)) entries) ≡ bytes_of (lookup (λ k. is_eq (slice_cmp nat_cmp name (string_bytes k))) entries)
found name [] = refl
found name (e ∷ entries) = ap (cond (eq_by_cmp (slice_cmp nat_cmp) name (string_bytes e.0)) (Some e.1.items)) (found name entries) ∙ sym (looked_up (is_eq (slice_cmp nat_cmp name (string_bytes e.0))) e.1 _)

-- the bytes of a file are those that the map has at its name
pub get-files_of : (table : Table) (name : List ℕ) → get (files_of table.entries) name ≡ bytes_of (get_by_text table name)
get-files_of table name = get-from_entries nat_list_cmp_total _ name ∙ found name table.entries

-- what a look-up found
pub bytes_found : (files : Files) (table : Table) (name : List ℕ) (file : Option (Vec ℕ Global)) → files_of table.entries ≡ files → file ≡ get_by_text table name → bytes_of file ≡ get files name
bytes_found files table name file is found = ap bytes_of found ∙ sym (get-files_of table name) ∙ ap (λ files. get files name) is

-- the map with a value at one name, file by file
files_of-updates : (name : List ℕ) (old new : Table) (v : Vec ℕ Global) → UpdatesBy string_cmp (λ k. slice_cmp nat_cmp name (string_bytes k)) old new (Some v) → files_of new.entries ≡ insert (files_of old.entries) name v.items
files_of-updates name old new v updates = same_map nat_list_cmp_total (slice_cmp-IsAntisymmetric nat_cmp-IsAntisymmetric) _ _ (λ q.
    get-files_of new q ∙ ap bytes_of (btree_map_updates_text name old new (Some v) updates q) ∙ looked_up (bytes_eq name q) v _
    ∙ ap (λ b. cond b (Some v.items) (bytes_of (get_by_text old q))) (sym (is_eq-slice_cmp name q) ∙ (eq_by_cmp_equiv nat_list_cmp_total).symm name q)
    ∙ ap (cond (eq_by_cmp (slice_cmp nat_cmp) q name) (Some v.items)) (sym (get-files_of old q))
    ∙ sym (get-insert nat_list_cmp_total _ name v.items q))

-- the map with a value at one key is the files with that file
pub files_put : (files : Files) (name bytes : List ℕ) (old new : Table) (key : List ℕ) (v : Vec ℕ Global) → files_of old.entries ≡ files → UpdatesBy string_cmp (λ k. slice_cmp nat_cmp key (string_bytes k)) old new (Some v) → key ≡ name → v.items ≡ bytes → files_of new.entries ≡ insert files name bytes
files_put files name bytes old new key v is updates same_name same_bytes = files_of-updates key old new v updates
    ∙ ap (λ files. insert files key v.items) is
    ∙ ap (λ name. insert files name v.items) same_name
    ∙ ap (insert files name) same_bytes

-- nothing is appended at a name that is not there
pub append_to_none : (files : Files) (name bytes : List ℕ) → get files name ≡ None → append_to files name bytes ≡ files
append_to_none files name bytes none = ap (λ file. option_map_or (λ (old : List ℕ). insert files name (old ++ bytes)) file files) none

-- bytes are appended at a name that is there
pub append_to_some : (files : Files) (name bytes old : List ℕ) → get files name ≡ Some old → append_to files name bytes ≡ insert files name (old ++ bytes)
append_to_some files name bytes old some = ap (λ file. option_map_or (λ (old : List ℕ). insert files name (old ++ bytes)) file files) some

-- the bytes that are there are put again
pub insert_same : (files : Files) (name bytes : List ℕ) → get files name ≡ Some bytes → insert files name bytes ≡ files
insert_same files name bytes is = same_map nat_list_cmp_total (slice_cmp-IsAntisymmetric nat_cmp-IsAntisymmetric) _ _ (λ q. get-insert nat_list_cmp_total files name bytes q ∙ at q _ refl)
  where
    at : (q : List ℕ) (o : Ordering) → slice_cmp nat_cmp q name ≡ o → cond (is_eq o) (Some bytes) (get files q) ≡ get files q
    at q Less e = refl
    at q Equal e = sym is ∙ get_tied nat_list_cmp_total files q name e
    at q Greater e = refl

-- nothing is appended where no file is found
pub files_kept : (files : Files) (name bytes : List ℕ) (table : Table) → files_of table.entries ≡ files → None ≡ get_by_text table name → files ≡ append_to files name bytes
files_kept files name bytes table is none = sym (append_to_none files name bytes (sym (bytes_found files table name None is none)))

-- a file that is found is written through
module _ (files : Files) (name bytes : List ℕ) (old new : Table) (was now : Vec ℕ Global) (is : files_of old.entries ≡ files) (found : Some was ≡ get_by_text old name) (updates : UpdatesBy string_cmp (λ k. slice_cmp nat_cmp name (string_bytes k)) old new (Some now)) where
  -- where there was room, its bytes are longer
  pub files_grown : (grown : Result (Unit {0}) AllocError) → now.items ≡ (if is_ok grown then was.items ++ bytes else was.items) → OnOk grown (files_of new.entries ≡ append_to files name bytes)
  files_grown (Ok _) items = files_put files name (was.items ++ bytes) old new name now is updates refl items ∙ sym (append_to_some files name bytes was.items (sym (bytes_found files old name (Some was) is found)))
  files_grown (Err _) items = tt

  -- and else they are as they were
  pub files_not_grown : (grown : Result (Unit {0}) AllocError) → now.items ≡ (if is_ok grown then was.items ++ bytes else was.items) → OnErr grown (files_of new.entries ≡ files)
  files_not_grown (Ok _) items = tt
  files_not_grown (Err _) items = files_put files name was.items old new name now is updates refl items ∙ insert_same files name was.items (sym (bytes_found files old name (Some was) is found))
