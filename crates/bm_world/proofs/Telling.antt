-- What the calls of a world in memory do is what the calls of a world may do.
use Rattle.std.proofs.Common.{◌≡◌, ℕ, ◌≤◌, min, Bool, true, false, List, [], ◌++◌, length, take, drop, Option, None, Some, Result, Ok, Err, IfOk, IsSome, is_none, is_ok, if◌then◌else◌, refl, sym, ◌∙◌, ap, take-append-drop, length-append, length-take, length-drop, arith}
use Rattle.std.proofs.lemmas.List.{append-nil, take_all, take_at, drop_all}
use Rattle.std.specs.Option.{option_map, option_map_or, unwrap_or}
use Rattle.std.specs.Result.{result_unwrap_or}
use Rattle.std.specs.FinMap.{get, insert}
use Rattle.bm_world.specs.declared.world.Failed.{Failed}
use Rattle.bm_world.specs.Meanings.{Files, Meanings, append_to, with_written, left_to_read}
use Rattle.bm_world.specs.World.{Step, Takes, Reads, Writes}
use Rattle.bm_world.specs.MemWorld.{Ends, taken_of}
use Rattle.bm_world.proofs.Steps.{Step-told}
use Rattle.bm_world.proofs.FileTable.{insert_same}

-- a call that succeeds met no failure
no_failure : {T : Type 0} (due failure : Bool) (answer : T) (before now : ℕ) → Ends due failure (Ok answer) before now → failure ≡ false
no_failure true failure answer before now ends = absurd ends
no_failure false true answer before now ends = absurd ends
no_failure false false answer before now ends = refl

-- what is not none is some
some_when : {T : Type 0} (o : Option T) → is_none o ≡ false → IsSome o
some_when None there = cc
some_when (Some x) there = refl

-- no bytes taken leave all
drop_none : (o : Option (List ℕ)) → option_map (drop 0) o ≡ o
drop_none None = refl
drop_none (Some xs) = refl

-- one call takes no more bytes than there are
taken_of-le : (piece : Option ℕ) (bytes : ℕ) → taken_of piece bytes ≤ bytes
taken_of-le None bytes = omega arith
taken_of-le (Some piece) bytes = omega arith

-- a read that moved the first bytes of what was left into the front of a buffer
module _ (old new : List ℕ) (count : ℕ) (left : List ℕ) (counts : count ≤ min (length old) (length left)) (some : count ≡ 0 → min (length old) (length left) ≡ 0) (came : new ≡ take count left ++ drop count old) where
  -- the buffer keeps its length
  same_length : length new ≡ length old
  same_length = ap length came ∙ length-append (take count left) (drop count old) ∙ omega (arith, length-take count left, length-drop count old)

  -- its front is what came
  front : take count new ≡ take count left
  front = ap (take count) came ∙ take_at (take count left) (drop count old) count (omega (arith, length-take count left))

  -- so some bytes were taken
  takes : (m n : Meanings) → m.rest ≡ Some left → n ≡ record m { rest = Some (drop count left) } → Takes new count m n
  takes m n is moved = record {
    left = drop count left;
    came = is ∙ ap Some (sym (take-append-drop count left) ∙ ap (λ (bytes : List ℕ). bytes ++ drop count left) (sym front));
    moved = moved;
    at_end = λ none room. drop_all count left (omega (arith, same_length, some none));
  }

-- the same, where what was left is known to be there
takes_some : (old new : List ℕ) (count : ℕ) (m n : Meanings) (rest : Option (List ℕ)) → m.rest ≡ rest → IsSome rest
    → count ≤ min (length old) (length (unwrap_or rest [])) → (count ≡ 0 → min (length old) (length (unwrap_or rest [])) ≡ 0)
    → new ≡ take count (unwrap_or rest []) ++ drop count old
    → n ≡ record m { rest = option_map (drop count) rest } → Takes new count m n
takes_some old new count m n None is open_file counts some came moved = let no : false ≡ true = open_file in cc
takes_some old new count m n (Some left) is open_file counts some came moved = takes old new count left counts some came m n is moved

-- what a read did is what a world that tells may do
pub reads_told : (due : Bool) (piece : Option ℕ) (old new : List ℕ) (result : Result ℕ Failed) (before now : ℕ) (m n : Meanings)
    → Ends due (is_none m.rest) result before now
    → IfOk result (λ count. count ≡ taken_of piece (min (length old) (length (left_to_read m))))
    → IfOk result (λ count. count ≡ 0 → min (length old) (length (left_to_read m)) ≡ 0)
    → new ≡ take (result_unwrap_or result 0) (left_to_read m) ++ drop (result_unwrap_or result 0) old
    → n ≡ record m { rest = option_map (drop (result_unwrap_or result 0)) m.rest }
    → Step (Some m) (Some n) (Reads new result)
reads_told due piece old new (Ok count) before now m n ends counts some came moved =
    Step-told (takes_some old new count m n m.rest refl (some_when m.rest (no_failure due (is_none m.rest) count before now ends))
    (omega (arith, counts, taken_of-le piece (min (length old) (length (left_to_read m))))) some came moved)
reads_told due piece old new (Err _) before now m n ends counts some came moved =
    Step-told (moved ∙ ap (λ (rest : Option (List ℕ)). record m { rest = rest }) (drop_none m.rest))

-- no bytes at the end of a file leave all files
append_nothing : (files : Files) (name : List ℕ) (file : Option (List ℕ)) → get files name ≡ file → option_map_or (λ (old : List ℕ). insert files name (old ++ [])) file files ≡ files
append_nothing files name None is = refl
append_nothing files name (Some old) is = ap (insert files name) (append-nil old) ∙ insert_same files name old is

-- no bytes at the end of the file that is being made leave all files
write_nothing : (files : Files) (made : Option (List ℕ)) → option_map_or (λ (name : List ℕ). append_to files name []) made files ≡ files
write_nothing files None = refl
write_nothing files (Some name) = append_nothing files name (get files name) refl

-- no bytes written leave all
pub with_written_nothing : (m : Meanings) → with_written m [] ≡ m
with_written_nothing m = ap (λ (files : Files). record m { files = files }) (write_nothing m.files m.made)

-- what a write did is what a world that tells may do
pub writes_told : (due : Bool) (taken : ℕ) (piece : List ℕ) (result : Result ℕ Failed) (before now : ℕ) (m n : Meanings)
    → Ends due (is_none m.made) result before now
    → IfOk result (λ count. count ≡ taken)
    → n ≡ (if is_ok result then with_written m (take taken piece) else m)
    → Step (Some m) (Some n) (Writes piece result)
writes_told due taken piece (Ok count) before now m n ends all moved = Step-told (
  some_when m.made (no_failure due (is_none m.made) count before now ends),
  moved ∙ ap (λ (most : ℕ). with_written m (take most piece)) (sym all),
)
writes_told due taken piece (Err _) before now m n ends all moved = Step-told (tt, (0, moved ∙ sym (with_written_nothing m)))
