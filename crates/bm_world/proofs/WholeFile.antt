-- A file that is read by several calls.
use Rattle.std.proofs.Common.{◌≡◌, ℕ, ◌+◌, ◌<◌, ◌≤◌, List, [], ◌++◌, length, take, Vec, Option, None, Some, Result, Ok, Err, IsSome, IsSomeAnd, IsErrOf, IfOk, ⊎_elim, inl, inr, vec_len, ◌⊎◌, false, true, refl, sym, ◌∙◌, ap, subst, append_assoc, length-append, length-take, arith}
use Rattle.std.proofs.lemmas.List.{append-nil}
use Rattle.std.specs.declared.alloc.Global.{Global}
use Rattle.bm_world.specs.declared.reading.ReadEnd.{ReadEnd}
use Rattle.bm_world.specs.declared.reading.ReadEnd.TheVariants.{Fault, TooLong, Memory}
use Rattle.bm_world.specs.Meanings.{Meanings, file_at, with_opened}
use Rattle.bm_world.specs.World.{Step, Rose, IsMissing, Takes, NothingIsOpen}
use Rattle.bm_world.specs.Reading.{ReadsUpTo, ReadsAll, ReadsWhole, buffer_bytes}
use Rattle.bm_world.proofs.Steps.{Step-then, Step-weaken}

-- this is left to read
abbrev with_rest : Option (List ℕ) → Meanings → Meanings
with_rest rest m = record m { rest = rest }

-- `Some` of one list is `Some` of no other
some_once : {a b : List ℕ} → Some a ≡ Some b → a ≡ b
some_once is = cc

-- what is left of a file that is being read
left_is : {name came left : List ℕ} {limit : ℕ} {m k : Meanings} (so_far : ReadsUpTo name came limit m k) → k.rest ≡ Some left → so_far.left ≡ left
left_is so_far is = some_once (sym (ap (λ (k : Meanings). k.rest) so_far.moved) ∙ is)

-- a file that was there is left to read whole
opened : (name : List ℕ) (limit : ℕ) (m n : Meanings) (file : Option (List ℕ)) → file_at m name ≡ file → IsSome file → n ≡ with_opened m name file → ReadsUpTo name [] limit m n
opened name limit m n None is none moved = let no : false ≡ true = none in cc
opened name limit m n (Some bytes) is some moved = record { left = bytes; whole = is; moved = moved; within = omega arith }

-- the file was opened
pub reads_none : {a b : Option Meanings} {name : List ℕ} (limit : ℕ) (came : List ℕ) → came ≡ [] → Step a b (λ m n. IsSome (file_at m name) × (n ≡ with_opened m name (file_at m name))) → Step a b (ReadsUpTo name came limit)
reads_none {name = name} limit came nothing call = Step-weaken call (λ m n moved.
    subst (λ came. ReadsUpTo name came limit m n) (sym nothing) (opened name limit m n _ refl moved.0 moved.1))

-- what comes by one read is one buffer at most
within_buffer : (came buffer now : List ℕ) (count limit : ℕ) → now ≡ came ++ take count buffer → length came ≤ limit → length buffer ≤ buffer_bytes → length now ≤ limit + buffer_bytes
within_buffer came buffer now count limit is_now within room =
    omega (arith, ap length is_now, length-append came (take count buffer), length-take count buffer)

-- one read more, between told meanings
takes : {name came buffer : List ℕ} {count limit : ℕ} (now : List ℕ) → now ≡ came ++ take count buffer → length now ≤ limit + buffer_bytes → (m k n : Meanings) → ReadsUpTo name came limit m k → Takes buffer count k n → ReadsUpTo name now limit m n
takes {came = came} {buffer} {count} now is_now within m k n so_far moved = record {
  left = moved.left;
  whole = so_far.whole
      ∙ ap (λ (left : List ℕ). Some (came ++ left)) (left_is so_far moved.came)
      ∙ ap Some (sym (append_assoc came (take count buffer) moved.left))
      ∙ ap (λ (front : List ℕ). Some (front ++ moved.left)) (sym is_now);
  moved = moved.moved ∙ ap (with_rest (Some moved.left)) so_far.moved;
  within = within;
}

-- one read more
pub reads_more : {a b c : Option Meanings} {name came buffer : List ℕ} {count limit : ℕ} (now : List ℕ) → now ≡ came ++ take count buffer → length came ≤ limit → length buffer ≤ buffer_bytes → Step a b (ReadsUpTo name came limit) → Step b c (Takes buffer count) → Step a c (ReadsUpTo name now limit)
reads_more {came = came} {buffer} {count} {limit} now is_now within room before call =
    Step-then before call (takes now is_now (within_buffer came buffer now count limit is_now within room))

-- a read that brings nothing into a buffer with room is at the end
nothing_left : {buffer : List ℕ} {count : ℕ} (k n : Meanings) → count ≡ 0 → 0 < length buffer → Takes buffer count k n → (k.rest ≡ Some []) × (n ≡ with_rest (Some []) k)
nothing_left {buffer} {count} k n none room moved =
    let end : moved.left ≡ [] = moved.at_end none room in
    let nothing : take count buffer ++ moved.left ≡ [] = ap (λ (left : List ℕ). take count buffer ++ left) end ∙ append-nil _ ∙ ap (λ count. take count buffer) none in
    (moved.came ∙ ap Some nothing, moved.moved ∙ ap (λ (left : List ℕ). with_rest (Some left) k) end)

-- the last read
pub reads_all : {a b c : Option Meanings} {name buffer : List ℕ} {count limit : ℕ} (bytes : List ℕ) → count ≡ 0 → 0 < length buffer → Step a b (ReadsUpTo name bytes limit) → Step b c (Takes buffer count) → Step a c (ReadsWhole name bytes)
reads_all bytes none room before call = Step-then before call (λ m k n so_far moved.
    let end = nothing_left k n none room moved in (
      so_far.whole ∙ ap (λ (left : List ℕ). Some (bytes ++ left)) (left_is so_far end.0) ∙ ap Some (append-nil bytes),
      end.1 ∙ ap (with_rest (Some [])) so_far.moved,
    ))

-- more than the limit has come
pub reads_too_long : {a b : Option Meanings} {name came : List ℕ} {limit : ℕ} → limit < length came → Step a b (ReadsUpTo name came limit) → Step a b (ReadsAll name limit (Err TooLong))
reads_too_long {came = came} more before = Step-weaken before (λ m n so_far. (came, (so_far, more)))

-- no memory for what has come
pub reads_no_memory : {a b : Option Meanings} {name came : List ℕ} {limit : ℕ} → Step a b (ReadsUpTo name came limit) → Step a b (ReadsAll name limit (Err Memory))
reads_no_memory {came = came} before = Step-weaken before (λ m n so_far. (came, so_far))

-- the file was not opened
pub reads_not_opened : {a b : Option Meanings} {name : List ℕ} {limit : ℕ} → Step a b (λ m n. n ≡ record m { rest = None }) → Step a b (ReadsAll name limit (Err Fault))
reads_not_opened call = Step-weaken call (λ m n moved. inl moved)

-- a read that failed
pub reads_fault : {a b c : Option Meanings} {name came : List ℕ} {limit : ℕ} → Step a b (ReadsUpTo name came limit) → Step b c (λ m n. n ≡ m) → Step a c (ReadsAll name limit (Err Fault))
reads_fault {name = name} {came} {limit} before call = Step-then before call (λ m k n so_far same.
    inr (came, subst (λ n. ReadsUpTo name came limit m n) (sym same) so_far))

-- after an opened file it is not told that nothing is open
pub is_open : {a : Option Meanings} (b : Option Meanings) {name came : List ℕ} {limit : ℕ} → Step a b (ReadsUpTo name came limit) → IsSomeAnd b NothingIsOpen → ⊥
is_open {a} None before closed = absurd closed
is_open {a} (Some k) {name} {came} before closed = at a refl
  where
    at : (t : Option Meanings) → a ≡ t → ⊥
    at None none = let lost : Some k ≡ None = before.silent none in cc
    at (Some m) is = let so_far = before.moves m k is refl in
        let left : Some so_far.left ≡ None = sym (ap (λ (k : Meanings). k.rest) so_far.moved) ∙ closed in cc

-- what was opened and what is left to read are all that has changed
changed : (m n : Meanings) (opened : List (List ℕ)) (rest : Option (List ℕ)) → n ≡ record m { opened = opened; rest = rest } → n ≡ record m { opened = n.opened; rest = n.rest }
changed m n opened rest moved = let P : Meanings → Type 0 = λ k. k ≡ record m { opened = k.opened; rest = k.rest } in subst P (sym moved) refl

-- so it is where a file is read, however that ends
pub ReadsAll-changed : (name : List ℕ) (limit : ℕ) (result : Result (Vec ℕ Global) ReadEnd) (m n : Meanings) → ReadsAll name limit result m n → n ≡ record m { opened = n.opened; rest = n.rest }
ReadsAll-changed name limit (Ok bytes) m n reads = changed m n _ _ reads.1
ReadsAll-changed name limit (Err TooLong) m n reads = changed m n _ _ reads.1.0.moved
ReadsAll-changed name limit (Err Memory) m n reads = changed m n _ _ reads.1.moved
ReadsAll-changed name limit (Err Fault) m n reads = ⊎_elim (λ moved. changed m n _ _ moved) (λ so_far. changed m n _ _ so_far.1.moved) reads

-- a file that is answered as too long has more than the limit
pub ReadsAll-longer : (name : List ℕ) (limit : ℕ) (m n : Meanings) → ReadsAll name limit (Err TooLong) m n → IsSomeAnd (file_at m name) (λ bytes. limit < length bytes)
ReadsAll-longer name limit m n (came, (so_far, more)) =
    let longer : limit < length (came ++ so_far.left) = omega (arith, length-append came so_far.left) in
    subst (λ file. IsSomeAnd file (λ bytes. limit < length bytes)) (sym so_far.whole) longer

-- a longer file, whose calls did not fail, is answered so and in no other way
pub longer_ends : (name : List ℕ) (limit : ℕ) (m n : Meanings) (before now : ℕ) (result : Result (Vec ℕ Global) ReadEnd) (bytes : List ℕ)
    → ReadsAll name limit result m n → IfOk result (λ all. vec_len all ≤ limit)
    → (IsErrOf result Fault → Rose before now ⊎ IsSomeAnd (Some m) (IsMissing name))
    → file_at m name ≡ Some bytes → limit < length bytes → (Rose before now → ⊥)
    → (result ≡ Err TooLong) ⊎ (result ≡ Err Memory)
longer_ends name limit m n before now (Ok all) bytes reads within fault is longer calm =
    let same : all.items ≡ bytes = some_once (sym reads.0 ∙ is) in absurd (omega (arith, all.ok.0, ap length same))
longer_ends name limit m n before now (Err Fault) bytes reads within fault is longer calm =
    absurd (⊎_elim calm (λ missing. let none : Some bytes ≡ None = sym is ∙ missing in cc) (fault refl))
longer_ends name limit m n before now (Err TooLong) bytes reads within fault is longer calm = inl refl
longer_ends name limit m n before now (Err Memory) bytes reads within fault is longer calm = inr refl
