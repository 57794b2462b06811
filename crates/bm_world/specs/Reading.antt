-- What reading a whole file gives, and what it leaves to read.
use Rattle.std.specs.Prelude.{◌≡◌, ◌⊎◌, ℕ, ◌+◌, ◌<◌, ◌≤◌, List, [], ◌++◌, None, Some, Vec, Result, Ok, Err, length}
use Rattle.std.specs.declared.alloc.Global.{Global}
use Rattle.bm_world.specs.declared.reading.ReadEnd.{ReadEnd}
use Rattle.bm_world.specs.declared.reading.ReadEnd.TheVariants.{Fault, TooLong, Memory}
use Rattle.bm_world.specs.Meanings.{Meanings, file_at, with_opened}

-- how many bytes come at once, at most
abbrev pub buffer_bytes : ℕ
buffer_bytes = 65536

-- The named file was opened. These bytes of it have come, and the others are left to read.
-- No more come after the limit than one buffer.
pub record ReadsUpTo (name came : List ℕ) (limit : ℕ) (m n : Meanings) : Type 0 where
  pub left : List ℕ
  pub whole : file_at m name ≡ Some (came ++ left)
  pub moved : n ≡ with_opened m name (Some left)
  pub within : length came ≤ limit + buffer_bytes

-- the bytes are all of the named file, and have come
abbrev pub ReadsWhole : List ℕ → List ℕ → Meanings → Meanings → Type 0
ReadsWhole name bytes m n = (file_at m name ≡ Some bytes) × (n ≡ with_opened m name (Some []))

-- All bytes of the named file have come, or more than the limit.
-- After a fault or for want of memory some have come; where the file was not opened, nothing is open.
abbrev pub ReadsAll : List ℕ → ℕ → Result (Vec ℕ Global) ReadEnd → Meanings → Meanings → Type 0
ReadsAll name limit (Ok bytes) m n = ReadsWhole name bytes.items m n
ReadsAll name limit (Err TooLong) m n = (came : List ℕ) × (ReadsUpTo name came limit m n × (limit < length came))
ReadsAll name limit (Err Memory) m n = (came : List ℕ) × ReadsUpTo name came limit m n
ReadsAll name limit (Err Fault) m n = (n ≡ record m { rest = None }) ⊎ ((came : List ℕ) × ReadsUpTo name came limit m n)
