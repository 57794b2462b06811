-- What each call of a world moves, and what shows that it failed.
use Rattle.std.specs.Prelude.{◌≡◌, ◌⊎◌, ℕ, ◌-◌, ◌^◌, ◌<◌, ◌≤◌, List, [], ◌++◌, length, take, Option, None, Some, Result, Ok, Err, IsSome, IsSomeAnd, OnOk, OnErr}
use Rattle.bm_world.specs.declared.world.Failed.{Failed}
use Rattle.bm_world.specs.declared.world.Faults.{Faults}
use Rattle.bm_world.specs.Meanings.{Meanings, file_at, with_opened, with_begun, with_written, with_made}

-- R holds between the entry of a call and its exit, where the world tells its meanings at both.
-- A world that tells nothing doesn't tell again.
pub record Step (old new : Option Meanings) (R : Meanings → Meanings → Type 0) : Type 0 where
  pub silent : old ≡ None → new ≡ None
  pub moves : (m n : Meanings) → old ≡ Some m → new ≡ Some n → R m n

-- before any call has failed
abbrev pub no_faults : Faults
no_faults = record { reads = 0; writes = 0; says = 0 }

-- The count is greater now, or is at the last value of a u64.
abbrev pub Rose : ℕ → ℕ → Type 0
Rose before now = (before < now) ⊎ (now ≡ 2 ^ 64 - 1)

-- The count doesn't fall, and a call that fails raised it, or its case was told and is a failure.
pub record HasCause {T : Type 0} (before now : ℕ)
    (told : Option Meanings) (IsFailure : Meanings → Type 0) (result : Result T Failed) : Type 0 where
  pub later : before ≤ now
  pub failed : OnErr result (Rose before now ⊎ IsSomeAnd told IsFailure)

-- The count doesn't fall, and a call that fails raised it.
pub record RisesOnErr {T : Type 0} (before now : ℕ) (result : Result T Failed) : Type 0 where
  pub later : before ≤ now
  pub failed : OnErr result (Rose before now)

-- The cases that are failures.

abbrev pub IsMissing : List ℕ → Meanings → Type 0
IsMissing name m = file_at m name ≡ None

abbrev pub NothingIsOpen : Meanings → Type 0
NothingIsOpen m = m.rest ≡ None

abbrev pub IsBeingMade : Meanings → Type 0
IsBeingMade m = IsSome m.made

abbrev pub NothingIsMade : Meanings → Type 0
NothingIsMade m = m.made ≡ None

-- What the calls move.

-- the named file was opened, and the whole of it is left to read; after a failure nothing is open
abbrev pub Opens : List ℕ → Result (Unit {0}) Failed → Meanings → Meanings → Type 0
Opens name (Ok _) m n = IsSome (file_at m name) × (n ≡ with_opened m name (file_at m name))
Opens name (Err _) m n = n ≡ record m { rest = None }

-- The first bytes of what was left have come into the front of the buffer.
pub record Takes (buffer : List ℕ) (count : ℕ) (m n : Meanings) : Type 0 where
  pub left : List ℕ
  pub came : m.rest ≡ Some (take count buffer ++ left)
  pub moved : n ≡ record m { rest = Some left }
  pub at_end : count ≡ 0 → 0 < length buffer → left ≡ []

-- some bytes are taken; a failure leaves all as it was
abbrev pub Reads : List ℕ → Result ℕ Failed → Meanings → Meanings → Type 0
Reads buffer (Ok count) m n = Takes buffer count m n
Reads buffer (Err _) m n = n ≡ m

-- the named file is empty, and is being made; a failure leaves all as it was
abbrev pub Creates : List ℕ → Result (Unit {0}) Failed → Meanings → Meanings → Type 0
Creates name (Ok _) m n = NothingIsMade m × (n ≡ with_begun m name)
Creates name (Err _) m n = n ≡ m

-- some front of these bytes is appended, by this change
abbrev pub AppendsSome : (Meanings → List ℕ → Meanings) → List ℕ → Meanings → Meanings → Type 0
AppendsSome change bytes m n = (count : ℕ) × (n ≡ change m (take count bytes))

-- the first bytes are appended, as many as are answered; at a failure some front
abbrev pub AppendsFront : (Meanings → List ℕ → Meanings) → List ℕ → Result ℕ Failed → Meanings → Meanings → Type 0
AppendsFront change piece (Ok count) m n = n ≡ change m (take count piece)
AppendsFront change piece (Err _) m n = AppendsSome change piece m n

-- all bytes are appended; at a failure some front
abbrev pub AppendsAll : (Meanings → List ℕ → Meanings) → List ℕ → Result (Unit {0}) Failed → Meanings → Meanings → Type 0
AppendsAll change bytes (Ok _) m n = n ≡ change m bytes
AppendsAll change bytes (Err _) m n = AppendsSome change bytes m n

-- the file that is being made grows; there is one where the call succeeds
abbrev pub Writes : List ℕ → Result ℕ Failed → Meanings → Meanings → Type 0
Writes piece result m n = OnOk result (IsBeingMade m) × AppendsFront with_written piece result m n

-- no file is being made any more; there was one where the call succeeds
abbrev pub Closes : Result (Unit {0}) Failed → Meanings → Meanings → Type 0
Closes result m n = OnOk result (IsBeingMade m) × (n ≡ record m { made = None })

-- the named file holds these bytes; at a failure some front of them, or nothing has changed
abbrev pub MakesFile : List ℕ → List ℕ → Result (Unit {0}) Failed → Meanings → Meanings → Type 0
MakesFile name bytes (Ok _) m n = n ≡ with_made m name bytes
MakesFile name bytes (Err _) m n = (n ≡ m) ⊎ ((count : ℕ) × (n ≡ with_made m name (take count bytes)))
