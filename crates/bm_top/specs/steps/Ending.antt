-- Carries proofs only: how a command ended, and what is known then.
use Rattle.std.specs.Prelude.{◌≡◌, ◌⊎◌, ℕ, ◌≤◌, List, [], ◌++◌, take, Contains, Option, IsSomeAnd, Result, Ok, Err}
use Rattle.std.specs.Borrow.{Bor}
use Rattle.bm_world.specs.declared.world.Failed.{Failed}
use Rattle.bm_world.specs.declared.world.Faults.{Faults}
use Rattle.bm_world.specs.Meanings.{Files, Meanings}
use Rattle.bm_world.specs.declared.reading.ReadEnd.{ReadEnd}
use Rattle.bm_world.specs.declared.reading.ReadEnd.TheVariants as read_ends
use Rattle.bm_world.specs.World.{Rose}
use Rattle.bm_top.specs.declared.undecided.Undecided.{Undecided}
use Rattle.bm_top.specs.declared.undecided.Undecided.TheVariants as undecided
use Rattle.bm_top.specs.declared.ending.Ending.{Ending}
use Rattle.bm_top.specs.declared.ending.Ending.TheVariants as ends
use Rattle.bm_top.specs.declared.refusal.Refusal.TheVariants as refusals
use Rattle.bm_top.specs.Lines.{refusal_status, refusal_line, query_line, read_fault_line, write_fault_line, out_of_memory_line, bad_line_line, too_many_triples_line, image_too_long_line}
use Rattle.bm_top.specs.Run.{OpensInTurn}
use Rattle.bm_top.specs.Verdict.{Verdict, refused, files_after, HasFrontOf}

abbrev pub status_of : Ending → ℕ
status_of ends.Done = 0
status_of (ends.Refused refusal) = refusal_status refusal
status_of (ends.ReadFault name) = 5
status_of ends.WriteFault = 6
status_of ends.Memory = 7

-- the line that is written to standard error
abbrev pub line_of : Ending → List ℕ
line_of ends.Done = []
line_of (ends.Refused refusal) = refusal_line refusal
line_of (ends.ReadFault name) = read_fault_line name.now
line_of ends.WriteFault = write_fault_line
line_of ends.Memory = out_of_memory_line

-- only what is opened and what is left to read have changed
abbrev pub ReadsOnly : Meanings → Meanings → Type 0
ReadsOnly m n = n ≡ record m { opened = n.opened; rest = n.rest }

-- and these are the files, and this was printed
abbrev pub Leaves : Files → List ℕ → Meanings → Meanings → Type 0
Leaves files text m n = n ≡ record m { opened = n.opened; rest = n.rest; files = files; printed = m.printed ++ text }

-- these files were opened in turn, up to some of them, and a file that is being made goes on being made
pub record Moves (names : List (List ℕ)) (m n : Meanings) : Type 0 where
  pub opens : OpensInTurn names m n
  pub made : n.made ≡ m.made

-- What is known at each ending, of the verdict of the steps and of what has moved.
abbrev pub EndsSo : Verdict → Ending → Meanings → Meanings → Type 0
EndsSo verdict ends.Done m n = (verdict.status ≡ 0) × Leaves (files_after verdict m.files) verdict.text m n
EndsSo verdict (ends.Refused refusal) m n = (verdict ≡ refused (refusal_status refusal) (refusal_line refusal)) × ReadsOnly m n
EndsSo verdict (ends.ReadFault name) m n = ReadsOnly m n
EndsSo verdict ends.WriteFault m n =
    (verdict.status ≡ 0) × ((files : Files) × (count : ℕ) × HasFrontOf verdict m.files files × Leaves files (take count verdict.text) m n)
EndsSo verdict ends.Memory m n = (count : ℕ) × Leaves m.files (take count verdict.text) m n

-- the same of the verdict, whichever it is
abbrev pub Ends : (Verdict → Type 0) → Ending → Meanings → Meanings → Type 0
Ends IsOf ending m n = (verdict : Verdict) → IsOf verdict → EndsSo verdict ending m n

-- what shows that a call failed, where one did; a file that was not read is among these names
abbrev pub Reason : (Files → Verdict → Type 0) → List (List ℕ) → Option Meanings → Faults → Faults → Ending → Type 0
Reason IsOf names told before now ends.Done = Unit {0}
Reason IsOf names told before now (ends.Refused refusal) = Unit {0}
Reason IsOf names told before now (ends.ReadFault name) =
    Contains names name.now × (Rose before.reads now.reads ⊎ IsSomeAnd told (λ m. IsOf m.files (refused 5 (read_fault_line name.now))))
Reason IsOf names told before now ends.WriteFault = Rose before.writes now.writes
Reason IsOf names told before now ends.Memory = Unit {0}

-- the counts have not fallen, that of `complain` is as it was, and a fault has its reason
pub record HasReason (IsOf : Files → Verdict → Type 0) (names : List (List ℕ)) (told : Option Meanings) (before now : Faults) (ending : Ending) : Type 0 where
  pub reads_later : before.reads ≤ now.reads
  pub writes_later : before.writes ≤ now.writes
  pub says_stay : now.says ≡ before.says
  pub reason : Reason IsOf names told before now ending

-- How a command ends, by what the outside or the pure part answered.

abbrev pub after_reading : ReadEnd → Bor (List ℕ) → ℕ → Ending
after_reading read_ends.Fault name limit = ends.ReadFault name
after_reading read_ends.TooLong name limit = ends.Refused (refusals.TooLong name limit)
after_reading read_ends.Memory name limit = ends.Memory

abbrev pub after_deciding : Undecided → Ending
after_deciding (undecided.BadLine line) = ends.Refused (refusals.BadLine line)
after_deciding undecided.TooManyTriples = ends.Refused refusals.TooManyTriples
after_deciding undecided.ImageTooLong = ends.Refused refusals.ImageTooLong
after_deciding (undecided.Query refusal) = ends.Refused (refusals.Query refusal)
after_deciding undecided.Memory = ends.Memory

-- what the pure part says of the verdict, where it has no answer
abbrev pub Says : Undecided → Verdict → Type 0
Says (undecided.BadLine line) verdict = verdict ≡ refused 2 (bad_line_line line)
Says undecided.TooManyTriples verdict = verdict ≡ refused 8 too_many_triples_line
Says undecided.ImageTooLong verdict = verdict ≡ refused 8 image_too_long_line
Says (undecided.Query refusal) verdict = verdict ≡ refused 3 (query_line refusal)
Says undecided.Memory verdict = Unit {0}

-- what printing or writing ends with, where it takes no memory
abbrev pub after_printing : Result (Unit {0}) Failed → Ending
after_printing (Ok _) = ends.Done
after_printing (Err _) = ends.WriteFault
