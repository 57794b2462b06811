-- What the whole program promises, in terms of the verdict of its words on the files.
-- Nothing here tells how data or a query is read.
use Rattle.std.specs.Prelude.{◌≡◌, ◌≢◌, ◌⊎◌, ℕ, ◌++◌, List, take, Contains, Option, None, IfSome, IsSomeAnd}
use Rattle.bm_world.specs.declared.world.Faults.{Faults}
use Rattle.bm_world.specs.Meanings.{Meanings}
use Rattle.bm_world.specs.World.{NothingIsMade, Rose, Step}
use Rattle.result_write.specs.declared.form.Form.{Form}
use Rattle.bm_top.specs.Command.{names_read, request_of}
use Rattle.bm_top.specs.Lines.{read_fault_line, write_fault_line, out_of_memory_line}
use Rattle.bm_top.specs.Standard.{Asks, AsksIndex, IsAnswer, IsIndexOfData, IsVerdict}
use Rattle.bm_top.specs.Verdict.{Verdict, files_after, HasFrontOf}

-- the text is printed whole where the status is 0, and nothing is written to standard error then; without a failing
-- call the status is 0, or 7
pub record Prints (text : List ℕ) (before now : Faults) (status : ℕ) (m n : Meanings) : Type 0 where
  pub ends : ¬ Rose before.reads now.reads → ¬ Rose before.writes now.writes → (status ≡ 0) ⊎ (status ≡ 7)
  pub whole : status ≡ 0 → n.printed ≡ m.printed ++ text
  pub quiet : status ≡ 0 → n.complained ≡ m.complained

-- where no count of faults rose, the status is that of the verdict, or that of want of memory
abbrev pub IsComplete : Verdict → Faults → Faults → ℕ → Type 0
IsComplete verdict before now status =
    ¬ Rose before.reads now.reads → ¬ Rose before.writes now.writes → (status ≡ verdict.status) ⊎ (status ≡ 7)

-- also after a fault, an answer is the verdict's
pub record IsHonest (verdict : Verdict) (status : ℕ) : Type 0 where
  pub answer : status ≢ 5 → status ≢ 6 → status ≢ 7 → status ≡ verdict.status
  pub write_fault : status ≡ 6 → verdict.status ≡ 0

-- what was printed: the text, a front of it, or nothing
pub record Outputs (verdict : Verdict) (status : ℕ) (m n : Meanings) : Type 0 where
  pub whole : status ≡ 0 → n.printed ≡ m.printed ++ verdict.text
  pub quiet : status ≡ 0 → n.complained ≡ m.complained
  pub front : (status ≡ 6) ⊎ (status ≡ 7) → (count : ℕ) × (n.printed ≡ m.printed ++ take count verdict.text)
  pub nothing : status ≢ 0 → status ≢ 6 → status ≢ 7 → n.printed ≡ m.printed

-- the files are those of the verdict at 0, and as they were at every other status, but that at 6 the file that is
-- written may be there with a front of its bytes; a file that is being made goes on being made
pub record LeavesFiles (verdict : Verdict) (status : ℕ) (m n : Meanings) : Type 0 where
  pub whole : status ≡ 0 → n.files ≡ files_after verdict m.files
  pub front : status ≡ 6 → HasFrontOf verdict m.files n.files
  pub kept : status ≢ 0 → status ≢ 6 → n.files ≡ m.files
  pub made : n.made ≡ m.made

-- what shows that a call failed
pub record HasCauses (words : List (List ℕ)) (told : Option Meanings) (before now : Faults) (status : ℕ) : Type 0 where
  pub read_fault : status ≡ 5 → Rose before.reads now.reads
      ⊎ IsSomeAnd told (λ m. (verdict : Verdict) × IsVerdict words m.files verdict × (verdict.status ≡ 5))
  pub write_fault : status ≡ 6 → Rose before.writes now.writes

-- this line was written to standard error, or some front of it where a call of `complain` failed
pub record ComplainsLine (line : List ℕ) (before now : Faults) (m n : Meanings) : Type 0 where
  pub front : (count : ℕ) × (n.complained ≡ m.complained ++ take count line)
  pub whole : ¬ Rose before.says now.says → n.complained ≡ m.complained ++ line

-- which line it is: the verdict's, but that after a failed read it names one of the files that the command reads
pub record Complains (names : List (List ℕ)) (verdict : Verdict) (before now : Faults) (status : ℕ) (m n : Meanings) : Type 0 where
  pub verdict_line : status ≢ 0 → status ≢ 6 → status ≢ 7 → (status ≡ 5 → ¬ Rose before.reads now.reads) → ComplainsLine verdict.line before now m n
  pub read_line : status ≡ 5 → (name : List ℕ) × Contains names name × ComplainsLine (read_fault_line name) before now m n
  pub write_line : status ≡ 6 → ComplainsLine write_fault_line before now m n
  pub memory_line : status ≡ 7 → ComplainsLine out_of_memory_line before now m n

-- the named files are opened in turn, each once, up to some of them; no other is
abbrev pub OpensInTurn : List (List ℕ) → Meanings → Meanings → Type 0
OpensInTurn names m n = (count : ℕ) × (n.opened ≡ m.opened ++ take count names)

-- nothing moves but standard error
abbrev pub OnlyComplains : Meanings → Meanings → Type 0
OnlyComplains m n = n ≡ record m { complained = n.complained }

-- all that the program promises for these words, between its entry and its exit
pub record KeepsPromises (words : List (List ℕ)) (told told_now : Option Meanings) (before now : Faults) (status : ℕ) : Type 0 where
  pub answers : Step told told_now (λ m n. (form : Form) (bytes text printed : List ℕ) → Asks words m.files form bytes text → IsAnswer form bytes text printed → Prints printed before now status m n)
  pub answers_of_index : Step told told_now (λ m n. (form : Form) (bytes index text printed : List ℕ) → AsksIndex words m.files form index text → IsIndexOfData bytes index → IsAnswer form bytes text printed → Prints printed before now status m n)
  pub usage : request_of words ≡ None → status ≡ 1
  pub usage_moves_nothing : Step told told_now (λ m n. request_of words ≡ None → OnlyComplains m n)
  pub complete : Step told told_now (λ m n. (verdict : Verdict) → IsVerdict words m.files verdict → IsComplete verdict before now status)
  pub honest : Step told told_now (λ m n. (verdict : Verdict) → IsVerdict words m.files verdict → IsHonest verdict status)
  pub output : Step told told_now (λ m n. (verdict : Verdict) → IsVerdict words m.files verdict → Outputs verdict status m n)
  pub files : Step told told_now (λ m n. (verdict : Verdict) → IsVerdict words m.files verdict → LeavesFiles verdict status m n)
  pub causes : HasCauses words told before now status
  pub refusal_line : Step told told_now (λ m n. (verdict : Verdict) → IsVerdict words m.files verdict → Complains (names_read (request_of words)) verdict before now status m n)
  pub opens : Step told told_now (OpensInTurn (names_read (request_of words)))
  pub nothing_is_made : IfSome told_now NothingIsMade
