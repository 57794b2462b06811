-- What is known at the end of a command, and of what was complained then, is what the program promises.
use Rattle.std.proofs.Common.{◌≡◌, ◌≢◌, ◌⊎◌, inl, inr, ℕ, List, [], ◌++◌, length, take, Option, Some, None, Result, Ok, Err, OnErr, IsSomeAnd, refl, sym, ◌∙◌, ap, subst, arith, zero, suc}
use Rattle.std.proofs.lemmas.List.{append-nil}
use Rattle.std.proofs.Math.Seq.{take-length}
use Rattle.bm_world.specs.declared.world.Faults.{Faults}
use Rattle.bm_world.specs.Meanings.{Files, Meanings, with_complained}
use Rattle.bm_world.specs.World.{Rose, AppendsAll}
use Rattle.bm_world.specs.declared.world.Failed.{Failed}
use Rattle.bm_top.specs.declared.ending.Ending.{Ending}
use Rattle.bm_top.specs.declared.ending.Ending.TheVariants as ends
use Rattle.bm_top.specs.declared.refusal.Refusal.{Refusal}
use Rattle.bm_top.specs.declared.refusal.Refusal.TheVariants as refusals
use Rattle.bm_top.specs.Lines.{refusal_status, refusal_line, read_fault_line}
use Rattle.bm_top.specs.Verdict.{Verdict, refused, files_after, HasFrontOf}
use Rattle.bm_top.specs.steps.Ending.{EndsSo, HasReason, Leaves, ReadsOnly, status_of, line_of}
use Rattle.bm_top.proofs.Verdicts.{One}
use Rattle.bm_top.specs.Run.{IsComplete, IsHonest, LeavesFiles, OnlyComplains, OpensInTurn, Outputs, ComplainsLine, Complains}

-- the status of a refusal is none of 0, 5, 6 and 7
pub record IsOfRefusal (status : ℕ) : Type 0 where
  pub no0 : status ≢ 0
  pub no5 : status ≢ 5
  pub no6 : status ≢ 6
  pub no7 : status ≢ 7

pub refusal_status-is : (refusal : Refusal) → IsOfRefusal (refusal_status refusal)
refusal_status-is refusals.Usage = record { no0 = λ e. absurd (omega arith); no5 = λ e. absurd (omega arith); no6 = λ e. absurd (omega arith); no7 = λ e. absurd (omega arith) }
refusal_status-is (refusals.BadLine line) = record { no0 = λ e. absurd (omega arith); no5 = λ e. absurd (omega arith); no6 = λ e. absurd (omega arith); no7 = λ e. absurd (omega arith) }
refusal_status-is (refusals.Query refusal) = record { no0 = λ e. absurd (omega arith); no5 = λ e. absurd (omega arith); no6 = λ e. absurd (omega arith); no7 = λ e. absurd (omega arith) }
refusal_status-is (refusals.TooLong name limit) = record { no0 = λ e. absurd (omega arith); no5 = λ e. absurd (omega arith); no6 = λ e. absurd (omega arith); no7 = λ e. absurd (omega arith) }
refusal_status-is refusals.ImageTooLong = record { no0 = λ e. absurd (omega arith); no5 = λ e. absurd (omega arith); no6 = λ e. absurd (omega arith); no7 = λ e. absurd (omega arith) }
refusal_status-is (refusals.Damaged part) = record { no0 = λ e. absurd (omega arith); no5 = λ e. absurd (omega arith); no6 = λ e. absurd (omega arith); no7 = λ e. absurd (omega arith) }
refusal_status-is refusals.TooManyTriples = record { no0 = λ e. absurd (omega arith); no5 = λ e. absurd (omega arith); no6 = λ e. absurd (omega arith); no7 = λ e. absurd (omega arith) }

-- a command keeps a file that is being made, and complaints
record Kept (m k : Meanings) : Type 0 where
  made : k.made ≡ m.made
  complained : k.complained ≡ m.complained

kept_read : (m k : Meanings) → ReadsOnly m k → Kept m k
kept_read m k moved = record { made = ap (λ (w : Meanings). w.made) moved; complained = ap (λ (w : Meanings). w.complained) moved }

kept_left : (files : Files) (text : List ℕ) (m k : Meanings) → Leaves files text m k → Kept m k
kept_left files text m k moved = record { made = ap (λ (w : Meanings). w.made) moved; complained = ap (λ (w : Meanings). w.complained) moved }

kept : (verdict : Verdict) (ending : Ending) (m k : Meanings) → EndsSo verdict ending m k → Kept m k
kept verdict ends.Done m k ended = kept_left (files_after verdict m.files) verdict.text m k ended.1
kept verdict (ends.Refused refusal) m k ended = kept_read m k ended.1
kept verdict (ends.ReadFault name) m k ended = kept_read m k ended
kept verdict ends.WriteFault m k (done, (files, count, front, moved)) = kept_left files (take count verdict.text) m k moved
kept verdict ends.Memory m k (count, moved) = kept_left m.files (take count verdict.text) m k moved

-- after a line was complained, or a front of it
record Said (line : List ℕ) (k n : Meanings) : Type 0 where
  files : n.files ≡ k.files
  made : n.made ≡ k.made
  opened : n.opened ≡ k.opened
  printed : n.printed ≡ k.printed
  only : OnlyComplains k n
  front : (count : ℕ) × (n.complained ≡ k.complained ++ take count line)

-- nothing but complaints has changed
complained_only : (bytes : List ℕ) (k n : Meanings) → n ≡ with_complained k bytes → OnlyComplains k n
complained_only bytes k n moved = let P : Meanings → Type 0 = λ w. OnlyComplains k w in subst P (sym moved) refl

said_so : (line : List ℕ) (said : Result (Unit {0}) Failed) (k n : Meanings) → AppendsAll with_complained line said k n → Said line k n
said_so line (Ok u) k n moved = record {
  files = ap (λ (w : Meanings). w.files) moved;
  made = ap (λ (w : Meanings). w.made) moved;
  opened = ap (λ (w : Meanings). w.opened) moved;
  printed = ap (λ (w : Meanings). w.printed) moved;
  only = complained_only line k n moved;
  front = (length line, ap (λ (w : Meanings). w.complained) moved ∙ ap (λ part. k.complained ++ part) (sym (take-length line)));
}
said_so line (Err e) k n (count, moved) = record {
  files = ap (λ (w : Meanings). w.files) moved;
  made = ap (λ (w : Meanings). w.made) moved;
  opened = ap (λ (w : Meanings). w.opened) moved;
  printed = ap (λ (w : Meanings). w.printed) moved;
  only = complained_only (take count line) k n moved;
  front = (count, ap (λ (w : Meanings). w.complained) moved);
}

-- all of it, where no call of `complain` failed
said_all : (line : List ℕ) (says says_now : ℕ) (said : Result (Unit {0}) Failed) (k n : Meanings) → AppendsAll with_complained line said k n → OnErr said (Rose says says_now) → ¬ Rose says says_now → n.complained ≡ k.complained ++ line
said_all line says says_now (Ok u) k n moved cause quiet = ap (λ (w : Meanings). w.complained) moved
said_all line says says_now (Err e) k n moved cause quiet = absurd (quiet cause)

-- where nothing moved before, only complaints move
pub OnlyComplains-said : (line : List ℕ) (said : Result (Unit {0}) Failed) (k n : Meanings) → AppendsAll with_complained line said k n → OnlyComplains k n
OnlyComplains-said line said k n complained = (said_so line said k n complained).only

-- complaints open no file
pub OpensInTurn-said : (names : List (List ℕ)) (line : List ℕ) (said : Result (Unit {0}) Failed) (m k n : Meanings) → OpensInTurn names m k → AppendsAll with_complained line said k n → OpensInTurn names m n
OpensInTurn-said names line said m k n (count, opened) complained = (count, (said_so line said k n complained).opened ∙ opened)

-- complaints make no file
pub made-said : (line : List ℕ) (said : Result (Unit {0}) Failed) (k n : Meanings) → AppendsAll with_complained line said k n → n.made ≡ k.made
made-said line said k n complained = (said_so line said k n complained).made

-- nothing was printed
unprinted : (verdict : Verdict) (status : ℕ) (line : List ℕ) (said : Result (Unit {0}) Failed) (m k n : Meanings) → status ≢ 0 → status ≢ 6 → status ≢ 7 → k.printed ≡ m.printed → AppendsAll with_complained line said k n → Outputs verdict status m n
unprinted verdict status line said m k n no0 no6 no7 same complained = record {
  whole = λ e. absurd (no0 e);
  quiet = λ e. absurd (no0 e);
  front = λ e. absurd (elim e [ inl a ↦ no6 a | inr b ↦ no7 b ]);
  nothing = λ _ _ _. (said_so line said k n complained).printed ∙ same;
}

-- no file was changed
unchanged : (verdict : Verdict) (status : ℕ) (line : List ℕ) (said : Result (Unit {0}) Failed) (m k n : Meanings) → status ≢ 0 → status ≢ 6 → ReadsOnly m k → AppendsAll with_complained line said k n → LeavesFiles verdict status m n
unchanged verdict status line said m k n no0 no6 read complained =
    let after = said_so line said k n complained in
    record {
      whole = λ e. absurd (no0 e);
      front = λ e. absurd (no6 e);
      kept = λ _ _. after.files ∙ ap (λ (w : Meanings). w.files) read;
      made = after.made ∙ ap (λ (w : Meanings). w.made) read;
    }

pub LeavesFiles-ended : (verdict : Verdict) (ending : Ending) (said : Result (Unit {0}) Failed) (m k n : Meanings) → EndsSo verdict ending m k → AppendsAll with_complained (line_of ending) said k n → LeavesFiles verdict (status_of ending) m n
LeavesFiles-ended verdict ends.Done said m k n ended complained =
    let after = said_so [] said k n complained in
    record {
      whole = λ _. after.files ∙ ap (λ (w : Meanings). w.files) ended.1;
      front = λ e. absurd (omega arith);
      kept = λ not _. absurd (not refl);
      made = after.made ∙ (kept verdict ends.Done m k ended).made;
    }
LeavesFiles-ended verdict (ends.Refused refusal) said m k n ended complained =
    let status = refusal_status-is refusal in
    unchanged verdict (refusal_status refusal) (refusal_line refusal) said m k n status.no0 status.no6 ended.1 complained
LeavesFiles-ended verdict (ends.ReadFault name) said m k n ended complained =
    unchanged verdict 5 (line_of (ends.ReadFault name)) said m k n (λ e. omega arith) (λ e. omega arith) ended complained
LeavesFiles-ended verdict ends.WriteFault said m k n (done, (files, count, front, moved)) complained =
    let after = said_so (line_of ends.WriteFault) said k n complained in
    let same : n.files ≡ files = after.files ∙ ap (λ (w : Meanings). w.files) moved in
    record {
      whole = λ e. absurd (omega arith);
      front = λ _. subst (HasFrontOf verdict m.files) (sym same) front;
      kept = λ _ not. absurd (not refl);
      made = after.made ∙ ap (λ (w : Meanings). w.made) moved;
    }
LeavesFiles-ended verdict ends.Memory said m k n (count, moved) complained =
    let after = said_so (line_of ends.Memory) said k n complained in
    record {
      whole = λ e. absurd (omega arith);
      front = λ e. absurd (omega arith);
      kept = λ _ _. after.files ∙ ap (λ (w : Meanings). w.files) moved;
      made = after.made ∙ ap (λ (w : Meanings). w.made) moved;
    }

pub IsHonest-ended : (verdict : Verdict) (ending : Ending) (m k : Meanings) → EndsSo verdict ending m k → IsHonest verdict (status_of ending)
IsHonest-ended verdict ends.Done m k ended = record { answer = λ _ _ _. sym ended.0; write_fault = λ e. absurd (omega arith) }
IsHonest-ended verdict (ends.Refused refusal) m k ended = record {
  answer = λ _ _ _. sym (ap (λ (v : Verdict). v.status) ended.0);
  write_fault = λ e. absurd ((refusal_status-is refusal).no6 e);
}
IsHonest-ended verdict (ends.ReadFault name) m k ended = record { answer = λ not _ _. absurd (not refl); write_fault = λ e. absurd (omega arith) }
IsHonest-ended verdict ends.WriteFault m k ended = record { answer = λ _ not _. absurd (not refl); write_fault = λ _. ended.0 }
IsHonest-ended verdict ends.Memory m k ended = record { answer = λ _ _ not. absurd (not refl); write_fault = λ e. absurd (omega arith) }

-- what is known of the one world that is told
told_here : (told : Option Meanings) (m : Meanings) (P : Meanings → Type 0) → told ≡ Some m → IsSomeAnd told P → P m
told_here None m P is h = absurd h
told_here (Some k) m P is h = let here : k ≡ m = cc in subst P here h

module _ (IsOf : Files → Verdict → Type 0) (one : (files : Files) → One (IsOf files)) (names : List (List ℕ)) (told : Option Meanings) (before mid now : Faults) (reads : now.reads ≡ mid.reads) where
  -- where no read failed by the end, the line of a file that was not read is that of the verdict
  missing_line : (name : List ℕ) (m : Meanings) (verdict : Verdict) → told ≡ Some m → IsOf m.files verdict → ¬ Rose before.reads now.reads
      → Rose before.reads mid.reads ⊎ IsSomeAnd told (λ w. IsOf w.files (refused 5 (read_fault_line name))) → verdict ≡ refused 5 (read_fault_line name)
  missing_line name m verdict is decides quiet (inl rose) = absurd (quiet (subst (Rose before.reads) (sym reads) rose))
  missing_line name m verdict is decides quiet (inr gone) =
      one m.files verdict (refused 5 (read_fault_line name)) decides (told_here told m (λ w. IsOf w.files (refused 5 (read_fault_line name))) is gone)

  pub IsComplete-ended : now.writes ≡ mid.writes → (ending : Ending) (m k : Meanings) (verdict : Verdict) → told ≡ Some m → IsOf m.files verdict → EndsSo verdict ending m k → HasReason IsOf names told before mid ending → IsComplete verdict before now (status_of ending)
  IsComplete-ended writes ends.Done m k verdict is decides ended had = λ _ _. inl (sym ended.0)
  IsComplete-ended writes (ends.Refused refusal) m k verdict is decides ended had = λ _ _. inl (sym (ap (λ (v : Verdict). v.status) ended.0))
  IsComplete-ended writes (ends.ReadFault name) m k verdict is decides ended had = λ no_read _. inl (sym (ap (λ (v : Verdict). v.status) (missing_line name.now m verdict is decides no_read had.reason.1)))
  IsComplete-ended writes ends.WriteFault m k verdict is decides ended had = λ _ no_write. absurd (no_write (subst (Rose before.writes) (sym writes) had.reason))
  IsComplete-ended writes ends.Memory m k verdict is decides ended had = λ _ _. inr refl

-- what was printed, and then something was complained
pub Outputs-ended : (verdict : Verdict) (ending : Ending) (said : Result (Unit {0}) Failed) (m k n : Meanings) → EndsSo verdict ending m k → AppendsAll with_complained (line_of ending) said k n → Outputs verdict (status_of ending) m n
Outputs-ended verdict ends.Done said m k n ended complained =
    let after = said_so [] said k n complained in
    record {
      whole = λ _. after.printed ∙ ap (λ (w : Meanings). w.printed) ended.1;
      quiet = λ _. after.front.1 ∙ nothing_more k.complained after.front.0 ∙ ap (λ (w : Meanings). w.complained) ended.1;
      front = λ e. absurd (elim e [ inl a ↦ omega arith | inr b ↦ omega arith ]);
      nothing = λ not _ _. absurd (not refl);
    }
  where
    nothing_more : (said_before : List ℕ) (count : ℕ) → said_before ++ take count [] ≡ said_before
    nothing_more said_before zero = append-nil said_before
    nothing_more said_before (suc count) = append-nil said_before
Outputs-ended verdict (ends.Refused refusal) said m k n ended complained =
    let status = refusal_status-is refusal in
    unprinted verdict (refusal_status refusal) (refusal_line refusal) said m k n status.no0 status.no6 status.no7 (ap (λ (w : Meanings). w.printed) ended.1) complained
Outputs-ended verdict (ends.ReadFault name) said m k n ended complained =
    unprinted verdict 5 (line_of (ends.ReadFault name)) said m k n (λ e. omega arith) (λ e. omega arith) (λ e. omega arith) (ap (λ (w : Meanings). w.printed) ended) complained
Outputs-ended verdict ends.WriteFault said m k n (done, (files, count, front, moved)) complained =
    let after = said_so (line_of ends.WriteFault) said k n complained in
    record {
      whole = λ e. absurd (omega arith);
      quiet = λ e. absurd (omega arith);
      front = λ _. (count, after.printed ∙ ap (λ (w : Meanings). w.printed) moved);
      nothing = λ _ not _. absurd (not refl);
    }
Outputs-ended verdict ends.Memory said m k n (count, moved) complained =
    let after = said_so (line_of ends.Memory) said k n complained in
    record {
      whole = λ e. absurd (omega arith);
      quiet = λ e. absurd (omega arith);
      front = λ _. (count, after.printed ∙ ap (λ (w : Meanings). w.printed) moved);
      nothing = λ _ _ not. absurd (not refl);
    }

-- the line of an ending was complained
line_said : (ending : Ending) (said : Result (Unit {0}) Failed) (verdict : Verdict) (before now : Faults) (m k n : Meanings) → EndsSo verdict ending m k → AppendsAll with_complained (line_of ending) said k n → OnErr said (Rose before.says now.says) → ComplainsLine (line_of ending) before now m n
line_said ending said verdict before now m k n ended complained cause =
    let after = said_so (line_of ending) said k n complained in
    let same = (kept verdict ending m k ended).complained in
    record {
      front = (after.front.0, after.front.1 ∙ ap (λ text. text ++ take after.front.0 (line_of ending)) same);
      whole = λ quiet. said_all (line_of ending) before.says now.says said k n complained cause quiet ∙ ap (λ text. text ++ line_of ending) same;
    }

module _ (IsOf : Files → Verdict → Type 0) (one : (files : Files) → One (IsOf files)) (names : List (List ℕ)) (told : Option Meanings) (before mid now : Faults) (reads : now.reads ≡ mid.reads) where
  Complains-line : (ending : Ending) (m n : Meanings) (verdict : Verdict) → told ≡ Some m → IsOf m.files verdict → (k : Meanings) → EndsSo verdict ending m k → HasReason IsOf names told before mid ending → ComplainsLine (line_of ending) before now m n
      → Complains names verdict before now (status_of ending) m n
  Complains-line ends.Done m n verdict is decides k ended had line = record {
    verdict_line = λ not _ _ _. absurd (not refl);
    read_line = λ e. absurd (omega arith);
    write_line = λ e. absurd (omega arith);
    memory_line = λ e. absurd (omega arith);
  }
  Complains-line (ends.Refused refusal) m n verdict is decides k ended had line =
      let status = refusal_status-is refusal in
      record {
        verdict_line = λ _ _ _ _. rw ended.0 line;
        read_line = λ e. absurd (status.no5 e);
        write_line = λ e. absurd (status.no6 e);
        memory_line = λ e. absurd (status.no7 e);
      }
  Complains-line (ends.ReadFault name) m n verdict is decides k ended had line = record {
    verdict_line = λ _ _ _ quiet. rw (missing_line IsOf one names told before mid now reads name.now m verdict is decides (quiet refl) had.reason.1) line;
    read_line = λ _. (name.now, had.reason.0, line);
    write_line = λ e. absurd (omega arith);
    memory_line = λ e. absurd (omega arith);
  }
  Complains-line ends.WriteFault m n verdict is decides k ended had line = record {
    verdict_line = λ _ not _ _. absurd (not refl);
    read_line = λ e. absurd (omega arith);
    write_line = λ _. line;
    memory_line = λ e. absurd (omega arith);
  }
  Complains-line ends.Memory m n verdict is decides k ended had line = record {
    verdict_line = λ _ _ not _. absurd (not refl);
    read_line = λ e. absurd (omega arith);
    write_line = λ e. absurd (omega arith);
    memory_line = λ _. line;
  }

  pub Complains-ended : (ending : Ending) (said : Result (Unit {0}) Failed) (m k n : Meanings) (verdict : Verdict) → told ≡ Some m → IsOf m.files verdict → EndsSo verdict ending m k → HasReason IsOf names told before mid ending
      → AppendsAll with_complained (line_of ending) said k n → OnErr said (Rose mid.says now.says) → Complains names verdict before now (status_of ending) m n
  Complains-ended ending said m k n verdict is decides ended had complained cause =
      let P : ℕ → Type 0 = λ says. OnErr said (Rose says now.says) in
      Complains-line ending m n verdict is decides k ended had (line_said ending said verdict before now m k n ended complained (subst P had.says_stay cause))
