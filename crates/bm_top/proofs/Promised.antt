-- A command that ended so, and then complained its line, keeps what the program promises.
use Rattle.std.proofs.Common.{◌≡◌, ◌⊎◌, inl, inr, ℕ, List, None, Option, Some, Result, OnErr, IfSome, IsSomeAnd, refl, sym, ◌∙◌, subst, arith}
use Rattle.bm_world.specs.declared.world.Failed.{Failed}
use Rattle.bm_world.specs.declared.world.Faults.{Faults}
use Rattle.bm_world.specs.Meanings.{Files, Meanings, with_complained}
use Rattle.bm_world.specs.World.{AppendsAll, NothingIsMade, Rose, Step}
use Rattle.bm_world.proofs.Steps.{Step-then}
use Rattle.bm_top.specs.declared.ending.Ending.{Ending}
use Rattle.bm_top.specs.declared.ending.Ending.TheVariants as ends
use Rattle.bm_top.specs.Command.{names_read, request_of}
use Rattle.bm_top.specs.steps.Ending.{Ends, HasReason, Moves, line_of, status_of}
use Rattle.bm_top.specs.Lines.{read_fault_line}
use Rattle.bm_top.specs.Run.{HasCauses, IsComplete, KeepsPromises, OnlyComplains, Outputs, Prints}
use Rattle.bm_top.specs.Standard.{IsVerdict}
use Rattle.bm_top.specs.Verdict.{Verdict, answered, refused}
use Rattle.bm_top.proofs.Promises.{Complains-ended, IsComplete-ended, IsHonest-ended, LeavesFiles-ended, OnlyComplains-said, OpensInTurn-said, Outputs-ended, made-said, refusal_status-is}
use Rattle.bm_top.proofs.StandardLaws.{asked_index_verdict, asked_verdict, request_one}
use Rattle.bm_top.proofs.StepsDone.{IsSomeAnd-wider, Step-known, none_made}
use Rattle.bm_top.proofs.Verdicts.{One}

-- where the verdict is a text, that is what is printed
prints-answer : (printed : List ℕ) (before now : Faults) (status : ℕ) (m n : Meanings) → IsComplete (answered printed) before now status → Outputs (answered printed) status m n → Prints printed before now status m n
prints-answer printed before now status m n complete outputs = record {
  ends = complete;
  whole = outputs.whole;
  quiet = outputs.quiet;
}

module _ (words : List (List ℕ)) (told told_mid told_now : Option Meanings) (before mid now : Faults) (ending : Ending) (said : Result (Unit {0}) Failed) where
  -- what is known when the command has ended and its line was complained
  pub record HasEnded : Type 0 where
    pub usage : request_of words ≡ None → (status_of ending ≡ 1) × (told_mid ≡ told)
    pub nothing_made : IfSome told NothingIsMade
    pub step : Step told told_mid (λ m k. Ends (IsVerdict words m.files) ending m k)
    pub reason : HasReason (λ files. IsVerdict words files) (names_read (request_of words)) told before mid ending
    pub moves : Step told told_mid (Moves (names_read (request_of words)))
    pub complained : Step told_mid told_now (AppendsAll with_complained (line_of ending) said)
    pub reads_stay : now.reads ≡ mid.reads
    pub writes_stay : now.writes ≡ mid.writes
    pub cause : OnErr said (Rose mid.says now.says)

  one : (files : Files) → One (IsVerdict words files)
  one files = request_one files (request_of words)

  read_cause : (ending : Ending) → HasReason (λ files. IsVerdict words files) (names_read (request_of words)) told before mid ending → status_of ending ≡ 5
      → Rose before.reads mid.reads ⊎ IsSomeAnd told (λ m. (verdict : Verdict) × IsVerdict words m.files verdict × (verdict.status ≡ 5))
  read_cause ends.Done had e = absurd (omega arith)
  read_cause (ends.Refused refusal) had e = absurd ((refusal_status-is refusal).no5 e)
  read_cause (ends.ReadFault name) had e =
      elim had.reason.1 [
        | inl rose ↦ inl rose
        | inr gone ↦ inr (IsSomeAnd-wider told (λ w. IsVerdict words w.files (refused 5 (read_fault_line name.now)))
            (λ m. (verdict : Verdict) × IsVerdict words m.files verdict × (verdict.status ≡ 5))
            (λ m is. (refused 5 (read_fault_line name.now), is, refl)) gone)
      ]
  read_cause ends.WriteFault had e = absurd (omega arith)
  read_cause ends.Memory had e = absurd (omega arith)

  write_cause : (ending : Ending) → HasReason (λ files. IsVerdict words files) (names_read (request_of words)) told before mid ending → status_of ending ≡ 6 → Rose before.writes mid.writes
  write_cause ends.Done had e = absurd (omega arith)
  write_cause (ends.Refused refusal) had e = absurd ((refusal_status-is refusal).no6 e)
  write_cause (ends.ReadFault name) had e = absurd (omega arith)
  write_cause ends.WriteFault had e = had.reason
  write_cause ends.Memory had e = absurd (omega arith)

  module _ (ended : HasEnded) where
    causes : HasCauses words told before now (status_of ending)
    causes = record {
      read_fault = λ e. elim (read_cause ending ended.reason e) [ inl rose ↦ inl (subst (Rose before.reads) (sym ended.reads_stay) rose) | inr gone ↦ inr gone ];
      write_fault = λ e. subst (Rose before.writes) (sym ended.writes_stay) (write_cause ending ended.reason e);
    }

    complete : Step told told_now (λ m n. (verdict : Verdict) → IsVerdict words m.files verdict → IsComplete verdict before now (status_of ending))
    complete = Step-then (Step-known ended.step) ended.complained (λ m k n known _ verdict is.
        IsComplete-ended (λ files. IsVerdict words files) one (names_read (request_of words)) told before mid now ended.reads_stay ended.writes_stay ending m k verdict known.1 is (known.0 verdict is) ended.reason)

    output : Step told told_now (λ m n. (verdict : Verdict) → IsVerdict words m.files verdict → Outputs verdict (status_of ending) m n)
    output = Step-then ended.step ended.complained (λ m k n known complained verdict is. Outputs-ended verdict ending said m k n (known verdict is) complained)

    -- what is printed where the verdict is a text
    prints : (printed : List ℕ) (m n : Meanings) → told ≡ Some m → told_now ≡ Some n → IsVerdict words m.files (answered printed) → Prints printed before now (status_of ending) m n
    prints printed m n was is verdict = prints-answer printed before now (status_of ending) m n (complete.moves m n was is (answered printed) verdict) (output.moves m n was is (answered printed) verdict)

    usage_moves_nothing : request_of words ≡ None → Step told told_now OnlyComplains
    usage_moves_nothing none =
        let P : Option Meanings → Type 0 = λ here. Step here told_now OnlyComplains in
        subst P (ended.usage none).1 (record {
          silent = ended.complained.silent;
          moves = λ k n was is. OnlyComplains-said (line_of ending) said k n (ended.complained.moves k n was is);
        })

    pub promised : KeepsPromises words told told_now before now (status_of ending)
    promised = record {
      answers = record {
        silent = complete.silent;
        moves = λ m n was is form bytes text printed asked answer. prints printed m n was is (asked_verdict words m.files form bytes text printed asked answer);
      };
      answers_of_index = record {
        silent = complete.silent;
        moves = λ m n was is form bytes index text printed asked of_data answer. prints printed m n was is (asked_index_verdict words m.files form bytes index text printed asked of_data answer);
      };
      usage = λ none. (ended.usage none).0;
      usage_moves_nothing = record {
        silent = complete.silent;
        moves = λ m n was is none. (usage_moves_nothing none).moves m n was is;
      };
      complete = complete;
      honest = Step-then ended.step ended.complained (λ m k n known _ verdict is. IsHonest-ended verdict ending m k (known verdict is));
      output = output;
      files = Step-then ended.step ended.complained (λ m k n known complained verdict is. LeavesFiles-ended verdict ending said m k n (known verdict is) complained);
      causes = causes;
      refusal_line = Step-then (Step-known ended.step) ended.complained (λ m k n known complained verdict is.
          Complains-ended (λ files. IsVerdict words files) one (names_read (request_of words)) told before mid now ended.reads_stay ending said m k n verdict known.1 is (known.0 verdict is) ended.reason complained ended.cause);
      opens = Step-then ended.moves ended.complained (λ m k n moves complained. OpensInTurn-said (names_read (request_of words)) (line_of ending) said m k n moves.opens complained);
      nothing_is_made = none_made told told_now ended.nothing_made (Step-then ended.moves ended.complained (λ m k n moves complained. made-said (line_of ending) said k n complained ∙ moves.made));
    }
