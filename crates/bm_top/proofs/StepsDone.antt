-- The steps of a command, one after another: what is known at the end of those that are left is known of all.
use Rattle.std.proofs.Common.{◌≡◌, ◌⊎◌, inl, inr, ℕ, suc, ◌<◌, ◌≤◌, List, [], ◌∷◌, ◌++◌, length, take, Contains, Option, Some, None, Vec, Result, Ok, Err, OnErr, IfSome, IsSomeAnd, Bor, refl, sym, ◌∙◌, ap, subst, append_assoc, arith}
use Rattle.std.specs.FinMap.{insert}
use Rattle.std.proofs.Math.Seq.{take-length}
use Rattle.std.proofs.lemmas.Grind.{common_steps}
use Rattle.std.proofs.lemmas.List.{append-nil}
use Rattle.std.specs.declared.alloc.Global.{Global}
use Rattle.bm_term.proofs.Elements.{Contains-head, Contains-nil, Contains-tail}
use Rattle.bm_world.specs.declared.world.Failed.{Failed}
use Rattle.bm_world.specs.declared.world.Faults.{Faults}
use Rattle.bm_world.specs.Meanings.{Files, Meanings, with_made, with_opened, with_printed}
use Rattle.bm_world.specs.Reading.{ReadsAll, ReadsWhole}
use Rattle.bm_world.specs.World.{AppendsAll, NothingIsMade, RisesOnErr, Step, Rose, IsMissing}
use Rattle.bm_world.specs.declared.reading.ReadEnd.{ReadEnd}
use Rattle.bm_world.specs.declared.reading.ReadEnd.TheVariants as read_ends
use Rattle.bm_world.proofs.Steps.{rose_later}
use Rattle.bm_top.specs.declared.undecided.Undecided.{Undecided}
use Rattle.bm_top.specs.declared.undecided.Undecided.TheVariants as undecided
use Rattle.bm_top.specs.declared.ending.Ending.{Ending}
use Rattle.bm_top.specs.declared.ending.Ending.TheVariants as ends
use Rattle.bm_top.specs.Lines.{read_fault_line}
use Rattle.bm_top.specs.Run.{OpensInTurn}
use Rattle.bm_top.specs.Standard.{IsDecidedBy, missing, read as read_whole}
use Rattle.bm_top.specs.Verdict.{Verdict, answered, refused, stores}
use Rattle.bm_top.specs.steps.Printing.{after_writing}
use Rattle.result_write.specs.declared.form.WriteEnd.{WriteEnd}
use Rattle.result_write.specs.declared.form.WriteEnd.TheVariants as write_ends
use Rattle.result_write.specs.Printing.{HasWriteCause, Prints}
use Rattle.bm_top.specs.steps.Ending.{Ends, EndsSo, ReadsOnly, Leaves, HasReason, Moves, Reason, Says, after_deciding, after_printing, after_reading}
use Rattle.bm_top.proofs.Verdicts.{read_next, too_long_then}

-- nothing was printed yet
Leaves-nothing : (text : List ℕ) (m n : Meanings) → ReadsOnly m n → Leaves m.files (take 0 text) m n
Leaves-nothing text m n read = read ∙ ap (λ printed. record m { opened = n.opened; rest = n.rest; printed = printed }) (sym (append-nil m.printed))

-- memory ran out before anything was printed
pub EndsSo-memory : (verdict : Verdict) (m n : Meanings) → ReadsOnly m n → EndsSo verdict ends.Memory m n
EndsSo-memory verdict m n read = (0, Leaves-nothing verdict.text m n read)

-- the text has been printed, or some front of it
pub EndsSo-written : (verdict : Verdict) (text : List ℕ) (written : Result (Unit {0}) WriteEnd) (m n : Meanings) → verdict ≡ answered text → Prints text written m n → EndsSo verdict (after_writing written) m n
EndsSo-written verdict text (Ok u) m n is moved =
    let P : Meanings → Type 0 = λ k. Leaves m.files text m k in
    rw is (refl, subst P (sym moved) refl)
EndsSo-written verdict text (Err write_ends.Failed) m n is (count, moved) =
    let P : Meanings → Type 0 = λ k. Leaves m.files (take count text) m k in
    rw is (refl, (m.files, count, inl refl, subst P (sym moved) refl))
EndsSo-written verdict text (Err write_ends.Memory) m n is (count, moved) =
    let P : Meanings → Type 0 = λ k. Leaves m.files (take count text) m k in
    rw is (count, subst P (sym moved) refl)

-- why not all of it was
pub HasReason-written : (IsOf : Files → Verdict → Type 0) (told : Option Meanings) (before now : Faults) (written : Result (Unit {0}) WriteEnd) → HasWriteCause before.writes now.writes written → now.reads ≡ before.reads → now.says ≡ before.says → HasReason IsOf [] told before now (after_writing written)
HasReason-written IsOf told before now written cause reads says = record {
  reads_later = omega (arith, reads);
  writes_later = cause.later;
  says_stay = says;
  reason = why written cause;
}
  where
    why : (written : Result (Unit {0}) WriteEnd) → HasWriteCause before.writes now.writes written → Reason IsOf [] told before now (after_writing written)
    why (Ok u) cause = tt
    why (Err write_ends.Failed) cause = cause.failed refl
    why (Err write_ends.Memory) cause = tt

-- nothing has moved, and there is no text
pub EndsSo-undecided : (why : Undecided) (verdict : Verdict) (m : Meanings) → Says why verdict → EndsSo verdict (after_deciding why) m m
EndsSo-undecided (undecided.BadLine line) verdict m is = (is, refl)
EndsSo-undecided undecided.TooManyTriples verdict m is = (is, refl)
EndsSo-undecided undecided.ImageTooLong verdict m is = (is, refl)
EndsSo-undecided (undecided.Query refusal) verdict m is = (is, refl)
EndsSo-undecided undecided.Memory verdict m is = EndsSo-memory verdict m m refl

-- a text was printed, which takes no memory
pub EndsSo-printed : (text : List ℕ) (printed : Result (Unit {0}) Failed) (m n : Meanings) → AppendsAll with_printed text printed m n → EndsSo (answered text) (after_printing printed) m n
EndsSo-printed text (Ok u) m n moved =
    let P : Meanings → Type 0 = λ k. Leaves m.files text m k in
    (refl, subst P (sym moved) refl)
EndsSo-printed text (Err failed) m n (count, moved) =
    let P : Meanings → Type 0 = λ k. Leaves m.files (take count text) m k in
    (refl, (m.files, count, inl refl, subst P (sym moved) refl))

-- a file was made, and then a text was printed
module _ (name bytes : List ℕ) (m : Meanings) (nothing : m.made ≡ None) where
  -- the world with a front of the text printed
  abbrev stored_world : List ℕ → Meanings
  stored_world text = record m { files = insert m.files name bytes; printed = m.printed ++ text }

  moved_so : (text : List ℕ) (k n : Meanings) → k ≡ with_made m name bytes → n ≡ with_printed k text → n ≡ stored_world text
  moved_so text k n made moved =
      moved ∙ ap (λ was. with_printed was text) made
      ∙ ap (λ none. record m { files = insert m.files name bytes; made = none; printed = m.printed ++ text }) (sym nothing)

  pub EndsSo-stored : (text : List ℕ) (printed : Result (Unit {0}) Failed) (k n : Meanings) → k ≡ with_made m name bytes → AppendsAll with_printed text printed k n → EndsSo (stores name bytes text) (after_printing printed) m n
  EndsSo-stored text (Ok u) k n made moved =
      let P : Meanings → Type 0 = λ w. Leaves (insert m.files name bytes) text m w in
      (refl, subst P (sym (moved_so text k n made moved)) refl)
  EndsSo-stored text (Err failed) k n made (count, moved) =
      let P : Meanings → Type 0 = λ w. Leaves (insert m.files name bytes) (take count text) m w in (
        refl,
        (
          insert m.files name bytes,
          count,
          inr (record { name = name; bytes = bytes }, length bytes, refl, ap (insert m.files name) (sym (take-length bytes))),
          subst P (sym (moved_so (take count text) k n made moved)) refl,
        ),
      )

  -- the file was not made, or a front of it was
  pub EndsSo-unstored : (text : List ℕ) (n : Meanings) → (n ≡ m) ⊎ ((count : ℕ) × (n ≡ with_made m name (take count bytes))) → EndsSo (stores name bytes text) ends.WriteFault m n
  EndsSo-unstored text n (inl same) =
      let P : Meanings → Type 0 = λ w. Leaves m.files [] m w in
      (refl, (m.files, 0, inl refl, subst P (sym same) (ap (λ printed. record m { printed = printed }) (sym (append-nil m.printed)))))
  EndsSo-unstored text n (inr (count, moved)) =
      let files : Files = insert m.files name (take count bytes) in
      let P : Meanings → Type 0 = λ w. Leaves files [] m w in
      let here : n ≡ record m { files = files; printed = m.printed ++ [] } =
      moved ∙ ap (λ none. record m { files = files; made = none }) (sym nothing) ∙ ap (λ printed. record m { files = files; printed = printed }) (sym (append-nil m.printed)) in
      (refl, (files, 0, inr (record { name = name; bytes = bytes }, count, refl, refl), subst P (sym here) refl))

-- why a text was not printed, or a file not made
pub Reason-printed : (IsOf : Files → Verdict → Type 0) (told : Option Meanings) (before now : Faults) (printed : Result (Unit {0}) Failed) → OnErr printed (Rose before.writes now.writes) → Reason IsOf [] told before now (after_printing printed)
Reason-printed IsOf told before now (Ok u) cause = tt
Reason-printed IsOf told before now (Err failed) cause = cause

pub HasReason-printed : (IsOf : Files → Verdict → Type 0) (told : Option Meanings) (before between now : Faults) (printed : Result (Unit {0}) Failed) → before.writes ≤ between.writes → RisesOnErr between.writes now.writes printed
    → now.reads ≡ before.reads → now.says ≡ before.says → HasReason IsOf [] told before now (after_printing printed)
HasReason-printed IsOf told before between now printed later cause reads says = record {
  reads_later = omega (arith, reads);
  writes_later = omega (arith, later, cause.later);
  says_stay = says;
  reason = Reason-printed IsOf told before now printed (rose printed cause.failed);
}
  where
    rose : (printed : Result (Unit {0}) Failed) → OnErr printed (Rose between.writes now.writes) → OnErr printed (Rose before.writes now.writes)
    rose (Ok u) failed = tt
    rose (Err e) failed = rose_later later failed

-- nothing was called, and there is no answer
pub HasReason-undecided : (IsOf : Files → Verdict → Type 0) (told : Option Meanings) (faults : Faults) (why : Undecided) → HasReason IsOf [] told faults faults (after_deciding why)
HasReason-undecided IsOf told faults why = record { reads_later = omega arith; writes_later = omega arith; says_stay = refl; reason = none why }
  where
    none : (why : Undecided) → Reason IsOf [] told faults faults (after_deciding why)
    none (undecided.BadLine line) = tt
    none undecided.TooManyTriples = tt
    none undecided.ImageTooLong = tt
    none (undecided.Query refusal) = tt
    none undecided.Memory = tt

-- a world in which no file is being made
pub nothing_made : (told : Option Meanings) (m : Meanings) → told ≡ Some m → IfSome told NothingIsMade → NothingIsMade m
nothing_made None m is nothing = absurd (cc)
nothing_made (Some k) m is nothing = let here : k ≡ m = cc in subst NothingIsMade here nothing

-- and one in which none is after a call that makes none
pub none_made : (told now : Option Meanings) → IfSome told NothingIsMade → Step told now (λ m n. n.made ≡ m.made) → IfSome now NothingIsMade
none_made told None nothing step = tt
none_made None (Some n) nothing step = let lost = step.silent refl in absurd (cc)
none_made (Some m) (Some n) nothing step = step.moves m n refl refl ∙ nothing

-- no file was read in vain: the reason is one for each verdict
reason_of : (P Q : Files → Verdict → Type 0) (told : Option Meanings) (before now : Faults) (ending : Ending) → Reason P [] told before now ending → Reason Q [] told before now ending
reason_of P Q told before now ends.Done why = tt
reason_of P Q told before now (ends.Refused refusal) why = tt
reason_of P Q told before now (ends.ReadFault name) why = absurd (no_name name.now why.0)
  where
    no_name : (name : List ℕ) → Contains [] name → ⊥
    no_name name there = Contains-nil name there
reason_of P Q told before now ends.WriteFault why = why
reason_of P Q told before now ends.Memory why = tt

pub HasReason-any : (P Q : Files → Verdict → Type 0) (told : Option Meanings) (before now : Faults) (ending : Ending) → HasReason P [] told before now ending → HasReason Q [] told before now ending
HasReason-any P Q told before now ending had = record {
  reads_later = had.reads_later;
  writes_later = had.writes_later;
  says_stay = had.says_stay;
  reason = reason_of P Q told before now ending had.reason;
}

-- what is opened and what is left to read changed before
pub EndsSo-after_read : (verdict : Verdict) (ending : Ending) (m k n : Meanings) → ReadsOnly m k → EndsSo verdict ending k n → EndsSo verdict ending m n
EndsSo-after_read verdict ending m k n read ended =
    let P : Meanings → Type 0 = λ was. EndsSo verdict ending was n → EndsSo verdict ending m n in
    subst P (sym read) (same verdict ending m n k.opened k.rest) ended
  where
    same : (verdict : Verdict) (ending : Ending) (m n : Meanings) (opened : List (List ℕ)) (rest : Option (List ℕ)) → EndsSo verdict ending (record m { opened = opened; rest = rest }) n → EndsSo verdict ending m n
    same verdict ends.Done m n opened rest ended = ended
    same verdict (ends.Refused refusal) m n opened rest ended = ended
    same verdict (ends.ReadFault name) m n opened rest ended = ended
    same verdict ends.WriteFault m n opened rest ended = ended
    same verdict ends.Memory m n opened rest ended = ended

-- where the meanings are told at the entry, they are known there
pub Step-known : {a b : Option Meanings} {R : Meanings → Meanings → Type 0} → Step a b R → Step a b (λ m n. R m n × (a ≡ Some m))
Step-known step = record {
  silent = step.silent;
  moves = λ m n was is. (step.moves m n was is, was);
}

-- a fact on what is told, in a wider sense
pub IsSomeAnd-wider : {T : Type 0} (o : Option T) (P Q : T → Type 0) → ((x : T) → P x → Q x) → IsSomeAnd o P → IsSomeAnd o Q
IsSomeAnd-wider None P Q wider h = h
IsSomeAnd-wider (Some x) P Q wider h = wider x h

-- no file is opened or made where nothing but the printed text changed
pub Moves-same : (names : List (List ℕ)) (m n : Meanings) → n.opened ≡ m.opened → n.made ≡ m.made → Moves names m n
Moves-same names m n same made = record { opens = (0, same ∙ sym (append-nil m.opened)); made = made }

-- printing opens no file
pub Moves-written : (names : List (List ℕ)) (text : List ℕ) (written : Result (Unit {0}) WriteEnd) (m n : Meanings) → Prints text written m n → Moves names m n
Moves-written names text (Ok u) m n moved = Moves-same names m n (ap (λ (w : Meanings). w.opened) moved) (ap (λ (w : Meanings). w.made) moved)
Moves-written names text (Err e) m n (count, moved) = Moves-same names m n (ap (λ (w : Meanings). w.opened) moved) (ap (λ (w : Meanings). w.made) moved)

pub Moves-printed : (names : List (List ℕ)) (text : List ℕ) (printed : Result (Unit {0}) Failed) (m n : Meanings) → AppendsAll with_printed text printed m n → Moves names m n
Moves-printed names text (Ok u) m n moved = Moves-same names m n (ap (λ (w : Meanings). w.opened) moved) (ap (λ (w : Meanings). w.made) moved)
Moves-printed names text (Err e) m n (count, moved) = Moves-same names m n (ap (λ (w : Meanings). w.opened) moved) (ap (λ (w : Meanings). w.made) moved)

-- nor does making one, and none is being made when it ends
pub Moves-made : (names : List (List ℕ)) (name bytes : List ℕ) (m n : Meanings) → m.made ≡ None → n ≡ with_made m name bytes → Moves names m n
Moves-made names name bytes m n nothing moved = Moves-same names m n (ap (λ (w : Meanings). w.opened) moved) (ap (λ (w : Meanings). w.made) moved ∙ sym nothing)

pub Moves-unmade : (names : List (List ℕ)) (name bytes : List ℕ) (m n : Meanings) → m.made ≡ None → (n ≡ m) ⊎ ((count : ℕ) × (n ≡ with_made m name (take count bytes))) → Moves names m n
Moves-unmade names name bytes m n nothing (inl same) = Moves-same names m n (ap (λ (w : Meanings). w.opened) same) (ap (λ (w : Meanings). w.made) same)
Moves-unmade names name bytes m n nothing (inr (count, moved)) = Moves-made names name (take count bytes) m n nothing moved

-- and then a text is printed
pub Moves-then_printed : (names : List (List ℕ)) (text : List ℕ) (printed : Result (Unit {0}) Failed) (m k n : Meanings) → Moves names m k → AppendsAll with_printed text printed k n → Moves names m n
Moves-then_printed names text (Ok u) m k n before moved = record { opens = (before.opens.0, ap (λ (w : Meanings). w.opened) moved ∙ before.opens.1); made = ap (λ (w : Meanings). w.made) moved ∙ before.made }
Moves-then_printed names text (Err e) m k n before (count, moved) = record { opens = (before.opens.0, ap (λ (w : Meanings). w.opened) moved ∙ before.opens.1); made = ap (λ (w : Meanings). w.made) moved ∙ before.made }

-- one file was opened, and nothing else has changed
reads_only_opened : (name : List ℕ) (rest : Option (List ℕ)) (m k : Meanings) → k ≡ with_opened m name rest → ReadsOnly m k
reads_only_opened name rest m k moved = let P : Meanings → Type 0 = λ w. ReadsOnly m w in subst P (sym moved) refl

-- a file was read, and nothing else has changed
pub ReadsOnly-reading : (name : List ℕ) (limit : ℕ) (result : Result (Vec ℕ Global) ReadEnd) (m k : Meanings) → ReadsAll name limit result m k → ReadsOnly m k
ReadsOnly-reading name limit (Ok bytes) m k (whole, moved) = reads_only_opened name (Some []) m k moved
ReadsOnly-reading name limit (Err read_ends.TooLong) m k (came, (read, long)) = reads_only_opened name (Some read.left) m k read.moved
ReadsOnly-reading name limit (Err read_ends.Memory) m k (came, read) = reads_only_opened name (Some read.left) m k read.moved
ReadsOnly-reading name limit (Err read_ends.Fault) m k moved =
    elim moved [
      | inl closed ↦ (let P : Meanings → Type 0 = λ w. ReadsOnly m w in subst P (sym closed) refl)
      | inr some ↦ reads_only_opened name (Some some.1.left) m k some.1.moved
    ]

-- the same where the whole of it was
pub ReadsOnly-whole : (name bytes : List ℕ) (m k : Meanings) → ReadsWhole name bytes m k → ReadsOnly m k
ReadsOnly-whole name bytes m k reads = reads_only_opened name (Some []) m k reads.1

-- reading makes no file
pub made_reading : (name : List ℕ) (limit : ℕ) (result : Result (Vec ℕ Global) ReadEnd) (m k : Meanings) → ReadsAll name limit result m k → k.made ≡ m.made
made_reading name limit result m k reads = ap (λ (w : Meanings). w.made) (ReadsOnly-reading name limit result m k reads)

-- one file is opened, and then those that are left
pub Moves-more : (name : List ℕ) (names : List (List ℕ)) (bytes : List ℕ) (m k n : Meanings) → ReadsWhole name bytes m k → Moves names k n → Moves (name ∷ names) m n
Moves-more name names bytes m k n reads moves =
    let (count, more) = moves.opens in
    record {
      opens = (suc count, more ∙ ap (λ (so_far : List (List ℕ)). so_far ++ take count names) (ap (λ (w : Meanings). w.opened) reads.1) ∙ append_assoc m.opened (name ∷ []) (take count names));
      made = moves.made ∙ ap (λ (w : Meanings). w.made) (ReadsOnly-whole name bytes m k reads);
    }

-- the file that is read is opened, and no other
opened_unread : (name : List ℕ) (names : List (List ℕ)) (limit : ℕ) (end : ReadEnd) (m k : Meanings) → ReadsAll name limit (Err end) m k → OpensInTurn (name ∷ names) m k
opened_unread name names limit read_ends.TooLong m k (came, (reads, long)) = (1, ap (λ (w : Meanings). w.opened) reads.moved)
opened_unread name names limit read_ends.Memory m k (came, reads) = (1, ap (λ (w : Meanings). w.opened) reads.moved)
opened_unread name names limit read_ends.Fault m k moved =
    elim moved [
      | inl closed ↦ (0, ap (λ (w : Meanings). w.opened) closed ∙ sym (append-nil m.opened))
      | inr some ↦ (1, ap (λ (w : Meanings). w.opened) some.1.moved)
    ]

pub Moves-unread : (name : List ℕ) (names : List (List ℕ)) (limit : ℕ) (end : ReadEnd) (m k : Meanings) → ReadsAll name limit (Err end) m k → Moves (name ∷ names) m k
Moves-unread name names limit end m k reads = record { opens = opened_unread name names limit end m k reads; made = made_reading name limit (Err end) m k reads }

-- a fact of a world of which each has it
pub Step-all : {a b : Option Meanings} {X : Type 0} {R : X → Meanings → Meanings → Type 0} → Step a b (λ m n. (x : X) → R x m n) → (x : X) → Step a b (λ m n. R x m n)
Step-all step x = record { silent = step.silent; moves = λ m n was is. step.moves m n was is x }

module _ (name : List ℕ) (names : List (List ℕ)) (limit : ℕ) (Next : Files → List ℕ → Verdict → Type 0) where
  -- the verdict of a file that is read, and of the steps that are left
  abbrev IsOf : Files → Verdict → Type 0
  IsOf files verdict = IsDecidedBy files name limit (Next files) verdict

  same_files : (m k : Meanings) (bytes : List ℕ) → ReadsWhole name bytes m k → k.files ≡ m.files
  same_files m k bytes (whole, moved) = ap (λ (w : Meanings). w.files) moved

  -- the file was read
  pub Ends-reading : (m k n : Meanings) (bytes : List ℕ) (ending : Ending) → ReadsWhole name bytes m k → length bytes ≤ limit → Ends (Next k.files bytes) ending k n → Ends (IsOf m.files) ending m n
  Ends-reading m k n bytes ending reads small ended verdict is =
      let P : Files → Type 0 = λ files. Next files bytes verdict in
      let next : Next k.files bytes verdict = subst P (sym (same_files m k bytes reads)) (read_next m.files name limit (Next m.files) bytes verdict reads.0 small is) in
      EndsSo-after_read verdict ending m k n (ReadsOnly-whole name bytes m k reads) (ended verdict next)

  -- the file was not read to its end
  pub Ends-unread : (m k : Meanings) (end : ReadEnd) (shown : Bor (List ℕ)) → shown.now ≡ name → ReadsAll name limit (Err end) m k → Ends (IsOf m.files) (after_reading end shown limit) m k
  Ends-unread m k read_ends.Fault shown is reads verdict decides = ReadsOnly-reading name limit (Err read_ends.Fault) m k reads
  Ends-unread m k read_ends.Memory shown is reads verdict decides = EndsSo-memory verdict m k (ReadsOnly-reading name limit (Err read_ends.Memory) m k reads)
  Ends-unread m k read_ends.TooLong shown is (came, (reads, long)) verdict decides =
      let over : limit < length (came ++ reads.left) = grind (arith, common_steps) in
      let same = too_long_then m.files name limit (Next m.files) (came ++ reads.left) verdict reads.whole over decides in
      (rw is same, reads_only_opened name (Some reads.left) m k reads.moved)

  missed : (m : Meanings) (shown : Bor (List ℕ)) → shown.now ≡ name → IsMissing name m → IsOf m.files (refused 5 (read_fault_line shown.now))
  missed m shown is none = missing none (ap (λ n. refused 5 (read_fault_line n)) is)

  unread_reason : (told : Option Meanings) (before now : Faults) (end : ReadEnd) (shown : Bor (List ℕ)) → shown.now ≡ name
      → (end ≡ read_ends.Fault → Rose before.reads now.reads ⊎ IsSomeAnd told (IsMissing name)) → Reason IsOf (name ∷ names) told before now (after_reading end shown limit)
  unread_reason told before now read_ends.Fault shown is why =
      let P : List ℕ → Type 0 = λ shown_name. Contains (name ∷ names) shown_name in (
        subst P (sym is) (Contains-head name names),
        elim (why refl) [
          | inl rose ↦ inl rose
          | inr gone ↦ inr (IsSomeAnd-wider told (IsMissing name) (λ m. IsOf m.files (refused 5 (read_fault_line shown.now))) (λ m none. missed m shown is none) gone)
        ],
      )
  unread_reason told before now read_ends.TooLong shown is why = tt
  unread_reason told before now read_ends.Memory shown is why = tt

  -- why the file was not read
  pub HasReason-unread : (told : Option Meanings) (before now : Faults) (end : ReadEnd) (shown : Bor (List ℕ)) → shown.now ≡ name → before.reads ≤ now.reads → now.writes ≡ before.writes → now.says ≡ before.says
      → (end ≡ read_ends.Fault → Rose before.reads now.reads ⊎ IsSomeAnd told (IsMissing name))
      → HasReason IsOf (name ∷ names) told before now (after_reading end shown limit)
  HasReason-unread told before now end shown is later writes says why = record {
    reads_later = later;
    writes_later = omega (arith, writes);
    says_stay = says;
    reason = unread_reason told before now end shown is why;
  }

  earlier : (told mid : Option Meanings) (bytes : List ℕ) (found : Verdict) → length bytes ≤ limit → Step told mid (ReadsWhole name bytes) → IsSomeAnd mid (λ k. Next k.files bytes found)
      → IsSomeAnd told (λ m. IsOf m.files found)
  earlier None None bytes found small step h = h
  earlier None (Some k) bytes found small step h = let lost = step.silent refl in absurd (cc)
  earlier (Some m) None bytes found small step h = absurd h
  earlier (Some m) (Some k) bytes found small step h =
      let reads = step.moves m k refl refl in
      let P : Files → Type 0 = λ files. Next files bytes found in
      let next : Next m.files bytes found = subst P (same_files m k bytes reads) h in
      read_whole bytes reads.0 small next

  later_reason : (told mid : Option Meanings) (before between now : Faults) (bytes : List ℕ) (ending : Ending) → before.reads ≤ between.reads → between.writes ≡ before.writes → length bytes ≤ limit
      → Step told mid (ReadsWhole name bytes) → Reason (λ files. Next files bytes) names mid between now ending → Reason IsOf (name ∷ names) told before now ending
  later_reason told mid before between now bytes ends.Done later writes small step why = tt
  later_reason told mid before between now bytes (ends.Refused refusal) later writes small step why = tt
  later_reason told mid before between now bytes (ends.ReadFault shown) later writes small step why = (
    Contains-tail name names shown.now why.0,
    elim why.1 [
      | inl rose ↦ inl (rose_later later rose)
      | inr gone ↦ inr (earlier told mid bytes (refused 5 (read_fault_line shown.now)) small step gone)
    ],
  )
  later_reason told mid before between now bytes ends.WriteFault later writes small step why = rw (sym writes) why
  later_reason told mid before between now bytes ends.Memory later writes small step why = tt

  -- why a later step failed
  pub HasReason-later : (told mid : Option Meanings) (before between now : Faults) (bytes : List ℕ) (ending : Ending) → before.reads ≤ between.reads → between.writes ≡ before.writes → between.says ≡ before.says → length bytes ≤ limit
      → Step told mid (ReadsWhole name bytes) → HasReason (λ files. Next files bytes) names mid between now ending
      → HasReason IsOf (name ∷ names) told before now ending
  HasReason-later told mid before between now bytes ending later writes says small step had = record {
    reads_later = omega (arith, had.reads_later);
    writes_later = omega (arith, had.writes_later, writes);
    says_stay = had.says_stay ∙ says;
    reason = later_reason told mid before between now bytes ending later writes small step had.reason;
  }
