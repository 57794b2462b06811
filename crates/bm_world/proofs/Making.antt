-- A file that is made by several calls: begun, written piece after piece, and ended.
use Rattle.std.proofs.Common.{◌≡◌, ◌⊎◌, ℕ, ◌≤◌, Bool, true, false, cond, List, [], ◌++◌, length, take, Option, None, Some, Result, Ok, Err, IsSome, IfSome, IsSomeAnd, OnErr, ⊎_elim, inr, refl, sym, ◌∙◌, ap, subst, append_assoc, arith}
use Rattle.std.proofs.lemmas.List.{take_all}
use Rattle.std.specs.Option.{option_map_or}
use Rattle.std.specs.Result.{result_and}
use Rattle.std.specs.Ordering.{nat_cmp, eq_by_cmp}
use Rattle.std.specs.Cmp.{eq_by_cmp_equiv}
use Rattle.std.specs.Cmp.Lexicographic.{slice_cmp, nat_list_cmp_total}
use Rattle.std.specs.FinMap.{get, insert, same_map, get-insert, nat_cmp-IsAntisymmetric, slice_cmp-IsAntisymmetric}
use Rattle.bm_world.specs.declared.world.Failed.{Failed}
use Rattle.bm_world.specs.Meanings.{Files, Meanings, append_to, with_begun, with_written, with_made}
use Rattle.bm_world.specs.World.{Step, Rose, HasCause, RisesOnErr, Creates, Closes, Writes, AppendsAll, IsBeingMade, NothingIsMade, MakesFile}
use Rattle.bm_world.proofs.Appending.{IsAppending, AppendsUpTo}
use Rattle.bm_world.proofs.FileTable.{append_to_none, append_to_some}
use Rattle.bm_world.proofs.Steps.{Step-then, Step-stay, rose_later, rose_before}
use Rattle.bm_world.proofs.Telling.{with_written_nothing}

-- a choice that is made twice alike is made once
chosen_twice : {T : Type 0} (b : Bool) (x y z : T) → cond b x (cond b y z) ≡ cond b x z
chosen_twice true x y z = refl
chosen_twice false x y z = refl

-- a file that is put twice is the last one
insert_twice : (files : Files) (name a b : List ℕ) → insert (insert files name a) name b ≡ insert files name b
insert_twice files name a b = same_map nat_list_cmp_total (slice_cmp-IsAntisymmetric nat_cmp-IsAntisymmetric) _ _ (λ q.
    get-insert nat_list_cmp_total (insert files name a) name b q
    ∙ ap (cond (eq_by_cmp (slice_cmp nat_cmp) q name) (Some b)) (get-insert nat_list_cmp_total files name a q)
    ∙ chosen_twice (eq_by_cmp (slice_cmp nat_cmp) q name) (Some b) (Some a) (get files q)
    ∙ sym (get-insert nat_list_cmp_total files name b q))

-- a file that was put is found
get_inserted : (files : Files) (name bytes : List ℕ) → get (insert files name bytes) name ≡ Some bytes
get_inserted files name bytes = get-insert nat_list_cmp_total files name bytes name
    ∙ ap (λ (b : Bool). cond b (Some bytes) (get files name)) ((eq_by_cmp_equiv nat_list_cmp_total).refl name)

-- two texts appended to a file after one another are their one text appended
append_twice : (files : Files) (name a b : List ℕ) (file : Option (List ℕ)) → get files name ≡ file → append_to (append_to files name a) name b ≡ append_to files name (a ++ b)
append_twice files name a b None is = ap (λ files. append_to files name b) (append_to_none files name a is)
    ∙ append_to_none files name b is ∙ sym (append_to_none files name (a ++ b) is)
append_twice files name a b (Some old) is = ap (λ files. append_to files name b) (append_to_some files name a old is)
    ∙ append_to_some (insert files name (old ++ a)) name b (old ++ a) (get_inserted files name (old ++ a))
    ∙ insert_twice files name (old ++ a) ((old ++ a) ++ b)
    ∙ ap (insert files name) (append_assoc old a b)
    ∙ sym (append_to_some files name (a ++ b) old is)

-- so it is with the file that is being made
written_twice : (files : Files) (made : Option (List ℕ)) (a b : List ℕ)
    → option_map_or (λ (name : List ℕ). append_to (option_map_or (λ (name : List ℕ). append_to files name a) made files) name b) made (option_map_or (λ (name : List ℕ). append_to files name a) made files)
    ≡ option_map_or (λ (name : List ℕ). append_to files name (a ++ b)) made files
written_twice files None a b = refl
written_twice files (Some name) a b = append_twice files name a b (get files name) refl

-- what is written to the file that is being made is put after the rest
pub written_appends : IsAppending with_written
written_appends m a b = ap (λ (files : Files). record m { files = files }) (written_twice m.files m.made a b)

-- bytes that are written to a file that was begun are all of it
begun_written : (files : Files) (name bytes : List ℕ) → append_to (insert files name []) name bytes ≡ insert files name bytes
begun_written files name bytes = append_to_some (insert files name []) name bytes [] (get_inserted files name []) ∙ insert_twice files name [] bytes

-- no file is being made any more
abbrev ended : Meanings → Meanings
ended m = record m { made = None }

-- a file that was begun, written and ended was made
made : (m : Meanings) (name bytes : List ℕ) → ended (with_written (with_begun m name) bytes) ≡ with_made m name bytes
made m name bytes = ap (λ (files : Files). record m { files = files; made = None }) (begun_written m.files name bytes)

-- before the first piece
pub appends_none : {a : Option Meanings} (bytes : List ℕ) → Step a a (AppendsUpTo with_written bytes bytes)
appends_none bytes = Step-stay (λ m. record { front = []; whole = refl; moved = sym (with_written_nothing m) })

-- after a call that wrote, it is told that a file is being made, if anything is told
pub still_made : {a b : Option Meanings} (piece : List ℕ) (count : ℕ) → Step a b (Writes piece (Ok count)) → IfSome b IsBeingMade
still_made {b = None} piece count call = tt
still_made {a = None} {b = Some n} piece count call = let lost : Some n ≡ None = call.silent refl in cc
still_made {a = Some m} {b = Some n} piece count call = let moved = call.moves m n refl refl in subst (λ (k : Meanings). IsBeingMade k) (sym moved.1) moved.0

-- what fails where its case is not told raised the count
pub only_rose : {T : Type 0} {before now : ℕ} {told : Option Meanings} {F G : Meanings → Type 0} {result : Result T Failed} → ((m : Meanings) → F m → G m → ⊥) → HasCause before now told F result → IfSome told G → RisesOnErr before now result
only_rose {T} {before} {now} {told} {F} {G} {result} apart cause holds = record { later = cause.later; failed = at result cause.failed }
  where
    case : (told : Option Meanings) → IsSomeAnd told F → IfSome told G → ⊥
    case None is holds = is
    case (Some m) is holds = apart m is holds

    at : (result : Result T Failed) → OnErr result (Rose before now ⊎ IsSomeAnd told F) → OnErr result (Rose before now)
    at (Ok x) failed = tt
    at (Err e) failed = ⊎_elim (λ rose. rose) (λ is. absurd (case told is holds)) failed

-- where a file is being made, it is not so that none is
pub made_apart : (m : Meanings) → NothingIsMade m → IsBeingMade m → ⊥
made_apart m nothing being = let some : IsSome {T = List ℕ} None = subst (λ (made : Option (List ℕ)). IsSome made) nothing being in cc

-- a file that was begun is being made, and what is written to it leaves it so
module _ {a b c : Option Meanings} (name bytes : List ℕ) (ok : Unit {0}) (begun : Step a b (Creates name (Ok ok))) where
  being_made : (written : Result (Unit {0}) Failed) → Step b c (AppendsAll with_written bytes written) → IfSome c IsBeingMade
  being_made written call = at c refl
    where
      kept : (m k n : Meanings) (written : Result (Unit {0}) Failed) → Creates name (Ok ok) m k → AppendsAll with_written bytes written k n → IsBeingMade n
      kept m k n (Ok _) moved more = subst (λ (n : Meanings). IsBeingMade n) (sym (more ∙ ap (λ k. with_written k bytes) moved.1)) refl
      kept m k n (Err _) moved more = subst (λ (n : Meanings). IsBeingMade n) (sym (more.1 ∙ ap (λ k. with_written k (take more.0 bytes)) moved.1)) refl

      both : Step a c (λ m n. IsBeingMade n)
      both = Step-then begun call (λ m k n. kept m k n written)

      from : (s t : Option Meanings) → a ≡ s → c ≡ t → IfSome t IsBeingMade
      from s None was is = tt
      from None (Some n) was is = let lost : c ≡ None = both.silent was in let no : Some n ≡ None = sym is ∙ lost in cc
      from (Some m) (Some n) was is = both.moves m n was is

      at : (t : Option Meanings) → c ≡ t → IfSome t IsBeingMade
      at t is = from a t refl is

  -- ended, it was made, with these bytes or some front of them
  pub makes_file : {d : Option Meanings} (written closed : Result (Unit {0}) Failed) → Step b c (AppendsAll with_written bytes written) → Step c d (Closes closed) → Step a d (MakesFile name bytes (result_and written closed))
  makes_file written closed call end = Step-then (Step-then begun call (λ m k l moved more. (k, (moved.1, more)))) end (λ m l n so_far closes. case written closed m l n so_far closes.1)
    where
      Between : Result (Unit {0}) Failed → Meanings → Meanings → Type 0
      Between written m l = (k : Meanings) × ((k ≡ with_begun m name) × AppendsAll with_written bytes written k l)

      whole : (m k l n : Meanings) (front : List ℕ) → k ≡ with_begun m name → l ≡ with_written k front → n ≡ ended l → n ≡ with_made m name front
      whole m k l n front is more last = last ∙ ap ended (more ∙ ap (λ k. with_written k front) is) ∙ made m name front

      case : (written closed : Result (Unit {0}) Failed) (m l n : Meanings) → Between written m l → n ≡ ended l → MakesFile name bytes (result_and written closed) m n
      case (Ok _) (Ok _) m l n (k, (is, more)) last = whole m k l n bytes is more last
      case (Ok _) (Err _) m l n (k, (is, more)) last = inr (length bytes, whole m k l n bytes is more last ∙ ap (with_made m name) (sym (take_all (length bytes) bytes (omega arith))))
      case (Err _) closed m l n (k, (is, more)) last = inr (more.0, whole m k l n (take more.0 bytes) is more.1 last)

  -- and where it failed, a call of it raised the count
  pub making_rose : {before first second now : ℕ} (written closed : Result (Unit {0}) Failed) → before ≤ first
      → Step b c (AppendsAll with_written bytes written) → RisesOnErr first second written
      → HasCause second now c NothingIsMade closed → RisesOnErr before now (result_and written closed)
  making_rose {before} {first} {second} {now} written closed later call write end = at written closed write (only_rose {G = IsBeingMade} made_apart end (being_made written call))
    where
      at : (written closed : Result (Unit {0}) Failed) → RisesOnErr first second written → RisesOnErr second now closed → RisesOnErr before now (result_and written closed)
      at (Ok _) (Ok _) write end = record { later = omega (arith, later, write.later, end.later); failed = tt }
      at (Ok _) (Err _) write end = record { later = omega (arith, later, write.later, end.later); failed = rose_later (omega (arith, later, write.later)) end.failed }
      at (Err _) closed write end = record { later = omega (arith, later, write.later, end.later); failed = rose_before (omega (arith, later, write.later)) (rose_later later write.failed) end.later }
