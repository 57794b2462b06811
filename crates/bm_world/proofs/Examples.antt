-- What the definitions say of small cases.
use Rattle.std.proofs.Common.{◌≡◌, ℕ, ◌-◌, ◌^◌, [], ◌∷◌, true, false, None, Some, Ok, Err, codes, ⊎_elim, inl, inr, refl, subst, lit<, lit≤, arith, ◌<◌, length, IsSomeAnd, List}
use Rattle.std.specs.Cmp.Lexicographic.{nat_list_cmp_total}
use Rattle.std.specs.FinMap.{get-insert}
use Rattle.bm_world.specs.declared.reading.ReadEnd.TheVariants.{TooLong}
use Rattle.bm_world.specs.declared.schedule.WorldCall.TheVariants.{Print, Complain}
use Rattle.bm_world.specs.Meanings.{Meanings, nothing_yet, file_at, with_opened, with_begun, with_printed, with_written}
use Rattle.bm_world.specs.World.{Step, Rose, AppendsAll}
use Rattle.bm_world.specs.Reading.{ReadsAll, buffer_bytes}
use Rattle.bm_world.specs.declared.reading.TheConstants.{BUFFER}
use Rattle.bm_world.specs.Schedule.{is_due, after_call}
use Rattle.bm_world.specs.MemWorld.{raised, Ends}
use Rattle.bm_world.proofs.WholeFile.{ReadsAll-longer}

-- a count rises by one or more
rose_by_one : Rose 3 4
rose_by_one = inl (lit< tt)

-- at its last value it may stay as it is
rose_at_the_last : Rose (2 ^ 64 - 1) (2 ^ 64 - 1)
rose_at_the_last = inr refl

-- below it, a count that stays has not risen
not_risen : Rose 3 3 → ⊥
not_risen rose = ⊎_elim (λ more. omega arith) (λ last. omega arith) rose

-- a world that tells nothing doesn't tell again
not_told_again : (m : Meanings) (R : Meanings → Meanings → Type 0) → Step None (Some m) R → ⊥
not_told_again m R step = let told : Some m ≡ None = step.silent refl in cc

-- two texts are printed after one another
printed_twice : (with_printed (with_printed nothing_yet (codes "ab")) (codes "c")).printed ≡ codes "abc"
printed_twice = refl

-- a whole text is printed at `Ok`
printed_all : AppendsAll with_printed (codes "ab") (Ok tt) nothing_yet (with_printed nothing_yet (codes "ab"))
printed_all = refl

-- and a front of it may be at a failure
printed_a_front : AppendsAll with_printed (codes "ab") (Err (record {})) nothing_yet (with_printed nothing_yet (codes "a"))
printed_a_front = (1, refl)

-- a file that has been begun is empty
begun_is_empty : file_at (with_begun nothing_yet (codes "f")) (codes "f") ≡ Some []
begun_is_empty = get-insert nat_list_cmp_total _ (codes "f") [] (codes "f")

-- nothing is written where no file is being made
not_written : with_written nothing_yet (codes "ab") ≡ nothing_yet
not_written = refl

-- two files are opened, one after the other
opened_twice : (with_opened (with_opened nothing_yet (codes "f") None) (codes "g") None).opened ≡ codes "f" ∷ codes "g" ∷ []
opened_twice = refl

-- the code's buffer is that of the definitions
same_buffer : BUFFER ≡ buffer_bytes
same_buffer = refl

-- of three bytes, a limit of two is passed
past_the_limit : (m : Meanings) (name : List ℕ) → file_at m name ≡ Some (codes "abc") → ReadsAll name 2 (Err TooLong) m (with_opened m name (Some []))
past_the_limit m name is = (codes "abc", (record { left = []; whole = is; moved = refl; within = lit≤ tt }, lit< tt))

-- and a limit of three is not
within_the_limit : (m n : Meanings) (name : List ℕ) → file_at m name ≡ Some (codes "abc") → ReadsAll name 3 (Err TooLong) m n → ⊥
within_the_limit m n name is reads =
    let longer : 3 < 3 = subst (λ file. IsSomeAnd file (λ bytes. 3 < length bytes)) is (ReadsAll-longer name 3 m n reads) in
    omega arith

-- the second print fails, whatever else is called between
due_at_the_second : is_due Print (after_call Complain (after_call Print ((Print, 2) ∷ []))) ≡ true
due_at_the_second = refl

-- and the first does not
not_due_at_the_first : is_due Print ((Print, 2) ∷ (Complain, 1) ∷ []) ≡ false
not_due_at_the_first = refl

-- 0 names no call
never_due_at_0 : is_due Print (after_call Print ((Print, 0) ∷ [])) ≡ false
never_due_at_0 = refl

-- a scheduled failure raises the count, also where the case is a failure by itself
scheduled_failure : Ends {T = ℕ} true true (Err (record {})) 0 1
scheduled_failure = refl

-- a case that is a failure by itself leaves it
told_failure : Ends {T = ℕ} false true (Err (record {})) 0 0
told_failure = refl

-- a count stays at its last value
raised_at_the_last : raised (2 ^ 64 - 1) ≡ 2 ^ 64 - 1
raised_at_the_last = refl
