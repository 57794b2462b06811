-- What printing a text moves, and what shows that it failed.
use Rattle.std.specs.Prelude.{◌≡◌, ℕ, ◌≤◌, List, Result, Ok, Err, IsErrOf}
use Rattle.bm_world.specs.Meanings.{Meanings, with_printed}
use Rattle.bm_world.specs.World.{AppendsSome, Rose}
use Rattle.result_write.specs.declared.form.WriteEnd.{WriteEnd}
use Rattle.result_write.specs.declared.form.WriteEnd.TheVariants.{Failed}

-- all of the text is printed; after a refusal some front of it is
abbrev pub Prints : List ℕ → Result (Unit {0}) WriteEnd → Meanings → Meanings → Type 0
Prints text (Ok _) m n = n ≡ with_printed m text
Prints text (Err _) m n = AppendsSome with_printed text m n

-- The count of failed writes doesn't fall, and `Failed` comes only where it rose.
pub record HasWriteCause (before now : ℕ) (result : Result (Unit {0}) WriteEnd) : Type 0 where
  pub later : before ≤ now
  pub failed : IsErrOf result Failed → Rose before now
