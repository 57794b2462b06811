-- Carries proofs only: a text that is printed through a buffer.
use Rattle.std.specs.Prelude.{◌≡◌, ℕ, List, ◌++◌, Result, Ok, Err}
use Rattle.bm_world.specs.Meanings.{Meanings, with_printed}
use Rattle.bm_world.specs.World.{AppendsSome}

-- a front of the text so far is printed, and the buffer holds the rest of it
pub record HandedOn (text buffer : List ℕ) (m n : Meanings) : Type 0 where
  pub front : List ℕ
  pub whole : front ++ buffer ≡ text
  pub moved : n ≡ with_printed m front

-- so at `Ok`; after a refusal some front of the text is printed
abbrev pub HandsOn : {E : Type 0} → List ℕ → List ℕ → Result (Unit {0}) E → Meanings → Meanings → Type 0
HandsOn text buffer (Ok _) m n = HandedOn text buffer m n
HandsOn text buffer (Err _) m n = AppendsSome with_printed text m n
