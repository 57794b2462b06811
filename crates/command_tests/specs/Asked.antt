-- The worlds over which commands are tried, and what the program does to a world in memory.
use Rattle.std.specs.Prelude.{ℕ, List, [], None, Some, codes}
use Rattle.bm_world.specs.Meanings.{nothing_yet}
use Rattle.bm_world.specs.MemWorld.{MemState, with_file}
use Rattle.bm_world.specs.World.{no_faults}
use Rattle.bm_top.specs.Run.{KeepsPromises}

-- a world with no files, and no call that is to fail
abbrev pub no_files : MemState
no_files = record { meanings = nothing_yet; faults = no_faults; schedule = []; piece = None }

-- a world with these two files
abbrev pub world_with : List ℕ → List ℕ → MemState
world_with triples query = with_file (with_file no_files (codes "d") triples) (codes "q") query

-- the program ran over a world by these words: its promises hold of its status, and of the world that it left
abbrev pub Ran : List (List ℕ) → MemState → MemState → ℕ → Type 0
Ran words old new status = KeepsPromises words (Some old.meanings) (Some new.meanings) old.faults new.faults status
