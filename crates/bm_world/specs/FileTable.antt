-- The files that a table of names and bytes stands for.
use Rattle.std.specs.Prelude.{ℕ, List, map, String, Vec, string_bytes}
use Rattle.std.specs.FinMap.{from_entries}
use Rattle.std.specs.declared.alloc.Global.{Global}
use Rattle.bm_world.specs.Meanings.{Files}

abbrev pub files_of : List (String Global × Vec ℕ Global) → Files
files_of entries = from_entries (map (λ entry. (string_bytes entry.0, entry.1.items)) entries)
