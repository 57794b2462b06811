-- What a world holds: its files, which of them were opened, what is left to read, the file that is being made, and
-- what was written to standard output and to standard error.
use Rattle.std.specs.Prelude.{ℕ, List, [], ◌∷◌, ◌++◌, Option, None, Some, unwrap_or}
use Rattle.std.specs.Option.{option_map_or}
use Rattle.std.specs.Ordering.{nat_cmp}
use Rattle.std.specs.Cmp.Lexicographic.{slice_cmp}
use Rattle.std.specs.FinMap.{FinMap, empty, get, insert}

-- from the bytes of a name to the bytes of the file
abbrev pub Files : Type 0
Files = FinMap (slice_cmp nat_cmp) (List ℕ)

pub record Meanings : Type 0 where
  pub files : Files
  -- the names of the files that were opened, in order
  pub opened : List (List ℕ)
  -- what is left to read of the opened file, if one is open
  pub rest : Option (List ℕ)
  -- the name of the file that is being made, if one is
  pub made : Option (List ℕ)
  -- what was written to standard output
  pub printed : List ℕ
  -- what was written to standard error
  pub complained : List ℕ

-- before anything has happened
abbrev pub nothing_yet : Meanings
nothing_yet = record { files = empty; opened = []; rest = None; made = None; printed = []; complained = [] }

-- the bytes of the named file, if it is there
abbrev pub file_at : Meanings → List ℕ → Option (List ℕ)
file_at m name = get m.files name

-- the bytes that are left to read, if a file is open
abbrev pub left_to_read : Meanings → List ℕ
left_to_read m = unwrap_or m.rest []

-- the named file was opened, and this is left to read of it
abbrev pub with_opened : Meanings → List ℕ → Option (List ℕ) → Meanings
with_opened m name rest = record m { opened = m.opened ++ name ∷ []; rest = rest }

-- the named file is empty, and is being made
abbrev pub with_begun : Meanings → List ℕ → Meanings
with_begun m name = record m { files = insert m.files name []; made = Some name }

-- these bytes at the end of the named file, where it is there
abbrev pub append_to : Files → List ℕ → List ℕ → Files
append_to files name bytes =
    option_map_or (λ (old : List ℕ). insert files name (old ++ bytes)) (get files name) files

-- these bytes at the end of the file that is being made
abbrev pub with_written : Meanings → List ℕ → Meanings
with_written m bytes =
    record m { files = option_map_or (λ (name : List ℕ). append_to m.files name bytes) m.made m.files }

-- these bytes on standard output, after the others
abbrev pub with_printed : Meanings → List ℕ → Meanings
with_printed m bytes = record m { printed = m.printed ++ bytes }

-- these bytes on standard error, after the others
abbrev pub with_complained : Meanings → List ℕ → Meanings
with_complained m bytes = record m { complained = m.complained ++ bytes }

-- the named file was made, and these are its bytes
abbrev pub with_made : Meanings → List ℕ → List ℕ → Meanings
with_made m name bytes = record m { files = insert m.files name bytes; made = None }
