-- A verdict: a status, what is printed, what is written to standard error, and the file that is written.
use Rattle.std.specs.Prelude.{◌≡◌, ◌⊎◌, ℕ, List, [], take, Option, None, Some}
use Rattle.std.specs.Option.{option_map_or}
use Rattle.std.specs.FinMap.{insert}
use Rattle.bm_world.specs.Meanings.{Files}

pub record NewFile : Type 0 where
  pub name : List ℕ
  pub bytes : List ℕ

-- at status 0 the text that is printed and the file that is written, if one is; otherwise the line for standard error
pub record Verdict : Type 0 where
  pub status : ℕ
  pub line : List ℕ
  pub text : List ℕ
  pub written : Option NewFile

-- a text is printed, and no file is written
abbrev pub answered : List ℕ → Verdict
answered text = record { status = 0; line = []; text = text; written = None }

-- a text is printed, and the named file is written with these bytes
abbrev pub stores : List ℕ → List ℕ → List ℕ → Verdict
stores name bytes text = record { status = 0; line = []; text = text; written = Some (record { name = name; bytes = bytes }) }

abbrev pub refused : ℕ → List ℕ → Verdict
refused status line = record { status = status; line = line; text = []; written = None }

-- these files, and the one that the command writes
abbrev pub files_after : Verdict → Files → Files
files_after verdict files = option_map_or (λ (file : NewFile). insert files file.name file.bytes) verdict.written files

-- these files, or these and a front of the one that the command writes
abbrev pub HasFrontOf : Verdict → Files → Files → Type 0
HasFrontOf verdict old new =
    (new ≡ old) ⊎ ((file : NewFile) × (count : ℕ) × (verdict.written ≡ Some file) × (new ≡ insert old file.name (take count file.bytes)))
