-- Why bytes are no index: the first of the seven conditions that does not hold.
use Rattle.std.specs.Prelude.{ℕ, ◌<◌, List, codes}
use Rattle.run_rows.specs.declared.form.RowForm.{RowForm}
use Rattle.index_file.specs.Conditions.{HeaderIsKnown, LengthsAgree, TermsAreOrdered, DirectoryIsOrdered, RowsAreEncodings, CountsAgree, FamiliesAgree}
use Rattle.index_file.specs.Layout.{layout_in}
use Rattle.index_file.specs.declared.damaged.Part.{Part}
use Rattle.index_file.specs.declared.damaged.Part.TheVariants.{Header, Length, Terms, Directory, Rows, Counts, Agreement}

-- the condition of a part holds
abbrev pub Holds : ℕ → RowForm → List ℕ → Part → Type 0
Holds version form bytes Header = HeaderIsKnown version bytes
Holds version form bytes Length = LengthsAgree bytes
Holds version form bytes Terms = TermsAreOrdered bytes
Holds version form bytes Directory = DirectoryIsOrdered bytes
Holds version form bytes Rows = RowsAreEncodings form (layout_in bytes)
Holds version form bytes Counts = CountsAgree form (layout_in bytes)
Holds version form bytes Agreement = FamiliesAgree form (layout_in bytes)

-- the place of a part in the order in which the conditions are tried
abbrev pub part_number : Part → ℕ
part_number Header = 0
part_number Length = 1
part_number Terms = 2
part_number Directory = 3
part_number Rows = 4
part_number Counts = 5
part_number Agreement = 6

-- the condition of the part does not hold, and those of all parts before it do
pub record IsFirstFailing (version : ℕ) (form : RowForm) (bytes : List ℕ) (part : Part) : Type 0 where
  pub fails : Holds version form bytes part → ⊥
  pub before : (earlier : Part) → part_number earlier < part_number part → Holds version form bytes earlier

-- the name of a part
abbrev pub part_name : Part → List ℕ
part_name Header = codes "header"
part_name Length = codes "length"
part_name Terms = codes "terms"
part_name Directory = codes "directory"
part_name Rows = codes "rows"
part_name Counts = codes "counts"
part_name Agreement = codes "agreement"
