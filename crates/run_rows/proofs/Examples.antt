-- Worked examples of the definitions.
use Rattle.std.proofs.Common.{◌≡◌, ℕ, ◌<◌, ◌≤◌, [], ◌∷◌, Some, None, refl, lit<, arith, rules}
use Rattle.std.proofs.lemmas.List.Elements.{All-from_recursion}
use Rattle.byte_tables.specs.Pairs.{pair_bytes, pairs_in}
use Rattle.run_rows.specs.declared.form.RowForm.TheVariants.{V1}
use Rattle.run_rows.specs.declared.run.Run.{Run}
use Rattle.run_rows.specs.Row.{IsRow, IsLeastFrom}
use Rattle.run_rows.specs.Runs.{members, runs_of, AreRuns}
use Rattle.run_rows.specs.Encoding.{run_bytes, row_bytes, runs_in, row_numbers}

abbrev run : ℕ → ℕ → Run
run start len = record { start = start; len = len }

-- 0, 1, 2 and 5 are a row of six columns, and not of five
six_columns : IsRow 6 (0 ∷ 1 ∷ 2 ∷ 5 ∷ [])
six_columns = record { some = lit< tt; ascends = search (rules, arith) }

five_columns : IsRow 5 (0 ∷ 1 ∷ 2 ∷ 5 ∷ []) → ⊥
five_columns row = omega (arith, row.ascends.2.2.2.1)

no_number : IsRow 6 [] → ⊥
no_number row = omega (arith, row.some)

-- the least numbers from 3 and from 6 on
least_from_3 : IsLeastFrom 3 (0 ∷ 1 ∷ 2 ∷ 5 ∷ []) (Some 5)
least_from_3 = (
  omega arith,
  (3, omega arith, refl),
  All-from_recursion (λ x. 3 ≤ x → 5 ≤ x) (0 ∷ 1 ∷ 2 ∷ 5 ∷ []) (λ h. omega arith, (λ h. omega arith, (λ h. omega arith, (λ h. omega arith, tt)))),
)

least_from_6 : IsLeastFrom 6 (0 ∷ 1 ∷ 2 ∷ 5 ∷ []) None
least_from_6 =
    All-from_recursion (λ x. x < 6) (0 ∷ 1 ∷ 2 ∷ 5 ∷ []) (omega arith, (omega arith, (omega arith, (omega arith, tt))))

-- its runs, and a list with a gap between any two numbers
runs_of_row : runs_of (0 ∷ 1 ∷ 2 ∷ 5 ∷ []) ≡ run 0 3 ∷ run 5 1 ∷ []
runs_of_row = refl

runs_of_gaps : runs_of (1 ∷ 3 ∷ []) ≡ run 1 1 ∷ run 3 1 ∷ []
runs_of_gaps = refl

members_of_runs : members (run 0 3 ∷ run 5 1 ∷ []) ≡ 0 ∷ 1 ∷ 2 ∷ 5 ∷ []
members_of_runs = refl

-- runs that touch are not in order
touching : AreRuns 0 6 (run 0 1 ∷ run 1 1 ∷ []) → ⊥
touching fits = omega (arith, fits.3.0)

-- its bytes, and what they stand for
bytes_of_row : row_bytes V1 (0 ∷ 1 ∷ 2 ∷ 5 ∷ []) ≡ 0 ∷ 0 ∷ 0 ∷ 0 ∷ 3 ∷ 0 ∷ 0 ∷ 0 ∷ 5 ∷ 0 ∷ 0 ∷ 0 ∷ 1 ∷ 0 ∷ 0 ∷ 0 ∷ []
unfolding row_bytes run_bytes pair_bytes
bytes_of_row = refl

numbers_of_bytes : row_numbers V1 (0 ∷ 0 ∷ 0 ∷ 0 ∷ 3 ∷ 0 ∷ 0 ∷ 0 ∷ 5 ∷ 0 ∷ 0 ∷ 0 ∷ 1 ∷ 0 ∷ 0 ∷ 0 ∷ []) ≡ 0 ∷ 1 ∷ 2 ∷ 5 ∷ []
unfolding row_numbers runs_in pairs_in
numbers_of_bytes = refl

-- a number of the upper bytes
wide_number : row_bytes V1 (258 ∷ []) ≡ 2 ∷ 1 ∷ 0 ∷ 0 ∷ 1 ∷ 0 ∷ 0 ∷ 0 ∷ []
unfolding row_bytes run_bytes pair_bytes
wide_number = refl
