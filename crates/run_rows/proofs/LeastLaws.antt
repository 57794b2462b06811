-- Laws of the least number that is not below another.
use Rattle.std.proofs.Common.{ℕ, ◌+◌, ◌-◌, ◌<◌, ◌≤◌, max, List, [], ◌∷◌, ◌++◌, find, All, Contains, Option, Some, None, ◌∙◌, inl, inr, arith}
use Rattle.std.specs.Option.{option_map}
use Rattle.std.proofs.lemmas.Bool.{cases_lt}
use Rattle.std.proofs.lemmas.List.FromFn.{length-range_with_len, get_or-range_with_len}
use Rattle.std.proofs.lemmas.List.Elements.{All-nil, All-append, All-weaker, Contains-append_left, Contains-append_right}
use Rattle.run_rows.specs.declared.run.Run.{Run}
use Rattle.run_rows.specs.Row.{IsLeastFrom}
use Rattle.run_rows.specs.Runs.{numbers_of, members, AreRuns, is_past}
use Rattle.run_rows.proofs.RowLaws.{All-ascending}
use Rattle.run_rows.proofs.RunLaws.{AscendsWithin-members}
use Rattle.run_rows.proofs.SearchLaws.{find-short, find-past}

-- the numbers of a run are from its start on and below its end
All-numbers_of : (r : Run) → All (λ x. (r.start ≤ x) × (x < r.start + r.len)) (numbers_of r)
All-numbers_of r k d within =
    let below : k < r.len = omega (arith, length-range_with_len r.start r.len) in
    rw (get_or-range_with_len r.start r.len k d below) (omega arith, omega arith)

Contains-numbers_of : (r : Run) (n : ℕ) → r.start ≤ n → n < r.start + r.len → Contains (numbers_of r) n
Contains-numbers_of r n from below =
    let within : n - r.start < r.len = omega arith in
    (n - r.start, omega (arith, length-range_with_len r.start r.len), get_or-range_with_len r.start r.len (n - r.start) n within ∙ omega arith)

-- numbers below n in front change no least number from n on
IsLeastFrom-behind : (n : ℕ) (xs ys : List ℕ) (o : Option ℕ) → All (λ x. x < n) xs → IsLeastFrom n ys o → IsLeastFrom n (xs ++ ys) o
IsLeastFrom-behind n xs ys None below least = All-append (λ x. x < n) xs ys below least
IsLeastFrom-behind n xs ys (Some m) below least =
    (least.0, Contains-append_right xs ys m least.1, All-append (λ x. n ≤ x → m ≤ x) xs ys (All-weaker (λ x. x < n) (λ x. n ≤ x → m ≤ x) (λ x h k. absurd (omega arith)) xs below) least.2)

-- the least number from n on, by the first run that ends after n
pub IsLeastFrom-find : (n low columns : ℕ) (rs : List Run) → AreRuns low columns rs → IsLeastFrom n (members rs) (option_map (λ r. max r.start n) (find (is_past n) rs))
IsLeastFrom-find n low columns [] fits = All-nil _
IsLeastFrom-find n low columns (r ∷ rs) fits =
    let of_run = All-numbers_of r in
    elim (cases_lt n (r.start + r.len)) [
      | inl past ↦ (
          let least = max r.start n in
          let of_rest = All-ascending (r.start + r.len + 1) columns (members rs) (AscendsWithin-members (r.start + r.len + 1) columns rs fits.3) in
          rw (find-past n r rs past) (
            omega arith,
            Contains-append_left (numbers_of r) (members rs) least (Contains-numbers_of r least (omega arith) (omega arith)),
            All-append (λ x. n ≤ x → least ≤ x) (numbers_of r) (members rs)
                (All-weaker (λ x. (r.start ≤ x) × (x < r.start + r.len)) (λ x. n ≤ x → least ≤ x) (λ x h k. omega arith) (numbers_of r) of_run)
                (All-weaker (λ x. (r.start + r.len + 1 ≤ x) × (x < columns)) (λ x. n ≤ x → least ≤ x) (λ x h k. omega arith) (members rs) of_rest),
          ))
      | inr short ↦ rw (find-short n r rs short) (
          IsLeastFrom-behind n (numbers_of r) (members rs) _
          (All-weaker (λ x. (r.start ≤ x) × (x < r.start + r.len)) (λ x. x < n) (λ x h. omega arith) (numbers_of r) of_run)
          (IsLeastFrom-find n (r.start + r.len + 1) columns rs fits.3))
    ]
