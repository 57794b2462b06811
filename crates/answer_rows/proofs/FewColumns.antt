-- A query that keeps the limits has few columns: they differ, and each is the number of a name.
use Rattle.std.proofs.Common.{◌≡◌, ◌≢◌, ℕ, ◌<◌, ◌≤◌, List, length, map, sym, ◌∙◌, ap, arith, All, AllPairs, get_or, eqb-true}
use Rattle.std.proofs.lemmas.List.{get_or-map, length-map}
use Rattle.std.proofs.lemmas.List.Elements.{All-contains}
use Rattle.std.proofs.lemmas.Bool.Decides.{Decides-eqb}
use Rattle.std.proofs.lemmas.Map.Made.{IsDistinct-from_AllPairs}
use Rattle.std.proofs.lemmas.Map.Steps.{length-le_from_distinct_below}
use Rattle.std.proofs.lemmas.Map.Views.{Contains-from_any}
use Rattle.alg_model.specs.declared.var.Var.{Var}
use Rattle.alg_model.specs.declared.query.Query.{Query}
use Rattle.alg_model.specs.Limits.{KeepsLimits}

abbrev number : Var → ℕ
number var = var.0

var : ℕ → Var
var n = record { 0 = n }

numbers-differ : (vars : List Var) → AllPairs (λ a b. a ≢ b) vars → AllPairs (λ a b. a ≢ b) (map number vars)
unfolding var
numbers-differ vars differ i j d before within same =
    let count : length (map number vars) ≡ length vars = length-map vars number in
    let first : get_or (map number vars) i d ≡ number (get_or vars i (var d)) = get_or-map number vars i (var d) d (omega arith) in
    let second : get_or (map number vars) j d ≡ number (get_or vars j (var d)) = get_or-map number vars j (var d) d (omega arith) in
    differ i j (var d) before (omega arith) (ap var (sym first ∙ same ∙ second))

numbers-below : (n : ℕ) (vars : List Var) → All (λ v. v.0 < n) vars → All (λ k. k < n) (map number vars)
unfolding var
numbers-below n vars below k d within =
    let count : length (map number vars) ≡ length vars = length-map vars number in
    let there : get_or (map number vars) k d ≡ number (get_or vars k (var d)) = get_or-map number vars k (var d) d (omega arith) in
    let here : number (get_or vars k (var d)) < n = below k (var d) (omega arith) in
    omega (arith, there, here)

-- variables that differ are at most as many as the numbers below which they are
vars-few : (n : ℕ) (vars : List Var) → AllPairs (λ a b. a ≢ b) vars → All (λ v. v.0 < n) vars → length vars ≤ n
vars-few n vars differ below =
    let few = length-le_from_distinct_below (map number vars) n (IsDistinct-from_AllPairs Decides-eqb (map number vars) (numbers-differ vars differ))
    (λ q found. All-contains (λ k. k < n) (map number vars) q (numbers-below n vars below) (Contains-from_any eqb-true q (map number vars) found)) in
    omega (arith, few, length-map vars number)

pub few_columns : (query : Query) → KeepsLimits query → length query.columns < 256
few_columns query keeps =
    let few = vars-few (length query.names) query.columns keeps.columns_differ keeps.columns_below in
    omega (arith, few, keeps.few_names)
