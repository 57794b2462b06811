-- Counts of roles.
use Rattle.std.proofs.Common.{◌≡◌, ℕ, ◌+◌, Bool, true, false, if◌then◌else◌, List, ◌∷◌, refl, arith}
use Rattle.query_grammar.specs.declared.syntax.Role.{Role}
use Rattle.query_grammar.specs.Roles.{Labelled, count_of}

abbrev pub one_if : Bool → ℕ
one_if true = 1
one_if false = 0

pub one-more : (b : Bool) (n : ℕ) → (if b then n + 1 else n) ≡ n + one_if b
one-more true n = refl
one-more false n = omega arith

-- one token more in front
pub count-cons : (is_such : Role → Bool) (l : Labelled) (ls : List Labelled) → count_of is_such (l ∷ ls) ≡ count_of is_such ls + one_if (is_such l.role)
count-cons is_such l ls = one-more (is_such l.role) (count_of is_such ls)
