-- Tokens with their roles in a query.
use Rattle.std.specs.Prelude.{ℕ, ◌+◌, ◌-◌, Bool, true, false, if◌then◌else◌, List, [], ◌∷◌, map}
use Rattle.query_tokens.specs.Token.{Lexeme}
use Rattle.query_grammar.specs.declared.syntax.Role.{Role}
use Rattle.query_grammar.specs.declared.syntax.Role.TheVariants as roles

-- a token and its role
pub record Labelled : Type 0 where
  pub role : Role
  pub token : Lexeme

-- the tokens, without their roles
abbrev pub tokens_of : List Labelled → List Lexeme
tokens_of labelled = map (λ l. l.token) labelled

abbrev pub with_role : Role → Lexeme → Labelled
with_role role token = record { role = role; token = token }

-- how many tokens have such a role
abbrev pub count_of : (Role → Bool) → List Labelled → ℕ
count_of is_such [] = 0
count_of is_such (l ∷ ls) = if is_such l.role then count_of is_such ls + 1 else count_of is_such ls

abbrev pub is_open : Role → Bool
is_open roles.Open = true
is_open _ = false

abbrev pub is_close : Role → Bool
is_close roles.Close = true
is_close _ = false

-- how many groups are open after some tokens
abbrev pub open_groups : List Labelled → ℕ
open_groups labelled = count_of is_open labelled - count_of is_close labelled
