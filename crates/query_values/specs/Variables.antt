-- The names of variables. SPARQL 1.1 Query, sections 4.1.3 and 19.8.
use Rattle.std.specs.Prelude.{◌≡◌, ℕ, IsTrue, List, ◌∷◌}
use Rattle.std.specs.Str.{chars}
use Rattle.query_tokens.specs.Token.{Lexeme}
use Rattle.query_tokens.specs.Variables.{is_variable_mark, IsVariableName}
use Rattle.query_tokens.specs.declared.token.TokenKind.TheVariants as kinds

-- VAR1 | VAR2: the mark, which is no part of the name, and the bytes of the name
pub record SpellsVariable (token : Lexeme) (name : List ℕ) : Type 0 where
  pub kind : token.kind ≡ kinds.Variable
  pub mark : ℕ
  pub is_mark : IsTrue (is_variable_mark mark)
  pub is_name : IsVariableName (chars name)
  pub spelled : token.text ≡ mark ∷ name
