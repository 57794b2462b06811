-- The names of the variables among tokens are those that are read one by one.
use Rattle.std.proofs.Common.{◌≡◌, ℕ, Bool, true, false, cond, List, [], ◌∷◌, map, fold, refl, sym, ap, ◌∙◌}
use Rattle.query_tokens.specs.Token.{Lexeme}
use Rattle.query_tokens.specs.declared.token.TokenKind.TheVariants as kinds
use Rattle.query_grammar.specs.declared.terminal.Terminal.{Terminal}
use Rattle.query_grammar.specs.declared.terminal.Terminal.TheVariants as terminals
use Rattle.query_grammar.specs.Terminals.{terminal_of}
use Rattle.query_grammar.specs.Roles.{Labelled}
use Rattle.query_values.specs.reading.Values.{name_of}
use Rattle.sparql_parse.specs.computed.Names.{with_name, names_after, names_of}
use Rattle.query_values.specs.Variables.{SpellsVariable}
use Rattle.sparql_parse.specs.OneByOne.{OneByOne}
use Rattle.sparql_parse.specs.Names.{is_variable, variables_of, AreNames}
use Rattle.query_values.proofs.SpelledTokens.{SpellsVariable-is, name_of-spelled}
use Rattle.sparql_parse.proofs.DeclarationLaws.{AreProper}
use Rattle.sparql_parse.proofs.TokenTerminals.{own_kind, terminal_of-kind}

-- the test of variables
pub is_variable-terminal : (t : Terminal) → is_variable t ≡ true → t ≡ terminals.Variable
is_variable-terminal terminals.Variable e = refl
is_variable-terminal _ e = absurd (cc)

-- one token more puts its name where it is a variable
names-step : (names : List (List ℕ)) (t : Terminal) (token : Lexeme) → names_after names t token ≡ cond (is_variable t) (with_name names (name_of token)) names
names-step names terminals.Variable token = refl
names-step names _ token = refl

-- the names after one token more
abbrev one_more : List (List ℕ) → Labelled → List (List ℕ)
one_more names l = names_after names (terminal_of l.token) l.token

module _ (l : Labelled) (ls : List Labelled) where
  -- what is known of the other tokens
  abbrev Rest : Type 0
  Rest = (names occurring : List (List ℕ)) → OneByOne SpellsVariable (variables_of ls) occurring → fold one_more names ls ≡ fold with_name names occurring

  -- one token, which is a variable or not
  fold-variable : Rest → (b : Bool) → is_variable (terminal_of l.token) ≡ b → (names occurring : List (List ℕ)) →
      OneByOne SpellsVariable (cond b (l.token ∷ variables_of ls) (variables_of ls)) occurring → fold one_more (one_more names l) ls ≡ fold with_name names occurring
  fold-variable rest true is names [] each = absurd each
  fold-variable rest true is names (name ∷ occurring) (first, others) =
      ap (λ ns. fold one_more ns ls) (names-step names (terminal_of l.token) l.token ∙ ap (λ b. cond b (with_name names (name_of l.token)) names) is ∙ ap (with_name names) (SpellsVariable-is l.token name first))
      ∙ rest (with_name names name) occurring others
  fold-variable rest false is names occurring each =
      ap (λ ns. fold one_more ns ls) (names-step names (terminal_of l.token) l.token ∙ ap (λ b. cond b (with_name names (name_of l.token)) names) is)
      ∙ rest names occurring each

-- the names of the variables, put one by one
fold-names : (ls : List Labelled) (names occurring : List (List ℕ)) → OneByOne SpellsVariable (variables_of ls) occurring → fold one_more names ls ≡ fold with_name names occurring
fold-names [] names [] each = refl
fold-names [] names (name ∷ occurring) each = absurd each
fold-names (l ∷ ls) names occurring each = fold-variable l ls (λ ns os others. fold-names ls ns os others) (is_variable (terminal_of l.token)) refl names occurring each

-- names that are those of the tokens are read
pub AreNames-is : (ls : List Labelled) (names : List (List ℕ)) → AreNames ls names → names ≡ names_of ls
unfolding names_of
AreNames-is ls names are = are.once ∙ sym (fold-names ls [] are.occurring are.spelled)

-- each variable spells its name
each-spelled : (ls : List Labelled) → AreProper ls → OneByOne SpellsVariable (variables_of ls) (map name_of (variables_of ls))
each-spelled [] all = tt
each-spelled (l ∷ ls) (first, others) =
    elim (is_variable (terminal_of l.token)) as (λ b. is_variable (terminal_of l.token) ≡ b → OneByOne SpellsVariable (cond b (l.token ∷ variables_of ls) (variables_of ls)) (map name_of (cond b (l.token ∷ variables_of ls) (variables_of ls)))) [
      | true ↦ λ is. (name_of-spelled l.token first.spelled (terminal_of-kind l.token kinds.Variable (ap own_kind (is_variable-terminal (terminal_of l.token) is))), each-spelled ls others)
      | false ↦ λ is. each-spelled ls others
    ] refl

-- and names that are read are those of the tokens
pub names_of-are : (ls : List Labelled) → AreProper ls → AreNames ls (names_of ls)
unfolding names_of
names_of-are ls all = record {
  occurring = map name_of (variables_of ls);
  spelled = each-spelled ls all;
  once = fold-names ls [] (map name_of (variables_of ls)) (each-spelled ls all);
}
