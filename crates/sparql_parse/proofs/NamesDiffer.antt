-- The names of a query differ.
use Rattle.std.proofs.Common.{◌≡◌, ◌≢◌, ℕ, ◌<◌, Bool, true, false, if◌then◌else◌, List, [], ◌∷◌, ◌++◌, fold, length, get_or, refl, sym, ◌∙◌, ap, arith, ◌==◌}
use Rattle.std.specs.Prelude.{AllPairs}
use Rattle.std.specs.List.{list_any}
use Rattle.std.specs.Cmp.Derive.{both_true}
use Rattle.std.specs.Cmp.Lexicographic.{pointwise}
use Rattle.std.proofs.lemmas.Bool.Decides.{nat_tests}
use Rattle.std.proofs.lemmas.List.Folds.{list_any_at}
use Rattle.std.proofs.lemmas.List.Quantifiers.{all_pairs_push}
use Rattle.query_tokens.specs.Token.{Lexeme}
use Rattle.query_grammar.specs.declared.terminal.Terminal.{Terminal}
use Rattle.query_grammar.specs.declared.terminal.Terminal.TheVariants as terminals
use Rattle.query_grammar.specs.Terminals.{terminal_of}
use Rattle.query_grammar.specs.Roles.{Labelled}
use Rattle.query_values.specs.reading.Values.{name_of}
use Rattle.sparql_parse.specs.computed.Names.{is_text, with_name, names_after, names_of}

equal_itself : (x : ℕ) → (x == x) ≡ true
equal_itself x = grind (arith, nat_tests)

text_itself : (text : List ℕ) → pointwise ◌==◌ text text ≡ true
text_itself [] = refl
text_itself (x ∷ xs) = both_true (equal_itself x) (text_itself xs)

not_there : (names : List (List ℕ)) (name : List ℕ) (k : ℕ) (d : List ℕ) → list_any (is_text name) names ≡ false → k < length names → get_or names k d ≢ name
not_there names name k d none lt same =
    let found = list_any_at (is_text name) names k d lt (ap (is_text name) same ∙ text_itself name) in
    let both : true ≡ false = sym found ∙ none in
    cc

abbrev Differ : List (List ℕ) → Type 0
Differ names = AllPairs (λ a b. a ≢ b) names

with_name-differ : (names : List (List ℕ)) (name : List ℕ) → Differ names → Differ (with_name names name)
with_name-differ names name h =
    let cases : (b : Bool) → list_any (is_text name) names ≡ b → Differ (if b then names else names ++ name ∷ []) =
    λ b. elim b as (λ c. list_any (is_text name) names ≡ c → Differ (if c then names else names ++ name ∷ [])) [
      | true ↦ λ e. h
      | false ↦ λ e. all_pairs_push (λ (a c : List ℕ). a ≢ c) names name h (λ k d lt. not_there names name k d e lt)
    ] in
    cases (list_any (is_text name) names) refl

names_after-differ : (names : List (List ℕ)) (terminal : Terminal) (token : Lexeme) → Differ names → Differ (names_after names terminal token)
names_after-differ names terminals.Variable token h = with_name-differ names (name_of token) h
names_after-differ names _ token h = h

fold-differ : (names : List (List ℕ)) (ls : List Labelled) → Differ names → Differ (fold (λ ns l. names_after ns (terminal_of l.token) l.token) names ls)
fold-differ names [] h = h
fold-differ names (l ∷ ls) h = fold-differ (names_after names (terminal_of l.token) l.token) ls (names_after-differ names (terminal_of l.token) l.token h)

none-differ : Differ []
none-differ i j d lt within = absurd (omega arith)

pub names-differ : (labelled : List Labelled) → Differ (names_of labelled)
unfolding names_of
names-differ labelled = fold-differ [] labelled none-differ
