-- The builder's loop, and what it ends with.
use Rattle.std.proofs.Common.{◌≡◌, ℕ, ◌+◌, ◌<◌, Result, Ok, Err, List, [], ◌∷◌, ◌++◌, map, take, get_or, length, sym, ◌∙◌, ap}
use Rattle.std.specs.Prelude.{IfOk}
use Rattle.std.proofs.lemmas.List.{take_more, length-map}
use Rattle.std.proofs.Math.ListN.{get_or-map}
use Rattle.std.proofs.lemmas.List.Sums.{fold-append}
use Rattle.query_grammar.specs.Roles.{Labelled}
use Rattle.query_grammar.specs.Tree.{Syntax}
use Rattle.alg_model.specs.Pattern.{Algebra, algebra_of}
use Rattle.sparql_parse.specs.declared.build.ReadToken.{ReadToken}
use Rattle.sparql_parse.specs.declared.build.Translation.{Translation}
use Rattle.sparql_parse.specs.computed.Meaning.{Scope, columns_of}
use Rattle.sparql_parse.specs.computed.Building.{State, IsBuilt, built, step, columns_after}
use Rattle.sparql_parse.specs.held.Builds.{IsTranslation, labelled_in}

-- one token more
pub built-more : (scope : Scope) (s e : State) (xs : List ReadToken) (i : ℕ) (d : ReadToken) → i < length xs → e ≡ built scope s (take i (map labelled_in xs)) →
    step scope e (labelled_in (get_or xs i d)) ≡ built scope s (take (i + 1) (map labelled_in xs))
built-more scope s e xs i d within before =
    let ls = map labelled_in xs in
    let inside : i < length ls = rw length-map within in
    let item : get_or ls i (labelled_in d) ≡ labelled_in (get_or xs i d) = get_or-map labelled_in xs i d in
    let more : take (i + 1) ls ≡ take i ls ++ labelled_in (get_or xs i d) ∷ [] =
    take_more ls i (labelled_in d) inside ∙ ap (λ (l : Labelled). take i ls ++ l ∷ []) item in
    ap (λ (x : State). step scope x (labelled_in (get_or xs i d))) before
    ∙ sym (fold-append (step scope) s (take i ls) (labelled_in (get_or xs i d) ∷ []))
    ∙ ap (built scope s) (sym more)

-- what is built at the end
pub translated : {E : Type 0} (scope : Scope) (tree : Syntax) (s : State) (result : Result Translation E) → IsBuilt scope tree s →
    IfOk result (λ t. algebra_of t.pattern ≡ s.body.whole) →
    IfOk result (λ t. map (λ column. column.0) t.columns ≡ columns_after s.body.whole s.head) →
    IfOk result (λ t. t.distinct ≡ s.head.distinct) →
    IfOk result (IsTranslation scope tree)
translated scope tree s (Ok t) built pattern columns distinct =
    record {
      pattern = pattern ∙ built.pattern;
      columns = columns ∙ built.columns ∙ ap (λ (p : Algebra). columns_of scope p tree.columns) (sym pattern);
      distinct = distinct ∙ built.distinct;
    }
translated scope tree s (Err e) built pattern columns distinct = tt
