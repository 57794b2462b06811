-- The query that is built of what is read keeps the limits.
use Rattle.std.proofs.Common.{◌≡◌, suc, ◌≤◌, All, List, [], ◌∷◌, map, length, subst, sym, ap, ◌∙◌, arith}
use Rattle.query_grammar.specs.declared.expect.Expect.TheVariants as expects
use Rattle.query_grammar.specs.declared.expect.State.{State}
use Rattle.query_grammar.specs.Roles.{Labelled}
use Rattle.query_grammar.specs.Tree.{Syntax}
use Rattle.query_grammar.specs.Grammar.{IsQuery}
use Rattle.query_grammar.proofs.GrammarLaws.{IsReadToEnd-query}
use Rattle.alg_model.specs.declared.var.Var.{Var}
use Rattle.alg_model.specs.declared.query.Query.{Query}
use Rattle.alg_model.specs.Pattern.{Algebra, algebra_of}
use Rattle.alg_model.specs.Query.{abstract_of}
use Rattle.alg_model.specs.Limits.{KeepsLimits}
use Rattle.query_values.specs.reading.Values.{IsSpelled}
use Rattle.sparql_parse.specs.declared.build.Translation.{Translation}
use Rattle.sparql_parse.specs.computed.Symbols.{Symbols}
use Rattle.sparql_parse.specs.held.Scopes.{scope_in}
use Rattle.sparql_parse.specs.computed.Meaning.{columns_of}
use Rattle.sparql_parse.specs.held.Builds.{IsTranslation}
use Rattle.sparql_parse.specs.computed.Meaning.{scope_of}
use Rattle.sparql_parse.proofs.ComputedDenotes.{IsMeantBy}
use Rattle.sparql_parse.specs.held.Readers.{IsKeptOf}
use Rattle.sparql_parse.proofs.KeptLimits.{keeps-limits}
use Rattle.sparql_parse.proofs.NameTexts.{AreSpelled}

all-spelled : (ls : List Labelled) → All (λ l. IsSpelled l.token) ls → AreSpelled ls
all-spelled [] all = tt
all-spelled (l ∷ ls) all = (all 0 l (omega arith), all-spelled ls (λ k d below. all (suc k) d (omega arith)))

pub kept-limits : (ls : List Labelled) (state : State) (k : Symbols) (t : Translation) (query : Query) → IsKeptOf ls state k → state.expect ≡ expects.End →
    ((tree : Syntax) → IsQuery tree ls → IsTranslation (scope_in k) tree t) →
    query.names ≡ k.names → query.pattern ≡ t.pattern → query.columns ≡ t.columns → query.distinct ≡ t.distinct → KeepsLimits query
kept-limits ls state k t query kept at_end translated names pattern columns distinct =
    let (tree, is_query) = IsReadToEnd-query ls (record { state = state; run = kept.run; at_end = at_end }) in
    let is : IsTranslation (scope_of ls) tree t = subst (λ (x : Symbols). IsTranslation (scope_in x) tree t) kept.same (translated tree is_query) in
    let meant : IsMeantBy tree ls (abstract_of query) = record {
      names = names ∙ ap (λ (x : Symbols). x.names) kept.same;
      pattern = ap algebra_of pattern ∙ is.pattern;
      columns = ap (map (λ (column : Var). column.0)) columns ∙ is.columns ∙ ap (λ (p : Algebra). columns_of (scope_of ls) p tree.columns) (ap algebra_of (sym pattern));
      distinct = distinct ∙ is.distinct;
    } in
    keeps-limits tree ls query is_query meant
    (subst (λ (x : Symbols). length x.names ≤ 64) kept.same kept.within.names)
    (subst (λ (x : Symbols). x.tally.objects ≤ 256) kept.same kept.within.objects)
    (subst (λ (x : Symbols). x.tally.optionals ≤ 63) kept.same kept.within.optionals)
    (all-spelled ls kept.spelled)
