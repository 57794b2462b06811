use Rattle.std.proofs.Common.{All, List, map, subst, sym, refl, ap, ◌∙◌}
use Rattle.alg_model.specs.Pattern.{algebra_of}
use Rattle.query_grammar.specs.Grammar.{IsQuery}
use Rattle.query_tokens.specs.Token.{shown}
use Rattle.sparql_parse.specs.declared.build.ReadToken.{ReadToken}
use Rattle.sparql_parse.specs.held.Builds.{labelled_in}
use Rattle.query_values.specs.reading.Values.{IsSpelled}
use Rattle.sparql_parse.specs.held.Readers.{labels_in}
use Rattle.sparql_parse.proofs.QueryReading.{query_with, spelled-items, kept-query}
use Rattle.sparql_parse.proofs.ReadLimits.{kept-limits}
use Rattle.sparql_parse.proofs.query.Reader.into_query.Goals as goal

pub translate-requires-clause-spelled : goal.translate-requires-clause-spelled
translate-requires-clause-spelled c =
    subst (λ (xs : List ReadToken). All (λ r. IsSpelled (shown r.token)) xs) (sym c.as_slice.ensures.value) (spelled-items c.args.self.tokens.items c.requires.kept.spelled)

pub returns-clause-query : goal.returns-clause-query
returns-clause-query c =
    let t = c.in_ok-translation.translation in
    ap (λ names. query_with names (algebra_of t.pattern) t.columns t.distinct) c.into_names.ensures
    ∙ kept-query (labels_in c.args.self) c.args.self.state c.args.self.symbols t c.requires.kept c.requires.at_end
    (λ tree query. c.in_ok-translation.ensures tree (subst (λ (xs : List ReadToken). IsQuery tree (map labelled_in xs)) (sym c.as_slice.ensures.value) query))

pub returns-clause-limits : goal.returns-clause-limits
returns-clause-limits c =
    let t = c.in_ok-translation.translation in
    kept-limits (labels_in c.args.self) c.args.self.state c.args.self.symbols t _ c.requires.kept c.requires.at_end
    (λ tree query. c.in_ok-translation.ensures tree (subst (λ (xs : List ReadToken). IsQuery tree (map labelled_in xs)) (sym c.as_slice.ensures.value) query))
    c.into_names.ensures refl refl refl
