-- A query that a text denotes keeps the limits.
use Rattle.std.proofs.Common.{◌≡◌, ◌≢◌, ℕ, ◌≤◌, ◌<◌, List, map, length, sym, ◌∙◌, ap, subst}
use Rattle.std.specs.Prelude.{All, AllPairs}
use Rattle.std.specs.Str.{IsUtf8}
use Rattle.query_grammar.specs.Roles.{Labelled, count_of}
use Rattle.query_grammar.specs.Tree.{Syntax}
use Rattle.query_grammar.specs.Grammar.{IsQuery}
use Rattle.alg_model.specs.declared.query.Query.{Query}
use Rattle.alg_model.specs.Pattern.{Algebra, algebra_of}
use Rattle.alg_model.specs.Query.{abstract_of}
use Rattle.alg_model.specs.Limits.{PatternKeepsLimits, KeepsLimits}
use Rattle.sparql_parse.specs.computed.Names.{names_of}
use Rattle.sparql_parse.specs.Faults.{is_object, is_optional}
use Rattle.sparql_parse.specs.computed.Meaning.{pattern_of, columns_of}
use Rattle.sparql_parse.specs.computed.Meaning.{scope_of}
use Rattle.sparql_parse.proofs.ComputedDenotes.{IsMeantBy}
use Rattle.sparql_parse.proofs.QueryLimits.{names-fine, pattern-limits}
use Rattle.sparql_parse.proofs.ColumnLimits.{columns-below, columns-differ, vars-below, vars-differ}
use Rattle.sparql_parse.proofs.NamesDiffer.{names-differ}
use Rattle.sparql_parse.proofs.NameTexts.{AreSpelled, names-texts}
use Rattle.sparql_parse.proofs.VarLaws.{AreBelow-All}

pub keeps-limits : (tree : Syntax) (labelled : List Labelled) (query : Query) → IsQuery tree labelled → IsMeantBy tree labelled (abstract_of query) →
    length (names_of labelled) ≤ 64 → count_of is_object labelled ≤ 256 → count_of is_optional labelled ≤ 63 →
    AreSpelled labelled → KeepsLimits query
keeps-limits tree labelled query is meant few objects optionals spelled =
    let scope = scope_of labelled in
    let names = names_of labelled in
    let fine = names-fine labelled in
    let pattern = pattern_of scope tree.group in
    let limits : PatternKeepsLimits (length names) pattern = pattern-limits scope tree labelled is fine objects optionals in
    let columns : map (λ column. column.0) query.columns ≡ columns_of scope pattern tree.columns =
    meant.columns ∙ ap (λ (p : Algebra). columns_of scope p tree.columns) meant.pattern in
    let below : All (λ (x : ℕ). x < length names) (columns_of scope pattern tree.columns) = AreBelow-All (length names) (columns_of scope pattern tree.columns) (columns-below scope tree labelled is fine) in
    let numbers : All (λ (x : ℕ). x < length names) (map (λ column. column.0) query.columns) = subst (λ (xs : List ℕ). All (λ (x : ℕ). x < length names) xs) (sym columns) below in
    let apart : AllPairs (λ (a b : ℕ). a ≢ b) (map (λ column. column.0) query.columns) = subst (λ (xs : List ℕ). AllPairs (λ (a b : ℕ). a ≢ b) xs) (sym columns) (columns-differ scope pattern tree.columns) in
    let same = sym meant.names in
    record {
      few_names = subst (λ (ns : List (List ℕ)). length ns ≤ 64) same few;
      names_are_text = subst (λ (ns : List (List ℕ)). All IsUtf8 ns) same (names-texts labelled spelled);
      names_differ = subst (λ (ns : List (List ℕ)). AllPairs (λ (a b : List ℕ). a ≢ b) ns) same (names-differ labelled);
      pattern = subst (λ (ns : List (List ℕ)). PatternKeepsLimits (length ns) (algebra_of query.pattern)) same (subst (PatternKeepsLimits (length names)) (sym meant.pattern) limits);
      columns_below = subst (λ (ns : List (List ℕ)). All (λ column. column.0 < length ns) query.columns) same (vars-below (length names) query.columns numbers);
      columns_differ = vars-differ query.columns apart;
    }
