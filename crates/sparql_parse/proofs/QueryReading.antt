-- The query of a text, by what is read and built of it.
use Rattle.std.proofs.Common.{◌≡◌, ◌≢◌, ℕ, ◌<◌, Bool, true, false, if◌then◌else◌, All, List, [], ◌∷◌, length, map, Result, Ok, Err, refl, ap, subst, ◌∙◌, sym}
use Rattle.std.proofs.Math.ListN.{get_or-map}
use Rattle.std.proofs.lemmas.List.{length-map}
use Rattle.std.proofs.lemmas.Str.{IsUtf8-from_is_utf8, is_utf8-from_IsUtf8}
use Rattle.std.specs.Str.{IsUtf8, is_utf8}
use Rattle.std.specs.Str.Lossy.{utf8_valid_len}
use Rattle.query_tokens.specs.Token.{Lexeme, shown}
use Rattle.query_tokens.specs.Tokens.{AreTokens}
use Rattle.query_grammar.specs.declared.expect.Expect.{Expect}
use Rattle.query_grammar.specs.declared.expect.Expect.TheVariants as expects
use Rattle.query_grammar.specs.declared.expect.State.{State}
use Rattle.query_grammar.specs.Roles.{Labelled}
use Rattle.query_grammar.specs.Tree.{Syntax}
use Rattle.query_grammar.specs.Grammar.{IsQuery}
use Rattle.query_grammar.specs.Expecting.{Progress}
use Rattle.query_grammar.proofs.GrammarLaws.{IsReadToEnd-query}
use Rattle.alg_model.specs.declared.var.Var.{Var}
use Rattle.alg_model.specs.Pattern.{Algebra, algebra_of}
use Rattle.alg_model.specs.Query.{AbstractQuery}
use Rattle.sparql_parse.specs.declared.build.ReadToken.{ReadToken}
use Rattle.sparql_parse.specs.declared.build.Translation.{Translation}
use Rattle.sparql_parse.specs.declared.fault.QueryFault.{QueryFault}
use Rattle.sparql_parse.specs.declared.fault.QueryFault.TheVariants as faults
use Rattle.query_values.specs.reading.Values.{IsSpelled}
use Rattle.sparql_parse.specs.computed.Names.{names_of}
use Rattle.sparql_parse.specs.computed.Symbols.{Symbols}
use Rattle.sparql_parse.specs.held.Scopes.{scope_in}
use Rattle.sparql_parse.specs.computed.Meaning.{columns_of}
use Rattle.sparql_parse.specs.computed.Building.{IsBuilt, built, columns_after}
use Rattle.sparql_parse.specs.computed.Building as building
use Rattle.sparql_parse.specs.held.Builds.{IsTranslation, labelled_in}
use Rattle.sparql_parse.proofs.ComputedDenotes.{IsMeantBy}
use Rattle.sparql_parse.specs.computed.Meaning.{scope_of}
use Rattle.sparql_parse.specs.computed.Reading.{and_then, first, is_end, query_at_end, query_of, query_reading, read_on, text_reading, var_of}
use Rattle.sparql_parse.specs.held.Readers.{IsKeptOf}
use Rattle.sparql_parse.proofs.Queries.{query-built}
use Rattle.sparql_parse.proofs.SourceReading.{tokens_read-is}

-- all tokens of the code are spelled
pub spelled-items : (xs : List ReadToken) → All (λ l. IsSpelled l.token) (map labelled_in xs) → All (λ r. IsSpelled (shown r.token)) xs
spelled-items xs all = λ k d inside.
    let within : k < length (map labelled_in xs) = rw length-map inside in
    subst (λ (l : Labelled). IsSpelled l.token) (get_or-map labelled_in xs k d) (all k (labelled_in d) within)

-- the query of labelled tokens is what is translated
abbrev pub query_with : List (List ℕ) → Algebra → List Var → Bool → AbstractQuery
query_with names pattern columns distinct = record { names = names; pattern = pattern; columns = columns; distinct = distinct }

vars-back : (columns : List Var) → map var_of (map (λ (column : Var). column.0) columns) ≡ columns
vars-back [] = refl
vars-back (column ∷ columns) = ap (λ cs. column ∷ cs) (vars-back columns)

numbers-back : (numbers : List ℕ) → map (λ (column : Var). column.0) (map var_of numbers) ≡ numbers
numbers-back [] = refl
numbers-back (n ∷ numbers) = ap (λ ns. n ∷ ns) (numbers-back numbers)

query_of-is : (ls : List Labelled) → query_of ls ≡ query_with (names_of ls) (built (scope_of ls) building.start ls).body.whole (map var_of (columns_after (built (scope_of ls) building.start ls).body.whole (built (scope_of ls) building.start ls).head)) (built (scope_of ls) building.start ls).head.distinct
unfolding query_of
query_of-is ls = refl

-- the query of labelled tokens is what they mean
pub query-meant : (ls : List Labelled) (tree : Syntax) → IsQuery tree ls → IsMeantBy tree ls (query_of ls)
query-meant ls tree query =
    let scope = scope_of ls in
    let s = built scope building.start ls in
    let b : IsBuilt scope tree s = query-built scope tree ls query in
    let columns = columns_after s.body.whole s.head in
    let is : IsMeantBy tree ls (query_with (names_of ls) s.body.whole (map var_of columns) s.head.distinct) =
    record { names = refl; pattern = b.pattern; columns = numbers-back columns ∙ b.columns; distinct = b.distinct } in
    subst (IsMeantBy tree ls) (sym (query_of-is ls)) is

-- and they mean no other
pub meant-query : (ls : List Labelled) (tree : Syntax) (query : AbstractQuery) → IsQuery tree ls → IsMeantBy tree ls query → query ≡ query_of ls
meant-query ls tree query is_query is =
    let other = query-meant ls tree is_query in
    let q = query_of ls in
    let names : query.names ≡ q.names = is.names ∙ sym other.names in
    let pattern : query.pattern ≡ q.pattern = is.pattern ∙ sym other.pattern in
    let distinct : query.distinct ≡ q.distinct = is.distinct ∙ sym other.distinct in
    let numbers : map (λ (column : Var). column.0) query.columns ≡ map (λ (column : Var). column.0) q.columns =
    is.columns ∙ ap (λ p. columns_of (scope_of ls) p tree.columns) pattern ∙ sym other.columns in
    let columns : query.columns ≡ q.columns = sym (vars-back query.columns) ∙ ap (map var_of) numbers ∙ vars-back q.columns in
    ap (λ n. query_with n query.pattern query.columns query.distinct) names
    ∙ ap (λ p. query_with q.names p query.columns query.distinct) pattern
    ∙ ap (λ c. query_with q.names q.pattern c query.distinct) columns
    ∙ ap (query_with q.names q.pattern q.columns) distinct

translated-query : (ls : List Labelled) (tree : Syntax) (t : Translation) → IsQuery tree ls → IsTranslation (scope_of ls) tree t →
    query_with (names_of ls) (algebra_of t.pattern) t.columns t.distinct ≡ query_of ls
translated-query ls tree t query is =
    meant-query ls tree (query_with (names_of ls) (algebra_of t.pattern) t.columns t.distinct) query
    (record { names = refl; pattern = is.pattern; columns = is.columns; distinct = is.distinct })

pub kept-query : (ls : List Labelled) (state : State) (k : Symbols) (t : Translation) → IsKeptOf ls state k → state.expect ≡ expects.End →
    ((tree : Syntax) → IsQuery tree ls → IsTranslation (scope_in k) tree t) →
    query_with k.names (algebra_of t.pattern) t.columns t.distinct ≡ query_of ls
kept-query ls state k t kept at_end translated =
    let (tree, query) = IsReadToEnd-query ls (record { state = state; run = kept.run; at_end = at_end }) in
    let is : IsTranslation (scope_of ls) tree t = subst (λ (x : Symbols). IsTranslation (scope_in x) tree t) kept.same (translated tree query) in
    ap (λ (x : Symbols). query_with x.names (algebra_of t.pattern) t.columns t.distinct) kept.same ∙ translated-query ls tree t query is

-- the end of the tokens
not_end : (e : Expect) → e ≢ expects.End → is_end e ≡ false
not_end expects.End other = absurd (other refl)
not_end _ other = refl

pub ends : (size : ℕ) (r : Progress) → r.state.expect ≡ expects.End → query_at_end size r ≡ Ok (query_of r.labelled)
ends size r e = ap (λ x. if is_end x then Ok (query_of r.labelled) else Err (faults.Syntax size)) e

pub goes_on : (size : ℕ) (r : Progress) → r.state.expect ≢ expects.End → query_at_end size r ≡ Err (faults.Syntax size)
goes_on size r other = ap (λ b. if b then Ok (query_of r.labelled) else Err (faults.Syntax size)) (not_end r.state.expect other)

-- what is read of a text, by its tokens
pub text-read : (text : List ℕ) (tokens : List Lexeme) (read : Result Progress QueryFault) → AreTokens text tokens → read_on first tokens ≡ read →
    text_reading text ≡ and_then (query_at_end (length text)) read
unfolding text_reading
text-read text tokens read are is = ap (λ ts. and_then (query_at_end (length text)) (read_on first ts)) (tokens_read-is text tokens are) ∙ ap (and_then (query_at_end (length text))) is

pub good-reading : (text : List ℕ) → IsUtf8 text → query_reading text ≡ text_reading text
unfolding query_reading
good-reading text utf8 = ap (λ b. if b then text_reading text else Err (faults.Syntax (utf8_valid_len text))) (is_utf8-from_IsUtf8 text utf8)

bad-test : (text : List ℕ) → ¬ IsUtf8 text → is_utf8 text ≡ false
bad-test text bad = elim (is_utf8 text) as (λ b. is_utf8 text ≡ b → b ≡ false) [ true ↦ λ e. absurd (bad (IsUtf8-from_is_utf8 text e)) | false ↦ λ e. refl ] refl

pub bad-reading : (text : List ℕ) → ¬ IsUtf8 text → query_reading text ≡ Err (faults.Syntax (utf8_valid_len text))
unfolding query_reading
bad-reading text bad = ap (λ b. if b then text_reading text else Err (faults.Syntax (utf8_valid_len text))) (bad-test text bad)
