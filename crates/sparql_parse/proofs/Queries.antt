-- What is built of the tokens of a query is what its syntax tree means.
use Rattle.std.proofs.Common.{◌≡◌, Bool, true, false, List, [], ◌∷◌, map, fold, Option, Some, None, refl, sym, ◌∙◌, ap}
use Rattle.query_tokens.specs.Token.{Lexeme}
use Rattle.query_grammar.specs.Roles.{Labelled}
use Rattle.query_grammar.specs.Tree.{Node, Columns, AllColumns, Variables, Syntax}
use Rattle.query_grammar.specs.Grammar.{IsQuery, SpellsQuery}
use Rattle.alg_model.specs.Pattern.{Algebra, Bgp}
use Rattle.query_values.specs.reading.Values.{name_of}
use Rattle.sparql_parse.specs.computed.Meaning.{Scope, number_of, with_number, empty_group, with_block, with_elements, pattern_of, columns_of}
use Rattle.sparql_parse.specs.computed.Building.{State, Head, Body, IsBuilt, built, start, with_object, columns_after, next_settled, no_columns}
use Rattle.sparql_parse.proofs.Counting.{with_object-next}
use Rattle.sparql_parse.proofs.Runs.{after_columns, after_variables, after_distinct, query-does}
use Rattle.sparql_parse.proofs.Translations.{group-whole, group-head, group-next}

-- the SELECT clause
abbrev same_but_head : State → State → Type 0
same_but_head t e = (e.body ≡ t.body) × (e.optional ≡ t.optional)

variables-stay : (scope : Scope) (tokens : List Lexeme) (t : State) → same_but_head t (after_variables scope tokens t)
variables-stay scope [] t = (refl, refl)
variables-stay scope (token ∷ tokens) t = variables-stay scope tokens (after_columns scope (Variables (token ∷ [])) t)

columns-stay : (scope : Scope) (columns : Columns) (t : State) → same_but_head t (after_columns scope columns t)
columns-stay scope AllColumns t = (refl, refl)
columns-stay scope (Variables tokens) t = variables-stay scope tokens t

variables-head : (scope : Scope) (tokens : List Lexeme) (t : State) →
    (after_variables scope tokens t).head ≡ record { distinct = t.head.distinct; all = t.head.all; columns = fold with_number t.head.columns (map (λ (token : Lexeme). number_of scope.names (name_of token)) tokens) }
variables-head scope [] t = refl
variables-head scope (token ∷ tokens) t = variables-head scope tokens (after_columns scope (Variables (token ∷ [])) t)

pub record HeadIs (scope : Scope) (columns : Columns) (distinct : Bool) (head : Head) : Type 0 where
  pub distinct_is : head.distinct ≡ distinct
  pub columns_are : (pattern : Algebra) → columns_after pattern head ≡ columns_of scope pattern columns

columns-head : (scope : Scope) (columns : Columns) (distinct : Bool) (t : State) → t.head ≡ record { distinct = distinct; all = false; columns = [] } →
    HeadIs scope columns distinct (after_columns scope columns t).head
columns-head scope AllColumns distinct t e = record { distinct_is = ap (λ (h : Head). h.distinct) e; columns_are = λ pattern. refl }
columns-head scope (Variables tokens) distinct t e =
    let numbers = map (λ (token : Lexeme). number_of scope.names (name_of token)) tokens in
    let is : (after_variables scope tokens t).head ≡ record { distinct = distinct; all = false; columns = fold with_number [] numbers } =
    variables-head scope tokens t ∙ ap (λ (h : Head). record { distinct = h.distinct; all = h.all; columns = fold with_number h.columns numbers }) e in
    record { distinct_is = ap (λ (h : Head). h.distinct) is; columns_are = λ pattern. ap (columns_after pattern) is }

distinct-head : (distinct : Bool) (t : State) → t.head ≡ no_columns → (after_distinct distinct t).head ≡ record { distinct = distinct; all = false; columns = [] }
distinct-head true t e = ap (λ (h : Head). record { distinct = true; all = h.all; columns = h.columns }) e
distinct-head false t e = e

distinct-stays : (distinct : Bool) (t : State) → same_but_head t (after_distinct distinct t)
distinct-stays true t = (refl, refl)
distinct-stays false t = (refl, refl)

-- an object that is not in the body yet is in no group that is closed
object-whole : (scope : Scope) (subject verb : Node) (body : Body) (object : Option Node) → (with_object scope subject verb body object).whole ≡ body.whole
object-whole scope subject verb body None = refl
object-whole scope subject verb body (Some object) = refl

spelled-built : (scope : Scope) (tree : Syntax) (labelled : List Labelled) → SpellsQuery tree labelled [] → IsBuilt scope tree (built scope start labelled)
spelled-built scope tree labelled spelled =
    let ends = query-does scope tree labelled [] start spelled in
    let s = start in
    let d = after_distinct tree.distinct s in
    let t = after_columns scope tree.columns d in
    let (d_body, d_flag) = distinct-stays tree.distinct s in
    let (t_body, t_flag) = columns-stay scope tree.columns d in
    let head = columns-head scope tree.columns tree.distinct d (distinct-head tree.distinct s refl) in
    let (a, prologue, (b, select, (c, distinct, (e, columns, (f, where_word, group))))) = spelled in
    let whole = group-whole scope tree.group f [] t (Bgp []) group (t_flag ∙ d_flag) (t_body ∙ d_body) in
    let end_whole : ends.end.body.whole ≡ pattern_of scope tree.group =
    sym (object-whole scope ends.end.subject ends.end.verb ends.end.body ends.end.object) ∙ ap (λ (x : State). x.body.whole) ends.settled_is ∙ whole in
    let end_head : ends.end.head ≡ t.head = ap (λ (x : State). x.head) ends.settled_is ∙ group-head scope tree.group t in
    let run : built scope s labelled ≡ ends.end = ends.run in
    let state = built scope s labelled in
    let state_head : state.head ≡ t.head = ap (λ (x : State). x.head) run ∙ end_head in
    record {
      pattern = ap (λ (x : State). x.body.whole) run ∙ end_whole;
      columns = ap (columns_after state.body.whole) state_head ∙ head.columns_are state.body.whole;
      distinct = ap (λ (h : Head). h.distinct) state_head ∙ head.distinct_is;
    }

spelled-next : (scope : Scope) (tree : Syntax) (labelled : List Labelled) → SpellsQuery tree labelled [] →
    next_settled (built scope start labelled) ≡ (with_elements scope (with_block scope (empty_group 1) tree.group.block) tree.group.elements).next
spelled-next scope tree labelled spelled =
    let ends = query-does scope tree labelled [] start spelled in
    let d = after_distinct tree.distinct start in
    let t = after_columns scope tree.columns d in
    let (d_body, d_flag) = distinct-stays tree.distinct start in
    let (t_body, t_flag) = columns-stay scope tree.columns d in
    let (a, prologue, (b, select, (c, distinct, (e, columns, (f, where_word, group))))) = spelled in
    let next = group-next scope tree.group f [] t (Bgp []) group (t_flag ∙ d_flag) (t_body ∙ d_body) in
    ap next_settled ends.run
    ∙ sym (with_object-next scope ends.end.subject ends.end.verb ends.end.body ends.end.object)
    ∙ ap (λ (x : State). x.body.next) ends.settled_is
    ∙ next

-- the number of the next triple pattern after a query
pub query-next : (scope : Scope) (tree : Syntax) (labelled : List Labelled) → IsQuery tree labelled →
    next_settled (built scope start labelled) ≡ (with_elements scope (with_block scope (empty_group 1) tree.group.block) tree.group.elements).next
query-next scope tree labelled is = spelled-next scope tree labelled is.spelled

pub query-built : (scope : Scope) (tree : Syntax) (labelled : List Labelled) → IsQuery tree labelled → IsBuilt scope tree (built scope start labelled)
query-built scope tree labelled is = spelled-built scope tree labelled is.spelled
