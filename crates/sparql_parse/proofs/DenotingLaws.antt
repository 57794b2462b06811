-- What is read of a text is what it denotes, or its fault: what the tokens stand for is what is computed of them.
use Rattle.std.proofs.Common.{◌≡◌, ◌⊎◌, inl, inr, ℕ, Bool, true, false, ◌||◌, cond, All, List, [], ◌∷◌, ◌++◌, map, fold, Option, Some, None, Result, Ok, Err, refl, sym, ap, subst, ◌∙◌, append_assoc, append-nil, arith, ◌&&◌, if◌then◌else◌}
use Rattle.std.specs.Prelude.{IfOk, IfErr, MatchResult}
use Rattle.std.specs.List.{list_any}
use Rattle.std.specs.Option.{is_some, is_none}
use Rattle.std.specs.Str.{IsUtf8}
use Rattle.std.proofs.lemmas.List.Folds.{list_any-append}
use Rattle.std.proofs.lemmas.List.Elements.{All-nil, All-cons, All-tail}
use Rattle.std.proofs.lemmas.Slice.Eq.{bytes_eq-Decides}
use Rattle.query_tokens.specs.Token.{Lexeme}
use Rattle.query_tokens.specs.Tokens.{AreTokens}
use Rattle.query_grammar.specs.declared.expect.State.{State}
use Rattle.query_grammar.specs.declared.terminal.Terminal.{Terminal}
use Rattle.query_grammar.specs.declared.terminal.Terminal.TheVariants as terminals
use Rattle.query_grammar.specs.declared.syntax.Role.TheVariants as roles
use Rattle.query_grammar.specs.Terminals.{terminal_of}
use Rattle.query_grammar.specs.Roles.{Labelled, tokens_of, with_role}
use Rattle.query_grammar.specs.Tree.{Syntax}
use Rattle.query_grammar.specs.Grammar.{IsQuery}
use Rattle.query_grammar.specs.Expecting.{start, ended, read_tokens}
use Rattle.query_grammar.proofs.Carrying.{Reads}
use Rattle.query_grammar.proofs.Runs.{run-reads}
use Rattle.query_grammar.proofs.GrammarLaws.{query-run}
use Rattle.query_values.specs.reading.Values.{IsSpelledOrBad, name_of, prefix_of}
use Rattle.query_values.proofs.SourceTokens.{spelled_tokens}
use Rattle.alg_model.specs.declared.query.Query.{Query}
use Rattle.alg_model.specs.Pattern.{Algebra}
use Rattle.alg_model.specs.Query.{AbstractQuery, abstract_of}
use Rattle.sparql_parse.specs.declared.fault.QueryFault.{QueryFault}
use Rattle.sparql_parse.specs.declared.fault.QueryFault.TheVariants as faults
use Rattle.sparql_parse.specs.Declarations.{Declares, IsDeclared}
use Rattle.sparql_parse.specs.Denotes.{Denotes, HasNoFaults, HasOwnFault, HasGrammarFault, IsFaultOf, IsMeantBy}
use Rattle.sparql_parse.specs.Names.{AreNames}
use Rattle.sparql_parse.specs.Translation.{translated, IsPatternOf, IsNumbered, AreColumnsOf}
use Rattle.sparql_parse.specs.computed.Faults.{uses_prefix, limit_among, counts_of, fault_of}
use Rattle.sparql_parse.specs.computed.Meaning.{scope_of}
use Rattle.sparql_parse.specs.computed.Names.{is_text, with_name, names_after, names_of, namespaces_of, namespace_of}
use Rattle.sparql_parse.specs.computed.Reading.{IsMemoryOr, query_reading}
use Rattle.sparql_parse.proofs.ComputedDenotes as computed
use Rattle.sparql_parse.proofs.ComputedLaws as computed_laws
use Rattle.sparql_parse.proofs.ComputedLaws.{Ok-one, Err-one, Ok-not-Err}
use Rattle.sparql_parse.proofs.DeclarationLaws.{AreProper, AreProper-front, namespace_of-stands, namespace_of-none, StandsFor-found}
use Rattle.sparql_parse.proofs.ColumnNumbers.{AreColumnsOf-are, columns_of-are}
use Rattle.sparql_parse.proofs.FaultFreeRuns.{begins-reads}
use Rattle.sparql_parse.proofs.NameRelations.{AreNames-is, names_of-are}
use Rattle.sparql_parse.proofs.NamesDiffer.{names-differ}
use Rattle.sparql_parse.proofs.NodeLaws.{Agrees, IsGood}
use Rattle.sparql_parse.proofs.PatternLaws.{pattern_of-numbered, pattern_of-is, is-pattern_of}
use Rattle.sparql_parse.proofs.QueryNodes.{AreGood, query-places}
use Rattle.sparql_parse.proofs.ReadingLaws.{reading_at}
use Rattle.sparql_parse.proofs.TokenFaults.{HasFault-is, is-HasFault, uses}
use Rattle.sparql_parse.proofs.TokenRoles.{reads-proper}

-- the tokens of a text that begin a query are as they have to be
All-front : {A : Type 0} (P : A → Type 0) (xs ys : List A) → All P (xs ++ ys) → All P xs
All-front P [] ys all = All-nil P
All-front P (x ∷ xs) ys all = All-cons P x xs (all 0 x (omega arith)) (All-front P xs ys (All-tail P x (xs ++ ys) all))

-- a front of the tokens of a text that is read is as it has to be
front-proper : (text : List ℕ) (tokens after : List Lexeme) (ls : List Labelled) (last : State) → IsUtf8 text → AreTokens text tokens → tokens ≡ tokens_of ls ++ after → Reads last start ls → AreProper ls
front-proper text tokens after ls last utf8 are split reads =
    reads-proper ls last start reads (All-front IsSpelledOrBad (tokens_of ls) after (subst (All IsSpelledOrBad) split (spelled_tokens text tokens utf8 are)))

-- a place in tokens that are as they have to be
place-proper : (labelled before after : List Labelled) (l : Labelled) → AreProper labelled → labelled ≡ before ++ l ∷ after → AreProper (before ++ l ∷ [])
place-proper labelled before after l all split =
    AreProper-front (before ++ l ∷ []) after (subst AreProper (split ∙ sym (append_assoc before (l ∷ []) after)) all)

-- tokens without faults
no_fault : (before : List Labelled) (l : Labelled) → AreProper (before ++ l ∷ []) → ((fault : QueryFault) → fault_of before l ≡ Some fault → ⊥) → (o : Option QueryFault) → fault_of before l ≡ o → fault_of before l ≡ None
no_fault before l proper not None is = is
no_fault before l proper not (Some fault) is = absurd (not fault is)

-- tokens without faults have none by computation
none-computed : (labelled : List Labelled) → AreProper labelled → HasNoFaults labelled → computed.HasNoFaults labelled
none-computed labelled all none before after l split =
    let proper = place-proper labelled before after l all split in
    no_fault before l proper (λ fault is. none before after l fault split (is-HasFault before l proper fault is)) (fault_of before l) refl

-- tokens without faults by computation have none
computed-none : (labelled : List Labelled) → AreProper labelled → computed.HasNoFaults labelled → HasNoFaults labelled
computed-none labelled all none before after l fault split has =
    let proper = place-proper labelled before after l all split in
    let both : None ≡ Some fault = sym (none before after l split) ∙ HasFault-is before l proper fault has in
    cc

-- the declarations and the names among the tokens of a query
agree : (labelled : List Labelled) → AreProper labelled → Agrees labelled (scope_of labelled)
agree labelled all = record {
  found = λ prefix iri stands. StandsFor-found labelled prefix iri all stands;
  stands = λ prefix iri found. namespace_of-stands labelled prefix iri all found;
  differ = names-differ labelled;
}

-- a name that is there stays, and a variable puts its name there
abbrev Listed : List (List ℕ) → List ℕ → Type 0
Listed names name = list_any (is_text name) names ≡ true

-- one of two truths is enough: the first
or-true : (a b : Bool) → a ≡ true → (a || b) ≡ true
or-true true b e = refl
or-true false b e = absurd (cc)

-- and the second
true-or : (a b : Bool) → b ≡ true → (a || b) ≡ true
true-or true b e = refl
true-or false b e = e

-- a name that is there stays when another is put
with_name-keeps : (names : List (List ℕ)) (other name : List ℕ) → Listed names name → Listed (with_name names other) name
with_name-keeps names other name there =
    elim (list_any (is_text other) names) as (λ b. Listed (cond b names (names ++ other ∷ [])) name) [
      | true ↦ there
      | false ↦ list_any-append (is_text name) names (other ∷ []) ∙ or-true (list_any (is_text name) names) (list_any (is_text name) (other ∷ [])) there
    ]

-- a name that is put is there
with_name-lists : (names : List (List ℕ)) (name : List ℕ) → Listed (with_name names name) name
with_name-lists names name =
    elim (list_any (is_text name) names) as (λ b. list_any (is_text name) names ≡ b → Listed (cond b names (names ++ name ∷ [])) name) [
      | true ↦ λ e. e
      | false ↦ λ e.
          list_any-append (is_text name) names (name ∷ [])
          ∙ true-or (list_any (is_text name) names) (list_any (is_text name) (name ∷ [])) (or-true (is_text name name) false ((bytes_eq-Decides name name).1 refl))
    ] refl

-- a name that is there stays after one token more
names_after-keeps : (names : List (List ℕ)) (t : Terminal) (token : Lexeme) (name : List ℕ) → Listed names name → Listed (names_after names t token) name
names_after-keeps names terminals.Variable token name there = with_name-keeps names (name_of token) name there
names_after-keeps names _ token name there = there

-- a variable puts its name
names_after-lists : (names : List (List ℕ)) (t : Terminal) (token : Lexeme) → t ≡ terminals.Variable → Listed (names_after names t token) (name_of token)
names_after-lists names t token e = subst (λ (x : Terminal). Listed (names_after names x token) (name_of token)) (sym e) (with_name-lists names (name_of token))

-- the names after one token more
abbrev one_more : List (List ℕ) → Labelled → List (List ℕ)
one_more names l = names_after names (terminal_of l.token) l.token

-- a name that is there stays after some tokens more
fold-keeps : (names : List (List ℕ)) (ls : List Labelled) (name : List ℕ) → Listed names name → Listed (fold one_more names ls) name
fold-keeps names [] name there = there
fold-keeps names (l ∷ ls) name there = fold-keeps (one_more names l) ls name (names_after-keeps names (terminal_of l.token) l.token name there)

-- the name of each variable is there
abbrev AreListed : List (List ℕ) → List Labelled → Type 0
AreListed names [] = Unit {0}
AreListed names (l ∷ ls) = (terminal_of l.token ≡ terminals.Variable → Listed names (name_of l.token)) × AreListed names ls

-- after some tokens the names of their variables are there
fold-listed : (names : List (List ℕ)) (ls : List Labelled) → AreListed (fold one_more names ls) ls
fold-listed names [] = tt
fold-listed names (l ∷ ls) =
    (λ e. fold-keeps (one_more names l) ls (name_of l.token) (names_after-lists names (terminal_of l.token) l.token e), fold-listed (one_more names l) ls)

-- the names of a query are those of its variables at least
names-listed : (labelled : List Labelled) → AreListed (names_of labelled) labelled
unfolding names_of
names-listed labelled = fold-listed [] labelled

-- a prefix that is used without a fault is declared
declared-before : (labelled before rest : List Labelled) (prefix iri : List ℕ) → labelled ≡ before ++ rest → Declares before prefix iri → IsDeclared labelled prefix
declared-before labelled before rest prefix iri split d = (
  iri,
  record {
    before = d.before;
    label = d.label;
    namespace = d.namespace;
    after = d.after ++ rest;
    split = split ∙ ap (λ xs. xs ++ rest) d.split ∙ append_assoc d.before (with_role roles.Declared d.label ∷ with_role roles.Namespace d.namespace ∷ d.after) rest;
    prefix_is = d.prefix_is;
    iri_is = d.iri_is;
  },
)

-- a prefix that is declared before stays declared
some-after : (labelled before rest : List Labelled) (prefix : List ℕ) → AreProper before → labelled ≡ before ++ rest → is_some (namespace_of (namespaces_of before) prefix) ≡ true → (o : Option (List ℕ)) → namespace_of (namespaces_of labelled) prefix ≡ o → is_some (namespace_of (namespaces_of labelled) prefix) ≡ true
some-after labelled before rest prefix all split some (Some iri) is = ap is_some is
some-after labelled before rest prefix all split some None is =
    let not = namespace_of-none labelled prefix is in
    elim (namespace_of (namespaces_of before) prefix) as (λ o. namespace_of (namespaces_of before) prefix ≡ o → is_some o ≡ true → is_some (namespace_of (namespaces_of labelled) prefix) ≡ true) [
      | Some iri ↦ λ found t. absurd (not (declared-before labelled before rest prefix iri split (namespace_of-stands before prefix iri all found).declaration))
      | None ↦ λ found t. absurd (cc)
    ] refl some

-- a token without a fault that uses a prefix knows it
known-test : (uses unknown : Bool) (limit : Option QueryFault) (f : QueryFault) → (if (uses && unknown) then Some f else limit) ≡ None → uses ≡ true → unknown ≡ false
known-test true true limit f e u = absurd (cc)
known-test true false limit f e u = refl
known-test false unknown limit f e u = absurd (cc)

-- what is not missing is there
is_some-none : (o : Option (List ℕ)) → is_none o ≡ false → is_some o ≡ true
is_some-none None e = absurd (cc)
is_some-none (Some x) e = refl

-- a prefix that is used without a fault is declared before
known-before : (before : List Labelled) (l : Labelled) → fault_of before l ≡ None → uses_prefix l.token.kind l.role ≡ true → is_some (namespace_of (namespaces_of before) (prefix_of l.token)) ≡ true
unfolding fault_of
known-before before l none u =
    is_some-none (namespace_of (namespaces_of before) (prefix_of l.token))
    (known-test (uses_prefix l.token.kind l.role) (is_none (namespace_of (namespaces_of before) (prefix_of l.token))) (limit_among l.token.at (counts_of (before ++ l ∷ []))) (faults.UnknownPrefix l.token.at) none u)

-- tokens without faults are good
good-from : (labelled before ls : List Labelled) → AreProper labelled → computed.HasNoFaults labelled → labelled ≡ before ++ ls → AreProper ls → AreListed (names_of labelled) ls → AreGood (scope_of labelled) ls
good-from labelled before [] all none split proper listed = tt
good-from labelled before (l ∷ ls) all none split (first, others) (here, rest) =
    let front : AreProper before = AreProper-front before (l ∷ ls) (subst AreProper split all) in
    let good : IsGood (scope_of labelled) l = record {
      spelled = first.spelled;
      known = λ used kind.
          some-after labelled before (l ∷ ls) (prefix_of l.token) front split
          (known-before before l (none before ls l split) (uses l.token.kind l.role used kind)) (namespace_of (namespaces_of labelled) (prefix_of l.token)) refl;
      listed = here;
    } in
    (good, good-from labelled (before ++ l ∷ []) ls all none (split ∙ sym (append_assoc before (l ∷ []) ls)) others rest)

-- all tokens of a query without faults are good
are-good : (labelled : List Labelled) → AreProper labelled → computed.HasNoFaults labelled → AreGood (scope_of labelled) labelled
are-good labelled all none = good-from labelled [] labelled all none refl all (names-listed labelled)

-- what is meant is what is computed
abbrev PatternIs : List Labelled → Syntax → List (List ℕ) → Algebra → Type 0
PatternIs labelled tree names pattern = IsPatternOf (record { tokens = labelled; names = names }) (translated tree.group) pattern

-- what is computed is what is meant
computed-meant : (tree : Syntax) (labelled : List Labelled) (query : AbstractQuery) → AreProper labelled → computed.HasNoFaults labelled → IsQuery tree labelled → computed.IsMeantBy tree labelled query → IsMeantBy tree labelled query
computed-meant tree labelled query all none is_query meant =
    let scope = scope_of labelled in
    let agrees = agree labelled all in
    let (columns, nodes) = query-places labelled scope agrees tree labelled is_query.spelled (are-good labelled all none) in
    let pattern = pattern_of-is labelled scope agrees tree.group nodes in
    let here : PatternIs labelled tree (names_of labelled) query.pattern = subst (PatternIs labelled tree (names_of labelled)) (sym meant.pattern) pattern in
    let numbers = columns_of-are labelled scope agrees query.pattern tree.columns columns in
    let column_numbers : AreColumnsOf (names_of labelled) query.pattern tree.columns (map (λ column. column.0) query.columns) =
    subst (AreColumnsOf (names_of labelled) query.pattern tree.columns) (sym meant.columns) numbers in
    record {
      names = subst (AreNames labelled) (sym meant.names) (names_of-are labelled all);
      pattern = subst (λ (names : List (List ℕ)). PatternIs labelled tree names query.pattern) (sym meant.names) here;
      numbered = subst IsNumbered (sym meant.pattern) (pattern_of-numbered scope tree.group);
      columns = subst (λ (names : List (List ℕ)). AreColumnsOf names query.pattern tree.columns (map (λ column. column.0) query.columns)) (sym meant.names) column_numbers;
      distinct = meant.distinct;
    }

-- what is meant is what is computed
meant-computed : (tree : Syntax) (labelled : List Labelled) (query : AbstractQuery) → AreProper labelled → IsMeantBy tree labelled query → computed.IsMeantBy tree labelled query
meant-computed tree labelled query all meant =
    let scope = scope_of labelled in
    let agrees = agree labelled all in
    let names : query.names ≡ names_of labelled = AreNames-is labelled query.names meant.names in
    let here : PatternIs labelled tree (names_of labelled) query.pattern = subst (λ (ns : List (List ℕ)). PatternIs labelled tree ns query.pattern) names meant.pattern in
    let column_numbers : AreColumnsOf (names_of labelled) query.pattern tree.columns (map (λ column. column.0) query.columns) =
    subst (λ (ns : List (List ℕ)). AreColumnsOf ns query.pattern tree.columns (map (λ column. column.0) query.columns)) names meant.columns in
    record {
      names = names;
      pattern = is-pattern_of labelled scope agrees tree.group query.pattern here meant.numbered;
      columns = AreColumnsOf-are scope query.pattern tree.columns (map (λ column. column.0) query.columns) (names-differ labelled) column_numbers;
      distinct = meant.distinct;
    }

-- the tokens of a query
query-proper : (text : List ℕ) (tokens : List Lexeme) (labelled : List Labelled) (tree : Syntax) → IsUtf8 text → AreTokens text tokens → tokens_of labelled ≡ tokens → IsQuery tree labelled → AreProper labelled
query-proper text tokens labelled tree utf8 are same is_query =
    let run : read_tokens start (tokens_of labelled) ≡ Some (reading_at labelled ended) = query-run tree labelled is_query in
    let reads : Reads ended start labelled = (run-reads (tokens_of labelled) start (reading_at labelled ended) run).reads in
    front-proper text tokens [] labelled ended utf8 are (sym same ∙ sym (append-nil (tokens_of labelled))) reads

-- a query that is computed is denoted
computed-denotes : (text : List ℕ) (query : AbstractQuery) → computed.Denotes text query → Denotes text query
computed-denotes text query d =
    let all = query-proper text d.tokens d.labelled d.tree d.utf8 d.are_tokens d.same_tokens d.is_query in
    record {
      utf8 = d.utf8;
      tokens = d.tokens;
      labelled = d.labelled;
      tree = d.tree;
      are_tokens = d.are_tokens;
      same_tokens = d.same_tokens;
      is_query = d.is_query;
      no_faults = computed-none d.labelled all d.no_faults;
      meant = computed-meant d.tree d.labelled query all d.no_faults d.is_query d.meant;
    }

-- a query that is denoted is computed
pub denotes-computed : (text : List ℕ) (query : AbstractQuery) → Denotes text query → computed.Denotes text query
denotes-computed text query d =
    let all = query-proper text d.tokens d.labelled d.tree d.utf8 d.are_tokens d.same_tokens d.is_query in
    record {
      utf8 = d.utf8;
      tokens = d.tokens;
      labelled = d.labelled;
      tree = d.tree;
      are_tokens = d.are_tokens;
      same_tokens = d.same_tokens;
      is_query = d.is_query;
      no_faults = none-computed d.labelled all d.no_faults;
      meant = meant-computed d.tree d.labelled query all d.meant;
    }

-- faults
own-computed : (text : List ℕ) (tokens : List Lexeme) (fault : QueryFault) → IsUtf8 text → AreTokens text tokens → HasOwnFault tokens fault → computed.HasOwnFault tokens fault
own-computed text tokens fault utf8 are own =
    let (last, reads) = begins-reads (own.before ++ own.token ∷ []) own.begins in
    let all = front-proper text tokens own.after (own.before ++ own.token ∷ []) last utf8 are own.split reads in
    record {
      before = own.before;
      token = own.token;
      after = own.after;
      split = own.split;
      begins = own.begins;
      none_before = none-computed own.before (AreProper-front own.before (own.token ∷ []) all) own.none_before;
      is_fault = HasFault-is own.before own.token all fault own.has;
    }

-- a fault of a token that is computed is one
computed-own : (text : List ℕ) (tokens : List Lexeme) (fault : QueryFault) → IsUtf8 text → AreTokens text tokens → computed.HasOwnFault tokens fault → HasOwnFault tokens fault
computed-own text tokens fault utf8 are own =
    let (last, reads) = begins-reads (own.before ++ own.token ∷ []) own.begins in
    let all = front-proper text tokens own.after (own.before ++ own.token ∷ []) last utf8 are own.split reads in
    record {
      before = own.before;
      token = own.token;
      after = own.after;
      split = own.split;
      begins = own.begins;
      none_before = computed-none own.before (AreProper-front own.before (own.token ∷ []) all) own.none_before;
      has = is-HasFault own.before own.token all fault own.is_fault;
    }

-- a fault of the grammar is computed
grammar-computed : (text : List ℕ) (tokens : List Lexeme) (fault : QueryFault) → IsUtf8 text → AreTokens text tokens → HasGrammarFault text tokens fault → computed.HasGrammarFault text tokens fault
grammar-computed text tokens fault utf8 are has =
    let (last, reads) = begins-reads has.before has.begins in
    let all = front-proper text tokens has.after has.before last utf8 are has.split reads in
    record { before = has.before; after = has.after; split = has.split; begins = has.begins; none_before = none-computed has.before all has.none_before; at = has.at; is_fault = has.is_fault }

-- a fault of the grammar that is computed is one
computed-grammar : (text : List ℕ) (tokens : List Lexeme) (fault : QueryFault) → IsUtf8 text → AreTokens text tokens → computed.HasGrammarFault text tokens fault → HasGrammarFault text tokens fault
computed-grammar text tokens fault utf8 are has =
    let (last, reads) = begins-reads has.before has.begins in
    let all = front-proper text tokens has.after has.before last utf8 are has.split reads in
    record { before = has.before; after = has.after; split = has.split; begins = has.begins; none_before = computed-none has.before all has.none_before; at = has.at; is_fault = has.is_fault }

-- a fault of a text is computed
fault-computed : (text : List ℕ) (fault : QueryFault) → IsFaultOf text fault → computed.IsFaultOf text fault
fault-computed text fault (IsFaultOf.not_utf8 good up is) = computed.IsFaultOf.not_utf8 good up is
fault-computed text fault (IsFaultOf.of_token tokens utf8 are own) = computed.IsFaultOf.of_token tokens utf8 are (own-computed text tokens fault utf8 are own)
fault-computed text fault (IsFaultOf.of_grammar tokens utf8 are has) = computed.IsFaultOf.of_grammar tokens utf8 are (grammar-computed text tokens fault utf8 are has)

-- a fault of a text that is computed is one
computed-fault : (text : List ℕ) (fault : QueryFault) → computed.IsFaultOf text fault → IsFaultOf text fault
computed-fault text fault (computed.IsFaultOf.not_utf8 good up is) = IsFaultOf.not_utf8 good up is
computed-fault text fault (computed.IsFaultOf.of_token tokens utf8 are own) = IsFaultOf.of_token tokens utf8 are (computed-own text tokens fault utf8 are own)
computed-fault text fault (computed.IsFaultOf.of_grammar tokens utf8 are has) = IsFaultOf.of_grammar tokens utf8 are (computed-grammar text tokens fault utf8 are has)

-- what is read of a text is what it denotes, or its fault
pub reading-denotes : (text : List ℕ) (query : AbstractQuery) → query_reading text ≡ Ok query → Denotes text query
reading-denotes text query e = computed-denotes text query (computed_laws.reading-denotes text query e)

-- the query that a text denotes is read of it
pub denotes-reading : (text : List ℕ) (query : AbstractQuery) → Denotes text query → query_reading text ≡ Ok query
denotes-reading text query d = computed_laws.denotes-reading text query (denotes-computed text query d)

-- a fault that is read of a text is one
pub reading-is_fault : (text : List ℕ) (fault : QueryFault) → query_reading text ≡ Err fault → IsFaultOf text fault
reading-is_fault text fault e = computed-fault text fault (computed_laws.reading-is_fault text fault e)

-- the fault of a text is read of it
pub fault-reading : (text : List ℕ) (fault : QueryFault) → IsFaultOf text fault → query_reading text ≡ Err fault
fault-reading text fault is = computed_laws.fault-reading text fault (fault-computed text fault is)

-- each text denotes one query or has one fault
some-result : (text : List ℕ) (result : Result AbstractQuery QueryFault) → query_reading text ≡ result → ((query : AbstractQuery) × Denotes text query) ⊎ ((fault : QueryFault) × IsFaultOf text fault)
some-result text (Ok query) is = inl (query, reading-denotes text query is)
some-result text (Err fault) is = inr (fault, reading-is_fault text fault is)

-- by reading the text
pub some-reading : (text : List ℕ) → ((query : AbstractQuery) × Denotes text query) ⊎ ((fault : QueryFault) × IsFaultOf text fault)
some-reading text = some-result text (query_reading text) refl

-- a text denotes one query
pub one-query : (text : List ℕ) (query other : AbstractQuery) → Denotes text query → Denotes text other → query ≡ other
one-query text query other d o = Ok-one query other (query_reading text) (denotes-reading text query d) (denotes-reading text other o)

-- a text has one fault
pub one-fault : (text : List ℕ) (fault other : QueryFault) → IsFaultOf text fault → IsFaultOf text other → fault ≡ other
one-fault text fault other is o = Err-one fault other (query_reading text) (fault-reading text fault is) (fault-reading text other o)

-- a text has no fault where it denotes a query
pub not-both : (text : List ℕ) (query : AbstractQuery) (fault : QueryFault) → Denotes text query → ¬ IsFaultOf text fault
not-both text query fault d is = Ok-not-Err query fault (query_reading text) (denotes-reading text query d) (fault-reading text fault is)

-- an answer of the parser, by what is read
abbrev pub IsRead : List ℕ → Result Query QueryFault → Type 0
IsRead text result = MatchResult result (λ query. query_reading text ≡ Ok (abstract_of query)) (IsMemoryOr (query_reading text))

-- an answer that is a query is denoted
pub read-query : (text : List ℕ) (result : Result Query QueryFault) → IsRead text result → IfOk result (λ query. Denotes text (abstract_of query))
read-query text (Ok query) is = reading-denotes text (abstract_of query) is
read-query text (Err fault) is = tt

-- an answer that is a fault is one of the text, or memory ran out
pub read-fault : (text : List ℕ) (result : Result Query QueryFault) → IsRead text result → IfErr result (λ fault. (fault ≡ faults.Memory) ⊎ IsFaultOf text fault)
read-fault text (Ok query) is = tt
read-fault text (Err fault) (inl memory) = inl memory
read-fault text (Err fault) (inr read) = inr (reading-is_fault text fault read)

-- where a query is denoted no other answer comes, but that memory ran out
pub read-only_query : (text : List ℕ) (result : Result Query QueryFault) → IsRead text result → (query : AbstractQuery) → Denotes text query →
    MatchResult result (λ answer. abstract_of answer ≡ query) (λ fault. fault ≡ faults.Memory)
read-only_query text (Ok answer) is query d = Ok-one (abstract_of answer) query (query_reading text) is (denotes-reading text query d)
read-only_query text (Err fault) (inl memory) query d = memory
read-only_query text (Err fault) (inr read) query d = absurd (Ok-not-Err query fault (query_reading text) (denotes-reading text query d) read)

-- where the text has a fault no other answer comes, but that memory ran out
pub read-only_fault : (text : List ℕ) (result : Result Query QueryFault) → IsRead text result → (fault : QueryFault) → IsFaultOf text fault →
    MatchResult result (λ query. ⊥) (λ answer. (answer ≡ faults.Memory) ⊎ (answer ≡ fault))
read-only_fault text (Ok answer) is fault has = Ok-not-Err (abstract_of answer) fault (query_reading text) is (fault-reading text fault has)
read-only_fault text (Err answer) (inl memory) fault has = inl memory
read-only_fault text (Err answer) (inr read) fault has = inr (Err-one answer fault (query_reading text) read (fault-reading text fault has))
