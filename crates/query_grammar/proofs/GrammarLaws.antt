-- The grammar and the push parser: queries are what is read to its end, and the fault stands where the run stops.
use Rattle.std.proofs.Common.{◌≡◌, ◌≢◌, ℕ, suc, ◌<◌, ◌≤◌, ◌⊎◌, inl, inr, ◌↔◌, List, [], ◌∷◌, ◌++◌, length, take, drop, Option, Some, None, IsSome, is_some, refl, sym, ◌∙◌, ap, subst, arith}
use Rattle.std.proofs.lemmas.List.{map-append, take_all, length-take-le, take-append-le, take-append-drop}
use Rattle.query_tokens.specs.Token.{Lexeme}
use Rattle.query_grammar.specs.declared.expect.Expect.{Expect}
use Rattle.query_grammar.specs.declared.expect.Expect.TheVariants as expects
use Rattle.query_grammar.specs.declared.expect.Step.{Step}
use Rattle.query_grammar.specs.declared.expect.State.{State}
use Rattle.query_grammar.specs.Terminals.{terminal_of}
use Rattle.query_grammar.specs.Roles.{Labelled, tokens_of}
use Rattle.query_grammar.specs.Tree.{Syntax}
use Rattle.query_grammar.specs.Grammar.{IsQuery, Begins, AreQuery, HasFaultAt}
use Rattle.query_grammar.specs.Expecting.{start, ended, next_step, Progress, read_before, read_tokens, IsReadToEnd, StopsAt}
use Rattle.query_grammar.proofs.Remainders.{tree_left, remainder_of}
use Rattle.query_grammar.proofs.Carrying.{Reads}
use Rattle.query_grammar.proofs.Productions.{query-reads, query-tree}
use Rattle.query_grammar.proofs.Growing.{reads-query}
use Rattle.query_grammar.proofs.Runs.{reading_of, read-nothing, read-none, read-step, read-step-none, reads-run, run-reads, reads-append, reads-split, read-front, read-last-none}
use Rattle.query_grammar.proofs.Endings.{at_end-ended, state-ends}

-- a query is read to its end, in its roles
pub query-run : (tree : Syntax) (labelled : List Labelled) → IsQuery tree labelled → read_tokens start (tokens_of labelled) ≡ Some (reading_of labelled ended)
query-run tree labelled query = reads-run labelled ended start (query-reads tree labelled query)

pub query-IsReadToEnd : (tree : Syntax) (labelled : List Labelled) → IsQuery tree labelled → IsReadToEnd labelled
query-IsReadToEnd tree labelled query = record { state = ended; run = query-run tree labelled query; at_end = refl }

ended-query : (labelled : List Labelled) (last : State) → Reads last start labelled → last.expect ≡ expects.End → (tree : Syntax) × IsQuery tree labelled
ended-query labelled last reads at_end =
    let e : last ≡ ended = at_end-ended labelled last reads at_end in
    let P : State → Type 0 = λ s. Reads s start labelled in
    (tree_left (remainder_of labelled), reads-query labelled (subst P e reads))

pub IsReadToEnd-query : (labelled : List Labelled) → IsReadToEnd labelled → (tree : Syntax) × IsQuery tree labelled
IsReadToEnd-query labelled read =
    ended-query labelled read.state (run-reads (tokens_of labelled) start (reading_of labelled read.state) read.run).reads read.at_end

-- a list of tokens has one labelling and one tree
pub one-labelling : (t1 t2 : Syntax) (l1 l2 : List Labelled) → IsQuery t1 l1 → IsQuery t2 l2 → tokens_of l1 ≡ tokens_of l2 → l1 ≡ l2
one-labelling t1 t2 l1 l2 q1 q2 same =
    let both : Some (reading_of l1 ended) ≡ Some (reading_of l2 ended) = sym (query-run t1 l1 q1) ∙ ap (read_tokens start) same ∙ query-run t2 l2 q2 in
    let e : reading_of l1 ended ≡ reading_of l2 ended = cc in
    ap (λ (r : Progress). r.labelled) e

pub one-tree : (t1 t2 : Syntax) (l1 l2 : List Labelled) → IsQuery t1 l1 → IsQuery t2 l2 → tokens_of l1 ≡ tokens_of l2 → t1 ≡ t2
one-tree t1 t2 l1 l2 q1 q2 same =
    sym (query-tree t1 l1 q1) ∙ ap (λ l. tree_left (remainder_of l)) (one-labelling t1 t2 l1 l2 q1 q2 same) ∙ query-tree t2 l2 q2

-- tokens that begin a query are read
pub Begins-read : (tokens : List Lexeme) → Begins tokens → (reading : Progress) × (read_tokens start tokens ≡ Some reading)
Begins-read tokens begins =
    read-front tokens begins.more start (reading_of begins.labelled ended)
    (ap (read_tokens start) (sym begins.tokens_are) ∙ query-run begins.tree begins.labelled begins.is_query)

-- the front of a query is read in its roles
pub front-run : (tree : Syntax) (labelled after : List Labelled) → IsQuery tree (labelled ++ after) →
    (state : State) × (read_tokens start (tokens_of labelled) ≡ Some (reading_of labelled state))
front-run tree labelled after query =
    let split = reads-split labelled after ended start (query-reads tree (labelled ++ after) query) in
    (split.0, reads-run labelled split.0 start split.1)

-- what is read in some roles is the front of a query in these roles
pub read-front_of_query : (tokens : List Lexeme) (reading : Progress) → read_tokens start tokens ≡ Some reading →
    (after : List Labelled) × (tree : Syntax) × IsQuery tree (reading.labelled ++ after)
read-front_of_query tokens reading read =
    let run = run-reads tokens start reading read in
    let rest = state-ends reading.labelled reading.state run.reads in
    let all = reads-append reading.labelled rest.0 ended reading.state start run.reads rest.1 in
    (rest.0, tree_left (remainder_of (reading.labelled ++ rest.0)), reads-query (reading.labelled ++ rest.0) all)

-- tokens that are read begin a query
pub read-Begins : (tokens : List Lexeme) (reading : Progress) → read_tokens start tokens ≡ Some reading → Begins tokens
read-Begins tokens reading read =
    let run = run-reads tokens start reading read in
    let rest = state-ends reading.labelled reading.state run.reads in
    let all = reads-append reading.labelled rest.0 ended reading.state start run.reads rest.1 in
    let e : tokens_of (reading.labelled ++ rest.0) ≡ tokens ++ tokens_of rest.0 =
    map-append (λ (l : Labelled). l.token) reading.labelled rest.0 ∙ ap (λ ts. ts ++ tokens_of rest.0) run.tokens_are in
    record {
      more = tokens_of rest.0;
      tree = tree_left (remainder_of (reading.labelled ++ rest.0));
      labelled = reading.labelled ++ rest.0;
      is_query = reads-query (reading.labelled ++ rest.0) all;
      tokens_are = e;
    }

-- tokens that are read, and at whose end nothing more is expected, are a query
pub read-AreQuery : (tokens : List Lexeme) (reading : Progress) → read_tokens start tokens ≡ Some reading → reading.state.expect ≡ expects.End → AreQuery tokens
read-AreQuery tokens reading read at_end =
    let run = run-reads tokens start reading read in
    let query = ended-query reading.labelled reading.state run.reads at_end in
    record { tree = query.0; labelled = reading.labelled; is_query = query.1; tokens_are = run.tokens_are }

-- tokens that are a query are read, and at their end nothing more is expected
pub AreQuery-read : (tokens : List Lexeme) → AreQuery tokens → (labelled : List Labelled) × (read_tokens start tokens ≡ Some (reading_of labelled ended))
AreQuery-read tokens query =
    (query.labelled, ap (read_tokens start) (sym query.tokens_are) ∙ query-run query.tree query.labelled query.is_query)

-- a token that is not read, with those before it, begins no query
pub none-Begins : (tokens : List Lexeme) → read_tokens start tokens ≡ None → ¬ Begins tokens
none-Begins tokens none begins = let e : None ≡ Some (Begins-read tokens begins).0 = sym none ∙ (Begins-read tokens begins).1 in cc

unread-none : (tokens : List Lexeme) (result : Option Progress) → read_tokens start tokens ≡ result → ¬ Begins tokens → read_tokens start tokens ≡ None
unread-none tokens None is not_begun = is
unread-none tokens (Some reading) is not_begun = absurd (not_begun (read-Begins tokens reading is))

pub not_begun-none : (tokens : List Lexeme) → ¬ Begins tokens → read_tokens start tokens ≡ None
not_begun-none tokens not_begun = unread-none tokens (read_tokens start tokens) refl not_begun

pub next_none-not_begun : (tokens : List Lexeme) (token : Lexeme) (reading : Progress) → read_tokens start tokens ≡ Some reading →
    next_step reading.state (terminal_of token) ≡ None → ¬ Begins (tokens ++ token ∷ [])
next_none-not_begun tokens token reading read is = none-Begins (tokens ++ token ∷ []) (read-last-none tokens token start reading read is)

-- the fault of the grammar stands where the run stops
whole : (tokens : List Lexeme) (i : ℕ) → i ≡ length tokens → take i tokens ≡ tokens
whole tokens i e = let le : length tokens ≤ i = omega arith in take_all i tokens le

pub HasFaultAt-StopsAt : (tokens : List Lexeme) (i : ℕ) → HasFaultAt tokens i → StopsAt tokens i
HasFaultAt-StopsAt tokens i has =
    let read = Begins-read (take i tokens) has.before in
    record {
      reading = read.0;
      before = read.1;
      stops = elim has.fault [
        | inl in_tokens ↦ inl (in_tokens.0, not_begun-none (take (suc i) tokens) in_tokens.1)
        | inr at_end ↦ inr (at_end.0, λ done. at_end.1 (read-AreQuery tokens read.0 (ap (read_tokens start) (sym (whole tokens i at_end.0)) ∙ read.1) done))
      ];
    }

ended-expect : (labelled : List Labelled) (reading : Progress) (result : Option Progress) → result ≡ Some reading → result ≡ Some (reading_of labelled ended) → reading.state.expect ≡ expects.End
ended-expect labelled reading result a b =
    let e : reading ≡ reading_of labelled ended = cc in ap (λ (r : Progress). r.state.expect) e

pub StopsAt-HasFaultAt : (tokens : List Lexeme) (i : ℕ) → StopsAt tokens i → HasFaultAt tokens i
StopsAt-HasFaultAt tokens i stop =
    record {
      before = read-Begins (take i tokens) stop.reading stop.before;
      fault = elim stop.stops [
        | inl in_tokens ↦ inl (in_tokens.0, none-Begins (take (suc i) tokens) in_tokens.1)
        | inr at_end ↦ inr (
          at_end.0,
          λ query. at_end.1 (
              let read = AreQuery-read tokens query in
              ended-expect read.0 stop.reading (read_tokens start tokens) (ap (read_tokens start) (sym (whole tokens i at_end.0)) ∙ stop.before) read.1),
        )
      ];
    }

some-IsSome : {A : Type 0} (o : Option A) (x : A) → o ≡ Some x → IsSome o
some-IsSome o x e = ap (λ p. is_some p) e

IsSome-some : {A : Type 0} (o : Option A) → IsSome o → (x : A) × (o ≡ Some x)
IsSome-some (Some x) is = (x, refl)
IsSome-some None is = cc

pub Begins-IsSome : (tokens : List Lexeme) → Begins tokens ↔ IsSome (read_tokens start tokens)
Begins-IsSome tokens = (
  λ begins. let read = Begins-read tokens begins in some-IsSome (read_tokens start tokens) read.0 read.1,
  λ some. let read = IsSome-some (read_tokens start tokens) some in read-Begins tokens read.0 read.1,
)

-- what begins a query has fronts that begin one
begun-front : (front back : List Lexeme) → Begins (front ++ back) → Begins front
begun-front front back begins =
    let read = Begins-read (front ++ back) begins in
    let before = read-front front back start read.0 read.1 in
    read-Begins front before.0 before.1

begun-before : (tokens : List Lexeme) (k j : ℕ) → k ≤ j → j ≤ length tokens → Begins (take j tokens) → Begins (take k tokens)
begun-before tokens k j k_below j_in begins =
    let in_front : k ≤ length (take j tokens) = rw length-take-le k_below in
    let same : take k (take j tokens) ≡ take k tokens =
    sym (take-append-le k (take j tokens) (drop j tokens) in_front) ∙ ap (take k) (take-append-drop j tokens) in
    let split : Begins (take k (take j tokens) ++ drop k (take j tokens)) = subst Begins (sym (take-append-drop k (take j tokens))) begins in
    subst Begins same (begun-front (take k (take j tokens)) (drop k (take j tokens)) split)

in-tokens : (tokens : List Lexeme) (i : ℕ) → HasFaultAt tokens i → i ≤ length tokens
in-tokens tokens i has = elim has.fault [ inl inside ↦ (let lt : i < length tokens = inside.0 in omega arith) | inr at_end ↦ (let e : i ≡ length tokens = at_end.0 in omega arith) ]

no_later-fault : (tokens : List Lexeme) (i j : ℕ) → HasFaultAt tokens i → HasFaultAt tokens j → i < j → ⊥
no_later-fault tokens i j first later below =
    let j_in : j ≤ length tokens = in-tokens tokens j later in
    elim first.fault [
      | inl inside ↦ inside.1 (begun-before tokens (suc i) j (let le : suc i ≤ j = omega arith in le) j_in later.before)
      | inr at_end ↦ (let e : i ≡ length tokens = at_end.0 in absurd (omega arith))
    ]

pub one-fault : (tokens : List Lexeme) (i j : ℕ) → HasFaultAt tokens i → HasFaultAt tokens j → i ≡ j
one-fault tokens i j first other =
    let not_below : i < j → ⊥ = no_later-fault tokens i j first other in
    let not_above : j < i → ⊥ = no_later-fault tokens j i other first in
    omega arith

query-Begins : (tokens : List Lexeme) → AreQuery tokens → Begins tokens
query-Begins tokens query = let read = AreQuery-read tokens query in read-Begins tokens (reading_of read.0 ended) read.1

pub query-no_fault : (tokens : List Lexeme) (i : ℕ) → AreQuery tokens → ¬ HasFaultAt tokens i
query-no_fault tokens i query has = elim has.fault [
  | inl inside ↦ (
      let lt : suc i ≤ length tokens = (let l : i < length tokens = inside.0 in omega arith) in
      let le : length tokens ≤ length tokens = omega arith in
      let all : Begins (take (length tokens) tokens) = subst Begins (sym (take_all (length tokens) tokens le)) (query-Begins tokens query) in
      inside.1 (begun-before tokens (suc i) (length tokens) lt le all))
  | inr at_end ↦ at_end.1 query
]

-- the first token that is not read from a state on, if there is one
data FirstUnread (state : State) (tokens : List Lexeme) : Type 0 where
  all_read : (reading : Progress) → read_tokens state tokens ≡ Some reading → FirstUnread state tokens
  unread : (i : ℕ) (reading : Progress) → i < length tokens → read_tokens state (take i tokens) ≡ Some reading → read_tokens state (take (suc i) tokens) ≡ None → FirstUnread state tokens

unread-after : (state : State) (token : Lexeme) (tokens : List Lexeme) (step : Step) → next_step state (terminal_of token) ≡ Some step →
    FirstUnread step.state tokens → FirstUnread state (token ∷ tokens)
unread-after state token tokens step is (all_read reading read) =
    all_read (read_before step.role token reading) (read-step state token tokens step reading is read)
unread-after state token tokens step is (unread i reading below read none) =
    unread (suc i) (read_before step.role token reading) (let lt : suc i < suc (length tokens) = omega arith in lt)
    (read-step state token (take i tokens) step reading is read) (read-step-none state token (take (suc i) tokens) step is none)

first-unread-step : (state : State) (token : Lexeme) (tokens : List Lexeme) (step : Option Step) → next_step state (terminal_of token) ≡ step →
    ((next : State) → FirstUnread next tokens) → FirstUnread state (token ∷ tokens)
first-unread-step state token tokens None is rest =
    unread 0 (reading_of [] state) (let lt : 0 < suc (length tokens) = omega arith in lt) (read-nothing state) (read-none state token [] is)
first-unread-step state token tokens (Some step) is rest = unread-after state token tokens step is (rest step.state)

first-unread : (tokens : List Lexeme) (state : State) → FirstUnread state tokens
first-unread [] state = all_read (reading_of [] state) (read-nothing state)
first-unread (token ∷ tokens) state = first-unread-step state token tokens (next_step state (terminal_of token)) refl (first-unread tokens)

-- nothing more is expected, or something is
pub is-end : (expect : Expect) → (expect ≡ expects.End) ⊎ (expect ≢ expects.End)
is-end expects.End = inl refl
is-end _ = inr (λ e. cc)

query-or-fault-read : (tokens : List Lexeme) → FirstUnread start tokens → AreQuery tokens ⊎ ((i : ℕ) × HasFaultAt tokens i)
query-or-fault-read tokens (unread i reading below read none) =
    inr (i, StopsAt-HasFaultAt tokens i (record { reading = reading; before = read; stops = inl (below, none) }))
query-or-fault-read tokens (all_read reading read) = elim (is-end reading.state.expect) [
  | inl done ↦ inl (read-AreQuery tokens reading read done)
  | inr going ↦ inr (
    length tokens,
    StopsAt-HasFaultAt tokens (length tokens) (record {
      reading = reading;
      before = ap (read_tokens start) (whole tokens (length tokens) refl) ∙ read;
      stops = inr (refl, going);
    }),
  )
]

pub query-or-fault : (tokens : List Lexeme) → AreQuery tokens ⊎ ((i : ℕ) × HasFaultAt tokens i)
query-or-fault tokens = query-or-fault-read tokens (first-unread tokens start)
