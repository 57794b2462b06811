-- Runs over tokens: the run as a relation on labelled tokens, one token more, and a run over a part.
use Rattle.std.proofs.Common.{◌≡◌, List, [], ◌∷◌, ◌++◌, Option, Some, None, refl, sym, ◌∙◌, ap, subst}
use Rattle.std.proofs.lemmas.List.{map-append}
use Rattle.std.specs.Option.{option_and_then}
use Rattle.query_tokens.specs.Token.{Lexeme}
use Rattle.query_grammar.specs.declared.expect.State.{State}
use Rattle.query_grammar.specs.declared.expect.Step.{Step}
use Rattle.query_grammar.specs.Terminals.{terminal_of}
use Rattle.query_grammar.specs.Roles.{Labelled, tokens_of, with_role}
use Rattle.query_grammar.specs.Expecting.{next_step, Progress, read_before, reading_before, read_tokens}
use Rattle.query_grammar.proofs.Carrying.{Reads, step_of}

abbrev pub reading_of : List Labelled → State → Progress
reading_of labelled state = record { labelled = labelled; state = state }

-- a token before others, by what its step is
abbrev behind_step : Lexeme → List Lexeme → Option Step → Option Progress
behind_step token tokens step = option_and_then (λ s. reading_before s.role token (read_tokens s.state tokens)) step

read-cons : (state : State) (token : Lexeme) (tokens : List Lexeme) → read_tokens state (token ∷ tokens) ≡ behind_step token tokens (next_step state (terminal_of token))
unfolding read_tokens
read-cons state token tokens = refl

-- a token that is read, and what is read after it
pub read-step : (state : State) (token : Lexeme) (tokens : List Lexeme) (step : Step) (reading : Progress) →
    next_step state (terminal_of token) ≡ Some step → read_tokens step.state tokens ≡ Some reading →
    read_tokens state (token ∷ tokens) ≡ Some (read_before step.role token reading)
read-step state token tokens step reading is rest =
    read-cons state token tokens ∙ ap (behind_step token tokens) is ∙ ap (reading_before step.role token) rest

-- a token that is not read
pub read-none : (state : State) (token : Lexeme) (tokens : List Lexeme) → next_step state (terminal_of token) ≡ None → read_tokens state (token ∷ tokens) ≡ None
read-none state token tokens is = read-cons state token tokens ∙ ap (behind_step token tokens) is

-- a token that is read, and after it one that is not
pub read-step-none : (state : State) (token : Lexeme) (tokens : List Lexeme) (step : Step) →
    next_step state (terminal_of token) ≡ Some step → read_tokens step.state tokens ≡ None → read_tokens state (token ∷ tokens) ≡ None
read-step-none state token tokens step is rest =
    read-cons state token tokens ∙ ap (behind_step token tokens) is ∙ ap (reading_before step.role token) rest

-- the first step of a run, and the rest of it
pub record FirstStep (state : State) (token : Lexeme) (tokens : List Lexeme) (reading : Progress) : Type 0 where
  pub step : Step
  pub rest : Progress
  pub is : next_step state (terminal_of token) ≡ Some step
  pub rest_is : read_tokens step.state tokens ≡ Some rest
  pub whole : read_before step.role token rest ≡ reading

first-rest : (state : State) (token : Lexeme) (tokens : List Lexeme) (reading : Progress) (step : Step) (rest : Option Progress) →
    next_step state (terminal_of token) ≡ Some step → read_tokens step.state tokens ≡ rest → reading_before step.role token rest ≡ Some reading →
    FirstStep state token tokens reading
first-rest state token tokens reading step (Some rest) is rest_is whole = record { step = step; rest = rest; is = is; rest_is = rest_is; whole = cc }
first-rest state token tokens reading step None is rest_is whole = cc

first-option : (state : State) (token : Lexeme) (tokens : List Lexeme) (reading : Progress) (step : Option Step) →
    next_step state (terminal_of token) ≡ step → behind_step token tokens step ≡ Some reading → FirstStep state token tokens reading
first-option state token tokens reading (Some step) is whole = first-rest state token tokens reading step (read_tokens step.state tokens) is refl whole
first-option state token tokens reading None is whole = cc

pub first-step : (state : State) (token : Lexeme) (tokens : List Lexeme) (reading : Progress) → read_tokens state (token ∷ tokens) ≡ Some reading → FirstStep state token tokens reading
first-step state token tokens reading whole =
    first-option state token tokens reading (next_step state (terminal_of token)) refl (sym (read-cons state token tokens) ∙ whole)

-- no token
pub read-nothing : (state : State) → read_tokens state [] ≡ Some (reading_of [] state)
unfolding read_tokens
read-nothing state = refl

-- the relation is the run
pub reads-run : (labelled : List Labelled) (last state : State) → Reads last state labelled → read_tokens state (tokens_of labelled) ≡ Some (reading_of labelled last)
reads-run [] last state e = read-nothing state ∙ ap (λ s. Some (reading_of [] s)) e
reads-run (l ∷ ls) last state (next, is, rest) =
    read-step state l.token (tokens_of ls) (step_of next l.role) (reading_of ls last) is (reads-run ls last next rest)

-- a run as the relation: its labelled tokens are the tokens
pub record IsRun (state : State) (tokens : List Lexeme) (reading : Progress) : Type 0 where
  pub reads : Reads reading.state state reading.labelled
  pub tokens_are : tokens_of reading.labelled ≡ tokens

run-cons : (state : State) (token : Lexeme) (tokens : List Lexeme) (reading : Progress) → (first : FirstStep state token tokens reading) →
    IsRun first.step.state tokens first.rest → IsRun state (token ∷ tokens) reading
run-cons state token tokens reading first run =
    let here : IsRun state (token ∷ tokens) (read_before first.step.role token first.rest) =
    record { reads = (first.step.state, first.is, run.reads); tokens_are = ap (λ ts. token ∷ ts) run.tokens_are } in
    subst (IsRun state (token ∷ tokens)) first.whole here

run-nothing : (state : State) (reading : Progress) → reading_of [] state ≡ reading → IsRun state [] reading
run-nothing state reading e = let here : IsRun state [] (reading_of [] state) = record { reads = refl; tokens_are = refl } in subst (IsRun state []) e here

pub run-reads : (tokens : List Lexeme) (state : State) (reading : Progress) → read_tokens state tokens ≡ Some reading → IsRun state tokens reading
run-reads [] state reading e =
    let both : Some (reading_of [] state) ≡ Some reading = sym (read-nothing state) ∙ e in
    run-nothing state reading (cc)
run-reads (token ∷ tokens) state reading e =
    let first = first-step state token tokens reading e in
    run-cons state token tokens reading first (run-reads tokens first.step.state first.rest first.rest_is)

-- a run after a run
pub reads-append : (front back : List Labelled) (last middle state : State) → Reads middle state front → Reads last middle back → Reads last state (front ++ back)
reads-append [] back last middle state e reads = let P : State → Type 0 = λ s. Reads last s back in subst P (sym e) reads
reads-append (l ∷ front) back last middle state (next, is, rest) reads = (next, is, reads-append front back last middle next rest reads)

-- a run over labelled tokens is one over their front, and one after it
pub reads-split : (front back : List Labelled) (last state : State) → Reads last state (front ++ back) → (middle : State) × Reads middle state front × Reads last middle back
reads-split [] back last state reads = (state, refl, reads)
reads-split (l ∷ front) back last state (next, is, rest) =
    let split = reads-split front back last next rest in (split.0, (next, is, split.1), split.2)

-- the front of tokens that are read is read
pub read-front : (front back : List Lexeme) (state : State) (reading : Progress) → read_tokens state (front ++ back) ≡ Some reading → (r : Progress) × (read_tokens state front ≡ Some r)
read-front [] back state reading e = (reading_of [] state, read-nothing state)
read-front (token ∷ front) back state reading e =
    let first = first-step state token (front ++ back) reading e in
    let rest = read-front front back first.step.state first.rest first.rest_is in
    (read_before first.step.role token rest.0, read-step state token front first.step rest.0 first.is rest.1)

-- one token more
pub read-last : (front : List Lexeme) (token : Lexeme) (state : State) (reading : Progress) (step : Step) →
    read_tokens state front ≡ Some reading → next_step reading.state (terminal_of token) ≡ Some step →
    read_tokens state (front ++ token ∷ []) ≡ Some (reading_of (reading.labelled ++ with_role step.role token ∷ []) step.state)
read-last front token state reading step read is =
    let run = run-reads front state reading read in
    let one : Reads step.state reading.state (with_role step.role token ∷ []) = (step.state, is, refl) in
    let all = reads-append reading.labelled (with_role step.role token ∷ []) step.state reading.state state run.reads one in
    let e : tokens_of (reading.labelled ++ with_role step.role token ∷ []) ≡ front ++ token ∷ [] =
    map-append (λ (l : Labelled). l.token) reading.labelled (with_role step.role token ∷ []) ∙ ap (λ ts. ts ++ token ∷ []) run.tokens_are in
    ap (read_tokens state) (sym e) ∙ reads-run (reading.labelled ++ with_role step.role token ∷ []) step.state state all

-- one token more, which is not read
pub read-last-none : (front : List Lexeme) (token : Lexeme) (state : State) (reading : Progress) →
    read_tokens state front ≡ Some reading → next_step reading.state (terminal_of token) ≡ None →
    read_tokens state (front ++ token ∷ []) ≡ None
read-last-none [] token state reading read is =
    let both : Some (reading_of [] state) ≡ Some reading = sym (read-nothing state) ∙ read in
    let same : state ≡ reading.state = ap (λ (r : Progress). r.state) (let e : reading_of [] state ≡ reading = cc in e) in
    read-none state token [] (ap (λ s. next_step s (terminal_of token)) same ∙ is)
read-last-none (first_token ∷ front) token state reading read is =
    let first = first-step state first_token front reading read in
    let same : first.rest.state ≡ reading.state = ap (λ (r : Progress). r.state) first.whole in
    let rest = read-last-none front token first.step.state first.rest first.rest_is (ap (λ s. next_step s (terminal_of token)) same ∙ is) in
    read-step-none state first_token (front ++ token ∷ []) first.step first.is rest
