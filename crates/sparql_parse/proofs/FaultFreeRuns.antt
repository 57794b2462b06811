-- Tokens that begin a query and have no fault are read, and what is read are such tokens.
use Rattle.std.proofs.Common.{◌≡◌, ◌⊎◌, inl, inr, List, [], ◌∷◌, ◌++◌, Option, Some, None, Result, Ok, Err, refl, sym, ap, subst, ◌∙◌, append_assoc, append-nil}
use Rattle.std.proofs.lemmas.List.{map-append}
use Rattle.query_tokens.specs.Token.{Lexeme}
use Rattle.query_grammar.specs.declared.expect.State.{State}
use Rattle.query_grammar.specs.declared.expect.Step.{Step}
use Rattle.query_grammar.specs.Terminals.{terminal_of}
use Rattle.query_grammar.specs.Words.{unsupported_word}
use Rattle.query_grammar.specs.Roles.{Labelled, with_role, tokens_of}
use Rattle.query_grammar.specs.Expecting.{start, next_step, Progress}
use Rattle.query_grammar.proofs.Carrying.{Reads, step_of}
use Rattle.query_grammar.proofs.Runs.{reads-run, run-reads, reads-append}
use Rattle.query_grammar.proofs.GrammarLaws.{front-run, read-front_of_query}
use Rattle.sparql_parse.specs.declared.fault.QueryFault.{QueryFault}
use Rattle.sparql_parse.specs.computed.Faults.{fault_of}
use Rattle.sparql_parse.proofs.ComputedDenotes.{HasNoFaults, HasOwnFault}
use Rattle.sparql_parse.specs.Denotes.{BeginsSo, word_fault}
use Rattle.sparql_parse.specs.computed.Reading.{read_next, read_on}
use Rattle.sparql_parse.proofs.FaultFree.{none-more}
use Rattle.sparql_parse.proofs.ReadingLaws.{reading_at, reading_after, next-unread, next-read, next-fault, read_on-more, read_on-fault, read_on-all}

-- what is read begins a query, and no token of it has a fault
pub record IsFaultFree (r : Progress) : Type 0 where
  pub reads : Reads r.state start r.labelled
  pub none : HasNoFaults r.labelled

pub reads-begins : (ls : List Labelled) (last : State) → Reads last start ls → BeginsSo ls
reads-begins ls last reads =
    let (after, tree, query) = read-front_of_query (tokens_of ls) (reading_at ls last) (reads-run ls last start reads) in
    record { after = after; tree = tree; is_query = query }

pub begins-reads : (ls : List Labelled) → BeginsSo ls → (last : State) × Reads last start ls
begins-reads ls begins =
    let (last, run) = front-run begins.tree ls begins.after begins.is_query in
    (last, (run-reads (tokens_of ls) start (reading_at ls last) run).reads)

-- tokens without a fault, after others
pub fault_free-read : (ls before : List Labelled) (s last : State) → Reads last s ls → HasNoFaults (before ++ ls) →
    read_on (reading_at before s) (tokens_of ls) ≡ Ok (reading_at (before ++ ls) last)
fault_free-read [] before s last e none =
    read_on-all (reading_at before s) ∙ ap (λ ls. Ok (reading_at ls s)) (sym (append-nil before)) ∙ ap (λ t. Ok (reading_at (before ++ []) t)) e
fault_free-read (l ∷ ls) before s last (next, is, rest) none =
    let assoc : (before ++ l ∷ []) ++ ls ≡ before ++ l ∷ ls = append_assoc before (l ∷ []) ls in
    read_on-more (reading_at before s) (reading_at (before ++ l ∷ []) next) l.token (tokens_of ls) (next-read (reading_at before s) l.token (step_of next l.role) is (none before ls l refl))
    ∙ fault_free-read ls (before ++ l ∷ []) next last rest (subst HasNoFaults (sym assoc) none)
    ∙ ap (λ xs. Ok (reading_at xs last)) assoc

-- some tokens are read, and then the others
append-next : (front back : List Lexeme) (r next : Progress) (token : Lexeme) → ((one : Progress) → read_on one front ≡ Ok next → read_on one (front ++ back) ≡ read_on next back) →
    read_on r (token ∷ front) ≡ Ok next → (one : Result Progress QueryFault) → read_next r token ≡ one → read_on r (token ∷ front ++ back) ≡ read_on next back
append-next front back r next token rest e (Ok one) is = read_on-more r one token (front ++ back) is ∙ rest one (sym (read_on-more r one token front is) ∙ e)
append-next front back r next token rest e (Err fault) is = let both : Err fault ≡ Ok next = sym (read_on-fault r fault token front is) ∙ e in absurd (cc)

pub read_on-append : (front back : List Lexeme) (r next : Progress) → read_on r front ≡ Ok next → read_on r (front ++ back) ≡ read_on next back
read_on-append [] back r next e =
    let both : Ok r ≡ Ok next = sym (read_on-all r) ∙ e in
    let same : r ≡ next = cc in
    ap (λ x. read_on x back) same
read_on-append (token ∷ front) back r next e = append-next front back r next token (λ one. read_on-append front back one next) e (read_next r token) refl

-- the token at which no query goes on, and what is read before it
pub record StopsWith (tokens : List Lexeme) (fault : QueryFault) : Type 0 where
  pub reading : Progress
  pub token : Lexeme
  pub after : List Lexeme
  pub fault_free : IsFaultFree reading
  pub split : tokens ≡ tokens_of reading.labelled ++ token ∷ after
  pub unread : next_step reading.state (terminal_of token) ≡ None
  pub is_fault : fault ≡ word_fault token.at (unsupported_word token)

-- what is read of tokens: all, or up to a fault
abbrev pub Stands : List Lexeme → Result Progress QueryFault → Type 0
Stands tokens (Ok reading) = IsFaultFree reading × (tokens_of reading.labelled ≡ tokens)
Stands tokens (Err fault) = HasOwnFault tokens fault ⊎ StopsWith tokens fault

pub more-tokens : (ls : List Labelled) (l : Labelled) (tokens : List Lexeme) → tokens_of (ls ++ l ∷ []) ++ tokens ≡ tokens_of ls ++ l.token ∷ tokens
more-tokens ls l tokens =
    ap (λ xs. xs ++ tokens) (map-append (λ (m : Labelled). m.token) ls (l ∷ [])) ∙ append_assoc (tokens_of ls) (l.token ∷ []) tokens

reads-more : (r : Progress) (token : Lexeme) (step : Step) → IsFaultFree r → next_step r.state (terminal_of token) ≡ Some step →
    Reads step.state start (r.labelled ++ with_role step.role token ∷ [])
reads-more r token step free is =
    let one : Reads step.state r.state (with_role step.role token ∷ []) = (step.state, is, refl) in
    reads-append r.labelled (with_role step.role token ∷ []) step.state r.state start free.reads one

module _ (all tokens : List Lexeme) (r : Progress) (token : Lexeme) (free : IsFaultFree r) (split : all ≡ tokens_of r.labelled ++ token ∷ tokens) where
  abbrev Rest : Type 0
  Rest = (next : Progress) → IsFaultFree next → all ≡ tokens_of next.labelled ++ tokens → Stands all (read_on next tokens)

  own-stands : Rest → (step : Step) → next_step r.state (terminal_of token) ≡ Some step → (own : Option QueryFault) → fault_of r.labelled (with_role step.role token) ≡ own → Stands all (read_on r (token ∷ tokens))
  own-stands rest step is None none = subst (Stands all) (sym (read_on-more r (reading_after r token step) token tokens (next-read r token step is none)))
      (rest (reading_after r token step) (record { reads = reads-more r token step free is; none = none-more r.labelled (with_role step.role token) free.none none }) (split ∙ sym (more-tokens r.labelled (with_role step.role token) tokens)))
  own-stands rest step is (Some fault) some = subst (Stands all) (sym (read_on-fault r fault token tokens (next-fault r token step fault is some)))
      (inl (record {
        before = r.labelled;
        token = with_role step.role token;
        after = tokens;
        split = split ∙ sym (more-tokens r.labelled (with_role step.role token) tokens);
        begins = reads-begins (r.labelled ++ with_role step.role token ∷ []) step.state (reads-more r token step free is);
        none_before = free.none;
        is_fault = some;
      }))

  step-stands : Rest → (step : Option Step) → next_step r.state (terminal_of token) ≡ step → Stands all (read_on r (token ∷ tokens))
  step-stands rest (Some step) is = own-stands rest step is (fault_of r.labelled (with_role step.role token)) refl
  step-stands rest None is =
      let fault = word_fault token.at (unsupported_word token) in
      subst (Stands all) (sym (read_on-fault r fault token tokens (next-unread r token is)))
      (inr (record { reading = r; token = token; after = tokens; fault_free = free; split = split; unread = is; is_fault = refl }))

pub read-stands : (tokens all : List Lexeme) (r : Progress) → IsFaultFree r → all ≡ tokens_of r.labelled ++ tokens → Stands all (read_on r tokens)
read-stands [] all r free split = subst (Stands all) (sym (read_on-all r)) (free, sym (split ∙ append-nil (tokens_of r.labelled)))
read-stands (token ∷ tokens) all r free split =
    step-stands all tokens r token free split (λ next next_free next_split. read-stands tokens all next next_free next_split) (next_step r.state (terminal_of token)) refl
