-- One token more of a query.
use Rattle.std.proofs.Common.{◌≡◌, ℕ, suc, ◌+◌, ◌<◌, ◌≤◌, length, map, drop, get_or, All, List, [], ◌∷◌, ◌++◌, Some, None, Ok, Err, refl, ap, subst, ◌∙◌, sym, arith}
use Rattle.std.proofs.lemmas.List.Elements.{All-append, All-cons, All-nil}
use Rattle.std.proofs.Math.Seq.{drop-cons}
use Rattle.std.proofs.Math.ListN.{get_or-map}
use Rattle.std.proofs.lemmas.List.{length-map, map-append, drop_all}
use Rattle.query_tokens.specs.Token.{Lexeme, shown}
use Rattle.query_tokens.specs.declared.token.Token.{Token}
use Rattle.query_grammar.specs.declared.expect.State.{State}
use Rattle.query_grammar.specs.declared.expect.Step.{Step}
use Rattle.query_grammar.specs.Terminals.{terminal_of}
use Rattle.query_grammar.specs.Words.{unsupported_word}
use Rattle.query_grammar.specs.Roles.{Labelled, with_role, tokens_of, open_groups}
use Rattle.query_grammar.specs.Expecting.{start, next_step, Progress, read_tokens}
use Rattle.query_grammar.proofs.Runs.{read-last, read-nothing}
use Rattle.query_grammar.proofs.Depth.{groups-open_groups}
use Rattle.sparql_parse.specs.declared.fault.QueryFault.{QueryFault}
use Rattle.query_values.specs.reading.Values.{IsSpelled}
use Rattle.sparql_parse.specs.computed.Faults.{fault_of}
use Rattle.sparql_parse.specs.computed.Symbols.{Symbols, symbols_of, symbols_after, fault_after, IsWithin}
use Rattle.sparql_parse.specs.computed.Names.{names_of}
use Rattle.sparql_parse.specs.Denotes.{word_fault}
use Rattle.sparql_parse.specs.computed.Reading.{read_on, and_then, read_step, read_next, unless_fault}
use Rattle.sparql_parse.specs.held.Readers.{IsKeptOf}
use Rattle.query_values.specs.reading.Values.{IsSpelledOrBad}
use Rattle.sparql_parse.proofs.NameLaws.{no_fault-within, no_fault-shallow}
use Rattle.sparql_parse.proofs.SymbolLaws.{kept-more, fault-kept}

abbrev pub reading_at : List Labelled → State → Progress
reading_at labelled state = record { labelled = labelled; state = state }

-- the run goes on with a token that the grammar reads
run-more : (ls : List Labelled) (s : State) (token : Lexeme) (step : Step) → read_tokens start (tokens_of ls) ≡ Some (reading_at ls s) → next_step s (terminal_of token) ≡ Some step →
    read_tokens start (tokens_of (ls ++ with_role step.role token ∷ [])) ≡ Some (reading_at (ls ++ with_role step.role token ∷ []) step.state)
run-more ls s token step run is =
    let tokens_are : tokens_of (ls ++ with_role step.role token ∷ []) ≡ tokens_of ls ++ token ∷ [] = map-append (λ (m : Labelled). m.token) ls (with_role step.role token ∷ []) in
    ap (read_tokens start) tokens_are ∙ read-last (tokens_of ls) token start (reading_at ls s) step run is

-- the fault of a token that the grammar reads, by what is kept
pub fault-step : (ls : List Labelled) (s : State) (k : Symbols) (token : Lexeme) (step : Step) → IsKeptOf ls s k → next_step s (terminal_of token) ≡ Some step →
    fault_of ls (with_role step.role token) ≡ fault_after k step.state.groups (with_role step.role token)
fault-step ls s k token step is_kept is =
    let l = with_role step.role token in
    let run = run-more ls s token step is_kept.run is in
    let depth : step.state.groups ≡ open_groups (ls ++ l ∷ []) = groups-open_groups (tokens_of (ls ++ l ∷ [])) (reading_at (ls ++ l ∷ []) step.state) run in
    fault-kept ls l
    ∙ ap (λ n. fault_after (symbols_of ls) n l) (sym depth)
    ∙ ap (λ (kept : Symbols). fault_after kept step.state.groups l) (sym is_kept.same)

pub kept-step : (ls : List Labelled) (s : State) (k : Symbols) (token : Lexeme) (step : Step) → IsKeptOf ls s k → next_step s (terminal_of token) ≡ Some step →
    fault_after k step.state.groups (with_role step.role token) ≡ None → IsSpelled token →
    IsKeptOf (ls ++ with_role step.role token ∷ []) step.state (symbols_after k (with_role step.role token))
kept-step ls s k token step is_kept is none spelled =
    let l = with_role step.role token in
    record {
      run = run-more ls s token step is_kept.run is;
      same = ap (λ (kept : Symbols). symbols_after kept l) is_kept.same ∙ sym (kept-more ls l);
      shallow = no_fault-shallow k step.state.groups l none;
      within = no_fault-within k step.state.groups l none;
      spelled = All-append (λ (m : Labelled). IsSpelled m.token) ls (l ∷ []) is_kept.spelled (All-cons (λ (m : Labelled). IsSpelled m.token) l [] spelled (All-nil (λ (m : Labelled). IsSpelled m.token)));
    }

-- what is read with a token
pub next-unread : (r : Progress) (token : Lexeme) → next_step r.state (terminal_of token) ≡ None → read_next r token ≡ Err (word_fault token.at (unsupported_word token))
unfolding read_next
next-unread r token is = ap (read_step r token) is

abbrev pub reading_after : Progress → Lexeme → Step → Progress
reading_after r token step = record { labelled = r.labelled ++ with_role step.role token ∷ []; state = step.state }

pub next-read : (r : Progress) (token : Lexeme) (step : Step) → next_step r.state (terminal_of token) ≡ Some step → fault_of r.labelled (with_role step.role token) ≡ None →
    read_next r token ≡ Ok (reading_after r token step)
unfolding read_next
next-read r token step is none = ap (read_step r token) is ∙ ap (unless_fault (reading_after r token step)) none

pub next-fault : (r : Progress) (token : Lexeme) (step : Step) (fault : QueryFault) → next_step r.state (terminal_of token) ≡ Some step → fault_of r.labelled (with_role step.role token) ≡ Some fault →
    read_next r token ≡ Err fault
unfolding read_next
next-fault r token step fault is some = ap (read_step r token) is ∙ ap (unless_fault (reading_after r token step)) some

-- before the first token
names-none : names_of [] ≡ []
unfolding names_of
names-none = refl

within-none : IsWithin (symbols_of []).names (symbols_of []).tally
within-none = rw names-none (record { names = omega arith; objects = omega arith; optionals = omega arith; groups = omega arith })

pub kept-none : IsKeptOf [] start (symbols_of [])
kept-none = record { run = read-nothing start; same = refl; shallow = omega arith; within = within-none; spelled = All-nil (λ (m : Labelled). IsSpelled m.token) }

-- the first of some tokens is read, and then the others
pub read_on-more : (r next : Progress) (token : Lexeme) (tokens : List Lexeme) → read_next r token ≡ Ok next → read_on r (token ∷ tokens) ≡ read_on next tokens
unfolding read_on
read_on-more r next token tokens e = ap (λ x. and_then (λ n. read_on n tokens) x) e

pub read_on-fault : (r : Progress) (fault : QueryFault) (token : Lexeme) (tokens : List Lexeme) → read_next r token ≡ Err fault → read_on r (token ∷ tokens) ≡ Err fault
unfolding read_on
read_on-fault r fault token tokens e = ap (λ x. and_then (λ n. read_on n tokens) x) e

pub read_on-all : (r : Progress) → read_on r [] ≡ Ok r
unfolding read_on
read_on-all r = refl

-- the tokens of the code from a place on
shown-drop : (xs : List Token) (i : ℕ) (d : Token) → i < length xs → map shown (drop i xs) ≡ shown (get_or xs i d) ∷ map shown (drop (i + 1) xs)
shown-drop xs i d inside =
    let one : suc i ≡ i + 1 = omega arith in
    ap (map shown) (drop-cons xs i d inside) ∙ ap (λ n. shown (get_or xs i d) ∷ map shown (drop n xs)) one

pub place-fault : (xs : List Token) (i : ℕ) (d : Token) (r : Progress) (fault : QueryFault) → i < length xs →
    read_next r (shown (get_or xs i d)) ≡ Err fault → read_on r (map shown (drop i xs)) ≡ Err fault
place-fault xs i d r fault inside e =
    ap (read_on r) (shown-drop xs i d inside) ∙ read_on-fault r fault (shown (get_or xs i d)) (map shown (drop (i + 1) xs)) e

pub place-more : (xs : List Token) (i : ℕ) (d : Token) (r next : Progress) → i < length xs →
    read_next r (shown (get_or xs i d)) ≡ Ok next → read_on r (map shown (drop i xs)) ≡ read_on next (map shown (drop (i + 1) xs))
place-more xs i d r next inside e =
    ap (read_on r) (shown-drop xs i d inside) ∙ read_on-more r next (shown (get_or xs i d)) (map shown (drop (i + 1) xs)) e

pub place-spelled : (xs : List Token) (i : ℕ) (d : Token) → i < length xs → All IsSpelledOrBad (map shown xs) → IsSpelledOrBad (shown (get_or xs i d))
place-spelled xs i d inside all =
    let within : i < length (map shown xs) = rw length-map inside in
    subst IsSpelledOrBad (get_or-map shown xs i d) (all i (shown d) within)

pub place-end : (xs : List Token) (i : ℕ) (r : Progress) → length xs ≤ i → read_on r (map shown (drop i xs)) ≡ Ok r
place-end xs i r past = ap (λ ts. read_on r (map shown ts)) (drop_all i xs past) ∙ read_on-all r
