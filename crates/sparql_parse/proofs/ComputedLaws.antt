-- What is read of a text is what it denotes, or its fault, with the values that are computed of its tokens.
use Rattle.std.proofs.Common.{◌≡◌, ◌≢◌, ◌⊎◌, inl, inr, ℕ, suc, ◌<◌, true, false, List, [], ◌∷◌, ◌++◌, length, take, ◌+◌, Option, Some, None, Result, Ok, Err, refl, sym, ap, subst, ◌∙◌, arith, append-nil, true≢false}
use Rattle.std.proofs.lemmas.Str.{IsUtf8-from_is_utf8, is_utf8-from_IsUtf8, utf8_valid_len-IsValidUpTo}
use Rattle.std.proofs.lemmas.List.{length-map, length-append}
use Rattle.std.proofs.Math.Seq.{take-append_seam, take-append-add}
use Rattle.std.specs.Str.{IsUtf8, is_utf8}
use Rattle.std.specs.Str.Lossy.{utf8_valid_len}
use Rattle.query_tokens.specs.Token.{Lexeme}
use Rattle.query_grammar.specs.declared.expect.Expect.TheVariants as expects
use Rattle.query_grammar.specs.declared.expect.State.{State}
use Rattle.query_grammar.specs.declared.expect.Step.{Step}
use Rattle.query_grammar.specs.Terminals.{terminal_of}
use Rattle.query_grammar.specs.Words.{unsupported_word}
use Rattle.query_grammar.specs.Roles.{Labelled, with_role, tokens_of}
use Rattle.query_grammar.specs.Expecting.{start, ended, next_step, Progress, read_tokens, StopsAt}
use Rattle.query_grammar.proofs.Carrying.{Reads, step_of}
use Rattle.query_grammar.proofs.Runs.{reads-run, run-reads, read-last, read-last-none, reads-split}
use Rattle.query_grammar.proofs.GrammarLaws.{IsReadToEnd-query, query-run, HasFaultAt-StopsAt, StopsAt-HasFaultAt, is-end}
use Rattle.alg_model.specs.Query.{AbstractQuery}
use Rattle.sparql_parse.specs.declared.fault.QueryFault.{QueryFault}
use Rattle.sparql_parse.specs.declared.fault.QueryFault.TheVariants as faults
use Rattle.sparql_parse.proofs.ComputedDenotes.{Denotes, HasNoFaults, HasOwnFault, HasGrammarFault, IsFaultOf, IsMeantBy}
use Rattle.sparql_parse.specs.Denotes.{grammar_fault, word_fault}
use Rattle.sparql_parse.specs.computed.Reading.{and_then, first, query_at_end, query_of, query_reading, read_on, tokens_read}
use Rattle.sparql_parse.proofs.FaultFree.{none-nothing}
use Rattle.sparql_parse.proofs.FaultFreeRuns.{IsFaultFree, StopsWith, Stands, begins-reads, reads-begins, fault_free-read, read_on-append, read-stands, more-tokens}
use Rattle.sparql_parse.proofs.QueryReading.{good-reading, bad-reading, text-read, ends, goes_on, query-meant, meant-query}
use Rattle.sparql_parse.proofs.ReadingLaws.{reading_at, next-unread, next-fault, read_on-fault, read_on-all}
use Rattle.sparql_parse.proofs.SourceReading.{tokens_read-are}
use Rattle.sparql_parse.proofs.Utf8Fronts.{bad-front, not_whole}

abbrev pub Answer : Type 0
Answer = Result AbstractQuery QueryFault

pub Ok-one : (query other : AbstractQuery) (answer : Answer) → answer ≡ Ok query → answer ≡ Ok other → query ≡ other
Ok-one query other answer is too = let both : Ok query ≡ Ok other = sym is ∙ too in cc

pub Err-one : (fault other : QueryFault) (answer : Answer) → answer ≡ Err fault → answer ≡ Err other → fault ≡ other
Err-one fault other answer is too = let both : Err fault ≡ Err other = sym is ∙ too in cc

pub Ok-not-Err : (query : AbstractQuery) (fault : QueryFault) (answer : Answer) → answer ≡ Ok query → answer ≡ Err fault → ⊥
Ok-not-Err query fault answer is too = let both : Ok query ≡ Err fault = sym is ∙ too in cc

-- where the run over tokens stops
front-of : (tokens front back : List Lexeme) → tokens ≡ front ++ back → take (length front) tokens ≡ front
front-of tokens front back split = ap (take (length front)) split ∙ take-append_seam front back

front-more : (tokens front back : List Lexeme) (token : Lexeme) → tokens ≡ front ++ token ∷ back → take (suc (length front)) tokens ≡ front ++ token ∷ []
front-more tokens front back token split =
    let one : suc (length front) ≡ length front + 1 = omega arith in
    ap (λ n. take n tokens) one ∙ ap (take (length front + 1)) split ∙ take-append-add front (token ∷ back) 1

length-tokens : (ls : List Labelled) → length (tokens_of ls) ≡ length ls
length-tokens ls = length-map ls (λ (l : Labelled). l.token)

run-before : (tokens after : List Lexeme) (r : Progress) → Reads r.state start r.labelled → tokens ≡ tokens_of r.labelled ++ after → read_tokens start (take (length r.labelled) tokens) ≡ Some r
run-before tokens after r reads split =
    ap (λ n. read_tokens start (take n tokens)) (sym (length-tokens r.labelled))
    ∙ ap (read_tokens start) (front-of tokens (tokens_of r.labelled) after split)
    ∙ reads-run r.labelled r.state start reads

token-stops : (tokens after : List Lexeme) (token : Lexeme) (r : Progress) → Reads r.state start r.labelled → tokens ≡ tokens_of r.labelled ++ token ∷ after → next_step r.state (terminal_of token) ≡ None →
    StopsAt tokens (length r.labelled)
token-stops tokens after token r reads split unread = record {
  reading = r;
  before = run-before tokens (token ∷ after) r reads split;
  stops = inl (
    omega (arith, ap length split, length-append (tokens_of r.labelled) (token ∷ after), length-tokens r.labelled),
    ap (λ n. read_tokens start (take (suc n) tokens)) (sym (length-tokens r.labelled))
        ∙ ap (read_tokens start) (front-more tokens (tokens_of r.labelled) after token split)
        ∙ read-last-none (tokens_of r.labelled) token start r (reads-run r.labelled r.state start reads) unread,
  );
}

end-stops : (tokens : List Lexeme) (r : Progress) → Reads r.state start r.labelled → tokens ≡ tokens_of r.labelled ++ [] → r.state.expect ≢ expects.End → StopsAt tokens (length r.labelled)
end-stops tokens r reads split going = record {
  reading = r;
  before = run-before tokens [] r reads split;
  stops = inr (omega (arith, ap length split, length-append (tokens_of r.labelled) [], length-tokens r.labelled), going);
}

-- what is read of a text that is UTF-8
text-stands : (text : List ℕ) → Stands (tokens_read text) (read_on first (tokens_read text))
text-stands text = read-stands (tokens_read text) (tokens_read text) first (record { reads = refl; none = none-nothing }) refl

abbrev reading-of-text : List ℕ → Result Progress QueryFault → Answer
reading-of-text text read = and_then (query_at_end (length text)) read

module _ (text : List ℕ) (utf8 : IsUtf8 text) where
  -- a query
  ended-denotes : (query : AbstractQuery) (r : Progress) → IsFaultFree r → tokens_of r.labelled ≡ tokens_read text →
      (r.state.expect ≡ expects.End) ⊎ (r.state.expect ≢ expects.End) → query_at_end (length text) r ≡ Ok query → Denotes text query
  ended-denotes query r free same (inl at_end) e =
      let (tree, is_query) = IsReadToEnd-query r.labelled (record { state = r.state; run = reads-run r.labelled r.state start free.reads; at_end = at_end }) in
      let is : query_of r.labelled ≡ query = Ok-one (query_of r.labelled) query (query_at_end (length text) r) (ends (length text) r at_end) e in
      record {
        utf8 = utf8;
        tokens = tokens_read text;
        labelled = r.labelled;
        tree = tree;
        are_tokens = tokens_read-are text;
        same_tokens = same;
        is_query = is_query;
        no_faults = free.none;
        meant = subst (IsMeantBy tree r.labelled) is (query-meant r.labelled tree is_query);
      }
  ended-denotes query r free same (inr going) e = absurd (Ok-not-Err query (faults.Syntax (length text)) (query_at_end (length text) r) e (goes_on (length text) r going))

  read-denotes : (query : AbstractQuery) (read : Result Progress QueryFault) → Stands (tokens_read text) read → reading-of-text text read ≡ Ok query → Denotes text query
  read-denotes query (Ok r) (free, same) e = ended-denotes query r free same (is-end r.state.expect) e
  read-denotes query (Err fault) stands e = absurd (Ok-not-Err query fault (Err fault) e refl)

  -- a fault
  own-is_fault : (fault : QueryFault) → HasOwnFault (tokens_read text) fault → IsFaultOf text fault
  own-is_fault fault own = IsFaultOf.of_token (tokens_read text) utf8 (tokens_read-are text) own

  grammar-is_fault : (fault : QueryFault) (after : List Lexeme) (r : Progress) → IsFaultFree r → tokens_read text ≡ tokens_of r.labelled ++ after →
      StopsAt (tokens_read text) (length r.labelled) → fault ≡ grammar_fault (length text) after → IsFaultOf text fault
  grammar-is_fault fault after r free split stops is =
      let has : HasGrammarFault text (tokens_read text) fault = record {
        before = r.labelled;
        after = after;
        split = split;
        begins = reads-begins r.labelled r.state free.reads;
        none_before = free.none;
        at = StopsAt-HasFaultAt (tokens_read text) (length r.labelled) stops;
        is_fault = is;
      } in
      IsFaultOf.of_grammar (tokens_read text) utf8 (tokens_read-are text) has

  stop-is_fault : (fault : QueryFault) → StopsWith (tokens_read text) fault → IsFaultOf text fault
  stop-is_fault fault stop =
      grammar-is_fault fault (stop.token ∷ stop.after) stop.reading stop.fault_free stop.split
      (token-stops (tokens_read text) stop.after stop.token stop.reading stop.fault_free.reads stop.split stop.unread) stop.is_fault

  end-is_fault : (fault : QueryFault) (r : Progress) → IsFaultFree r → tokens_of r.labelled ≡ tokens_read text →
      (r.state.expect ≡ expects.End) ⊎ (r.state.expect ≢ expects.End) → query_at_end (length text) r ≡ Err fault → IsFaultOf text fault
  end-is_fault fault r free same (inl at_end) e = absurd (Ok-not-Err (query_of r.labelled) fault (query_at_end (length text) r) (ends (length text) r at_end) e)
  end-is_fault fault r free same (inr going) e =
      let split : tokens_read text ≡ tokens_of r.labelled ++ [] = sym same ∙ sym (append-nil (tokens_of r.labelled)) in
      grammar-is_fault fault [] r free split (end-stops (tokens_read text) r free.reads split going)
      (Err-one fault (faults.Syntax (length text)) (query_at_end (length text) r) e (goes_on (length text) r going))

  read-is_fault : (fault : QueryFault) (read : Result Progress QueryFault) → Stands (tokens_read text) read → reading-of-text text read ≡ Err fault → IsFaultOf text fault
  read-is_fault fault (Ok r) (free, same) e = end-is_fault fault r free same (is-end r.state.expect) e
  read-is_fault fault (Err other) (inl own) e = own-is_fault fault (subst (HasOwnFault (tokens_read text)) (Err-one other fault (Err other) refl e) own)
  read-is_fault fault (Err other) (inr stop) e = stop-is_fault fault (subst (StopsWith (tokens_read text)) (Err-one other fault (Err other) refl e) stop)

-- what the run has read where it stops
same-reading : (a b : Progress) (read : Option Progress) → read ≡ Some a → read ≡ Some b → a ≡ b
same-reading a b read is other = let both : Some a ≡ Some b = sym is ∙ other in cc

stop-unread : (tokens after : List Lexeme) (token : Lexeme) (r : Progress) → Reads r.state start r.labelled → tokens ≡ tokens_of r.labelled ++ token ∷ after →
    StopsAt tokens (length r.labelled) → (step : Option Step) → next_step r.state (terminal_of token) ≡ step → next_step r.state (terminal_of token) ≡ None
stop-unread tokens after token r reads split stop None is = is
stop-unread tokens after token r reads split stop (Some step) is =
    let one : Reads step.state r.state (with_role step.role token ∷ []) = (step.state, is, refl) in
    let ls = r.labelled ++ with_role step.role token ∷ [] in
    let run = read-last (tokens_of r.labelled) token start r step (reads-run r.labelled r.state start reads) is in
    let more : read_tokens start (take (suc (length r.labelled)) tokens) ≡ Some (reading_at ls step.state) =
    ap (λ n. read_tokens start (take (suc n) tokens)) (sym (length-tokens r.labelled))
    ∙ ap (read_tokens start) (front-more tokens (tokens_of r.labelled) after token split)
    ∙ run in
    elim stop.stops [
      | inl inside ↦ (let none : read_tokens start (take (suc (length r.labelled)) tokens) ≡ None = inside.1 in let both : None ≡ Some (reading_at ls step.state) = sym none ∙ more in absurd (cc))
      | inr at_end ↦ (let e : length r.labelled ≡ length tokens = at_end.0 in absurd (omega (arith, ap length split, length-append (tokens_of r.labelled) (token ∷ after), length-tokens r.labelled)))
    ]

stop-going : (tokens : List Lexeme) (r : Progress) → Reads r.state start r.labelled → tokens ≡ tokens_of r.labelled ++ [] → StopsAt tokens (length r.labelled) → r.state.expect ≢ expects.End
stop-going tokens r reads split stop =
    elim stop.stops [
      | inl inside ↦ (let lt : length r.labelled < length tokens = inside.0 in absurd (omega (arith, ap length split, length-append (tokens_of r.labelled) [], length-tokens r.labelled)))
      | inr at_end ↦ (let same : stop.reading ≡ r = same-reading stop.reading r (read_tokens start (take (length r.labelled) tokens)) stop.before (run-before tokens [] r reads split) in subst (λ (x : Progress). x.state.expect ≢ expects.End) same at_end.1)
    ]

-- tokens that are without a fault are read
front-read : (ls : List Labelled) (s : State) (after tokens : List Lexeme) → Reads s start ls → HasNoFaults ls → tokens ≡ tokens_of ls ++ after → read_on first tokens ≡ read_on (reading_at ls s) after
front-read ls s after tokens reads none split =
    ap (read_on first) split ∙ read_on-append (tokens_of ls) after first (reading_at ls s) (fault_free-read ls [] start s reads none)

own-read : (tokens : List Lexeme) (fault : QueryFault) → HasOwnFault tokens fault → read_on first tokens ≡ Err fault
own-read tokens fault own =
    let (last, reads) = begins-reads (own.before ++ own.token ∷ []) own.begins in
    let (s, front, (next, is, e)) = reads-split own.before (own.token ∷ []) last start reads in
    front-read own.before s (own.token.token ∷ own.after) tokens front own.none_before (own.split ∙ more-tokens own.before own.token own.after)
    ∙ read_on-fault (reading_at own.before s) fault own.token.token own.after (next-fault (reading_at own.before s) own.token.token (step_of next own.token.role) fault is own.is_fault)

grammar-read : (size : ℕ) (tokens after : List Lexeme) (ls : List Labelled) (s : State) → Reads s start ls → HasNoFaults ls → tokens ≡ tokens_of ls ++ after → StopsAt tokens (length ls) →
    and_then (query_at_end size) (read_on first tokens) ≡ Err (grammar_fault size after)
grammar-read size tokens [] ls s reads none split stop =
    ap (and_then (query_at_end size)) (front-read ls s [] tokens reads none split ∙ read_on-all (reading_at ls s))
    ∙ goes_on size (reading_at ls s) (stop-going tokens (reading_at ls s) reads split stop)
grammar-read size tokens (token ∷ after) ls s reads none split stop =
    let unread = stop-unread tokens after token (reading_at ls s) reads split stop (next_step s (terminal_of token)) refl in
    let fault = word_fault token.at (unsupported_word token) in
    ap (and_then (query_at_end size)) (front-read ls s (token ∷ after) tokens reads none split ∙ read_on-fault (reading_at ls s) fault token after (next-unread (reading_at ls s) token unread))

-- a text is UTF-8 or not
utf8-or-not : (text : List ℕ) → IsUtf8 text ⊎ ¬ IsUtf8 text
utf8-or-not text = elim (is_utf8 text) as (λ b. is_utf8 text ≡ b → IsUtf8 text ⊎ ¬ IsUtf8 text) [
  | true ↦ λ e. inl (IsUtf8-from_is_utf8 text e)
  | false ↦ λ e. inr (λ utf8. true≢false (sym (is_utf8-from_IsUtf8 text utf8) ∙ e))
] refl

pub reading-denotes : (text : List ℕ) (query : AbstractQuery) → query_reading text ≡ Ok query → Denotes text query
reading-denotes text query e = elim (utf8-or-not text) [
  | inl utf8 ↦ read-denotes text utf8 query (read_on first (tokens_read text)) (text-stands text)
      (sym (text-read text (tokens_read text) (read_on first (tokens_read text)) (tokens_read-are text) refl) ∙ sym (good-reading text utf8) ∙ e)
  | inr bad ↦ absurd (Ok-not-Err query (faults.Syntax (utf8_valid_len text)) (query_reading text) e (bad-reading text bad))
]

pub reading-is_fault : (text : List ℕ) (fault : QueryFault) → query_reading text ≡ Err fault → IsFaultOf text fault
reading-is_fault text fault e = elim (utf8-or-not text) [
  | inl utf8 ↦ read-is_fault text utf8 fault (read_on first (tokens_read text)) (text-stands text)
      (sym (text-read text (tokens_read text) (read_on first (tokens_read text)) (tokens_read-are text) refl) ∙ sym (good-reading text utf8) ∙ e)
  | inr bad ↦ IsFaultOf.not_utf8 (utf8_valid_len text) (bad-front text bad) (Err-one fault (faults.Syntax (utf8_valid_len text)) (query_reading text) e (bad-reading text bad))
]

pub denotes-reading : (text : List ℕ) (query : AbstractQuery) → Denotes text query → query_reading text ≡ Ok query
denotes-reading text query d =
    let run : read_tokens start (tokens_of d.labelled) ≡ Some (reading_at d.labelled ended) = query-run d.tree d.labelled d.is_query in
    let reads : Reads ended start d.labelled = (run-reads (tokens_of d.labelled) start (reading_at d.labelled ended) run).reads in
    let read : read_on first d.tokens ≡ Ok (reading_at d.labelled ended) = ap (read_on first) (sym d.same_tokens) ∙ fault_free-read d.labelled [] start ended reads d.no_faults in
    good-reading text d.utf8
    ∙ text-read text d.tokens (Ok (reading_at d.labelled ended)) d.are_tokens read
    ∙ ends (length text) (reading_at d.labelled ended) refl
    ∙ ap Ok (sym (meant-query d.labelled d.tree query d.is_query d.meant))

pub fault-reading : (text : List ℕ) (fault : QueryFault) → IsFaultOf text fault → query_reading text ≡ Err fault
fault-reading text fault (IsFaultOf.not_utf8 good up is) =
    bad-reading text (not_whole text good up) ∙ ap (λ n. Err (faults.Syntax n)) (utf8_valid_len-IsValidUpTo text good up) ∙ ap Err (sym is)
fault-reading text fault (IsFaultOf.of_token tokens utf8 are own) =
    good-reading text utf8 ∙ text-read text tokens (Err fault) are (own-read tokens fault own)
fault-reading text fault (IsFaultOf.of_grammar tokens utf8 are has) =
    let (s, reads) = begins-reads has.before has.begins in
    good-reading text utf8
    ∙ text-read text tokens (read_on first tokens) are refl
    ∙ grammar-read (length text) tokens has.after has.before s reads has.none_before has.split (HasFaultAt-StopsAt tokens (length has.before) has.at)
    ∙ ap Err (sym has.is_fault)
