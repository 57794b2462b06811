-- The verdict of a text that is asked over the graph of an index, by what its parse and its answer are.
use Rattle.std.proofs.Common.{◌≡◌, ◌⊎◌, inl, inr, ℕ, List, Ok, sym, ap, ◌∙◌}
use Rattle.bm_term.specs.declared.triple.Triple.{Triple}
use Rattle.alg_model.specs.declared.query.Query.{Query}
use Rattle.alg_model.specs.Answers.{answers_of}
use Rattle.alg_model.specs.Pattern.{algebra_of}
use Rattle.alg_model.specs.Query.{abstract_of}
use Rattle.alg_model.specs.Row.{Row}
use Rattle.sparql_parse.specs.declared.fault.QueryFault.{QueryFault}
use Rattle.sparql_parse.specs.declared.fault.QueryFault.TheVariants as query_faults
use Rattle.sparql_parse.specs.Denotes.{Denotes, IsFaultOf}
use Rattle.sparql_parse.proofs.DenotingLaws.{denotes-reading, fault-reading}
use Rattle.well_designed.specs.declared.refusals.Refusal.{Refusal}
use Rattle.well_designed.specs.Refusals.{IsAccepted, IsRefused}
use Rattle.well_designed.proofs.ComputedRefusal.{refusal_in-accepted, refusal_in-refused}
use Rattle.result_write.specs.declared.form.Form.{Form}
use Rattle.result_write.specs.ResultText.{result_text}
use Rattle.bm_query.specs.Faults.{fault_of}
use Rattle.bm_query.specs.declared.fault.AnswerFault.{AnswerFault}
use Rattle.bm_top.specs.declared.undecided.Undecided.{Undecided}
use Rattle.bm_top.specs.declared.undecided.Undecided.TheVariants as undecided
use Rattle.bm_top.specs.Lines.{fault_line, pattern_line}
use Rattle.bm_top.specs.Standard.{IsAnswerOrRefusal}
use Rattle.bm_top.specs.Verdict.{Verdict, answered, refused}
use Rattle.bm_top.specs.steps.Undecided.{from_query}
use Rattle.bm_top.specs.steps.Ending.{Says}
use Rattle.bm_top.specs.steps.Over.{NamesFault}
use Rattle.bm_top.specs.steps.VerdictOf.{accepting, answering}
use Rattle.bm_top.proofs.ReadData.{denoted-fits, is-answering}

module _ (form : Form) (text : List ℕ) (graph : List Triple) (verdict : Verdict) (is : IsAnswerOrRefusal form text graph verdict) where
  -- the text has a fault
  faulty : (fault : QueryFault) → IsFaultOf text fault → verdict ≡ refused 3 (fault_line fault)
  faulty fault has = is-answering form text graph verdict is ∙ ap (answering form graph) (fault-reading text fault has)

  -- a fault of the text, which is not one of memory
  pub Says-fault : (fault : QueryFault) → (fault ≡ query_faults.Memory) ⊎ IsFaultOf text fault → Says (from_query fault) verdict
  Says-fault query_faults.Memory has = tt
  Says-fault (query_faults.Syntax at) (inr has) = faulty (query_faults.Syntax at) has
  Says-fault (query_faults.Syntax at) (inl e) = absurd (cc)
  Says-fault (query_faults.Unsupported at word) (inr has) = faulty (query_faults.Unsupported at word) has
  Says-fault (query_faults.Unsupported at word) (inl e) = absurd (cc)
  Says-fault (query_faults.UnknownPrefix at) (inr has) = faulty (query_faults.UnknownPrefix at) has
  Says-fault (query_faults.UnknownPrefix at) (inl e) = absurd (cc)
  Says-fault (query_faults.TooManyVariables at) (inr has) = faulty (query_faults.TooManyVariables at) has
  Says-fault (query_faults.TooManyVariables at) (inl e) = absurd (cc)
  Says-fault (query_faults.TooManyPatterns at) (inr has) = faulty (query_faults.TooManyPatterns at) has
  Says-fault (query_faults.TooManyPatterns at) (inl e) = absurd (cc)
  Says-fault (query_faults.TooManyOptionals at) (inr has) = faulty (query_faults.TooManyOptionals at) has
  Says-fault (query_faults.TooManyOptionals at) (inl e) = absurd (cc)
  Says-fault (query_faults.TooManyGroups at) (inr has) = faulty (query_faults.TooManyGroups at) has
  Says-fault (query_faults.TooManyGroups at) (inl e) = absurd (cc)
  Says-fault (query_faults.TooDeep at) (inr has) = faulty (query_faults.TooDeep at) has
  Says-fault (query_faults.TooDeep at) (inl e) = absurd (cc)

  module _ (query : Query) (denoted : Denotes text (abstract_of query)) where
    over_query : verdict ≡ answering form graph (Ok (abstract_of query))
    over_query = is-answering form text graph verdict is ∙ ap (answering form graph) (denotes-reading text (abstract_of query) denoted)

    -- its pattern is refused
    refused_pattern : (cause : Refusal) → IsRefused (algebra_of query.pattern) cause → verdict ≡ refused 3 (pattern_line query.names cause)
    refused_pattern cause refuses =
        over_query ∙ ap (accepting form graph (abstract_of query)) ((refusal_in-refused (algebra_of query.pattern) (denoted-fits text (abstract_of query) denoted) cause).1 refuses)

    -- a fault of the answer, with the name of the variable
    pub Says-unanswered : (fault : AnswerFault) (why : Undecided) → ((cause : Refusal) → fault ≡ fault_of cause → IsRefused (algebra_of query.pattern) cause) → NamesFault query.names fault why → Says why verdict
    Says-unanswered fault (undecided.BadLine line) refuses names = absurd names
    Says-unanswered fault undecided.TooManyTriples refuses names = absurd names
    Says-unanswered fault undecided.ImageTooLong refuses names = absurd names
    Says-unanswered fault (undecided.Query refusal) refuses (cause, same, line) = refused_pattern cause (refuses cause same) ∙ ap (refused 3) (sym line)
    Says-unanswered fault undecided.Memory refuses names = tt

    -- it is answered
    pub answered_rows : (rows : List (Row (List ℕ))) → IsAccepted (algebra_of query.pattern) → rows ≡ answers_of query graph → verdict ≡ answered (result_text form (abstract_of query) rows)
    answered_rows rows accepted same =
        over_query
        ∙ ap (accepting form graph (abstract_of query)) ((refusal_in-accepted (algebra_of query.pattern) (denoted-fits text (abstract_of query) denoted)).1 accepted)
        ∙ ap (λ found. answered (result_text form (abstract_of query) found)) (sym same)
