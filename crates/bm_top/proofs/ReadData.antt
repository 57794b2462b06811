-- What is read from data, and what is read as a query: as a function, and by the standards' relations.
use Rattle.std.proofs.Common.{◌≡◌, ◌↔◌, ℕ, ◌<◌, List, length, Option, Some, None, Result, Ok, Err, refl, sym, ap, subst, ◌∙◌, arith}
use Rattle.std.proofs.lemmas.List.Elements.{All-weaker}
use Rattle.bm_term.specs.declared.triple.Triple.{Triple}
use Rattle.bm_term.specs.Graph.{triple_cmp, IsGraph, graph_of}
use Rattle.bm_term.proofs.Sets.{IsSetOf-set_of}
use Rattle.bm_term.proofs.TripleOrder.{triple_cmp-total, triple_cmp-exact}
use Rattle.nt_read.specs.scanning.Lines.{first_bad, lines_of, triples_of}
use Rattle.nt_read.specs.Lines.{SpellTriples}
use Rattle.nt_read.proofs.Cuts.{AreLines-lines_of}
use Rattle.nt_read.proofs.FirstBad.{first_bad-found, first_bad-none}
use Rattle.nt_read.proofs.SpelledTriples.{spelled-triples_of}
use Rattle.alg_model.specs.Answers.{answers_to}
use Rattle.alg_model.specs.Query.{AbstractQuery}
use Rattle.alg_model.specs.Pattern.{HasVarsBelow, vars_of}
use Rattle.alg_model.specs.VarSet.{PatternFits}
use Rattle.alg_model.proofs.VarSets.{pattern_fits}
use Rattle.sparql_parse.specs.declared.fault.QueryFault.{QueryFault}
use Rattle.sparql_parse.specs.computed.Reading.{query_reading}
use Rattle.sparql_parse.specs.Denotes.{Denotes}
use Rattle.sparql_parse.proofs.DenotedLimits.{denoted-names, denoted-pattern}
use Rattle.sparql_parse.proofs.DenotingLaws.{reading-denotes, denotes-reading, reading-is_fault, fault-reading}
use Rattle.well_designed.specs.declared.refusals.Refusal.{Refusal}
use Rattle.well_designed.specs.Computed.{refusal_in}
use Rattle.well_designed.proofs.ComputedRefusal.{refusal_in-accepted, refusal_in-refused}
use Rattle.result_write.specs.declared.form.Form.{Form}
use Rattle.result_write.specs.ResultText.{result_text}
use Rattle.bm_top.specs.Lines.{bad_line_line, fault_line, pattern_line}
use Rattle.bm_top.specs.Standard.{AreNTriples, IsGraphOf, IsBadData, IsAnswerOver, IsAnswerOrRefusal, bad_query, answer, IsRefusedText, has_fault, has_pattern}
use Rattle.bm_top.specs.Verdict.{Verdict, answered, refused}
use Rattle.bm_top.specs.steps.VerdictOf.{accepting, answering, graph_in}

-- data without a bad line, and its graph
pub record IsRead (bytes : List ℕ) (graph : List Triple) : Type 0 where
  pub none : first_bad bytes ≡ None
  pub are : graph ≡ graph_in bytes

-- a list of triples has one graph
pub graph-is : (triples graph : List Triple) → IsGraph triples graph ↔ (graph ≡ graph_of triples)
graph-is = IsSetOf-set_of triple_cmp triple_cmp-total triple_cmp-exact

pub graph-read : (bytes : List ℕ) (graph : List Triple) → IsGraphOf bytes graph → IsRead bytes graph
graph-read bytes graph is =
    let data_is = is.are_triples in
    let lines : data_is.lines ≡ lines_of bytes = (AreLines-lines_of bytes data_is.lines).0 data_is.are_lines in
    let spelled : SpellTriples (lines_of bytes) is.triples = subst (λ ls. SpellTriples ls is.triples) lines data_is.spelled in
    let (good, same) = (spelled-triples_of (lines_of bytes) is.triples).0 spelled in
    record { none = (first_bad-none bytes).1 good; are = (graph-is is.triples graph).0 is.is_graph ∙ ap graph_of same }

pub read-triples : (bytes : List ℕ) → first_bad bytes ≡ None → AreNTriples bytes (triples_of (lines_of bytes))
read-triples bytes none = record {
  lines = lines_of bytes;
  are_lines = (AreLines-lines_of bytes (lines_of bytes)).1 refl;
  spelled = (spelled-triples_of (lines_of bytes) (triples_of (lines_of bytes))).1 ((first_bad-none bytes).0 none, refl);
}

pub read-graph : (bytes : List ℕ) → first_bad bytes ≡ None → IsGraphOf bytes (graph_in bytes)
read-graph bytes none = record {
  triples = triples_of (lines_of bytes);
  are_triples = read-triples bytes none;
  is_graph = (graph-is (triples_of (lines_of bytes)) (graph_in bytes)).1 refl;
}

-- a graph of the data is the one that is read
pub graph-one : (bytes : List ℕ) (graph other : List Triple) → IsGraphOf bytes graph → IsGraphOf bytes other → graph ≡ other
graph-one bytes graph other is also = (graph-read bytes graph is).are ∙ sym (graph-read bytes other also).are

-- a first bad line is the one that is read
pub bad-read : (bytes line : List ℕ) → IsBadData bytes line → (number : ℕ) × (first_bad bytes ≡ Some number) × (line ≡ bad_line_line number)
bad-read bytes line is = (is.number, (first_bad-found bytes is.number).1 is.is_bad, is.is_line)

pub read-bad : (bytes : List ℕ) (number : ℕ) → first_bad bytes ≡ Some number → IsBadData bytes (bad_line_line number)
read-bad bytes number is = record { number = number; is_bad = (first_bad-found bytes number).0 is; is_line = refl }

-- the pattern of a query that a text denotes has variables below 64
pub denoted-fits : (text : List ℕ) (query : AbstractQuery) → Denotes text query → PatternFits query.pattern
denoted-fits text query is =
    let few = denoted-names text query is in
    let below : HasVarsBelow 64 query.pattern = All-weaker (λ var. var < length query.names) (λ var. var < 64) (λ var low. omega arith) (vars_of query.pattern) (denoted-pattern text query is).vars_below in
    pattern_fits query.pattern below

-- the text is answered over a graph
over-answered : (form : Form) (text : List ℕ) (graph : List Triple) (printed : List ℕ) → IsAnswerOver form text graph printed → answering form graph (query_reading text) ≡ answered printed
over-answered form text graph printed is =
    let none = (refusal_in-accepted is.query.pattern (denoted-fits text is.query is.denoted)).1 is.accepted in
    ap (answering form graph) (denotes-reading text is.query is.denoted)
    ∙ ap (accepting form graph is.query) none
    ∙ ap answered (sym is.is_text)

-- a query is refused for its text, or as its pattern is
over-refused : (form : Form) (text line : List ℕ) (graph : List Triple) → IsRefusedText text line → answering form graph (query_reading text) ≡ refused 3 line
over-refused form text line graph (has_fault fault has is_line) =
    ap (answering form graph) (fault-reading text fault has) ∙ ap (refused 3) (sym is_line)
over-refused form text line graph (has_pattern query refusal denoted refuses is_line) =
    ap (answering form graph) (denotes-reading text query denoted)
    ∙ ap (accepting form graph query) ((refusal_in-refused query.pattern (denoted-fits text query denoted) refusal).1 refuses)
    ∙ ap (refused 3) (sym is_line)

-- the verdict of a text over a graph is the one that is read
pub is-answering : (form : Form) (text : List ℕ) (graph : List Triple) (verdict : Verdict) → IsAnswerOrRefusal form text graph verdict → verdict ≡ answering form graph (query_reading text)
is-answering form text graph verdict (bad_query line is same) = same ∙ sym (over-refused form text line graph is)
is-answering form text graph verdict (answer printed is same) = same ∙ sym (over-answered form text graph printed is)

module _ (form : Form) (text : List ℕ) (graph : List Triple) where
  abbrev answer_text : AbstractQuery → List ℕ
  answer_text query = result_text form query (answers_to query graph)

  answer-read : (query : AbstractQuery) → query_reading text ≡ Ok query → refusal_in query.pattern ≡ None → IsAnswerOver form text graph (answer_text query)
  answer-read query is accepted = record {
    query = query;
    denoted = reading-denotes text query is;
    accepted = (refusal_in-accepted query.pattern (denoted-fits text query (reading-denotes text query is))).0 accepted;
    is_text = refl;
  }

  pattern-read : (query : AbstractQuery) (refusal : Refusal) → query_reading text ≡ Ok query → refusal_in query.pattern ≡ Some refusal → IsRefusedText text (pattern_line query.names refusal)
  pattern-read query refusal is refuses =
      let denoted = reading-denotes text query is in
      has_pattern query refusal denoted ((refusal_in-refused query.pattern (denoted-fits text query denoted) refusal).0 refuses) refl

  accepting-is : (query : AbstractQuery) (refusal : Option Refusal) → query_reading text ≡ Ok query → refusal_in query.pattern ≡ refusal → IsAnswerOrRefusal form text graph (accepting form graph query refusal)
  accepting-is query (Some refusal) is refuses = bad_query (pattern_line query.names refusal) (pattern-read query refusal is refuses) refl
  accepting-is query None is accepted = answer (answer_text query) (answer-read query is accepted) refl

  answering_by : (result : Result AbstractQuery QueryFault) → query_reading text ≡ result → IsAnswerOrRefusal form text graph (answering form graph result)
  answering_by (Err fault) found = bad_query (fault_line fault) (has_fault fault (reading-is_fault text fault found) refl) refl
  answering_by (Ok query) found = accepting-is query (refusal_in query.pattern) found refl

  -- and the one that is read is its verdict
  pub answering-is : IsAnswerOrRefusal form text graph (answering form graph (query_reading text))
  answering-is = answering_by (query_reading text) refl
