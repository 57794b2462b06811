-- Carries proofs only: the graph of data, and the verdict of a query over it, as functions that read them.
use Rattle.std.specs.Prelude.{ℕ, List, Option, Some, None, Result, Ok, Err}
use Rattle.bm_term.specs.Graph.{graph_of}
use Rattle.alg_model.specs.Answers.{answers_to}
use Rattle.alg_model.specs.Query.{AbstractQuery}
use Rattle.nt_read.specs.scanning.Lines.{lines_of, triples_of}
use Rattle.sparql_parse.specs.declared.fault.QueryFault.{QueryFault}
use Rattle.well_designed.specs.Computed.{refusal_in}
use Rattle.well_designed.specs.declared.refusals.Refusal.{Refusal}
use Rattle.result_write.specs.declared.form.Form.{Form}
use Rattle.result_write.specs.ResultText.{result_text}
use Rattle.bm_term.specs.declared.triple.Triple.{Triple}
use Rattle.bm_top.specs.Lines.{fault_line, pattern_line}
use Rattle.bm_top.specs.Verdict.{Verdict, answered, refused}

-- a query is refused, or answered over a graph
abbrev pub accepting : Form → List Triple → AbstractQuery → Option Refusal → Verdict
accepting form graph query (Some refusal) = refused 3 (pattern_line query.names refusal)
accepting form graph query None = answered (result_text form query (answers_to query graph))

-- what was read as a query
abbrev pub answering : Form → List Triple → Result AbstractQuery QueryFault → Verdict
answering form graph (Err fault) = refused 3 (fault_line fault)
answering form graph (Ok query) = accepting form graph query (refusal_in query.pattern)

-- the graph of some bytes
abbrev pub graph_in : List ℕ → List Triple
graph_in bytes = graph_of (triples_of (lines_of bytes))
