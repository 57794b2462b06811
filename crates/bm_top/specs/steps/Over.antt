-- Carries proofs only: what the answers of a text over an index say of the verdict.
use Rattle.std.specs.Prelude.{◌≡◌, ℕ, List, Result, Ok, Err}
use Rattle.bm_term.specs.declared.triple.Triple.{Triple}
use Rattle.alg_model.specs.Query.{abstract_of}
use Rattle.term_numbers.specs.Numbering.{Numbering}
use Rattle.index_file.specs.Version.{NumbersGraph}
use Rattle.bm_query.specs.Faults.{fault_of}
use Rattle.bm_query.specs.declared.fault.AnswerFault.{AnswerFault}
use Rattle.well_designed.specs.declared.refusals.Refusal.{Refusal}
use Rattle.result_write.specs.declared.form.Form.{Form}
use Rattle.result_write.specs.ResultText.{result_text}
use Rattle.bm_top.specs.declared.undecided.Undecided.{Undecided}
use Rattle.bm_top.specs.declared.undecided.Undecided.TheVariants as undecided
use Rattle.bm_top.specs.declared.over_index.Answered.{Answered}
use Rattle.bm_top.specs.Lines.{pattern_line, query_line}
use Rattle.bm_top.specs.Standard.{IsAnswerOrRefusal}
use Rattle.bm_top.specs.Verdict.{Verdict, answered}
use Rattle.bm_top.specs.steps.Ending.{Says}

-- the verdict of a text that is asked over a graph
abbrev pub IsOfAnswer : Form → Result Answered Undecided → Verdict → Type 0
IsOfAnswer form (Ok given) verdict = verdict ≡ answered (result_text form (abstract_of given.query) given.rows.rows)
IsOfAnswer form (Err why) verdict = Says why verdict

abbrev pub IsAnswered : Numbering → List ℕ → Result Answered Undecided → Type 0
IsAnswered numbering text result =
    (graph : List Triple) (form : Form) (verdict : Verdict) → NumbersGraph graph numbering → IsAnswerOrRefusal form text graph verdict
    → IsOfAnswer form result verdict

-- a refusal has the line of the fault of a query with these names
abbrev pub NamesFault : List (List ℕ) → AnswerFault → Undecided → Type 0
NamesFault names fault (undecided.BadLine line) = ⊥
NamesFault names fault undecided.TooManyTriples = ⊥
NamesFault names fault undecided.ImageTooLong = ⊥
NamesFault names fault (undecided.Query refusal) = (cause : Refusal) × (fault ≡ fault_of cause) × (query_line refusal ≡ pattern_line names cause)
NamesFault names fault undecided.Memory = Unit {0}
