-- The groups that a state counts as open are the '{' that were read less the '}'.
use Rattle.std.proofs.Common.{◌≡◌, ℕ, zero, suc, ◌+◌, List, [], ◌∷◌, Some, refl, sym, ap, arith, rules}
use Rattle.query_tokens.specs.Token.{Lexeme}
use Rattle.query_grammar.specs.declared.terminal.Terminal.{Terminal}
use Rattle.query_grammar.specs.declared.terminal.Terminal.TheVariants as terminals
use Rattle.query_grammar.specs.declared.expect.Expect.{Expect}
use Rattle.query_grammar.specs.declared.expect.Expect.TheVariants as expects
use Rattle.query_grammar.specs.declared.expect.State.{State}
use Rattle.query_grammar.specs.Terminals.{terminal_of}
use Rattle.query_grammar.specs.Roles.{Labelled, is_open, is_close, count_of, open_groups}
use Rattle.query_grammar.specs.Expecting.{start, closed, step_at, next_step, Progress, read_tokens}
use Rattle.query_grammar.proofs.Carrying.{Reads}
use Rattle.query_grammar.proofs.Counts.{one_if, count-cons}
use Rattle.query_grammar.proofs.Following.{OnStep, on-step}
use Rattle.query_grammar.proofs.Runs.{run-reads}

abbrev IsPositive : ℕ → Type 0
IsPositive zero = ⊥
IsPositive (suc n) = Unit {0}

-- in a group some group is open
abbrev IsPlaced : Expect → ℕ → Type 0
IsPlaced expects.Block n = IsPositive n
IsPlaced expects.AfterElement n = IsPositive n
IsPlaced expects.AfterSubjectString n = IsPositive n
IsPlaced expects.SubjectDatatype n = IsPositive n
IsPlaced expects.Verb n = IsPositive n
IsPlaced expects.Object n = IsPositive n
IsPlaced expects.AfterObjectString n = IsPositive n
IsPlaced expects.ObjectDatatype n = IsPositive n
IsPlaced expects.AfterObject n = IsPositive n
IsPlaced expects.AfterSemicolon n = IsPositive n
IsPlaced _ n = Unit {0}

-- a step keeps states placed, and counts its token
abbrev Counts : Expect → ℕ → Terminal → Type 0
Counts expect n terminal = OnStep (step_at expect n terminal) (λ step. IsPlaced expect n →
    IsPlaced step.state.expect step.state.groups × (step.state.groups + one_if (is_close step.role) ≡ n + one_if (is_open step.role)))

opened : (n : ℕ) → suc n + 0 ≡ n + 1
opened n = omega arith

closed-counts : (n : ℕ) → IsPositive n → IsPlaced (closed n).expect (closed n).groups × ((closed n).groups + 1 ≡ n + 0)
closed-counts zero never = absurd never
closed-counts (suc zero) is = (tt, refl)
closed-counts (suc (suc n)) is = (tt, omega arith)

counts : (expect : Expect) (n : ℕ) (terminal : Terminal) → Counts expect n terminal
counts expects.Prologue n terminals.Close = tt
counts expects.Prologue n _ = search rules
counts expects.DeclaredPrefix n terminals.Close = tt
counts expects.DeclaredPrefix n _ = search rules
counts expects.Namespace n terminals.Close = tt
counts expects.Namespace n _ = search rules
counts expects.Projection n terminals.Close = tt
counts expects.Projection n _ = search rules
counts expects.Columns n terminals.Close = tt
counts expects.Columns n _ = search rules
counts expects.MoreColumns n terminals.Open = λ placed. (tt, opened n)
counts expects.MoreColumns n _ = search rules
counts expects.WhereOrGroup n terminals.Open = λ placed. (tt, opened n)
counts expects.WhereOrGroup n _ = search rules
counts expects.Group n terminals.Open = λ placed. (tt, opened n)
counts expects.Group n _ = search rules
counts expects.Block n terminals.Open = λ placed. (tt, opened n)
counts expects.Block n terminals.Close = λ placed. closed-counts n placed
counts expects.Block n _ = search rules
counts expects.AfterElement n terminals.Open = λ placed. (tt, opened n)
counts expects.AfterElement n terminals.Close = λ placed. closed-counts n placed
counts expects.AfterElement n _ = search rules
counts expects.AfterSubjectString n terminals.Close = tt
counts expects.AfterSubjectString n _ = search rules
counts expects.SubjectDatatype n terminals.Close = tt
counts expects.SubjectDatatype n _ = search rules
counts expects.Verb n terminals.Close = tt
counts expects.Verb n _ = search rules
counts expects.Object n terminals.Close = tt
counts expects.Object n _ = search rules
counts expects.AfterObjectString n terminals.Open = λ placed. (tt, opened n)
counts expects.AfterObjectString n terminals.Close = λ placed. closed-counts n placed
counts expects.AfterObjectString n _ = search rules
counts expects.ObjectDatatype n terminals.Close = tt
counts expects.ObjectDatatype n _ = search rules
counts expects.AfterObject n terminals.Open = λ placed. (tt, opened n)
counts expects.AfterObject n terminals.Close = λ placed. closed-counts n placed
counts expects.AfterObject n _ = search rules
counts expects.AfterSemicolon n terminals.Open = λ placed. (tt, opened n)
counts expects.AfterSemicolon n terminals.Close = λ placed. closed-counts n placed
counts expects.AfterSemicolon n _ = search rules
counts expects.End n terminal = tt

reads-counts : (ls : List Labelled) (last state : State) → IsPlaced state.expect state.groups → Reads last state ls →
    last.groups + count_of is_close ls ≡ state.groups + count_of is_open ls
unfolding next_step
reads-counts [] last state placed e = ap (λ (s : State). s.groups + 0) (sym e)
reads-counts (l ∷ ls) last state placed (next, is, rest) =
    let here = on-step (step_at state.expect state.groups (terminal_of l.token))
    (λ step. IsPlaced state.expect state.groups → IsPlaced step.state.expect step.state.groups × (step.state.groups + one_if (is_close step.role) ≡ state.groups + one_if (is_open step.role)))
    (record { state = next; role = l.role }) is (counts state.expect state.groups (terminal_of l.token)) placed in
    let after : last.groups + count_of is_close ls ≡ next.groups + count_of is_open ls = reads-counts ls last next here.0 rest in
    let counted : next.groups + one_if (is_close l.role) ≡ state.groups + one_if (is_open l.role) = here.1 in
    let closes = count-cons is_close l ls in
    let opens = count-cons is_open l ls in
    omega arith

-- the groups of a state are those that the run opened and did not close
pub groups-open_groups : (tokens : List Lexeme) (reading : Progress) → read_tokens start tokens ≡ Some reading → reading.state.groups ≡ open_groups reading.labelled
groups-open_groups tokens reading read =
    let counted = reads-counts reading.labelled reading.state start tt (run-reads tokens start reading read).reads in
    omega arith
