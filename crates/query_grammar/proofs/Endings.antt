-- Each state that a run reaches has an ending: tokens that make a query of what was read.
use Rattle.std.proofs.Common.{◌≡◌, ℕ, zero, suc, List, [], ◌∷◌, refl, ap, subst, codes}
use Rattle.query_tokens.specs.declared.token.TokenKind.{TokenKind}
use Rattle.query_tokens.specs.declared.token.TokenKind.TheVariants as kinds
use Rattle.query_grammar.specs.declared.terminal.Terminal.{Terminal}
use Rattle.query_grammar.specs.declared.terminal.Terminal.TheVariants as terminals
use Rattle.query_grammar.specs.declared.syntax.Role.{Role}
use Rattle.query_grammar.specs.declared.syntax.Role.TheVariants as roles
use Rattle.query_grammar.specs.declared.expect.Expect.{Expect}
use Rattle.query_grammar.specs.declared.expect.Expect.TheVariants as expects
use Rattle.query_grammar.specs.declared.expect.State.{State}
use Rattle.query_grammar.specs.Terminals.{terminal_of}
use Rattle.query_grammar.specs.Roles.{Labelled, with_role}
use Rattle.query_grammar.specs.Expecting.{state_of, start, ended, outside, closed, step_at, next_step}
use Rattle.query_grammar.proofs.Carrying.{Reads}
use Rattle.query_grammar.proofs.Following.{OnStep, on-step}

abbrev labelled : Role → TokenKind → List ℕ → Labelled
labelled role kind text = with_role role (record { kind = kind; text = text; at = 0 })

abbrev select : Labelled
select = labelled roles.Keyword kinds.Word (codes "SELECT")

abbrev star : Labelled
star = labelled roles.AllColumns kinds.Sign (codes "*")

abbrev opening : Labelled
opening = labelled roles.Open kinds.Sign (codes "{")

abbrev closing : Labelled
closing = labelled roles.Close kinds.Sign (codes "}")

abbrev prefix : Labelled
prefix = labelled roles.Declared kinds.Prefix (codes ":")

abbrev iri : Role → Labelled
iri role = labelled role kinds.Iri (codes "<>")

abbrev verb : Labelled
verb = labelled roles.Verb kinds.Word (codes "a")

abbrev object : Labelled
object = labelled roles.Object kinds.Variable (codes "?x")

-- a '}' for each of n groups
abbrev closings : ℕ → List Labelled
closings zero = []
closings (suc n) = closing ∷ closings n

-- the same in a group
abbrev group_end : ℕ → List Labelled
group_end zero = closing ∷ []
group_end (suc n) = closing ∷ closings n

-- tokens that make a query of what was read, by what is expected and how many groups are open
abbrev ending : Expect → ℕ → List Labelled
ending expects.Prologue n = select ∷ star ∷ opening ∷ closing ∷ closings n
ending expects.DeclaredPrefix n = prefix ∷ iri roles.Namespace ∷ select ∷ star ∷ opening ∷ closing ∷ closings n
ending expects.Namespace n = iri roles.Namespace ∷ select ∷ star ∷ opening ∷ closing ∷ closings n
ending expects.Projection n = star ∷ opening ∷ closing ∷ closings n
ending expects.Columns n = star ∷ opening ∷ closing ∷ closings n
ending expects.MoreColumns n = opening ∷ closing ∷ closings n
ending expects.WhereOrGroup n = opening ∷ closing ∷ closings n
ending expects.Group n = opening ∷ closing ∷ closings n
ending expects.Block n = group_end n
ending expects.AfterElement n = group_end n
ending expects.AfterSubjectString n = verb ∷ object ∷ group_end n
ending expects.SubjectDatatype n = iri roles.Datatype ∷ verb ∷ object ∷ group_end n
ending expects.Verb n = verb ∷ object ∷ group_end n
ending expects.Object n = object ∷ group_end n
ending expects.AfterObjectString n = group_end n
ending expects.ObjectDatatype n = iri roles.Datatype ∷ group_end n
ending expects.AfterObject n = group_end n
ending expects.AfterSemicolon n = group_end n
ending expects.End n = []

-- after the last token no group is open
abbrev pub IsClosed : Expect → ℕ → Type 0
IsClosed expects.End n = n ≡ 0
IsClosed _ n = Unit {0}

closed-IsClosed : (n : ℕ) → IsClosed (closed n).expect (closed n).groups
closed-IsClosed zero = refl
closed-IsClosed (suc zero) = refl
closed-IsClosed (suc (suc n)) = tt

step-IsClosed : (expect : Expect) (n : ℕ) (terminal : Terminal) → OnStep (step_at expect n terminal) (λ step. IsClosed step.state.expect step.state.groups)
step-IsClosed expects.Prologue n terminals.Close = tt
step-IsClosed expects.Prologue n _ = tt
step-IsClosed expects.DeclaredPrefix n terminals.Close = tt
step-IsClosed expects.DeclaredPrefix n _ = tt
step-IsClosed expects.Namespace n terminals.Close = tt
step-IsClosed expects.Namespace n _ = tt
step-IsClosed expects.Projection n terminals.Close = tt
step-IsClosed expects.Projection n _ = tt
step-IsClosed expects.Columns n terminals.Close = tt
step-IsClosed expects.Columns n _ = tt
step-IsClosed expects.MoreColumns n terminals.Close = tt
step-IsClosed expects.MoreColumns n _ = tt
step-IsClosed expects.WhereOrGroup n terminals.Close = tt
step-IsClosed expects.WhereOrGroup n _ = tt
step-IsClosed expects.Group n terminals.Close = tt
step-IsClosed expects.Group n _ = tt
step-IsClosed expects.Block n terminals.Close = closed-IsClosed n
step-IsClosed expects.Block n _ = tt
step-IsClosed expects.AfterElement n terminals.Close = closed-IsClosed n
step-IsClosed expects.AfterElement n _ = tt
step-IsClosed expects.AfterSubjectString n terminals.Close = tt
step-IsClosed expects.AfterSubjectString n _ = tt
step-IsClosed expects.SubjectDatatype n terminals.Close = tt
step-IsClosed expects.SubjectDatatype n _ = tt
step-IsClosed expects.Verb n terminals.Close = tt
step-IsClosed expects.Verb n _ = tt
step-IsClosed expects.Object n terminals.Close = tt
step-IsClosed expects.Object n _ = tt
step-IsClosed expects.AfterObjectString n terminals.Close = closed-IsClosed n
step-IsClosed expects.AfterObjectString n _ = tt
step-IsClosed expects.ObjectDatatype n terminals.Close = tt
step-IsClosed expects.ObjectDatatype n _ = tt
step-IsClosed expects.AfterObject n terminals.Close = closed-IsClosed n
step-IsClosed expects.AfterObject n _ = tt
step-IsClosed expects.AfterSemicolon n terminals.Close = closed-IsClosed n
step-IsClosed expects.AfterSemicolon n _ = tt
step-IsClosed expects.End n terminal = tt

abbrev StateIsClosed : State → Type 0
StateIsClosed state = IsClosed state.expect state.groups

reads-IsClosed : (ls : List Labelled) (last state : State) → StateIsClosed state → Reads last state ls → StateIsClosed last
unfolding next_step
reads-IsClosed [] last state is e = subst StateIsClosed e is
reads-IsClosed (l ∷ ls) last state is (next, step, rest) =
    reads-IsClosed ls last next
    (on-step (step_at state.expect state.groups (terminal_of l.token)) (λ s. StateIsClosed s.state) (record { state = next; role = l.role }) step (step-IsClosed state.expect state.groups (terminal_of l.token)))
    rest

end-of : (expect : Expect) (n : ℕ) → IsClosed expect n → expect ≡ expects.End → state_of expect n ≡ ended
end-of expects.End n is e = ap (λ m. state_of expects.End m) is
end-of _ n is e = cc

-- where nothing more is expected, no group is open
pub at_end-ended : (ls : List Labelled) (last : State) → Reads last start ls → last.expect ≡ expects.End → last ≡ ended
at_end-ended ls last reads e = end-of last.expect last.groups (reads-IsClosed ls last start tt reads) e

closings-read : (n : ℕ) → Reads ended (outside n) (closings n)
unfolding terminal_of next_step
closings-read zero = refl
closings-read (suc n) = (outside n, refl, closings-read n)

block-ends : (n : ℕ) → Reads ended (state_of expects.Block n) (group_end n)
unfolding terminal_of next_step
block-ends zero = (ended, refl, refl)
block-ends (suc n) = (outside n, refl, closings-read n)

after_element-ends : (n : ℕ) → Reads ended (state_of expects.AfterElement n) (group_end n)
unfolding terminal_of next_step
after_element-ends zero = (ended, refl, refl)
after_element-ends (suc n) = (outside n, refl, closings-read n)

after_object-ends : (n : ℕ) → Reads ended (state_of expects.AfterObject n) (group_end n)
unfolding terminal_of next_step
after_object-ends zero = (ended, refl, refl)
after_object-ends (suc n) = (outside n, refl, closings-read n)

after_string-ends : (n : ℕ) → Reads ended (state_of expects.AfterObjectString n) (group_end n)
unfolding terminal_of next_step
after_string-ends zero = (ended, refl, refl)
after_string-ends (suc n) = (outside n, refl, closings-read n)

after_semicolon-ends : (n : ℕ) → Reads ended (state_of expects.AfterSemicolon n) (group_end n)
unfolding terminal_of next_step
after_semicolon-ends zero = (ended, refl, refl)
after_semicolon-ends (suc n) = (outside n, refl, closings-read n)

ending-reads : (expect : Expect) (n : ℕ) → IsClosed expect n → Reads ended (state_of expect n) (ending expect n)
unfolding terminal_of next_step
ending-reads expects.Prologue n is = (_, refl, (_, refl, (_, refl, (_, refl, closings-read n))))
ending-reads expects.DeclaredPrefix n is = (_, refl, (_, refl, (_, refl, (_, refl, (_, refl, (_, refl, closings-read n))))))
ending-reads expects.Namespace n is = (_, refl, (_, refl, (_, refl, (_, refl, (_, refl, closings-read n)))))
ending-reads expects.Projection n is = (_, refl, (_, refl, (_, refl, closings-read n)))
ending-reads expects.Columns n is = (_, refl, (_, refl, (_, refl, closings-read n)))
ending-reads expects.MoreColumns n is = (_, refl, (_, refl, closings-read n))
ending-reads expects.WhereOrGroup n is = (_, refl, (_, refl, closings-read n))
ending-reads expects.Group n is = (_, refl, (_, refl, closings-read n))
ending-reads expects.Block n is = block-ends n
ending-reads expects.AfterElement n is = after_element-ends n
ending-reads expects.AfterSubjectString n is = (_, refl, (_, refl, after_object-ends n))
ending-reads expects.SubjectDatatype n is = (_, refl, (_, refl, (_, refl, after_object-ends n)))
ending-reads expects.Verb n is = (_, refl, (_, refl, after_object-ends n))
ending-reads expects.Object n is = (_, refl, after_object-ends n)
ending-reads expects.AfterObjectString n is = after_string-ends n
ending-reads expects.ObjectDatatype n is = (_, refl, after_object-ends n)
ending-reads expects.AfterObject n is = after_object-ends n
ending-reads expects.AfterSemicolon n is = after_semicolon-ends n
ending-reads expects.End n is = ap (λ m. state_of expects.End m) is

-- after what was read from the start, some tokens end a query
pub state-ends : (ls : List Labelled) (last : State) → Reads last start ls → (more : List Labelled) × Reads ended last more
state-ends ls last reads = (ending last.expect last.groups, ending-reads last.expect last.groups (reads-IsClosed ls last start tt reads))
