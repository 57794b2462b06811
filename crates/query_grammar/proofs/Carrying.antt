-- Runs of the push parser over what a symbol of the grammar spells, from the right: where what is after the symbol
-- is read to the end of a query, so is what is before it.
use Rattle.std.proofs.Common.{◌≡◌, ℕ, ◌⊎◌, inl, inr, List, [], ◌∷◌, Option, Some, sym, ◌∙◌, ap, subst}
use Rattle.query_tokens.specs.Token.{Lexeme}
use Rattle.query_grammar.specs.declared.terminal.Terminal.{Terminal}
use Rattle.query_grammar.specs.declared.syntax.Role.{Role}
use Rattle.query_grammar.specs.declared.syntax.Role.TheVariants as roles
use Rattle.query_grammar.specs.declared.expect.Expect.{Expect}
use Rattle.query_grammar.specs.declared.expect.State.{State}
use Rattle.query_grammar.specs.declared.expect.Step.{Step}
use Rattle.query_grammar.specs.Terminals.{terminal_of}
use Rattle.query_grammar.specs.Roles.{Labelled, with_role}
use Rattle.query_grammar.specs.Grammar.{Spelling, ◌▸◌, Nothing, Never, Maybe, Token, SomeToken, Keyword}
use Rattle.query_grammar.specs.Expecting.{state_of, reads, step_at, next_step, ended}
use Rattle.query_grammar.proofs.Remainders.{Remainder, grow, grow_keyword, remainder_of}
use Rattle.query_grammar.proofs.Weakenings.{Reads-as}

abbrev pub step_of : State → Role → Step
step_of state role = record { state = state; role = role }

-- the labelled tokens are read, in their roles, from one state on to another
abbrev pub Reads : State → State → List Labelled → Type 0
Reads last state [] = state ≡ last
Reads last state (l ∷ ls) = (next : State) × (next_step state (terminal_of l.token) ≡ Some (step_of next l.role)) × Reads last next ls

-- the first token is read by this rule, and the others to the end of a query
abbrev pub ReadsBy : (Terminal → Option Step) → List Labelled → Type 0
ReadsBy rule [] = ⊥
ReadsBy rule (l ∷ ls) = (next : State) × (rule (terminal_of l.token) ≡ Some (step_of next l.role)) × Reads ended next ls

-- the tokens are read to the end of a query, the first by this rule, and this is left of the tree
pub record On (rule : Terminal → Option Step) (left : Remainder) (ls : List Labelled) : Type 0 where
  pub reads : ReadsBy rule ls
  pub grown : remainder_of ls ≡ left

-- the same from a state on
pub record At (state : State) (left : Remainder) (ls : List Labelled) : Type 0 where
  pub reads : Reads ended state ls
  pub grown : remainder_of ls ≡ left

-- where the second holds of what is left after what the symbol spells, the first holds before it
pub record Carries (symbol : Spelling) (before after : List Labelled → Type 0) : Type 0 where
  pub carry : (from to : List Labelled) → symbol from to → after to → before from

pub c-then : {A B : Spelling} {P Q R : List Labelled → Type 0} → Carries A P Q → Carries B Q R → Carries (A ▸ B) P R
c-then first second = record { carry = λ from to (middle, a, b) holds. first.carry from middle a (second.carry middle to b holds) }

pub c-or : {A B : Spelling} {P Q : List Labelled → Type 0} → Carries A P Q → Carries B P Q → Carries (λ from to. A from to ⊎ B from to) P Q
c-or first second = record {
  carry = λ from to either holds.
      elim either [ inl a ↦ first.carry from to a holds | inr b ↦ second.carry from to b holds ];
}

pub c-before : {A : Spelling} {P Q R : List Labelled → Type 0} → ((ls : List Labelled) → P ls → R ls) → Carries A P Q → Carries A R Q
c-before change carries = record { carry = λ from to a holds. change from (carries.carry from to a holds) }

pub c-after : {A : Spelling} {P Q R : List Labelled → Type 0} → ((ls : List Labelled) → R ls → Q ls) → Carries A P Q → Carries A P R
c-after change carries = record { carry = λ from to a holds. carries.carry from to a (change to holds) }

pub c-nothing : {P Q : List Labelled → Type 0} → ((ls : List Labelled) → Q ls → P ls) → Carries Nothing P Q
c-nothing {P} {Q} change = record { carry = λ from to e holds. subst P (sym e) (change to holds) }

pub c-never : {P Q : List Labelled → Type 0} → Carries Never P Q
c-never = record { carry = λ from to impossible holds. absurd impossible }

pub c-maybe : {A : Spelling} {P Q : List Labelled → Type 0} → Carries A P Q → ((ls : List Labelled) → Q ls → P ls) → Carries (Maybe A) P Q
c-maybe once change = c-or once (c-nothing change)

-- a rule that leaves a token to another rule
pub weaken : {f g : Terminal → Option Step} (left : Remainder) → Reads-as f g → (ls : List Labelled) → On f left ls → On g left ls
weaken left wider [] on = absurd on.reads
weaken left wider (l ∷ ls) on = record { reads = (on.reads.0, wider.same (terminal_of l.token) (step_of on.reads.0 l.role) on.reads.1, on.reads.2); grown = on.grown }

pub at_state : (expect : Expect) (n : ℕ) (left : Remainder) (ls : List Labelled) → On (step_at expect n) left ls → At (state_of expect n) left ls
unfolding next_step
at_state expect n left [] on = absurd on.reads
at_state expect n left (l ∷ ls) on = record { reads = (on.reads.0, on.reads.1, on.reads.2); grown = on.grown }

token-grown : (role : Role) (terminal : Terminal) (token : Lexeme) (left : Remainder) (ls : List Labelled) →
    terminal_of token ≡ terminal → remainder_of ls ≡ left → remainder_of (with_role role token ∷ ls) ≡ grow role terminal token left
unfolding remainder_of
token-grown role terminal token left ls e grown =
    ap (λ t. grow role t token (remainder_of ls)) e ∙ ap (λ r. grow role terminal token r) grown

token-at : (rule : Terminal → Option Step) (terminal : Terminal) (role : Role) (token : Lexeme) (next : State) (left : Remainder) →
    rule terminal ≡ Some (step_of next role) →
    (from to : List Labelled) → Token terminal role token from to → At next left to → On rule (grow role terminal token left) from
token-at rule terminal role token next left is from to (e, split) after =
    let on : On rule (grow role terminal token left) (with_role role token ∷ to) =
    record { reads = (next, ap rule e ∙ is, after.reads); grown = token-grown role terminal token left to e after.grown } in
    subst (λ ls. On rule (grow role terminal token left) ls) (sym split) on

-- one token
pub c-token-at : (rule : Terminal → Option Step) (terminal : Terminal) (role : Role) (token : Lexeme) (next : State) (left : Remainder) →
    rule terminal ≡ Some (step_of next role) → Carries (Token terminal role token) (On rule (grow role terminal token left)) (At next left)
c-token-at rule terminal role token next left is = record { carry = token-at rule terminal role token next left is }

pub c-token : (rule : Terminal → Option Step) (terminal : Terminal) (role : Role) (token : Lexeme) (expect : Expect) (n : ℕ) (left : Remainder) →
    rule terminal ≡ reads role expect n → Carries (Token terminal role token) (On rule (grow role terminal token left)) (On (step_at expect n) left)
c-token rule terminal role token expect n left is =
    c-after (at_state expect n left) (c-token-at rule terminal role token (state_of expect n) left is)

pub c-some : {P Q : List Labelled → Type 0} (terminal : Terminal) (role : Role) → ((token : Lexeme) → Carries (Token terminal role token) P Q) → Carries (SomeToken terminal role) P Q
c-some terminal role each = record { carry = λ from to (token, is) holds. (each token).carry from to is holds }

pub c-keyword : (rule : Terminal → Option Step) (terminal : Terminal) (expect : Expect) (n : ℕ) (left : Remainder) →
    rule terminal ≡ reads roles.Keyword expect n → Carries (Keyword terminal) (On rule (grow_keyword terminal left)) (On (step_at expect n) left)
c-keyword rule terminal expect n left is = c-some terminal roles.Keyword (λ token. c-token rule terminal roles.Keyword token expect n left is)
