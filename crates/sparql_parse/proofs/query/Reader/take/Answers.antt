use Rattle.std.proofs.Common.{◌≡◌, inl, inr, Some, Ok, Err, ap, sym, ◌∙◌}
use Rattle.query_tokens.specs.Token.{shown}
use Rattle.query_grammar.specs.Expecting.{next_step}
use Rattle.query_grammar.specs.Terminals.{terminal_of}
use Rattle.sparql_parse.proofs.ReadingLaws.{reading_at}
use Rattle.sparql_parse.specs.held.Readers.{labels_in, reading_in}
use Rattle.sparql_parse.proofs.TokenRoles.{read-spelled}
use Rattle.sparql_parse.proofs.ReadingLaws.{fault-step, kept-step, next-unread, next-read, next-fault}
use Rattle.sparql_parse.proofs.query.Reader.take.Goals as goal

pub take-requires-clause-spelled : goal.take-requires-clause-spelled
take-requires-clause-spelled c =
    read-spelled c.args.self.now.state (shown c.args.token) c.in-Some.step
    (ap (next_step c.args.self.now.state) (sym c.terminal_of-terminal.ensures) ∙ sym c.in-Some.ensures) c.requires.spelled

pub returns-in-None-clause-fault : goal.returns-in-None-clause-fault
returns-in-None-clause-fault c =
    inr (next-unread (reading_in c.args.self.now) (shown c.args.token)
    (ap (next_step c.args.self.now.state) (sym c.terminal_of-terminal.ensures) ∙ sym c.in-None.ensures) ∙ ap Err (sym c.grammar_fault.ensures))

pub returns-in-Err : goal.returns-in-Err
returns-in-Err c =
    let token = shown c.args.token in
    let is : next_step c.args.self.now.state (terminal_of token) ≡ Some c.in-Some.step = ap (next_step c.args.self.now.state) (sym c.terminal_of-terminal.ensures) ∙ sym c.in-Some.ensures in
    let same = fault-step (labels_in c.args.self.now) c.args.self.now.state c.args.self.now.symbols token c.in-Some.step c.requires.kept is in
    record {
      read = tt;
      kept = tt;
      fault = elim c.in-Err.ensures.fault [
        | inl memory ↦ inl memory
        | inr some ↦ inr (next-fault (reading_in c.args.self.now) token c.in-Some.step c.in-Err.fault is (same ∙ some))
      ];
    }

pub returns-in_ok-put_token-in-Some-clause-read : goal.returns-in_ok-put_token-in-Some-clause-read
returns-in_ok-put_token-in-Some-clause-read c =
    let token = shown c.args.token in
    let is : next_step c.args.self.now.state (terminal_of token) ≡ Some c.in-Some.step = ap (next_step c.args.self.now.state) (sym c.terminal_of-terminal.ensures) ∙ sym c.in-Some.ensures in
    let same = fault-step (labels_in c.args.self.now) c.args.self.now.state c.args.self.now.symbols token c.in-Some.step c.requires.kept is in
    next-read (reading_in c.args.self.now) token c.in-Some.step is (same ∙ c.in-Ok.ensures.none)
    ∙ ap (λ labelled. Ok (reading_at labelled c.in-Some.step.state)) (sym (c.in_ok-put_token-in-Some.ensures))

pub returns-in_ok-put_token-in-Some-clause-kept : goal.returns-in_ok-put_token-in-Some-clause-kept
returns-in_ok-put_token-in-Some-clause-kept c =
    let token = shown c.args.token in
    let step = c.in-Some.step in
    let is : next_step c.args.self.now.state (terminal_of token) ≡ Some step = ap (next_step c.args.self.now.state) (sym c.terminal_of-terminal.ensures) ∙ sym c.in-Some.ensures in
    let kept = kept-step (labels_in c.args.self.now) c.args.self.now.state c.args.self.now.symbols token step c.requires.kept is (c.in-Ok.ensures.none) (read-spelled c.args.self.now.state token step is c.requires.spelled) in
    let labels = c.in_ok-put_token-in-Some.ensures in
    let naming = c.in-Ok.ensures.kept in
    rw (labels, naming) kept
