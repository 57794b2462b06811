use Rattle.std.proofs.Common.{ℕ, List, map, ap, subst, ◌∙◌}
use Rattle.std.specs.String.{string_bytes}
use Rattle.command_tests.specs.Asked.{Ran}
use Rattle.command_tests.proofs.asking.status_of.Goals as goal

pub returns-clause-ran : goal.returns-clause-ran
returns-clause-ran c =
    let old = c.args.world.now in
    let new = c.run.new.world in
    let ran : Ran (map string_bytes c.as_slice.result.now) old new c.run.result = record {
      answers = c.run.ensures.answers;
      answers_of_index = c.run.ensures.answers_of_index;
      usage = c.run.ensures.usage;
      usage_moves_nothing = c.run.ensures.usage_moves_nothing;
      complete = c.run.ensures.complete;
      honest = c.run.ensures.honest;
      output = c.run.ensures.output;
      files = c.run.ensures.files;
      causes = c.run.ensures.causes;
      refusal_line = c.run.ensures.refusal_line;
      opens = c.run.ensures.opens;
      nothing_is_made = c.run.ensures.nothing_is_made;
    } in
    subst (λ (words : List (List ℕ)). Ran words old new c.run.result) (ap (map string_bytes) c.as_slice.ensures.value ∙ c.in_ok-words.ensures) ran
