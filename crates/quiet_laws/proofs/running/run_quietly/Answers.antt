use Rattle.quiet_laws.proofs.Quietly.{stays_down, tells_all}
use Rattle.quiet_laws.proofs.running.run_quietly.Goals as goal

pub returns-clause-complete : goal.returns-clause-complete
returns-clause-complete c = λ began ended verdict is.
    c.run.ensures.complete.moves _ _ (tells_all c.args.world.now began) (tells_all c.run.new.world ended) verdict is stays_down stays_down

pub returns-clause-answered : goal.returns-clause-answered
returns-clause-answered c = λ began ended form bytes text printed asked answer.
    (c.run.ensures.answers.moves _ _ (tells_all c.args.world.now began) (tells_all c.run.new.world ended) form bytes text printed asked answer).ends stays_down stays_down

pub returns-clause-promised : goal.returns-clause-promised
returns-clause-promised c = record {
  answers = c.run.ensures.answers;
  answers_of_index = c.run.ensures.answers_of_index;
  usage = c.run.ensures.usage;
  usage_moves_nothing = c.run.ensures.usage_moves_nothing;
  complete = c.run.ensures.complete;
  honest = c.run.ensures.honest;
  output = c.run.ensures.output;
  files = c.run.ensures.files;
  causes = c.run.ensures.causes;
  refusal_line = c.run.ensures.refusal_line;
  opens = c.run.ensures.opens;
  nothing_is_made = c.run.ensures.nothing_is_made;
}
