use Rattle.bm_top.proofs.top.run.Goals as goal

pub returns-clause-answers : goal.returns-clause-answers
returns-clause-answers g c = c.perform_words.ensures.answers

pub returns-clause-answers_of_index : goal.returns-clause-answers_of_index
returns-clause-answers_of_index g c = c.perform_words.ensures.answers_of_index

pub returns-clause-usage : goal.returns-clause-usage
returns-clause-usage g c = c.perform_words.ensures.usage

pub returns-clause-usage_moves_nothing : goal.returns-clause-usage_moves_nothing
returns-clause-usage_moves_nothing g c = c.perform_words.ensures.usage_moves_nothing

pub returns-clause-complete : goal.returns-clause-complete
returns-clause-complete g c = c.perform_words.ensures.complete

pub returns-clause-honest : goal.returns-clause-honest
returns-clause-honest g c = c.perform_words.ensures.honest

pub returns-clause-output : goal.returns-clause-output
returns-clause-output g c = c.perform_words.ensures.output

pub returns-clause-files : goal.returns-clause-files
returns-clause-files g c = c.perform_words.ensures.files

pub returns-clause-causes : goal.returns-clause-causes
returns-clause-causes g c = c.perform_words.ensures.causes

pub returns-clause-refusal_line : goal.returns-clause-refusal_line
returns-clause-refusal_line g c = c.perform_words.ensures.refusal_line

pub returns-clause-opens : goal.returns-clause-opens
returns-clause-opens g c = c.perform_words.ensures.opens

pub returns-clause-nothing_is_made : goal.returns-clause-nothing_is_made
returns-clause-nothing_is_made g c = c.perform_words.ensures.nothing_is_made
