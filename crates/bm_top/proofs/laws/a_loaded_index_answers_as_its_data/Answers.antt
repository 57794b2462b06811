use Rattle.bm_top.specs.Command.{form_of}
use Rattle.bm_top.proofs.StandardLaws.{same_verdict}
use Rattle.bm_top.proofs.laws.a_loaded_index_answers_as_its_data.Goals as goal

pub returns : goal.returns
returns c = λ files data_name index_name query_name form loaded asked queried is done differ asks over.
    same_verdict files data_name index_name query_name (form_of form) loaded asked queried is done differ asks over
