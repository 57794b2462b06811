-- The text of a result: the rows of a query, in one of two forms.
use Rattle.std.specs.Prelude.{ℕ, List}
use Rattle.alg_model.specs.Row.{Row}
use Rattle.alg_model.specs.Query.{AbstractQuery}
use Rattle.result_write.specs.declared.form.Form.{Form}
use Rattle.result_write.specs.declared.form.Form.TheVariants.{Tsv, Json}
use Rattle.result_write.specs.Tsv.{tsv_text}
use Rattle.result_write.specs.JsonResult.{json_text}

abbrev pub result_text : Form → AbstractQuery → List (Row (List ℕ)) → List ℕ
result_text Tsv query rows = tsv_text query rows
result_text Json query rows = json_text query rows
