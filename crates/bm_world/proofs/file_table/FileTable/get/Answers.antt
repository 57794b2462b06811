use Rattle.std.proofs.Common.{Some, None, ap, ◌∙◌}
use Rattle.bm_world.proofs.FileTable.{bytes_found}
use Rattle.bm_world.proofs.file_table.FileTable.get.Goals as goal

pub returns-in-Some : goal.returns-in-Some
returns-in-Some c = ap Some c.as_slice.ensures.value ∙ bytes_found c.args.self.now c.self.inside.bytes_by_name c.args.name.now (Some c.in-Some.bytes.now) c.self.view_is c.in-Some.ensures.value

pub returns-in-None : goal.returns-in-None
returns-in-None c = bytes_found c.args.self.now c.self.inside.bytes_by_name c.args.name.now None c.self.view_is c.in-None.ensures.value
