use Rattle.std.specs.String.{string_bytes}
use Rattle.bm_world.proofs.FileTable.{files_put}
use Rattle.bm_world.proofs.file_table.FileTable.put.Goals as goal

pub returns-clause-ok : goal.returns-clause-ok
returns-clause-ok c = files_put c.args.self.now c.args.name.now c.args.bytes.now
    c.self.inside.bytes_by_name c.insert.new.self (string_bytes c.in_ok-name.name) c.in_ok-bytes.bytes
    c.self.view_is c.in_ok-insert.ensures.updates c.in_ok-name.ensures.ok c.in_ok-bytes.ensures.items
