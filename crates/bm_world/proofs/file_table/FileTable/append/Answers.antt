use Rattle.std.proofs.Common.{rules, ap, ◌∙◌}
use Rattle.bm_world.specs.FileTable.{files_of}
use Rattle.bm_world.proofs.FileTable.{Table, files_kept, files_grown, files_not_grown}
use Rattle.bm_world.proofs.file_table.FileTable.append.Goals as goal

pub returns-in_default-clause-ok : goal.returns-in_default-clause-ok
returns-in_default-clause-ok c =
    ap (λ (table : Table). files_of table.entries) c.get_mut.follows.holds-at-none ∙ c.self.view_is
    ∙ files_kept c.args.self.now c.args.name.now c.args.bytes.now c.self.inside.bytes_by_name c.self.view_is c.in_default.ensures.value

pub returns-clause-ok : goal.returns-clause-ok
returns-clause-ok c = files_grown c.args.self.now c.args.name.now c.args.bytes.now
    c.self.inside.bytes_by_name (c.get_mut.follows.lender c.extend_from_slice.new.self) c.in-Some.file.now c.extend_from_slice.new.self
    c.self.view_is c.in-Some.ensures.value ((c.get_mut.follows.holds c.extend_from_slice.new.self).3 (search rules))
    c.extend_from_slice.result c.extend_from_slice.ensures.items

pub returns-clause-err : goal.returns-clause-err
returns-clause-err c = files_not_grown c.args.self.now c.args.name.now c.args.bytes.now
    c.self.inside.bytes_by_name (c.get_mut.follows.lender c.extend_from_slice.new.self) c.in-Some.file.now c.extend_from_slice.new.self
    c.self.view_is c.in-Some.ensures.value ((c.get_mut.follows.holds c.extend_from_slice.new.self).3 (search rules))
    c.extend_from_slice.result c.extend_from_slice.ensures.items
