use Rattle.std.proofs.Common.{sym, ◌∙◌}
use Rattle.index_file.proofs.SectionLaws.{slices_cut}
use Rattle.index_file.proofs.open.directory_is_ordered.Goals as goal

pub returns : goal.returns
returns c =
    let same = slices_cut c.args.bytes.now c.sections_of-sections.result c.sections_of-sections.ensures c.requires in (
      λ held. same.0 (c.cut.ensures.some.0 (sym c.is_some.ensures ∙ held)),
      λ whole. c.is_some.ensures ∙ c.cut.ensures.some.1 (same.1 whole),
    )
