use Rattle.std.proofs.Common.{◌≡◌, sym, ◌∙◌, subst, arith}
use Rattle.index_file.proofs.SectionLaws.{texts_cut, slices_cut, layout_of_sections, HasCounts-read}
use Rattle.index_file.specs.Layout.{layout_in}
use Rattle.index_file.specs.steps.Sections.{HasCounts, layout_with}
use Rattle.index_file.proofs.open.parts_of.Goals as goal

pub view-requires : goal.view-requires
view-requires c =
    (texts_cut c.args.bytes.now c.sections_of-sections.result c.sections_of-sections.ensures c.requires.lengths).1 c.requires.texts

pub view-requires-2 : goal.view-requires-2
view-requires-2 c =
    (slices_cut c.args.bytes.now c.sections_of-sections.result c.sections_of-sections.ensures c.requires.lengths).1 c.requires.slices

pub of-requires : goal.of-requires
of-requires c =
    let sections = c.sections_of-sections.result in
    let layout : layout_with sections.counts c.view.result c.view-2.result ≡ layout_in c.args.bytes.now =
    (λ i. layout_with sections.counts (c.view.ensures i) (c.view-2.ensures i)) ∙ layout_of_sections c.args.bytes.now sections c.sections_of-sections.ensures in
    subst HasCounts (sym layout) (HasCounts-read 1 c.args.bytes.now (omega arith) (λ i. omega (arith, c.type_inv.bytes i)) c.requires)

pub returns : goal.returns
returns c =
    let sections = c.sections_of-sections.result in
    c.of.ensures ∙ (λ i. layout_with sections.counts (c.view.ensures i) (c.view-2.ensures i)) ∙ layout_of_sections c.args.bytes.now sections c.sections_of-sections.ensures
