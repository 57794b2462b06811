use Rattle.std.proofs.Common.{◌^◌, ◌<◌, length, refl, sym, ap, ◌∙◌, subst, rules, arith}
use Rattle.index_file.proofs.SectionLaws.{texts_cut, texts_counted, texts_few, terms_of_sections}
use Rattle.index_file.specs.Conditions.{AreCanonical, AreOrdered}
use Rattle.index_file.specs.steps.Groups.{terms_at}
use Rattle.index_file.proofs.open.terms_are_ordered.Goals as goal

pub of-requires-clause-count : goal.of-requires-clause-count
of-requires-clause-count c =
    ap length c.in-Some.ensures.pieces
    ∙ texts_counted c.args.bytes.now c.sections_of-sections.result c.sections_of-sections.ensures (λ i. omega (arith, c.type_inv.bytes i)) c.requires (c.in-Some.ensures.some.0 refl)

pub of-requires-clause-few : goal.of-requires-clause-few
of-requires-clause-few c =
    subst (λ n. n < 2 ^ 32) (sym (ap length c.in-Some.ensures.pieces)) (texts_few c.args.bytes.now c.sections_of-sections.result c.sections_of-sections.ensures (λ i. omega (arith, c.type_inv.bytes i)) c.requires (c.in-Some.ensures.some.0 refl))

pub returns-in-Some : goal.returns-in-Some
returns-in-Some c =
    let sections = c.sections_of-sections.result in
    let cut = (texts_cut c.args.bytes.now sections c.sections_of-sections.ensures c.requires).0 (c.in-Some.ensures.some.0 refl) in
    let terms = c.of.ensures ∙ ap (terms_at sections.counts) c.in-Some.ensures.pieces ∙ terms_of_sections c.args.bytes.now sections c.sections_of-sections.ensures in (
      λ held.
          let are = c.are_terms.ensures.0 held in
          record { cut = cut; canonical = subst AreCanonical terms are.0; ordered = subst AreOrdered terms are.1 },
      λ is. c.are_terms.ensures.1 (subst AreCanonical (sym terms) is.canonical, subst AreOrdered (sym terms) is.ordered),
    )

pub returns-in-None : goal.returns-in-None
returns-in-None c = (
  λ never. absurd (search rules),
  λ is. absurd (let some = c.in-None.ensures.some.1 ((texts_cut c.args.bytes.now c.sections_of-sections.result c.sections_of-sections.ensures c.requires).1 is.cut) in cc),
)
