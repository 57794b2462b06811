use Rattle.std.proofs.Common.{rules}
use Rattle.index_file.proofs.KindLaws.{kind_is_canonical, kind_by_parts}
use Rattle.index_file.proofs.terms.has_kind.Goals as goal

pub returns-in-Some : goal.returns-in-Some
returns-in-Some c =
    let told = kind_by_parts c.args.kind c.args.text.now c.in-Some.found c.in-Some.ensures.parts in
    (λ may. told.0 (c.may_be.ensures.0 may), λ has. c.may_be.ensures.1 (told.1 has))

pub returns-in-None : goal.returns-in-None
returns-in-None c =
    (λ never. absurd (search rules), λ has. absurd (let some = c.in-None.ensures.canonical.1 (kind_is_canonical c.args.kind c.args.text.now has) in search rules))
