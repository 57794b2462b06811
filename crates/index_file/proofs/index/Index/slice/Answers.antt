use Rattle.std.proofs.Common.{length, get_or, [], sym, ap, ◌∙◌, arith}
use Rattle.cube_slices.specs.Pairs.{lines_of}
use Rattle.index_file.proofs.StoredSliceLaws.{length-lines_in, lines_there}
use Rattle.index_file.specs.Families.{pairs_in}
use Rattle.index_file.specs.Image.{slices_for}
use Rattle.index_file.specs.Stored.{Stored}
use Rattle.index_file.proofs.index.Index.slice.Goals as goal

pub of-requires : goal.of-requires
of-requires c = c.self.invariant.rows c.args.family

pub get-requires : goal.get-requires
get-requires c =
    let l = c.self.inside.parts in
    let count = ap (λ (s : Stored). slices_for c.args.family s.numbering.terms) c.self.view_is in
    omega (arith, length-lines_in l c.self.invariant c.args.family, ap length c.of.ensures.lines, count, c.requires)

pub returns : goal.returns
returns c =
    let l = c.self.inside.parts in
    let count = ap (λ (s : Stored). slices_for c.args.family s.numbering.terms) c.self.view_is in
    sym c.get.ensures.slice
    ∙ ap (λ lss. get_or lss c.args.n []) c.of.ensures.lines
    ∙ lines_there l c.self.invariant c.args.family c.of.ensures.bytes c.args.n (omega (arith, count, c.requires))
    ∙ ap (λ (s : Stored). lines_of (pairs_in c.args.family c.args.n s.numbering.triples)) c.self.view_is
