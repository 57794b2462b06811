use Rattle.std.proofs.Common.{Some, length, get_or, [], sym, ap, ◌∙◌, arith}
use Rattle.std.specs.List.{slice_get}
use Rattle.term_numbers.specs.Numbering.{term_table}
use Rattle.index_file.proofs.GroupLaws.{term_table-terms_in}
use Rattle.index_file.proofs.IndexLaws.{text_is_canonical}
use Rattle.index_file.proofs.SearchLaws.{got_at}
use Rattle.index_file.specs.Stored.{Stored}
use Rattle.index_file.proofs.index.Index.term.Goals as goal

pub from_canonical-requires : goal.from_canonical-requires
from_canonical-requires c =
    let l = c.self.inside.parts in
    let table = ap (λ (s : Stored). length (term_table s.numbering.terms)) c.self.view_is in
    let count = ap length (term_table-terms_in l) in
    ∣ text_is_canonical l c.args.value c.get.result.now c.self.invariant.canonical (omega (arith, table, count, c.requires)) (ap (λ texts. get_or texts c.args.value []) (sym c.texts.ensures.texts) ∙ c.get.ensures.piece) ∣₁

pub returns : goal.returns
returns c =
    let l = c.self.inside.parts in
    let table = sym (ap (λ (s : Stored). term_table s.numbering.terms) c.self.view_is) ∙ term_table-terms_in l ∙ sym c.texts.ensures.texts in
    ap (λ texts. slice_get texts c.args.value) table ∙ got_at c.args.value _ c.texts.result _ c.get.ensures.at ∙ ap Some (sym c.from_canonical.ensures)
